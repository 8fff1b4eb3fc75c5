use Rattle.page_loop.specs.Answers.{body_of}
use Rattle.page_loop.proofs.TalkLemmas.{refuses-failed}
use Rattle.page_loop.proofs.requests.refuse.Goals as goal

pub returns : goal.returns
returns g c = refuses-failed c.write.result c.in-Err.ending c.args.refusal c.to_refused.result.how (body_of c.to_refused.result.body) _ _ c.in-Err.is c.write.ensures
