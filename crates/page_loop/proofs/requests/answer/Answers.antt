use Rattle.page_loop.specs.Answers.{body_of}
use Rattle.page_loop.proofs.TalkLemmas.{replies-failed}
use Rattle.page_loop.proofs.requests.answer.Goals as goal

pub returns : goal.returns
returns g c = replies-failed c.write.result c.in-Err.ending c.args.asked c.to_request-answer.result.how (body_of c.to_request-answer.result.body) _ _ c.in-Err.is c.write.ensures
