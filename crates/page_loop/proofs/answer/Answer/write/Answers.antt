use Rattle.std.proofs.Common.{◌∙◌}
use Rattle.page_loop.proofs.TalkLemmas.{writes-flushed}
use Rattle.page_loop.proofs.answer.Answer.write.Goals as goal

pub returns-in-Ok-write_parts : goal.returns-in-Ok-write_parts
returns-in-Ok-write_parts g c =
    writes-flushed c.flush.result _ _ _ c.as_slice.result.now _ _ (c.as_slice.ensures.value ∙ c.in-Ok.ensures) c.in-Ok-write_parts.ensures c.flush.ensures.kept c.flush.ensures.why
