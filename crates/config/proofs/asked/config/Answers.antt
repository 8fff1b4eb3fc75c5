use Rattle.std.proofs.Common.{map, string_bytes, sym, ap, ◌∙◌}
use Rattle.config.specs.Asked.{verb_in}
use Rattle.config.proofs.Refusals.{asks_first, asks_none, asks_nothing}
use Rattle.config.proofs.asked.config.Goals as goal

pub returns-in-Some-read_verb : goal.returns-in-Some-read_verb
returns-in-Some-read_verb c =
    asks_first (map (λ w. string_bytes w) c.args.words.now) (map (λ w. string_bytes w) c.in-Some.rest.now) (string_bytes c.in-Some.word.now) _ c.asked_by-in-Some-read_verb.result
    (ap (map (λ w. string_bytes w)) c.in-Some.ensures.cases.0)
    (ap verb_in (sym c.as_str.ensures.value) ∙ (sym c.read_verb.ensures ∙ c.in-Some-read_verb.is)) c.asked_by-in-Some-read_verb.ensures

pub returns-in-None : goal.returns-in-None
returns-in-None c =
    asks_none (map (λ w. string_bytes w) c.args.words.now) (map (λ w. string_bytes w) c.in-Some.rest.now) (string_bytes c.in-Some.word.now) c.asked_by-in-None.result
    (ap (map (λ w. string_bytes w)) c.in-Some.ensures.cases.0)
    (ap verb_in (sym c.as_str.ensures.value) ∙ (sym c.read_verb.ensures ∙ c.in-None.is)) c.asked_by-in-None.ensures

pub returns-in_default : goal.returns-in_default
returns-in_default c = asks_nothing (λ w. string_bytes w) c.args.words.now c.asked_by.result c.in_default.ensures.cases c.asked_by.ensures
