use Rattle.std.proofs.Common.{◌≡◌, ◌++◌, [], true, refl, sym, ap, ◌∙◌, arith, length-append}
use Rattle.std.specs.Result.{is_ok}
use Rattle.std.proofs.lemmas.Grind.{common_steps}
use Rattle.record_mark.specs.Queue.{flags_from}
use Rattle.record_mark.proofs.UntakenLemmas.{untaken-append}
use Rattle.record_mark.proofs.record_queue.RecordQueue.receive.Goals.{in-Ok, in-Err-RecordTooLong}
use Rattle.record_mark.proofs.record_queue.RecordQueue.receive.Goals as goal

-- the assembler took the piece and gave the records
abbrev Fed : (c : goal.After-drop-records-2) → Type 0
Fed c =
    (c.feed.new.self.received ≡ c.self.inside.assembler.received ++ c.args.piece.now)
    × (c.feed.new.self.given ≡ c.self.inside.assembler.given ++ c.match-feed.records.0.items)

fed : (c : goal.After-drop-records-2) → Fed c
fed c =
    elim c.match-feed.branch [
      | in-Ok w ↦ (w.in-Ok.ensures.taken refl, rw w.records-is w.in-Ok.ensures.given)
      | in-Err-RecordTooLong w ↦
          let e = rw w.in-Err-RecordTooLong.field-0-is at w.in-Err-RecordTooLong.ensures in (e.taken refl, rw w.records-is e.given)
    ]

pub invariant_of-self-2 : goal.invariant_of-self-2
invariant_of-self-2 c =
    let i = c.self.inside in
    let up : i.receives ≡ true = c.if-not-self.false in
    let step = rw up at c.self.invariant.in_step in
    let f = fed c in
    let more = c.match-feed.records.0.items in
    let given : c.and_all-given.result.items ≡ i.given.items ++ more = rw (c.and_all-given.ensures, c.deref.ensures.value) refl in
    let received : c.feed.new.self.received ≡ c.and_all-self-inside.result.items = f.0 ∙ (ap (λ xs. xs ++ c.args.piece.now) step.0 ∙ sym c.and_all-self-inside.ensures) in
    let all : c.feed.new.self.given ≡ c.and_all-given.result.items = f.1 ∙ (ap (λ xs. xs ++ more) step.1 ∙ sym given) in
    let ok : is_ok c.append.result ≡ true = grind (arith, common_steps) in
    let queue : c.append.new.self.items ≡ i.queue.items ++ more = rw (c.append.ensures.items, ok) refl in
    record {
      fault = c.feed.new.self.failed;
      splits = rw (← received, ← all) c.feed.ensures.split;
      few = rw (given, length-append) (omega (arith, c.self.invariant.few));
      queue = rw (queue, given, c.self.invariant.queue) (sym (untaken-append i.given.items more (flags_from [] i.takes.items) c.self.invariant.few));
      in_step = rw up (received, all);
    }
