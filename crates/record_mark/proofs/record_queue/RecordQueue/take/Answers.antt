use Rattle.std.proofs.Common.{◌≡◌, [], ◌<◌, ◌≤◌, length, Bool, List, refl, sym, ap, ◌∙◌, arith}
use Rattle.std.proofs.lemmas.Grind.{common_steps}
use Rattle.std.specs.List.{remove}
use Rattle.record_mark.specs.Untaken.{untaken_records, flags_with}
use Rattle.record_mark.specs.Received.{ReceivedBytes}
use Rattle.record_mark.specs.Queue.{flags_from}
use Rattle.record_mark.proofs.UntakenLemmas.{untaken-marked, length-marked, flags_from-append, get-item}
use Rattle.record_mark.proofs.record_queue.RecordQueue.take.Goals as goal

pub returns-then-index-len-clause-none : goal.returns-then-index-len-clause-none
returns-then-index-len-clause-none c =
    let i = c.self.inside in
    let few : length i.queue.items ≤ c.args.index = grind (arith, common_steps) in
    rw (← c.self.view_is) (refl, (i.given.items, (c.self.invariant.fault, c.self.invariant.splits), rw (← c.self.invariant.queue) few))

pub invariant_of-self : goal.invariant_of-self
invariant_of-self c =
    let i = c.self.inside in
    let lt : c.args.index < length (untaken_records i.given.items (flags_from [] i.takes.items)) = rw (← c.self.invariant.queue) (grind (arith, common_steps)) in
    let flags : flags_from [] c.and-self-inside.result.items ≡ flags_with (flags_from [] i.takes.items) c.args.index = rw c.and-self-inside.ensures (flags_from-append [] i.takes.items c.args.index) in
    record {
      fault = c.self.invariant.fault;
      splits = c.self.invariant.splits;
      few = rw flags (length-marked i.given.items _ c.args.index lt c.self.invariant.few);
      queue = rw (flags, c.remove-record.ensures.items) (ap (λ xs. remove xs c.args.index) c.self.invariant.queue ∙ sym (untaken-marked i.given.items (flags_from [] i.takes.items) c.args.index lt));
      in_step = c.self.invariant.in_step;
    }

pub returns-clause-some : goal.returns-clause-some
returns-clause-some c =
    let i = c.self.inside in
    let flags : flags_from [] c.and-self-inside.result.items ≡ flags_with (flags_from [] i.takes.items) c.args.index = rw c.and-self-inside.ensures (flags_from-append [] i.takes.items c.args.index) in
    let seen : List Bool → ReceivedBytes = λ fs. record { received = i.received.items; taken = fs; receives = i.receives } in
    rw (← c.self.view_is) (
      i.given.items,
      (c.self.invariant.fault, c.self.invariant.splits),
      rw (← c.self.invariant.queue) (get-item i.queue.items c.args.index _ (grind (arith, common_steps)) c.remove-record.ensures.value),
      ap seen flags,
    )
