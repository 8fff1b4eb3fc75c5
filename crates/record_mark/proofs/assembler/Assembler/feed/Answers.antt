use Rattle.std.proofs.Common.{◌++◌}
use Rattle.std.proofs.lemmas.List.{append-nil}
use Rattle.record_mark.specs.Stream.{Reads}
use Rattle.record_mark.specs.Inside.{Stands}
use Rattle.record_mark.proofs.StreamLemmas.{Reads-more}
use Rattle.record_mark.proofs.KeptLemmas.{Splits-fault-more, Stands-after, Splits-from_Stands}
use Rattle.record_mark.proofs.assembler.Assembler.feed.Goals as goal

pub invariant_of-self : goal.invariant_of-self
invariant_of-self c =
    let before = rw c.if-self.true at c.self.invariant in
    rw (c.if-self.true, c.and_all-self-inside.ensures) (Splits-fault-more _ c.args.piece.now _ before)

pub returns-then-self-clause-split : goal.returns-then-self-clause-split
returns-then-self-clause-split c =
    let before = rw c.if-self.true at c.self.invariant in
    rw (c.if-self.true, c.and_all-self-inside.ensures) (Splits-fault-more _ c.args.piece.now _ before)

pub returns-then-lacks_more-clause-split : goal.returns-then-lacks_more-clause-split
returns-then-lacks_more-clause-split c =
    let i = c.self.inside in
    let before = rw c.if-self.false at c.self.invariant in
    rw (c.if-self.false, c.and_all-self-inside-then-lacks_more.ensures) record {
      begun = i.progress.begun.items;
      rest = i.progress.rest.items ++ c.args.piece.now;
      reads = Reads-more _ _ _ _ c.args.piece.now before.reads;
      ending = c.lacks_more.ensures c.if-lacks_more.true;
    }

stands : (c : goal.Joined-failed)
    → Stands c.in_ok-failed.failed c.and_all-self-inside-2.result.items c.and_all-self-inside-3.result.items c.take.new.self.begun.items c.take.new.self.rest.items
stands c =
    let i = c.self.inside in
    let before = rw c.if-self.false at c.self.invariant in
    let start : Reads i.received.items (i.given.items ++ c.new-records.result.items) c.in_ok-next.next.begun.items c.in_ok-next.next.rest.items =
    rw (c.new-records.ensures.items, c.in_ok-next.ensures.begun, c.in_ok-next.ensures.rest, append-nil i.given.items) before.reads in
    rw (c.and_all-self-inside-2.ensures, c.and_all-self-inside-3.ensures, c.deref.ensures.value) (
    Stands-after c.in_ok-failed.failed _ _ _ _ c.in_ok-failed.ensures.going (c.in_ok-failed.ensures.reads _ _ start) (c.in_ok-failed.ensures.faults _ _ start)
    )

pub invariant_of-self-2 : goal.invariant_of-self-2
invariant_of-self-2 c = stands c

pub returns-clause-split : goal.returns-clause-split
returns-clause-split c = Splits-from_Stands _ _ _ _ _ (stands c)
