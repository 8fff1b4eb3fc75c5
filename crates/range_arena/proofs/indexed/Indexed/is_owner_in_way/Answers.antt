use Rattle.std.proofs.Common.{◌≡◌, ℕ, ◌-◌, ◌+◌, ◌<◌, true, false, sym, ap, subst, ◌∙◌, arith}
use Rattle.std.specs.List.{list_any}
use Rattle.range_table.specs.Runs.{is_of, IsPlace}
use Rattle.range_table.specs.Settings.{conflicts, is_against}
use Rattle.range_arena.specs.Indexed.{owned_upto, IsIndexed}
use Rattle.range_table.specs.declared.run.Run.{Run}
use Rattle.range_table.specs.declared.run.Setting.{Setting}
use Rattle.range_table.specs.declared.sorted_runs.SortedRuns.{SortedRuns}
use Rattle.range_arena.specs.declared.indexed.Indexed.TheInside.{Inside}
use Rattle.range_table.proofs.Files.{file_tests}
use Rattle.range_table.proofs.InWay.{any_of}
use Rattle.range_arena.proofs.Sorts.{in_at}
use Rattle.range_arena.proofs.Seats.{same_seen}
use Rattle.range_arena.proofs.OwnerInWay.{any_same, IsClearFrom, none_of_asker, clear_behind, none_further, clear_all}
use Rattle.range_arena.proofs.indexed.Indexed.is_owner_in_way.Goals as goal
use Rattle.range_arena.proofs.indexed.Indexed.is_owner_in_way.Goals.{then-not-is_of-via-then-not-is_of, then-not-is_of-via-else-not-is_of+then-run-wanted}

seen : (t : Inside) (now : SortedRuns) → t.runs ≡ now → IsIndexed t → (owner : ℕ) (wanted : Run) → false ≡ list_any (is_against owner wanted) t.owned → false ≡ list_any (is_against owner wanted) now.list
seen t now is k owner wanted e =
    let test = is_against owner wanted in
    e ∙ any_same test t.runs.list t.owned k.same ∙ ap (λ (s : SortedRuns). list_any test s.list) is

pub returns-then-owner-wanted : goal.returns-then-owner-wanted
returns-then-owner-wanted c = none_of_asker c.args.owner c.args.wanted.now c.args.self.now.list c.if-owner-wanted.true

pub loop-passed-init : goal.loop-passed-init
loop-passed-init c =
    let wanted = c.args.wanted.now in
    let p = subst (λ (s : Setting). IsPlace (owned_upto s wanted.last) c.self.inside.owned c.owned_past-place.result) c.new-range.ensures c.owned_past-place.ensures.place in
    subst (IsClearFrom c.args.owner wanted c.self.inside.owned) (omega arith) (clear_behind c.args.owner wanted c.self.inside.owned c.owned_past-place.result p)

pub returns-then-not-is_of : goal.returns-then-not-is_of
returns-then-not-is_of c =
    let wanted = c.args.wanted.now in
    let owner = c.args.owner in
    let ys = c.self.inside.owned in
    let place = c.owned_past-place.result in
    let at = place - (c.loop-passed.passed + 1) in
    let run = c.get-run.result.now in
    let p = subst (λ (s : Setting). IsPlace (owned_upto s wanted.last) ys place) c.new-range.ensures c.owned_past-place.ensures.place in
    let w = c.owned_past-place.ensures.within in
    let t = c.loop-passed-test.true in
    let e : at + 1 ≡ place - c.loop-passed.passed = omega arith in
    let clear = subst (IsClearFrom owner wanted ys) (sym e) c.loop-passed.invariant in
    let i = c.self.inside in
    let k = c.self.invariant in
    let of_ : c.is_of.result ≡ is_of run wanted.file owner = c.is_of.ensures ∙ ap (λ s. is_of run s.file s.owner) c.new-range.ensures in
    let short : is_of run wanted.file owner ≡ true → run.last < wanted.first = λ o. elim c.then-not-is_of.branch [
      | then-not-is_of-via-then-not-is_of v ↦ (let f = v.if-not-is_of.true in let g = of_ ∙ o in absurd (cc))
      | then-not-is_of-via-else-not-is_of+then-run-wanted v ↦ v.if-run-wanted.true
    ] in
    seen c.self.inside c.args.self.now c.self.view_is c.self.invariant owner wanted
    (none_further owner wanted ys place p at run (omega arith) (omega arith) c.get-run.ensures i.runs.list i.runs.sorted k.same k.sorted clear short)

pub returns-then-is_in_way : goal.returns-then-is_in_way
returns-then-is_in_way c =
    let owner = c.args.owner in
    let wanted = c.args.wanted.now in
    let run = c.get-run.result.now in
    let at = c.owned_past-place.result - (c.loop-passed.passed + 1) in
    let w = c.owned_past-place.ensures.within in
    let t = c.loop-passed-test.true in
    let o : is_of run wanted.file owner ≡ true = sym (c.is_of.ensures ∙ ap (λ s. is_of run s.file s.owner) c.new-range.ensures) ∙ c.if-not-is_of.false in
    let f : conflicts wanted run ≡ true = sym c.is_in_way.ensures ∙ c.if-is_in_way.true in
    let a : is_against owner wanted run ≡ true = grind (arith, file_tests) in
    let same = same_seen c.self.inside _ c.self.view_is c.self.invariant in
    sym (any_of (is_against owner wanted) c.args.self.now.list run (same.back run (in_at c.self.inside.owned at run (omega arith) c.get-run.ensures)) a)

pub returns : goal.returns
returns c =
    let f = c.loop-passed-test.false in
    seen c.self.inside c.args.self.now c.self.view_is c.self.invariant c.args.owner c.args.wanted.now
    (clear_all c.args.owner c.args.wanted.now c.self.inside.owned (subst (IsClearFrom c.args.owner c.args.wanted.now c.self.inside.owned) (omega arith) c.loop-passed.invariant))
