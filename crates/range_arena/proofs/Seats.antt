-- Where a run stands in both lists, and what both are after an edit.
use Rattle.std.proofs.Common.{◌≡◌, ℕ, ◌<◌, Bool, List, length, get_or, set, refl, sym, ap, subst, ◌∙◌}
use Rattle.std.specs.List.{filter, remove}
use Rattle.range_table.specs.Settings.{IsIn}
use Rattle.range_table.specs.Runs.{IsPlace, run_before, first_cmp}
use Rattle.range_arena.specs.Indexed.{owned_cmp, owned_before, IsSortedBy, AreSame, IsIndexed}
use Rattle.range_arena.specs.Reaches.{AreVouched}
use Rattle.range_table.specs.declared.run.Run.{Run}
use Rattle.range_table.specs.declared.sorted_runs.SortedRuns.{SortedRuns}
use Rattle.range_arena.specs.declared.indexed.Indexed.TheInside.{Inside}
use Rattle.range_arena.proofs.Sorts.{seat_of, sorted_remove, same_remove, long_remove, sorted_set, same_set, long_set, sorted_filter, same_filter, same_long}
use Rattle.range_table.proofs.Inserting.{first_total}
use Rattle.range_arena.proofs.Owned.{owned_total, sorted_list}

-- the runs that a clause sees are those in the order of owners
pub same_seen : (t : Inside) (now : SortedRuns) → t.runs ≡ now → IsIndexed t → AreSame now.list t.owned
same_seen t now is k = subst (λ (s : SortedRuns). AreSame s.list t.owned) is k.same

sorted_by_first : (t : Inside) → IsSortedBy first_cmp t.runs.list
sorted_by_first t = sorted_list t.runs.list t.runs.sorted

pub seated : (t : Inside) (now : SortedRuns) → t.runs ≡ now → (x : Run) → IsIn x now.list → (at : ℕ) → IsPlace (λ s. run_before s x) t.runs.list at → (at < length t.runs.list) × (x ≡ get_or t.runs.list at x)
seated t now is x i at p = seat_of first_cmp first_total t.runs.list at x p.below p.above (sorted_by_first t) (subst (λ (s : SortedRuns). IsIn x s.list) (sym is) i)

pub owned_seated : (t : Inside) (now : SortedRuns) → t.runs ≡ now → IsIndexed t → (x : Run) → IsIn x now.list → (seat : ℕ) → IsPlace (λ s. owned_before s x) t.owned seat → (seat < length t.owned) × (x ≡ get_or t.owned seat x)
owned_seated t now is k x i seat p = seat_of owned_cmp owned_total t.owned seat x p.below p.above k.sorted ((same_seen t now is k).into x i)

abbrev pub IsVouched : Inside → Type 0
IsVouched t = AreVouched t.stretches.items.items t.stretches.count t.runs.list

-- what is known of two lists is known where they stand
pub IsIndexed-from_lists : (new : Inside) (xs ys : List Run) → new.runs.list ≡ xs → new.owned ≡ ys → IsSortedBy owned_cmp ys → AreSame xs ys → length ys ≡ length xs → IsVouched new → IsIndexed new
IsIndexed-from_lists new xs ys d e sorted same long vouched = record {
  sorted = subst (IsSortedBy owned_cmp) (sym e) sorted;
  same = subst (λ zs. AreSame new.runs.list zs) (sym e) (subst (λ zs. AreSame zs ys) (sym d) same);
  long = ap length e ∙ (long ∙ sym (ap length d));
  vouched = vouched;
}

pub IsIndexed-filter : (t : Inside) → IsIndexed t → (p : Run → Bool) (new : Inside) → new.runs.list ≡ filter p t.runs.list → new.owned ≡ filter p t.owned → IsVouched new → IsIndexed new
IsIndexed-filter t k p new d e =
    let sorted = sorted_filter owned_cmp p t.owned k.sorted in
    let same = same_filter p t.runs.list t.owned k.same in
    let firsts = sorted_filter first_cmp p t.runs.list (sorted_by_first t) in
    IsIndexed-from_lists new (filter p t.runs.list) (filter p t.owned) d e sorted same (same_long first_cmp first_total owned_cmp owned_total (filter p t.runs.list) (filter p t.owned) firsts sorted same)

module _ (t : Inside) (now : SortedRuns) (is : t.runs ≡ now) (k : IsIndexed t) (x : Run) (i : IsIn x now.list) (at : ℕ) (p : IsPlace (λ s. run_before s x) t.runs.list at) (seat : ℕ) (q : IsPlace (λ s. owned_before s x) t.owned seat) (new : Inside) (vouched : at < length t.runs.list → IsVouched new) where
  pub IsIndexed-remove : new.runs.list ≡ remove t.runs.list at → new.owned ≡ remove t.owned seat → IsIndexed new
  IsIndexed-remove d e =
      let a = seated t now is x i at p in
      let b = owned_seated t now is k x i seat q in
      let same = same_remove first_cmp first_total owned_cmp owned_total t.runs.list t.owned at seat x a.0 b.0 a.1 b.1 (sorted_by_first t) k.sorted k.same in
      IsIndexed-from_lists new (remove t.runs.list at) (remove t.owned seat) d e (sorted_remove owned_cmp owned_total t.owned seat k.sorted) same (long_remove t.runs.list t.owned at seat a.0 b.0 k.long) (vouched a.0)

  -- the order looks at no end
  pub IsIndexed-set : (last : ℕ) → let y : Run = record x { last = last } in new.runs.list ≡ set t.runs.list at y → new.owned ≡ set t.owned seat y → IsIndexed new
  IsIndexed-set last d e =
      let a = seated t now is x i at p in
      let b = owned_seated t now is k x i seat q in
      let y : Run = record x { last = last } in
      let sorted = sorted_set owned_cmp owned_total t.owned seat x y b.0 b.1 (λ s. refl) (λ s. refl) k.sorted in
      let same = same_set first_cmp first_total owned_cmp owned_total t.runs.list t.owned at seat x a.0 b.0 a.1 b.1 (sorted_by_first t) k.sorted k.same y in
      IsIndexed-from_lists new (set t.runs.list at y) (set t.owned seat y) d e sorted same (long_set t.runs.list t.owned at seat y k.long) (vouched a.0)
