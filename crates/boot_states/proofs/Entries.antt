-- What the cache finds and holds is what the definitions say.
use Rattle.std.proofs.Common.{◌≡◌, ℕ, Bool, true, false, cond, refl, sym, ap, ◌∙◌, bytes_eq, List, [], ◌∷◌, take, Option, Some, None}
use Rattle.std.specs.List.{take-map}
use Rattle.std.specs.Map.{lookup, lookup_entry, remove_entry, set_value}
use Rattle.std.specs.Option.{option_map_or}
use Rattle.std.specs.declared.vec.Vec.{Vec}
use Rattle.lru.proofs.CallerLemmas.{Contains-lookup_entry}
use Rattle.lru.specs.LruCache.{LruCache, promoted, put_entries}
use Rattle.definitions.specs.Bytes.{Bytes, without_first}
use Rattle.boot_states.specs.declared.reports.Report.{Report}
use Rattle.boot_states.specs.Hosts.{Host, is_named, host_of, reports_of, reports_in, reported_by, with_report}
use Rattle.boot_states.specs.Views.{view_of_entry, view_of_entries}

abbrev Entry : Type 0 → Type 0
Entry Z = Vec ℕ Z × List Report

-- the host of an entry
abbrev host_at : {Z : Type 0} → Option (Entry Z) → Option Host
host_at None = None
host_at (Some e) = Some (view_of_entry e)

-- an entry's value is its host's reports
abbrev value_at : {Z : Type 0} → Option (Entry Z) → Option (List Report)
value_at None = None
value_at (Some e) = Some e.1

module _ {Z : Type 0} (name : Bytes) where
  abbrev test : Vec ℕ Z → Bool
  test k = bytes_eq name k.items

  entry_shown : (es : List (Entry Z)) → host_at (lookup_entry test es) ≡ host_of name (view_of_entries es)
  entry_shown [] = refl
  entry_shown (e ∷ es) = elim (test e.0) as (λ y. host_at (cond y (Some e) (lookup_entry test es)) ≡ cond y (Some (view_of_entry e)) (host_of name (view_of_entries es))) [
    | true ↦ refl
    | false ↦ entry_shown es
  ]

  rest_shown : (es : List (Entry Z)) → view_of_entries (remove_entry test es) ≡ without_first (is_named name) (view_of_entries es)
  rest_shown [] = refl
  rest_shown (e ∷ es) = elim (test e.0) as (λ y. view_of_entries (cond y es (e ∷ remove_entry test es)) ≡ cond y (view_of_entries es) (view_of_entry e ∷ without_first (is_named name) (view_of_entries es))) [
    | true ↦ refl
    | false ↦ ap (λ l. view_of_entry e ∷ l) (rest_shown es)
  ]

  value_shown : (es : List (Entry Z)) → value_at (lookup_entry test es) ≡ lookup test es
  value_shown [] = refl
  value_shown (e ∷ es) = elim (test e.0) as (λ y. value_at (cond y (Some e) (lookup_entry test es)) ≡ cond y (Some e.1) (lookup test es)) [
    | true ↦ refl
    | false ↦ value_shown es
  ]

  -- the reports of a host that is found are what is found
  pub known_reports : (es : List (Entry Z)) (v : List Report) → lookup test es ≡ Some v → reports_of name (view_of_entries es) ≡ v
  known_reports es v found = rw (← entry_shown es) ((elim (lookup_entry test es) as (λ o. value_at o ≡ Some v → reports_in (host_at o) ≡ v) [
    | None ↦ λ h. cc
    | Some e ↦ λ h. cc
  ]) (value_shown es ∙ found))

  -- with a report more in its value, that host has one report more
  pub known_with : (es : List (Entry Z)) (v w : List Report) (t : Report) → lookup test es ≡ Some v → w ≡ t ∷ v → view_of_entries (set_value test (promoted test es) w) ≡ with_report name t (view_of_entries es)
  known_with es v w t found is_more = rw (← entry_shown es, is_more) ((elim (lookup_entry test es) as (λ o. lookup_entry test es ≡ o → value_at o ≡ Some v → view_of_entries (set_value test (option_map_or (λ e. e ∷ remove_entry test es) o es) (t ∷ v)) ≡ reported_by (host_at o) name t (view_of_entries es)) [
    | None ↦ λ is h. cc
    | Some e ↦ λ is h.
        let value : e.1 ≡ v = cc in
        rw ((Contains-lookup_entry test es e is).1, ← value) (ap (λ l. record { name = e.0.items; reports = t ∷ e.1 } ∷ l) (rest_shown es))
  ]) refl (value_shown es ∙ found))

  -- a host that is not found is not remembered
  pub unknown : (es : List (Entry Z)) → lookup test es ≡ None → host_of name (view_of_entries es) ≡ None
  unknown es none = rw (← entry_shown es) ((elim (lookup_entry test es) as (λ o. value_at o ≡ None → host_at o ≡ None) [
    | None ↦ λ h. refl
    | Some e ↦ λ h. cc
  ]) (value_shown es ∙ none))

  no_entry : (es : List (Entry Z)) → host_of name (view_of_entries es) ≡ None → lookup_entry test es ≡ None
  no_entry es none = (elim (lookup_entry test es) as (λ o. host_at o ≡ None → o ≡ None) [
    | None ↦ λ h. refl
    | Some e ↦ λ h. cc
  ]) (entry_shown es ∙ none)

-- a new host goes first, and of 4,096 the last goes
pub added : {Z : Type 0} (c : LruCache (Vec ℕ Z) (List Report)) (key : Vec ℕ Z) (v : List Report) → c.cap ≡ 4096 → host_of key.items (view_of_entries c.entries) ≡ None
    → view_of_entries (put_entries (λ (a b : Vec ℕ Z). bytes_eq a.items b.items) c key v) ≡ take 4096 (record { name = key.items; reports = v } ∷ view_of_entries c.entries)
added c key v full none = rw (no_entry key.items c.entries none, full) (ap (λ l. record { name = key.items; reports = v } ∷ l) (sym (take-map view_of_entry 4095 c.entries)))
