-- What a use of an entry leaves.
use Rattle.std.proofs.Common.{◌≡◌, Bool, true, false, List, [], ◌∷◌, Option, Some, None, refl, sym, ap, ◌∙◌}
use Rattle.std.specs.Option.{option_map_or}
use Rattle.std.specs.Map.{lookup, lookup_entry, remove_entry}
use Rattle.lru.specs.LruCache.{promoted}
use Rattle.lru.proofs.CallerLemmas.{Contains-lookup_entry}

module _ {K V : Type 0} (test : K → Bool) where
  value-of_entry : (es : List (K × V)) (e : K × V) → lookup_entry test es ≡ Some e → lookup test es ≡ Some e.1
  value-of_entry [] e h = cc
  value-of_entry (f ∷ es) e h = (elim (test f.0) as (λ y. test f.0 ≡ y → lookup test (f ∷ es) ≡ Some e.1) [
    | true ↦ λ t. let h' = rw t at h in let same : f ≡ e = cc in rw t (ap (λ (g : K × V). Some g.1) same)
    | false ↦ λ t. rw t (value-of_entry es e (rw t at h))
  ]) refl

  found-first : (es : List (K × V)) (o : Option (K × V)) → lookup_entry test es ≡ o → lookup test (option_map_or (λ e. e ∷ remove_entry test es) o es) ≡ lookup test es
  found-first es None h = refl
  found-first es (Some e) h = rw (Contains-lookup_entry test es e h).1 (sym (value-of_entry es e h))

  -- an entry that goes first is found as before
  pub found-promoted : (es : List (K × V)) → lookup test (promoted test es) ≡ lookup test es
  found-promoted es = found-first es (lookup_entry test es) refl
