-- What keeps numbers and owners together.
use Rattle.std.proofs.Common.{◌≡◌, ◌≢◌, ℕ, Bool, cond, not, ◌&&◌, ◌==◌, List, [], ◌∷◌, ◌++◌, refl, sym, ap, ◌∙◌, subst, inl, inr, Some, None}
use Rattle.std.specs.List.{filter}
use Rattle.std.proofs.lemmas.Option.{same_Some}
use Rattle.definitions.specs.Bytes.{Bytes, same_bytes}
use Rattle.definitions.specs.Owners.{Owner, same_owner, is_of_host}
use Rattle.definitions.specs.Settings.{Setting, covers, mode_at, without_host, without_owner_on}
use Rattle.definitions.proofs.SettingLaws.{newest_wins, drop_host, drop_owner}
use Rattle.definitions.proofs.ReclaimLaws.{covered}
use Rattle.range_table.specs.File.{File, same_file}
use Rattle.range_table.specs.Settings.{Held, held_after, is_by, mode_at as held_at, covers as covers_number}
use Rattle.range_table.specs.declared.run.Setting.{Setting as NumberSetting}
use Rattle.range_table.proofs.Tests.{by_test}
use Rattle.range_table.proofs.Tables.{mode_at-append, mode_at-filter}
use Rattle.owner_ids.specs.Names.{Names, Renames, IsNumberFor}
use Rattle.held_locks.specs.Same.{IsSameSetting}
use Rattle.range_table.specs.Modes.{view_of_held_mode}
use Rattle.held_locks.specs.Stands.{Stands, SettingLaw, DropHostLaw, DropOwnerLaw, InternLaw, ReleaseLaw, ClearLaw}
use Rattle.held_locks.proofs.Words.{some_none, none_or, held_cond, cond_none, number_is, number_other, owner_test, covers_same, covers_owner, file_same}

-- it depends on what is held alone
pub stands_same : (names : Names) (held other : Held) (settings : List Setting) → ((file : File) (n byte : ℕ) → other file n byte ≡ held file n byte) → Stands names held settings → Stands names other settings
stands_same names held other settings e h = record {
  distinct = h.distinct;
  used = λ n x f file byte. ap view_of_held_mode (e file n byte) ∙ h.used n x f file byte;
  unused = λ n f file byte. e file n byte ∙ h.unused n f file byte;
  numbered = h.numbered;
}

module _ (names : Names) (held : Held) (settings : List Setting) (s : NumberSetting) (t : Setting) (h : Stands names held settings) (e : IsSameSetting names s t) where
  used_after : (n : ℕ) (x : Owner) → names n ≡ Some x → (file : Bytes) (byte : ℕ) → view_of_held_mode (held_after held s file n byte) ≡ mode_at (settings ++ t ∷ []) file x byte
  used_after n x f file byte =
      ap (λ c. view_of_held_mode (cond c s.mode (held file n byte))) (covers_same names s t n x file byte h.distinct e f)
      ∙ held_cond (covers t file x byte) s.mode (held file n byte)
      ∙ ap (λ m. cond (covers t file x byte) m (view_of_held_mode (held file n byte))) e.mode
      ∙ ap (cond (covers t file x byte) t.mode) (h.used n x f file byte)
      ∙ sym (newest_wins settings t file x byte)

  unused_after : (n : ℕ) → names n ≡ None → (file : Bytes) (byte : ℕ) → held_after held s file n byte ≡ None
  unused_after n f file byte =
      by_test (covers_number s file n byte)
      (λ c. absurd (some_none t.owner (sym e.owner ∙ ap names (covers_owner s file n byte c) ∙ f)))
      (λ c. rw c (h.unused n f file byte))

  numbered_after : (x : Owner) (file : Bytes) (byte : ℕ) → mode_at (settings ++ t ∷ []) file x byte ≢ None → (n : ℕ) × (names n ≡ Some x)
  numbered_after x file byte k =
      by_test (covers t file x byte)
      (λ c. (s.owner, e.owner ∙ ap Some (covered t file x byte c).1))
      (λ c. h.numbered x file byte (λ m. k (newest_wins settings t file x byte ∙ ap (λ b. cond b t.mode (mode_at settings file x byte)) c ∙ m)))

  pub stands_set : Stands names (held_after held s) (settings ++ t ∷ [])
  stands_set = record { distinct = h.distinct; used = used_after; unused = unused_after; numbered = numbered_after }

pub stands_after : SettingLaw
stands_after names ns settings s t h e =
    stands_same names (held_after (held_at ns) s) (held_at (ns ++ s ∷ [])) (settings ++ t ∷ []) (mode_at-append ns s) (stands_set names (held_at ns) settings s t h e)

-- ---- drops

module _ (names : Names) (held other : Held) (settings rest : List Setting) (gone : File → ℕ → Bool) (away : Bytes → Owner → Bool) where
  pub stands_gone : Stands names held settings → ((file : File) (n : ℕ) (x : Owner) → names n ≡ Some x → gone file n ≡ away file x) → ((file : File) (n byte : ℕ) → other file n byte ≡ cond (gone file n) None (held file n byte)) → ((file : Bytes) (x : Owner) (byte : ℕ) → mode_at rest file x byte ≡ cond (away file x) None (mode_at settings file x byte)) → Stands names other rest
  stands_gone h agrees left over = record {
    distinct = h.distinct;
    used = λ n x f file byte.
        ap view_of_held_mode (left file n byte)
        ∙ held_cond (gone file n) None (held file n byte)
        ∙ ap (λ c. cond c None (view_of_held_mode (held file n byte))) (agrees file n x f)
        ∙ ap (cond (away file x) None) (h.used n x f file byte)
        ∙ sym (over file x byte);
    unused = λ n f file byte. left file n byte ∙ cond_none (gone file n) (held file n byte) (h.unused n f file byte);
    numbered = λ x file byte k. h.numbered x file byte (λ m. k (over file x byte ∙ cond_none (away file x) (mode_at settings file x byte) m));
  }

pub stands_without_host : DropHostLaw
stands_without_host names ns settings has name h e =
    stands_gone names (held_at ns) (held_at (filter (λ s. not (has s.owner)) ns)) settings (without_host name settings) (λ file n. has n) (λ file x. is_of_host name x) h
    (λ file n x f. e.agrees n x f)
    (λ file n byte. mode_at-filter (λ file n. has n) ns file n byte)
    (λ file x byte. drop_host name settings file x byte)

pub stands_without_owner : DropOwnerLaw
stands_without_owner names ns settings on n x h e =
    stands_gone names (held_at ns) (held_at (filter (λ s. not (is_by on n s)) ns)) settings (without_owner_on on x settings) (λ file k. same_file file on && (k == n)) (λ file y. same_bytes file on && same_owner y x) h
    (λ file k y f. rw (file_same file on, owner_test names k n y x h.distinct f e) refl)
    (λ file k byte. mode_at-filter (λ file k. same_file file on && (k == n)) ns file k byte)
    (λ file y byte. drop_owner on x settings file y byte)

-- ---- numbers come into use and go out of it

module _ (names after : Names) (held : Held) (settings : List Setting) (n : ℕ) (h : Stands names held settings) where
  module _ (x : Owner) (free : names n ≡ None) (fresh : (k : ℕ) → names k ≢ Some x) (r : Renames names after n (Some x)) where
    abbrev is_new : (k : ℕ) (y : Owner) → after k ≡ Some y → Type 0
    is_new k y e = ((k ≡ n) × (y ≡ x))

    named : {P : Type 0} (k : ℕ) (y : Owner) → after k ≡ Some y → (k ≡ n → y ≡ x → P) → (k ≢ n → names k ≡ Some y → P) → P
    named k y e one other =
        by_test (k == n)
        (λ t. let i = number_is k n t in one i (same_Some y x (sym e ∙ ap after i ∙ r.there)))
        (λ t. let i = number_other k n t in other i (sym (r.others k i) ∙ e))

    pub stands_interned : Stands after held settings
    stands_interned = record {
      distinct = record {
        once = λ j k y e f.
            named j y e
            (λ i p. named k y f (λ l q. i ∙ sym l) (λ l q. absurd (fresh k (q ∙ ap Some p))))
            (λ i p. named k y f (λ l q. absurd (fresh j (p ∙ ap Some q))) (λ l q. h.distinct.once j k y p q));
      };
      used = λ k y e file byte.
          named k y e
          (λ i p. ap view_of_held_mode (ap (λ z. held file z byte) i ∙ h.unused n free file byte) ∙ sym (none_or (mode_at settings file y byte) (λ m. let j = h.numbered y file byte m in fresh j.0 (j.1 ∙ ap Some p))))
          (λ i p. h.used k y p file byte);
      unused = λ k e file byte.
          by_test (k == n)
          (λ t. absurd (some_none x (sym r.there ∙ ap after (sym (number_is k n t)) ∙ e)))
          (λ t. h.unused k (sym (r.others k (number_other k n t)) ∙ e) file byte);
      numbered = λ y file byte m.
          let j = h.numbered y file byte m in
          (j.0, r.others j.0 (λ i. some_none y (sym j.1 ∙ ap names i ∙ free)) ∙ j.1);
    }

  module _ (nothing : (file : Bytes) (byte : ℕ) → held file n byte ≡ None) (r : Renames names after n None) where
    stays : (k : ℕ) (y : Owner) → after k ≡ Some y → names k ≡ Some y
    stays k y e =
        by_test (k == n)
        (λ t. absurd (some_none y (sym e ∙ ap after (number_is k n t) ∙ r.there)))
        (λ t. sym (r.others k (number_other k n t)) ∙ e)

    pub stands_released : Stands after held settings
    stands_released = record {
      distinct = record { once = λ j k y e f. h.distinct.once j k y (stays j y e) (stays k y f) };
      used = λ k y e file byte. h.used k y (stays k y e) file byte;
      unused = λ k e file byte.
          by_test (k == n)
          (λ t. ap (λ z. held file z byte) (number_is k n t) ∙ nothing file byte)
          (λ t. h.unused k (sym (r.others k (number_other k n t)) ∙ e) file byte);
      numbered = λ y file byte m.
          let j = h.numbered y file byte m in
          (j.0, r.others j.0 (λ i. m (sym (h.used n y (ap names (sym i) ∙ j.1) file byte) ∙ ap view_of_held_mode (nothing file byte))) ∙ j.1);
    }

pub interned : InternLaw
interned names after held settings n x h free fresh r = stands_interned names after held settings n h x free fresh r

pub released : ReleaseLaw
released names after held settings n h nothing r = stands_released names after held settings n h nothing r

pub cleared : ClearLaw
cleared names d = record {
  distinct = d;
  used = λ n x e file byte. refl;
  unused = λ n e file byte. refl;
  numbered = λ x file byte m. absurd (m refl);
}

-- a number for an owner who has it, or who gets it
number_kept : (names after : Names) (n : ℕ) (x : Owner) → names n ≡ Some x → Renames names after n (Some x) → (k : ℕ) → names k ≡ after k
number_kept names after n x e r k =
    by_test (k == n)
    (λ t. let i = number_is k n t in ap names i ∙ e ∙ sym r.there ∙ ap after (sym i))
    (λ t. sym (r.others k (number_other k n t)))

pub had_or_interned : (names after : Names) (held : Held) (settings : List Setting) (n : ℕ) (x : Owner) → Stands names held settings → IsNumberFor names n x → Renames names after n (Some x) → Stands after held settings
had_or_interned names after held settings n x h (inl e) r = subst (λ m. Stands m held settings) (λ i k. number_kept names after n x e r k i) h
had_or_interned names after held settings n x h (inr e) r = interned names after held settings n x h e.0 e.1 r
