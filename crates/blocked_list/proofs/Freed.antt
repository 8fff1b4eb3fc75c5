-- A change of some bytes of a file leaves the conflicts on the others.
use Rattle.std.proofs.Common.{◌≡◌, ◌≢◌, ◌≤◌, Bool, true, false, cond, not, leb, ℕ, ◌&&◌, ◌||◌, List, [], ◌∷◌, ◌++◌, refl, sym, ap, subst, ◌∙◌, ◌⊎◌, inl, inr, None, arith}
use Rattle.std.proofs.lemmas.Bool.{false≢true, and_parts, or_parts, and_right}
use Rattle.std.proofs.lemmas.Bool.Decides.{nat_tests}
use Rattle.std.proofs.lemmas.Slice.Eq.{bytes_eq-Decides}
use Rattle.range_table.proofs.Tests.{by_test}
use Rattle.definitions.specs.Bytes.{Bytes, same_bytes, is_any}
use Rattle.definitions.specs.Owners.{Owner, same_owner}
use Rattle.definitions.specs.Settings.{Setting, Request, setting_of, covers, is_of, within, mode_at, without_owner_on}
use Rattle.definitions.specs.Quotas.{Quotas, exceeds}
use Rattle.definitions.specs.Conflict.{conflicts, excludes}
use Rattle.definitions.specs.Starts.{is_short}
use Rattle.definitions.specs.Waits.{Waiter}
use Rattle.definitions.specs.World.{is_ready, the_limits}
use Rattle.definitions.specs.Moves.{AreRanges}
use Rattle.definitions.proofs.ConflictLaws.{conflicts_law}
use Rattle.definitions.proofs.SettingLaws.{newest_wins, drop_owner}
use Rattle.definitions.proofs.OwnerLaws.{same_owner-Decides}
use Rattle.definitions.proofs.QuotaLaws.{others_keep}
use Rattle.blocked_list.proofs.Limits.{exceeds_still}
use Rattle.blocked_list.specs.declared.touched.Touched.{Touched}
use Rattle.blocked_list.specs.Touches.{Spans, touches}
use Rattle.blocked_list.specs.Ready.{is_ready_off, SettingFreesLaw, CloseFreesLaw}

-- the modes at the wanted bytes are as they were
abbrev IsAlike : List Setting → List Setting → Request → Type 0
IsAlike before after r = (owner : Owner) (byte : ℕ) → r.first ≤ byte → byte ≤ r.last → mode_at after r.file owner byte ≡ mode_at before r.file owner byte

conflict_stays : (before after : List Setting) (r : Request) → r.first ≤ r.last → IsAlike before after r → conflicts before r ≡ true → conflicts after r ≡ true
conflict_stays before after r range alike e =
    let c = (conflicts_law before r range).0 e in
    (conflicts_law after r range).1 (c.0, c.1, c.2, (c.3.0, (c.3.1.0, ap (λ m. excludes m r.mode) (alike c.3.0 c.0 c.1 c.2) ∙ c.3.1.1)))

kept_out : (a s q : Bool) → s ≡ false → (not a && not (s || q)) ≡ false → (a ≡ true) ⊎ (q ≡ true)
kept_out true s q e f = inl refl
kept_out false true q e f = absurd (false≢true (sym e))
kept_out false false true e f = inr refl
kept_out false false false e f = absurd (false≢true (sym f))

still_out : (a s q : Bool) → (a ≡ true) ⊎ (q ≡ true) → (not a && not (s || q)) ≡ false
still_out true s q h = refl
still_out false s q (inl e) = absurd (false≢true e)
still_out false true q (inr e) = refl
still_out false false q (inr e) = rw e refl

module _ (quotas : Quotas) (before after : List Setting) (t : Touched) (alike : (r : Request) → touches t r ≡ false → IsAlike before after r) (enough : is_short 65536 before ≡ false) (held : (r : Request) → exceeds quotas before (setting_of r) ≡ true → exceeds quotas after (setting_of r) ≡ true) where
  out_still : (x : Waiter) → x.request.first ≤ x.request.last → touches t x.request ≡ false → is_ready the_limits quotas before x ≡ false → is_ready the_limits quotas after x ≡ false
  out_still x range n e =
      still_out (conflicts after x.request) (is_short 65536 after) (exceeds quotas after (setting_of x.request))
      (elim (kept_out (conflicts before x.request) (is_short 65536 before) (exceeds quotas before (setting_of x.request)) enough e) [
        | inl c ↦ inl (conflict_stays before after x.request range (alike x.request n) c)
        | inr q ↦ inr (held x.request q)
      ])

  off_next : (x : Waiter) → x.request.first ≤ x.request.last → is_ready_off t quotas before x ≡ false → is_ready_off t quotas after x ≡ false
  off_next x range e =
      by_test (touches t x.request)
      (λ y. ap (λ b. not b && is_ready the_limits quotas after x) y)
      (λ n. let kept = sym (ap (λ b. not b && is_ready the_limits quotas before x) n) ∙ e in
      and_right (not (touches t x.request)) (is_ready the_limits quotas after x) (out_still x range n kept))

  none_off : (xs : List Waiter) → AreRanges xs → is_any (is_ready_off t quotas before) xs ≡ false → is_any (is_ready_off t quotas after) xs ≡ false
  none_off [] r e = refl
  none_off (x ∷ xs) r e =
      let p = or_parts (is_ready_off t quotas before x) (is_any (is_ready_off t quotas before) xs) e in
      ap (λ b. b || is_any (is_ready_off t quotas after) xs) (off_next x r.0 p.0) ∙ none_off xs r.1 p.1

-- no wanted byte is one of those that were touched
apart : (t : Touched) (r : Request) (byte : ℕ) → touches t r ≡ false → r.first ≤ byte → byte ≤ r.last → r.file ≡ t.file → t.first ≤ byte → byte ≤ t.last → ⊥
apart t r byte e a b f c d =
    let same : same_bytes r.file t.file ≡ true = (bytes_eq-Decides r.file t.file).1 f in
    let low : leb r.first t.last ≡ true = grind (arith, nat_tests) in
    let high : leb t.first r.last ≡ true = grind (arith, nat_tests) in
    false≢true (sym e ∙ ap (λ x. (x && leb t.first r.last) && same_bytes r.file t.file) low ∙ ap (λ x. x && same_bytes r.file t.file) high ∙ same)

from_byte : (first last byte : ℕ) → within first last byte ≡ true → (first ≤ byte) × (byte ≤ last)
from_byte first last byte e =
    let p = and_parts (leb first byte) (leb byte last) e in
    let low = p.0 in
    let high = p.1 in
    (grind (arith, nat_tests), grind (arith, nat_tests))

-- a setting of touched bytes covers none of the others
not_covered : (t : Touched) (r : Request) (s : Setting) (owner : Owner) (byte : ℕ) → Spans t s.file s.first s.last → touches t r ≡ false → r.first ≤ byte → byte ≤ r.last → covers s r.file owner byte ≡ false
not_covered t r s owner byte h n a b =
    by_test (covers s r.file owner byte)
    (λ c. let p = and_parts (is_of r.file owner s) (within s.first s.last byte) c in
    let file = (bytes_eq-Decides s.file r.file).0 (and_parts (same_bytes s.file r.file) (same_owner s.owner owner) p.0).0 in
    let w = from_byte s.first s.last byte p.1 in
    let low = w.0 in
    let high = w.1 in
    let from = h.from in
    let upto = h.upto in
    absurd (apart t r byte n a b (sym file ∙ sym h.file) (omega (arith, low, from)) (omega (arith, high, upto))))
    (λ c. c)

pub setting_frees : SettingFreesLaw
setting_frees quotas settings s t waiters h ranges enough free rest =
    none_off quotas settings (settings ++ s ∷ []) t
    (λ r n owner byte a b. newest_wins settings s r.file owner byte ∙ ap (λ c. cond c s.mode (mode_at settings r.file owner byte)) (not_covered t r s owner byte h n a b))
    enough
    (λ r. exceeds_still quotas settings (settings ++ s ∷ []) s.owner (λ on owner byte n. others_keep settings s on owner byte n) free enough (setting_of r))
    waiters ranges rest

another : (a b : Owner) → a ≢ b → same_owner b a ≡ false
another a b n = by_test (same_owner b a) (λ t. absurd (n (sym ((same_owner-Decides b a).0 t)))) (λ t. t)

-- a drop of an owner that held nothing at the other bytes
drop_keeps : (t : Touched) (x : Owner) (settings : List Setting) → ((byte : ℕ) → within t.first t.last byte ≡ false → mode_at settings t.file x byte ≡ None) → (r : Request) → touches t r ≡ false → IsAlike settings (without_owner_on t.file x settings) r
drop_keeps t x settings nothing r n owner byte a b =
    drop_owner t.file x settings r.file owner byte ∙ by_test (same_bytes r.file t.file && same_owner owner x)
    (λ c. let p = and_parts (same_bytes r.file t.file) (same_owner owner x) c in
    let file = (bytes_eq-Decides r.file t.file).0 p.0 in
    let is = (same_owner-Decides owner x).0 p.1 in
    let out : within t.first t.last byte ≡ false = by_test (within t.first t.last byte) (λ w. (let k = from_byte t.first t.last byte w in absurd (apart t r byte n a b file k.0 k.1))) (λ w. w) in
    ap (λ d. cond d None (mode_at settings r.file owner byte)) c ∙ sym (ap (λ f. mode_at settings f owner byte) file ∙ ap (λ o. mode_at settings t.file o byte) is ∙ nothing byte out))
    (λ c. ap (λ d. cond d None (mode_at settings r.file owner byte)) c)

pub close_frees : CloseFreesLaw
close_frees quotas settings t x waiters nothing ranges enough free rest =
    none_off quotas settings (without_owner_on t.file x settings) t
    (drop_keeps t x settings nothing)
    enough
    (λ r. exceeds_still quotas settings (without_owner_on t.file x settings) x (λ on owner byte n. drop_owner t.file x settings on owner byte ∙ ap (λ b. cond b None (mode_at settings on owner byte)) (and_right (same_bytes on t.file) (same_owner owner x) (another x owner n))) free enough (setting_of r))
    waiters ranges rest
