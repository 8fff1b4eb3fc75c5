-- Bytes that are among others, and who waits for none of them.
use Rattle.std.proofs.Common.{◌≡◌, ◌≤◌, ◌<◌, ◌^◌, Bool, true, false, cond, not, leb, ℕ, ◌&&◌, List, [], ◌∷◌, refl, sym, ap, subst, ◌∙◌, None, arith}
use Rattle.std.proofs.lemmas.Bool.{and_parts, and_right}
use Rattle.std.proofs.lemmas.Bool.Decides.{nat_tests}
use Rattle.std.proofs.lemmas.Slice.Eq.{bytes_eq-Decides}
use Rattle.range_table.proofs.Tests.{by_test}
use Rattle.definitions.specs.Bytes.{Bytes, same_bytes, is_any}
use Rattle.definitions.specs.Owners.{Owner}
use Rattle.definitions.specs.Settings.{Setting, Request, covers, is_of, within, mode_after, mode_at}
use Rattle.definitions.specs.Quotas.{Quotas}
use Rattle.definitions.specs.Waits.{Waiter}
use Rattle.definitions.specs.World.{is_ready, the_limits}
use Rattle.definitions.proofs.Lists.{none_by}
use Rattle.blocked_list.specs.declared.touched.Touched.{Touched}
use Rattle.blocked_list.specs.Touches.{Spans, touches, joined}
use Rattle.blocked_list.specs.Ready.{is_ready_off}
use Rattle.blocked_list.proofs.Bounded.{lesser_left, lesser_right, greater_left, greater_right}
use Rattle.lock_state.specs.Whole.{AreShown}

-- ---- bytes among others

pub spans_itself : (t : Touched) → Spans t t.file t.first t.last
spans_itself t = record { file = refl; from = omega arith; upto = omega arith }

pub joined_first : (a b : Touched) → Spans (joined a b) a.file a.first a.last
joined_first a b = record { file = refl; from = lesser_left a.first b.first; upto = greater_left a.last b.last }

pub joined_second : (a b : Touched) → same_bytes a.file b.file ≡ true → Spans (joined a b) b.file b.first b.last
joined_second a b e = record { file = (bytes_eq-Decides a.file b.file).0 e; from = lesser_right a.first b.first; upto = greater_right a.last b.last }

-- ---- who waits for none

module _ (t w : Touched) (h : Spans w t.file t.first t.last) where
  wider : (r : Request) → touches t r ≡ true → touches w r ≡ true
  wider r e =
      let p = and_parts (leb r.first t.last && leb t.first r.last) (same_bytes r.file t.file) e in
      let q = and_parts (leb r.first t.last) (leb t.first r.last) p.0 in
      let is = (bytes_eq-Decides r.file t.file).0 p.1 in
      let same : same_bytes r.file w.file ≡ true = (bytes_eq-Decides r.file w.file).1 (is ∙ sym h.file) in
      let from = h.from in
      let upto = h.upto in
      let low = q.0 in
      let high = q.1 in
      let under : leb r.first w.last ≡ true = grind (arith, nat_tests) in
      let over : leb w.first r.last ≡ true = grind (arith, nat_tests) in
      ap (λ x. (x && leb w.first r.last) && same_bytes r.file w.file) under ∙ ap (λ x. x && same_bytes r.file w.file) over ∙ same

  off_wider : (quotas : Quotas) (settings : List Setting) (x : Waiter) → is_ready_off t quotas settings x ≡ false → is_ready_off w quotas settings x ≡ false
  off_wider quotas settings x e = by_test (touches t x.request)
      (λ y. ap (λ b. not b && is_ready the_limits quotas settings x) (wider x.request y))
      (λ n. and_right (not (touches w x.request)) (is_ready the_limits quotas settings x) (sym (ap (λ b. not b && is_ready the_limits quotas settings x) n) ∙ e))

  pub none_wider : (quotas : Quotas) (settings : List Setting) (ws : List Waiter) → is_any (is_ready_off t quotas settings) ws ≡ false → is_any (is_ready_off w quotas settings) ws ≡ false
  none_wider quotas settings ws e = none_by (is_ready_off t quotas settings) (is_ready_off w quotas settings) ws (λ x h. off_wider quotas settings x h) e

-- whoever waits for just these bytes waits for one of them
pub own_bytes : (t : Touched) (r : Request) → Spans t r.file r.first r.last → r.first ≤ r.last → touches t r ≡ true
own_bytes t r h ordered =
    let from = h.from in
    let upto = h.upto in
    let same : same_bytes r.file t.file ≡ true = (bytes_eq-Decides r.file t.file).1 (sym h.file) in
    let under : leb r.first t.last ≡ true = grind (arith, nat_tests) in
    let over : leb t.first r.last ≡ true = grind (arith, nat_tests) in
    ap (λ x. (x && leb t.first r.last) && same_bytes r.file t.file) under ∙ ap (λ x. x && same_bytes r.file t.file) over ∙ same

-- ---- nobody holds a byte that no file has

not_covered : (s : Setting) (file : Bytes) (owner : Owner) (byte : ℕ) → s.last < byte → covers s file owner byte ≡ false
not_covered s file owner byte l =
    let over : leb byte s.last ≡ false = grind (arith, nat_tests) in
    and_right (is_of file owner s) (within s.first s.last byte) (and_right (leb s.first byte) (leb byte s.last) over)

pub high_none : (settings : List Setting) (file : Bytes) (owner : Owner) (byte : ℕ) → AreShown settings → 2 ^ 63 ≤ byte → mode_at settings file owner byte ≡ None
high_none [] file owner byte h l = refl
high_none (s ∷ settings) file owner byte h l =
    let last = h.0.2 in
    ap (λ c. mode_after (cond c s.mode None) settings file owner byte) (not_covered s file owner byte (omega (arith, last, l)))
    ∙ high_none settings file owner byte h.1 l

pub beyond_all : (first last byte : ℕ) → first ≤ 0 → 18446744073709551615 ≤ last → within first last byte ≡ false → 2 ^ 63 ≤ byte
beyond_all first last byte from upto e =
    let low : leb first byte ≡ true = grind (arith, nat_tests) in
    let over : leb byte last ≡ false = sym (ap (λ b. b && leb byte last) low) ∙ e in
    let past : last < byte = grind (arith, nat_tests) in
    let far : 2 ^ 63 ≤ 18446744073709551615 = omega arith in
    omega (arith, past, far)
