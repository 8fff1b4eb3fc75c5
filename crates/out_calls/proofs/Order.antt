-- The calls stay in order as some come and go.
use Rattle.std.proofs.Common.{◌≡◌, ◌<◌, ◌≤◌, ◌+◌, ◌-◌, Bool, true, false, cond, ℕ, zero, suc, not, List, [], ◌∷◌, ◌++◌, length, set, refl, sym, ap, arith, ◌∙◌, ltb, Option, Some, None}
use Rattle.std.specs.Option.{unwrap_or}
use Rattle.std.proofs.lemmas.List.Sums.{prefix_len-le-length}
use Rattle.std.proofs.lemmas.Bool.Decides.{nat_tests}
use Rattle.std.proofs.lemmas.Bool.{false≢true}
use Rattle.std.specs.List.{position_or_len, remove}
use Rattle.definitions.specs.Bytes.{is_any, list_without}
use Rattle.definitions.specs.Outgoing.{Outgoing}
use Rattle.definitions.specs.First.{IsFirstAt}
use Rattle.definitions.proofs.Firsts.{first_within}
use Rattle.out_calls.specs.Order.{IsInOrder}
use Rattle.out_calls.proofs.Sendings.{due}

pub in_order-within : (sent : ℕ) (calls : List Outgoing) → IsInOrder sent calls → sent ≤ length calls
in_order-within sent [] o = omega (arith, o)
in_order-within zero (c ∷ calls) o = omega arith
in_order-within (suc sent) (c ∷ calls) o = let h = in_order-within sent calls o.1 in omega (arith, h)

-- one that is due comes behind the others
pub in_order-push : (sent : ℕ) (calls : List Outgoing) (c : Outgoing) → c.is_due ≡ true → IsInOrder sent calls → IsInOrder sent (calls ++ c ∷ [])
in_order-push sent [] c d o = rw o (d, refl)
in_order-push zero (b ∷ calls) c d o = (o.0, in_order-push zero calls c d o.1)
in_order-push (suc sent) (b ∷ calls) c d o = (o.0, in_order-push sent calls c d o.1)

gone : (sent : ℕ) (calls : List Outgoing) (place : ℕ) → place < suc sent → IsInOrder (suc sent) calls → IsInOrder sent (remove calls place)
gone sent [] place l o = absurd (omega (arith, o))
gone sent (c ∷ calls) zero l o = o.1
gone zero (c ∷ calls) (suc place) l o = absurd (omega (arith, l))
gone (suc sent) (c ∷ calls) (suc place) l o = (o.0, gone sent calls place (omega (arith, l)) o.1)

-- one that was sent goes
pub in_order-gone : (sent : ℕ) (calls : List Outgoing) (place : ℕ) → place < sent → IsInOrder sent calls → IsInOrder (sent - 1) (remove calls place)
in_order-gone zero calls place l o = absurd (omega (arith, l))
in_order-gone (suc sent) calls place l o = let e : suc sent - 1 ≡ sent = omega arith in rw e (gone sent calls place l o)

-- one that is due goes
pub in_order-gone_due : (sent : ℕ) (calls : List Outgoing) (place : ℕ) → sent ≤ place → IsInOrder sent calls → IsInOrder sent (remove calls place)
in_order-gone_due sent [] zero l o = o
in_order-gone_due sent [] (suc place) l o = o
in_order-gone_due zero (c ∷ calls) zero l o = o.1
in_order-gone_due (suc sent) (c ∷ calls) zero l o = absurd (omega (arith, l))
in_order-gone_due zero (c ∷ calls) (suc place) l o = (o.0, in_order-gone_due zero calls place (omega arith) o.1)
in_order-gone_due (suc sent) (c ∷ calls) (suc place) l o = (o.0, in_order-gone_due sent calls place (omega (arith, l)) o.1)

-- the next one to be sent stands behind those that wait
pub in_order-none : (sent : ℕ) (calls : List Outgoing) → length calls ≤ sent → IsInOrder sent calls → is_any due calls ≡ false
in_order-none sent [] l o = refl
in_order-none zero (c ∷ calls) l o = absurd (omega (arith, l))
in_order-none (suc sent) (c ∷ calls) l o = rw o.0 (in_order-none sent calls (omega (arith, l)) o.1)

more : (c : Outgoing) (calls : List Outgoing) (i : ℕ) → c.is_due ≡ false → IsFirstAt due calls i → IsFirstAt due (c ∷ calls) (suc i)
more c calls i e f = record {
  before = c ∷ f.before;
  x = f.x;
  behind = f.behind;
  there = ap (λ l. c ∷ l) f.there;
  place = ap suc f.place;
  none_before = rw e f.none_before;
  passes = f.passes;
}

pub in_order-first : (sent : ℕ) (calls : List Outgoing) → sent < length calls → IsInOrder sent calls → IsFirstAt due calls sent
in_order-first sent [] l o = absurd (omega (arith, l))
in_order-first zero (c ∷ calls) l o = record { before = []; x = c; behind = calls; there = refl; place = refl; none_before = refl; passes = o.0 }
in_order-first (suc sent) (c ∷ calls) l o = more c calls sent o.0 (in_order-first sent calls (omega (arith, l)) o.1)

-- where the first due one stands is how many were sent
split-first : (before : List Outgoing) (c : Outgoing) (behind : List Outgoing) (sent : ℕ) → is_any due before ≡ false → c.is_due ≡ true → IsInOrder sent (before ++ c ∷ behind) → length before ≡ sent
split-first [] c behind zero n p o = refl
split-first [] c behind (suc sent) n p o = absurd (false≢true (sym o.0 ∙ p))
split-first (b ∷ before) c behind zero n p o = absurd (false≢true (sym (rw o.0 at n)))
split-first (b ∷ before) c behind (suc sent) n p o = ap suc (split-first before c behind sent (rw o.0 at n) p o.1)

pub in_order-place : (sent : ℕ) (calls : List Outgoing) (i : ℕ) → IsFirstAt due calls i → IsInOrder sent calls → i ≡ sent
in_order-place sent calls i f o = sym f.place ∙ split-first f.before f.x f.behind sent f.none_before f.passes (rw f.there at o)

marked : (sent : ℕ) (calls : List Outgoing) (c : Outgoing) → c.is_due ≡ false → sent < length calls → IsInOrder sent calls → IsInOrder (suc sent) (set calls sent c)
marked sent [] c w l o = absurd (omega (arith, l))
marked zero (b ∷ calls) c w l o = (w, o.1)
marked (suc sent) (b ∷ calls) c w l o = (o.0, marked sent calls c w (omega (arith, l)) o.1)

-- the first of those that are due is sent
pub in_order-sent : (sent : ℕ) (calls : List Outgoing) (place : ℕ) (c : Outgoing) → c.is_due ≡ false → IsFirstAt due calls place → IsInOrder sent calls → IsInOrder (sent + 1) (set calls place c)
in_order-sent sent calls place c w f o =
    let is = in_order-place sent calls place f o in
    let within = first_within due calls place f in
    let l : sent < length calls = omega (arith, is, within) in
    let e : sent + 1 ≡ suc sent = omega arith in
    rw (e, is) (marked sent calls c w l o)

place-more : (c : Outgoing) (calls : List Outgoing) → c.is_due ≡ false → position_or_len due (c ∷ calls) ≡ suc (position_or_len due calls)
place-more c calls e =
    let k : 1 + position_or_len due calls ≡ suc (position_or_len due calls) = omega arith in
    ap (λ (b : Bool). cond (not b) (1 + position_or_len due calls) 0) e ∙ k

front : (c : Outgoing) (calls : List Outgoing) (i n : ℕ) → i ≡ suc n → c.is_due ≡ false → IsInOrder n calls → IsInOrder i (c ∷ calls)
front c calls i n e d h = rw e (d, h)

all_due : (test : Outgoing → Bool) (calls : List Outgoing) → IsInOrder 0 calls → IsInOrder 0 (list_without test calls)
all_due test [] o = refl
all_due test (c ∷ calls) o = go (test c) (all_due test calls o.1)
  where
    go : (b : Bool) → IsInOrder 0 (list_without test calls) → IsInOrder 0 (cond b (list_without test calls) (c ∷ list_without test calls))
    go true h = h
    go false h = (o.0, h)

none_sent : (calls : List Outgoing) → IsInOrder 0 calls → position_or_len due calls ≡ 0
none_sent [] o = refl
none_sent (c ∷ calls) o = ap (λ (b : Bool). cond (not b) (1 + position_or_len due calls) 0) o.0

without-order : (test : Outgoing → Bool) (sent : ℕ) (calls : List Outgoing) → IsInOrder sent calls → IsInOrder (position_or_len due (list_without test calls)) (list_without test calls)
without-order test sent [] o = refl
without-order test zero (c ∷ calls) o = let h = all_due test (c ∷ calls) o in rw (none_sent (list_without test (c ∷ calls)) h) h
without-order test (suc sent) (c ∷ calls) o = go (test c) (without-order test sent calls o.1)
  where
    go : (b : Bool) → IsInOrder (position_or_len due (list_without test calls)) (list_without test calls) → IsInOrder (position_or_len due (cond b (list_without test calls) (c ∷ list_without test calls))) (cond b (list_without test calls) (c ∷ list_without test calls))
    go true h = h
    go false h = front c (list_without test calls) _ (position_or_len due (list_without test calls)) (place-more c (list_without test calls) o.0) o.0 h

-- where some are taken out, the first due one of the others stands behind those that were sent
pub in_order-kept : (test : Outgoing → Bool) (sent : ℕ) (calls kept : List Outgoing) (place : ℕ) → kept ≡ list_without test calls → place ≡ position_or_len due kept → IsInOrder sent calls → IsInOrder place kept
in_order-kept test sent calls kept place k p o = rw (p, k) (without-order test sent calls o)

-- what a walk for the first due one gives, or else the length
pub place_or_length : (calls : List Outgoing) (o : Option ℕ) → o ≡ cond (ltb (position_or_len due calls) (length calls)) (Some (position_or_len due calls)) None → unwrap_or o (length calls) ≡ position_or_len due calls
place_or_length calls o e = rw e (go (ltb (position_or_len due calls) (length calls)) refl)
  where
    go : (b : Bool) → ltb (position_or_len due calls) (length calls) ≡ b → unwrap_or (cond b (Some (position_or_len due calls)) None) (length calls) ≡ position_or_len due calls
    go true t = refl
    go false t =
        let within = prefix_len-le-length (λ (c : Outgoing). not (due c)) calls in
        grind (arith, nat_tests, t, within)
