-- Calls that are sent, by where they stand.
use Rattle.std.proofs.Common.{◌≡◌, ◌<◌, ◌≤◌, leb, Bool, true, false, cond, ℕ, ◌||◌, arith, List, [], ◌∷◌, ◌++◌, length, set, refl, sym, ap, ◌∙◌}
use Rattle.std.proofs.lemmas.Bool.{false≢true}
use Rattle.std.specs.List.{remove}
use Rattle.std.specs.Prelude.{slice_index_or}
use Rattle.std.proofs.lemmas.Bool.Decides.{nat_tests}
use Rattle.definitions.specs.Bytes.{is_any}
use Rattle.definitions.specs.Outgoing.{Outgoing, after_sending, after_silence, after_silence_at, after_silence_of, is_numbered, once_more, ends_when_sent, without_call}
use Rattle.definitions.specs.First.{IsFirstAt}
use Rattle.definitions.proofs.Firsts.{first_that-none, first_is, found_at, without_first-at}

abbrev pub due : Outgoing → Bool
due c = c.is_due

pub after_sending-none : (calls : List Outgoing) → is_any due calls ≡ false → after_sending calls ≡ calls
after_sending-none [] e = refl
after_sending-none (c ∷ calls) e = go c.is_due (after_sending-none calls) e
  where
    go : (b : Bool) → (is_any due calls ≡ false → after_sending calls ≡ calls) → (b || is_any due calls) ≡ false → cond b (cond (ends_when_sent c.callback.message) calls (once_more c ∷ calls)) (c ∷ after_sending calls) ≡ c ∷ calls
    go true k h = absurd (false≢true (sym h))
    go false k h = ap (λ l. c ∷ l) (k h)

after_sending-split : (before : List Outgoing) (c : Outgoing) (behind : List Outgoing) → is_any due before ≡ false → c.is_due ≡ true → after_sending (before ++ c ∷ behind) ≡ before ++ cond (ends_when_sent c.callback.message) behind (once_more c ∷ behind)
after_sending-split [] c behind n p = rw p refl
after_sending-split (d ∷ ds) c behind n p = go d.is_due (λ h. after_sending-split ds c behind h p) n
  where
    go : (b : Bool) → (is_any due ds ≡ false → after_sending (ds ++ c ∷ behind) ≡ ds ++ cond (ends_when_sent c.callback.message) behind (once_more c ∷ behind)) → (b || is_any due ds) ≡ false → cond b (cond (ends_when_sent d.callback.message) (ds ++ c ∷ behind) (once_more d ∷ (ds ++ c ∷ behind))) (d ∷ after_sending (ds ++ c ∷ behind)) ≡ d ∷ (ds ++ cond (ends_when_sent c.callback.message) behind (once_more c ∷ behind))
    go true k h = absurd (false≢true (sym h))
    go false k h = ap (λ l. d ∷ l) (k h)

remove-split : (before : List Outgoing) (c : Outgoing) (behind : List Outgoing) → remove (before ++ c ∷ behind) (length before) ≡ before ++ behind
remove-split [] c behind = refl
remove-split (d ∷ ds) c behind = ap (λ l. d ∷ l) (remove-split ds c behind)

set-split : (before : List Outgoing) (c d : Outgoing) (behind : List Outgoing) → set (before ++ c ∷ behind) (length before) d ≡ before ++ d ∷ behind
set-split [] c d behind = refl
set-split (e ∷ es) c d behind = ap (λ l. e ∷ l) (set-split es c d behind)

-- a line ends
pub after_sending-ends : (calls : List Outgoing) (i : ℕ) (y : Outgoing) → IsFirstAt due calls i → y ≡ slice_index_or calls i y → ends_when_sent y.callback.message ≡ true → remove calls i ≡ after_sending calls
after_sending-ends calls i y f is ends =
    let e : ends_when_sent f.x.callback.message ≡ true = ap (λ (c : Outgoing). ends_when_sent c.callback.message) (sym (is ∙ first_is due calls i y f)) ∙ ends in
    rw (f.there, ← f.place, after_sending-split f.before f.x f.behind f.none_before f.passes, e) (remove-split f.before f.x f.behind)

-- any other call waits
pub after_sending-waits : (calls : List Outgoing) (i : ℕ) (y : Outgoing) → IsFirstAt due calls i → y ≡ slice_index_or calls i y → ends_when_sent y.callback.message ≡ false → set calls i (once_more y) ≡ after_sending calls
after_sending-waits calls i y f is waits =
    let at : y ≡ f.x = is ∙ first_is due calls i y f in
    let e : ends_when_sent f.x.callback.message ≡ false = ap (λ (c : Outgoing). ends_when_sent c.callback.message) (sym at) ∙ waits in
    rw (at, f.there, ← f.place, after_sending-split f.before f.x f.behind f.none_before f.passes, e) (set-split f.before f.x (once_more f.x) f.behind)

pub after_silence-none : (number : ℕ) (calls : List Outgoing) → is_any (is_numbered number) calls ≡ false → after_silence number calls ≡ calls
after_silence-none number calls n = ap (λ o. after_silence_at o calls) (first_that-none (is_numbered number) calls n)

-- the call of that number stands at i
module _ (number : ℕ) (calls : List Outgoing) (i : ℕ) (y : Outgoing) (f : IsFirstAt (is_numbered number) calls i) (is : y ≡ slice_index_or calls i y) where
  after_silence-is : after_silence number calls ≡ after_silence_of y calls
  after_silence-is = ap (λ o. after_silence_at o calls) (sym (found_at (is_numbered number) calls i y f is))

  number_is : y.number ≡ number
  number_is =
      let p : is_numbered number y ≡ true = rw (is ∙ first_is (is_numbered number) calls i y f) f.passes in
      grind (arith, nat_tests, p)

  taken : without_call y.number calls ≡ remove calls i
  taken = rw number_is (without_first-at (is_numbered number) calls i f)

  pub after_silence-due : y.is_due ≡ true → calls ≡ after_silence number calls
  after_silence-due d = sym (after_silence-is ∙ (rw d refl))

  pub after_silence-again : y.is_due ≡ false → y.sendings < 3 → remove calls i ++ record y { is_due = true } ∷ [] ≡ after_silence number calls
  after_silence-again d l =
      let k : leb 3 y.sendings ≡ false = grind (arith, nat_tests, l) in
      sym (after_silence-is ∙ (rw (d, k) (ap (λ cs. cs ++ record y { is_due = true } ∷ []) taken)))

  pub after_silence-last : y.is_due ≡ false → 3 ≤ y.sendings → remove calls i ≡ after_silence number calls
  after_silence-last d l =
      let k : leb 3 y.sendings ≡ true = grind (arith, nat_tests, l) in
      sym (after_silence-is ∙ (rw (d, k) taken))
