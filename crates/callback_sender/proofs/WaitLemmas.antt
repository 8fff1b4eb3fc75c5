-- A call is taken out of those that wait, or has its reply.
use Rattle.std.proofs.Common.{◌≡◌, ℕ, ◌<◌, true, false, List, [], ◌∷◌, ◌++◌, length, get_or, set, take, drop, suc, Bool, Some, sym, ap, subst, ◌∙◌}
use Rattle.std.specs.Prelude.{position, if◌then◌else◌, IsPermutation}
use Rattle.std.specs.List.{swap_remove, remove}
use Rattle.std.proofs.lemmas.List.{set_split, get_or_default}
use Rattle.std.proofs.lemmas.List.Quantifiers.{position-Some}
use Rattle.std.proofs.lemmas.List.Sorted.{IsPermutation-refl, IsPermutation-swap_remove, IsPermutation-remove, IsPermutation-middle}
use Rattle.definitions.specs.Bytes.{Bytes}
use Rattle.callback_sender.specs.declared.pending_calls.PendingCall.{PendingCall}
use Rattle.callback_sender.specs.Waits.{Waits, awaits, after_reply, IsReplyTo, HearsReply, TakesCall}

IsPermutation-set : {X : Type 0} (xs : List X) (i : ℕ) (y : X) → i < length xs → IsPermutation (set xs i y) (y ∷ remove xs i)
IsPermutation-set xs i y within =
    subst (λ l. IsPermutation l (y ∷ remove xs i)) (sym (set_split xs i y within)) (IsPermutation-middle (take i xs) y (drop (suc i) xs))

-- what is read at one place twice
same-read : {X : Type 0} (xs : List X) (i : ℕ) (x y : X) → i < length xs → x ≡ get_or xs i x → y ≡ get_or xs i y → x ≡ y
same-read xs i x y within a b = a ∙ get_or_default xs i x y within ∙ sym b

module _ (peer : ℕ) (bytes : Bytes) (xid : ℕ) (is : IsReplyTo xid bytes) (old new : Waits) (i : ℕ) (found : position (awaits peer xid) old.calls ≡ Some i) (call again : PendingCall) (at : call ≡ get_or old.calls i call) (at-again : again ≡ get_or old.calls i again) (heard : new.heard ≡ old.heard ++ record { number = call.number; bytes = bytes } ∷ []) where
  within : i < length old.calls
  within = (position-Some (awaits peer xid) old.calls i call found).0

  is-awaited : awaits peer xid call ≡ true
  is-awaited = ap (awaits peer xid) at ∙ (position-Some (awaits peer xid) old.calls i call found).1

  same : again ≡ call
  same = same-read old.calls i again call within at-again at

  -- this is left of the call, and the others wait on
  hears : (others left : List PendingCall) → after_reply call ≡ left → IsPermutation old.calls (call ∷ others) → IsPermutation new.calls (left ++ others) → HearsReply peer bytes old new
  hears others left is-left waited wait =
      record {
        xid = xid;
        is_reply = is;
        call = call;
        is_awaited = is-awaited;
        others = others;
        waited = waited;
        wait = subst (λ l. IsPermutation new.calls (l ++ others)) (sym is-left) wait;
        heard = heard;
      }

  pub HearsReply-ended : call.ends_with_reply ≡ true → new.calls ≡ swap_remove old.calls i again → HearsReply peer bytes old new
  HearsReply-ended ends left =
      let others = swap_remove old.calls i call in
      let stay : new.calls ≡ others = left ∙ ap (swap_remove old.calls i) same in
      let over : after_reply call ≡ [] = ap (λ (b : Bool). if b then [] else (record call { is_answered = true } ∷ [])) ends in
      hears others [] over (IsPermutation-swap_remove old.calls i call within at) (subst (λ l. IsPermutation l others) (sym stay) (IsPermutation-refl others))

  pub HearsReply-answered : call.ends_with_reply ≡ false → new.calls ≡ set old.calls i (record again { is_answered = true }) → HearsReply peer bytes old new
  HearsReply-answered goes-on left =
      let others = remove old.calls i in
      let answered : PendingCall = record call { is_answered = true } in
      let stay : new.calls ≡ set old.calls i answered = left ∙ ap (λ (w : PendingCall). set old.calls i (record w { is_answered = true })) same in
      let waits : after_reply call ≡ answered ∷ [] = ap (λ (b : Bool). if b then [] else (answered ∷ [])) goes-on in
      hears others (answered ∷ []) waits (IsPermutation-remove old.calls i call within at) (subst (λ l. IsPermutation l (answered ∷ others)) (sym stay) (IsPermutation-set old.calls i answered within))

-- the call at a place is taken out
pub TakesCall-at : (old new : Waits) (test : PendingCall → Bool) (i : ℕ) (call : PendingCall) → position test old.calls ≡ Some i → call ≡ get_or old.calls i call → new.calls ≡ swap_remove old.calls i call → new.heard ≡ old.heard → TakesCall call old new
TakesCall-at old new test i call found at left heard =
    let within = (position-Some test old.calls i call found).0 in
    record { waited = rw left (IsPermutation-swap_remove old.calls i call within at); heard = heard }

pub passes-at : (calls : List PendingCall) (test : PendingCall → Bool) (i : ℕ) (call : PendingCall) → position test calls ≡ Some i → call ≡ get_or calls i call → test call ≡ true
passes-at calls test i call found at = ap test at ∙ (position-Some test calls i call found).1
