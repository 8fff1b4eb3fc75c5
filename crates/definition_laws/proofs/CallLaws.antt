-- Lists of the server's own calls: what is left of them, what is due again, and what comes behind.
use Rattle.std.proofs.Common.{◌≡◌, ℕ, ◌+◌, ◌%◌, ◌^◌, Bool, true, false, cond, List, [], ◌∷◌, ◌++◌, refl, sym, ap, ◌∙◌, inl, inr}
use Rattle.std.proofs.lemmas.List.{append-nil, append_assoc}
use Rattle.definitions.specs.Bytes.{list_without, without_first}
use Rattle.definitions.specs.Outgoing.{Callback, Outgoing, due_now, ends_when_sent, once_more, after_sending}
use Rattle.definitions.specs.World.{World, with_due, with_all_due}
use Rattle.definition_laws.specs.Numbers.{numbered_calls, number_behind, AreLeft, NoneLeft, IsGone, IsLeft, Continues}

-- ---- what is left

pub left_same : (calls : List Outgoing) → AreLeft calls calls
left_same [] = NoneLeft
left_same (c ∷ calls) = IsLeft (inl refl) (left_same calls)

pub left_without : (p : Outgoing → Bool) (calls : List Outgoing) → AreLeft calls (list_without p calls)
left_without p [] = NoneLeft
left_without p (c ∷ calls) = go (p c) (left_without p calls)
  where
    go : (b : Bool) → AreLeft calls (list_without p calls) → AreLeft (c ∷ calls) (cond b (list_without p calls) (c ∷ list_without p calls))
    go true h = IsGone h
    go false h = IsLeft (inl refl) h

-- and of those that are left some more go
pub left_then_without : (p : Outgoing → Bool) {calls left : List Outgoing} → AreLeft calls left → AreLeft calls (list_without p left)
left_then_without p NoneLeft = NoneLeft
left_then_without p (IsGone h) = IsGone (left_then_without p h)
left_then_without p (IsLeft {c} {d} {before} {behind} same h) = go (p d) (left_then_without p h)
  where
    go : (b : Bool) → AreLeft before (list_without p behind) → AreLeft (c ∷ before) (cond b (list_without p behind) (d ∷ list_without p behind))
    go true k = IsGone k
    go false k = IsLeft same k

pub left_without_first : (p : Outgoing → Bool) (calls : List Outgoing) → AreLeft calls (without_first p calls)
left_without_first p [] = NoneLeft
left_without_first p (c ∷ calls) = go (p c) (left_without_first p calls)
  where
    go : (b : Bool) → AreLeft calls (without_first p calls) → AreLeft (c ∷ calls) (cond b calls (c ∷ without_first p calls))
    go true h = IsGone (left_same calls)
    go false h = IsLeft (inl refl) h

pub left_sending : (calls : List Outgoing) → AreLeft calls (after_sending calls)
left_sending [] = NoneLeft
left_sending (c ∷ calls) = go c.is_due refl (ends_when_sent c.callback.message) (left_sending calls)
  where
    go : (b : Bool) → c.is_due ≡ b → (e : Bool) → AreLeft calls (after_sending calls) → AreLeft (c ∷ calls) (cond b (cond e calls (once_more c ∷ calls)) (c ∷ after_sending calls))
    go true h true k = IsGone (left_same calls)
    go true h false k = IsLeft (inr (h, refl)) (left_same calls)
    go false h e k = IsLeft (inl refl) k

-- ---- what comes behind

pub numbered_behind : (first : ℕ) (callbacks : List Callback) (callback : Callback) → numbered_calls first (callbacks ++ callback ∷ []) ≡ numbered_calls first callbacks ++ due_now (number_behind first callbacks) callback ∷ []
numbered_behind first [] callback = refl
numbered_behind first (l ∷ callbacks) callback = ap (λ cs. due_now first l ∷ cs) (numbered_behind ((first + 1) % 2 ^ 64) callbacks callback)

pub number_behind_all : (first : ℕ) (callbacks : List Callback) (callback : Callback) → number_behind first (callbacks ++ callback ∷ []) ≡ (number_behind first callbacks + 1) % 2 ^ 64
number_behind_all first [] callback = refl
number_behind_all first (l ∷ callbacks) callback = number_behind_all ((first + 1) % 2 ^ 64) callbacks callback

-- P of each callback
abbrev pub AllOf : (Callback → Type 0) → List Callback → Type 0
AllOf P [] = Unit {0}
AllOf P (l ∷ callbacks) = P l × AllOf P callbacks

pub all_behind : (P : Callback → Type 0) (callbacks : List Callback) (callback : Callback) → AllOf P callbacks → P callback → AllOf P (callbacks ++ callback ∷ [])
all_behind P [] callback h k = (k, tt)
all_behind P (l ∷ callbacks) callback h k = (h.0, all_behind P callbacks callback h.1 k)

-- the callbacks that came are all of one kind
pub record ContinuesBy (P : Callback → Type 0) (before : List Outgoing) (first : ℕ) (v : World) : Type 0 where
  pub rest : Continues before first v
  pub each : AllOf P rest.callbacks

pub begins : (P : Callback → Type 0) (before : List Outgoing) (v : World) → v.calls ≡ before → ContinuesBy P before v.next v
begins P before v e = record { rest = record { callbacks = []; calls = e ∙ sym (append-nil before); next = refl }; each = tt }

pub one_due : (P : Callback → Type 0) (before : List Outgoing) (first : ℕ) (v : World) (callback : Callback) → P callback → ContinuesBy P before first v → ContinuesBy P before first (with_due v callback)
one_due P before first v callback h k =
    let callbacks = k.rest.callbacks in
    record {
      rest = record {
        callbacks = callbacks ++ callback ∷ [];
        calls = ap (λ (cs : List Outgoing). cs ++ due_now v.next callback ∷ []) k.rest.calls
            ∙ append_assoc before (numbered_calls first callbacks) (due_now v.next callback ∷ [])
            ∙ ap (λ (n : ℕ). before ++ (numbered_calls first callbacks ++ due_now n callback ∷ [])) k.rest.next
            ∙ ap (λ (cs : List Outgoing). before ++ cs) (sym (numbered_behind first callbacks callback));
        next = ap (λ (n : ℕ). (n + 1) % 2 ^ 64) k.rest.next ∙ sym (number_behind_all first callbacks callback);
      };
      each = all_behind P callbacks callback k.each h;
    }

pub all_due : (P : Callback → Type 0) (before : List Outgoing) (first : ℕ) (v : World) (callbacks : List Callback) → AllOf P callbacks → ContinuesBy P before first v → ContinuesBy P before first (with_all_due v callbacks)
all_due P before first v [] h k = k
all_due P before first v (l ∷ callbacks) h k = all_due P before first (with_due v l) callbacks h.1 (one_due P before first v l h.0 k)
