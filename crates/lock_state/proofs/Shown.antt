-- Which owners can be shown, through the changes of a list.
use Rattle.std.proofs.Common.{◌≡◌, Bool, true, false, cond, List, [], ◌∷◌, ◌++◌, Some, Result, Ok, Err, OnOk, OnErr}
use Rattle.std.proofs.lemmas.Option.{none-some, same_Some}
use Rattle.definitions.specs.Bytes.{list_without, without_first, first_that}
use Rattle.definitions.specs.Settings.{Setting}
use Rattle.definitions.specs.Waits.{Waiter}
use Rattle.definitions.proofs.Lists.{have_without, have_without_first}
use Rattle.lock_state.specs.Whole.{IsShown, CanShow, AreShown, AreWaitersShown}

pub shown_more : (settings : List Setting) (s : Setting) → AreShown settings → CanShow s → AreShown (settings ++ s ∷ [])
shown_more [] s a h = (h, tt)
shown_more (t ∷ settings) s a h = (a.0, shown_more settings s a.1 h)

pub shown_without : (test : Setting → Bool) (settings : List Setting) → AreShown settings → AreShown (list_without test settings)
shown_without = have_without CanShow AreShown (λ s settings a. a) (λ s settings h a. (h, a))

pub waiters_without : (test : Waiter → Bool) (waiters : List Waiter) → AreWaitersShown waiters → AreWaitersShown (list_without test waiters)
waiters_without = have_without (λ (x : Waiter). IsShown x.request.owner) AreWaitersShown (λ x waiters a. a) (λ x waiters h a. (h, a))

pub waiters_without_first : (test : Waiter → Bool) (waiters : List Waiter) → AreWaitersShown waiters → AreWaitersShown (without_first test waiters)
waiters_without_first = have_without_first (λ (x : Waiter). IsShown x.request.owner) AreWaitersShown (λ x waiters a. a) (λ x waiters h a. (h, a))

pub first_shown : (test : Waiter → Bool) (waiters : List Waiter) (x : Waiter) → AreWaitersShown waiters → first_that test waiters ≡ Some x → IsShown x.request.owner
first_shown test [] x a e = absurd (none-some x e)
first_shown test (y ∷ waiters) x a e = go (test y) e (first_shown test waiters x a.1)
  where
    is : (z : Waiter) → y ≡ z → IsShown z.request.owner
    is z e = rw (← e) a.0

    go : (b : Bool) → cond b (Some y) (first_that test waiters) ≡ Some x → (first_that test waiters ≡ Some x → IsShown x.request.owner) → IsShown x.request.owner
    go true f more = is x (same_Some y x f)
    go false f more = more f

-- a setting that is made or refused
pub shown_set : {A E : Type 0} (r : Result A E) (settings left : List Setting) (s : Setting) → OnOk r (left ≡ settings ++ s ∷ []) → OnErr r (left ≡ settings) → AreShown settings → CanShow s → AreShown left
shown_set (Ok x) settings left s ok err a h = rw ok (shown_more settings s a h)
shown_set (Err e) settings left s ok err a h = rw err a
