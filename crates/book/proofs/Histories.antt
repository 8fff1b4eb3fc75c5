-- Legal journals that join are one, and what stands over replays stands over histories.
use Rattle.std.proofs.Common.{◌≡◌, ◌⊎◌, ℕ, ◌+◌, Bool, true, false, cond, List, [], ◌∷◌, ◌++◌, length, map, refl, sym, ap, subst, ◌∙◌, append_assoc, arith}
use Rattle.std.proofs.lemmas.Bool.{true≢false}
use Rattle.std.proofs.lemmas.List.{map-append}
use Rattle.definitions.specs.Bytes.{Bytes, Holds}
use Rattle.definitions.specs.Hosts.{Hosts}
use Rattle.definitions.specs.Phases.{Grace}
use Rattle.definitions.specs.Shares.{Share}
use Rattle.definitions.specs.World.{Rules, the_limits}
use Rattle.definitions.specs.Step.{State, Given, opening_state_with}
use Rattle.definitions.specs.Replay.{Done, Entry, after, state_after, given_by, done_of, numbers_of, numbers_from, told_of, fits, all_fit, IsLegal as IsLegalFrom}
use Rattle.definitions.specs.Moves.{IsSound, IsReclaim, TableMove}
use Rattle.definition_laws.specs.Standing.{IsShareReclaim, IsGrantless}
use Rattle.definition_laws.proofs.RunLaws.{run_is_sound}
use Rattle.definition_laws.proofs.GraceLaws.{grace_grants_law}
use Rattle.definition_laws.proofs.GrantlessLaws.{grace_calls_law}
use Rattle.definition_laws.proofs.StandingLaws.{grace_shares_law}
use Rattle.book.specs.Given.{StepResult}
use Rattle.book.specs.Notes.{Note, JournalEvent, Steps}
use Rattle.book.specs.Journal.{Journal, IsEntryOf, AreEntriesOf, IsLegal, next_of}
use Rattle.book.specs.Histories.{notes_of, Join, AreLegal, joined_journal, IsHistory, SegmentsAreLegal}
use Rattle.book.specs.Laws.{GrantsReclaimsOnly, HistoriesAreSound, HistoriesGrantReclaimsOnly, HistoriesTellOfNoGrant}
use Rattle.book.proofs.Journals.{as_many}

-- ---- two legal histories, of which the second begins where the first ends

pub state_behind : (s : State) (xs ys : List Done) → state_after the_limits s (xs ++ ys) ≡ state_after the_limits (state_after the_limits s xs) ys
state_behind s [] ys = refl
state_behind s (d ∷ xs) ys = state_behind (after the_limits s d).state xs ys

given_behind : (s : State) (xs ys : List Done) → given_by the_limits s (xs ++ ys) ≡ given_by the_limits s xs ++ given_by the_limits (state_after the_limits s xs) ys
given_behind s [] ys = refl
given_behind s (d ∷ xs) ys = ap (λ (gs : List Given). (after the_limits s d).given ∷ gs) (given_behind (after the_limits s d).state xs ys)

fit_behind : (s : State) (xs ys : List Done) → all_fit the_limits s xs ≡ true → all_fit the_limits (state_after the_limits s xs) ys ≡ true → all_fit the_limits s (xs ++ ys) ≡ true
fit_behind s [] ys h k = k
fit_behind s (d ∷ xs) ys h k = go (fits the_limits s d) h (λ i. fit_behind (after the_limits s d).state xs ys i k)
  where
    t : State
    t = (after the_limits s d).state

    go : (b : Bool) → cond b (all_fit the_limits t xs) false ≡ true → (all_fit the_limits t xs ≡ true → all_fit the_limits t (xs ++ ys) ≡ true) → cond b (all_fit the_limits t (xs ++ ys)) false ≡ true
    go true i more = more i
    go false i more = absurd (true≢false (sym i))

counted_behind : (first : ℕ) (xs ys : List Entry) → numbers_from first (xs ++ ys) ≡ numbers_from first xs ++ numbers_from (first + length xs) ys
counted_behind first [] ys = ap (λ (n : ℕ). numbers_from n ys) (omega arith)
counted_behind first (x ∷ xs) ys =
    let same : (first + 1) + length xs ≡ first + length (x ∷ xs) = omega arith in
    ap (λ (ns : List ℕ). first ∷ ns) (counted_behind (first + 1) xs ys ∙ ap (λ (n : ℕ). numbers_from (first + 1) xs ++ numbers_from n ys) same)

legal_behind : (first : ℕ) (base mid end : State) (xs ys : List Entry) → IsLegalFrom the_limits first base xs mid → IsLegalFrom the_limits (first + length xs) mid ys end → IsLegalFrom the_limits first base (xs ++ ys) end
legal_behind first base mid end xs ys a b =
    let done : done_of (xs ++ ys) ≡ done_of xs ++ done_of ys = map-append (λ (e : Entry). e.done) xs ys in
    record {
      numbers = map-append (λ (e : Entry). e.number) xs ys ∙ ap (λ (ns : List ℕ). ns ++ numbers_of ys) a.numbers ∙ ap (λ (ns : List ℕ). numbers_from first xs ++ ns) b.numbers ∙ sym (counted_behind first xs ys);
      given = ap (given_by the_limits base) done ∙ given_behind base (done_of xs) (done_of ys)
          ∙ ap (λ (s : State). given_by the_limits base (done_of xs) ++ given_by the_limits s (done_of ys)) a.ends
          ∙ ap (λ (gs : List Given). gs ++ given_by the_limits mid (done_of ys)) a.given
          ∙ ap (λ (gs : List Given). told_of xs ++ gs) b.given
          ∙ sym (map-append (λ (e : Entry). e.given) xs ys);
      ends = ap (state_after the_limits base) done ∙ state_behind base (done_of xs) (done_of ys) ∙ ap (λ (s : State). state_after the_limits s (done_of ys)) a.ends ∙ b.ends;
      store = ap (all_fit the_limits base) done ∙ fit_behind base (done_of xs) (done_of ys) a.store (subst (λ (s : State). all_fit the_limits s (done_of ys) ≡ true) (sym a.ends) b.store);
    }

entries_behind : (ns ms : List Note) (xs ys : List Entry) → AreEntriesOf ns xs → AreEntriesOf ms ys → AreEntriesOf (ns ++ ms) (xs ++ ys)
entries_behind [] ms xs ys a b = subst (λ (es : List Entry). AreEntriesOf ms (es ++ ys)) (sym a) b
entries_behind (n ∷ ns) ms [] ys a b = elim a [ ]
entries_behind (n ∷ ns) ms (x ∷ xs) ys a b = (a.0, entries_behind ns ms xs ys a.1 b)

-- ---- segments

-- the first journal, and behind it what the others are as one
behind_first : (base : State) (first : ℕ) (j : Journal) (closed : List Journal) (last : Journal) → j.base ≡ base → j.first ≡ first → IsLegal j → IsLegal (joined_journal j.end (next_of j) closed last) → IsLegal (joined_journal base first (j ∷ closed) last)
behind_first base first j closed last at from legal rest =
    let many : length legal.entries ≡ length j.notes = as_many j.notes legal.entries legal.are in
    let from_here : IsLegalFrom the_limits (j.first + length legal.entries) j.end rest.entries last.end = subst (λ (n : ℕ). IsLegalFrom the_limits (j.first + n) j.end rest.entries last.end) (sym many) rest.legal in
    let all : IsLegalFrom the_limits j.first j.base (legal.entries ++ rest.entries) last.end = legal_behind j.first j.base j.end last.end legal.entries rest.entries legal.legal from_here in
    record {
      entries = legal.entries ++ rest.entries;
      are = subst (λ (ns : List Note). AreEntriesOf ns (legal.entries ++ rest.entries)) (sym (append_assoc j.notes (notes_of closed) last.notes)) (entries_behind j.notes (notes_of closed ++ last.notes) legal.entries rest.entries legal.are rest.are);
      legal = subst (λ (s : State). IsLegalFrom the_limits first s (legal.entries ++ rest.entries) last.end) at (subst (λ (n : ℕ). IsLegalFrom the_limits n j.base (legal.entries ++ rest.entries) last.end) from all);
    }

pub segments_are_legal : SegmentsAreLegal
segments_are_legal base first [] last join legal = record {
  entries = legal.0.entries;
  are = legal.0.are;
  legal = subst (λ (s : State). IsLegalFrom the_limits first s legal.0.entries last.end) join.0 (subst (λ (n : ℕ). IsLegalFrom the_limits n last.base legal.0.entries last.end) join.1 legal.0.legal);
}
segments_are_legal base first (j ∷ closed) last join legal =
    behind_first base first j closed last join.0 join.1 legal.0 (segments_are_legal j.end (next_of j) closed last join.2 legal.1)

-- ---- what stands over every history

module _ (name : Bytes) (rules : Rules) (hosts : Hosts) (j : Journal) (h : IsHistory name rules hosts j) where
  abbrev done : List Done
  done = done_of h.legal.entries

  leads : state_after the_limits (opening_state_with name rules hosts) done ≡ j.end
  leads = ap (λ (s : State). state_after the_limits s done) (sym h.base) ∙ h.legal.legal.ends

  sound : IsSound the_limits j.end.world
  sound = subst (λ (s : State). IsSound the_limits s.world) leads (run_is_sound the_limits name rules hosts done)

  grantless : j.end.world.phase ≡ Grace → IsGrantless j.end.world
  grantless g = subst (λ (s : State). s.world.phase ≡ Grace → IsGrantless s.world) leads (λ in_grace. grace_calls_law the_limits name rules hosts done in_grace) g

  reclaims_only : j.end.world.phase ≡ Grace → (event : JournalEvent) (step_result : StepResult) (new : State) (step : Steps j.end event step_result new) → GrantsReclaimsOnly j.end event step_result new step
  reclaims_only g event step_result new step = record {
    locks = subst (λ (s : State). TableMove (IsReclaim step.said) Grace j.end.world.settings s.world.settings) step.step.leaves (grace_grants_law the_limits j.end step.said step_result.completion step_result.store g (grantless g).waiters).0;
    shares = subst (λ (s : State). (share : Share) → Holds s.world.shares share → Holds j.end.world.shares share ⊎ IsShareReclaim step.said share) step.step.leaves (grace_shares_law the_limits j.end step.said step_result.completion step_result.store g);
  }

pub histories_are_sound : HistoriesAreSound
histories_are_sound name rules hosts j h = sound name rules hosts j h

pub histories_grant_reclaims_only : HistoriesGrantReclaimsOnly
histories_grant_reclaims_only name rules hosts j h = reclaims_only name rules hosts j h

pub histories_tell_of_no_grant : HistoriesTellOfNoGrant
histories_tell_of_no_grant name rules hosts j h = grantless name rules hosts j h
