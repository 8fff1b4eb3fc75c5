-- What a call gets that is refused early, and one whose reply is kept.
use Rattle.std.proofs.Common.{◌≡◌, ℕ, ◌<◌, ◌-◌, Bool, true, leb, length, cond, Option, Some, None, refl, sym, ◌∙◌, ap, subst, arith}
use Rattle.std.proofs.lemmas.Bool.Decides.{nat_tests}
use Rattle.definitions.specs.Bytes.{Bytes}
use Rattle.definitions.specs.Hosts.{StoreAnswer, NotAsked, Yes, Refused}
use Rattle.definitions.specs.Nlm.{Version, Stat, NlmCall, Test, Locks, Cancel, Unlock, TestMsg, LockMsg, CancelMsg, UnlockMsg, ShareCall, Unshare, NmLock}
use Rattle.definitions.specs.Answer.{Answered, gives, ruling, nlm_answer, test_unless, lock_ask, caller_row, lock_unless, cancel_unless, unlock_unless, share_unless, unshare_unless, share_told, by_reply, by_call, by_message, sent_back, to_caller, lock_callback, cancel_callback, unlock_callback}
use Rattle.definitions.specs.Phases.{Testing}
use Rattle.definitions.specs.Outgoing.{Callback, Granted, GrantedMsg, TestResult}
use Rattle.definitions.specs.Ranges.{request_of, range_refusal}
use Rattle.definitions.specs.Replies.{Call, Nlm, Success, SystemErr, TestResResult, Asks}
use Rattle.definitions.specs.Rulings.{Response, Ruling, ruled_answer, stays, decided_ruling}
use Rattle.definitions.specs.Shown.{shown_stat}
use Rattle.definitions.specs.World.{World, LeavesRest, the_limits, slots_free, with_all_due, settled_world}
use Rattle.definitions.specs.Step.{Event, Take, Peer, Completion, Applied, Starved, Given, Replies, State, Stepped, KeptPair, applied_step, taken_step, repeated_step, look, step, with_row_stored, asked_unless_kept, moved_to_front}
use Rattle.definition_laws.proofs.RepeatLaws.{repeat_law}
use Rattle.book.specs.Given.{StepResult}
use Rattle.book.specs.Notes.{JournalEvent, IsStep, Steps}
use Rattle.book.specs.Refusals.{early_refusal, stat_in, TellsStat, RefusalIsAnswered, early_message_refusal, refusal_callback, CallsBack, MessageRefusalIsAnswered}
use Rattle.book.specs.Repeats.{AnswersRepeat, KeptIsGivenAgain}

-- ---- an early refusal is what a call says

abbrev SaysStat : Version → Stat → Answered → Type 0
SaysStat version stat a = stat_in a.outcome ≡ Some (shown_stat version stat)

says_stays : (w : World) (version : Version) (stat : Stat) (cookie : Bytes) (store : StoreAnswer) → SaysStat version stat (ruled_answer store (by_reply version cookie (stays w stat)))
says_stays w version stat cookie NotAsked = refl
says_stays w version stat cookie Yes = refl
says_stays w version stat cookie Refused = refl

says_decided : (a : Answered) (version : Version) (stat : Stat) (store : StoreAnswer) → SaysStat version stat a → SaysStat version stat (ruled_answer store (decided_ruling a))
says_decided a version stat NotAsked h = h
says_decided a version stat Yes h = h
says_decided a version stat Refused h = h

says_early : (w : World) (version : Version) (call : NlmCall) (stat : Stat) (store : StoreAnswer) → early_refusal w call ≡ Some stat → SaysStat version stat (ruled_answer store (nlm_answer the_limits w version call))
says_early w version (Test a) stat store e =
    let answer : Option Stat → Answered = λ o. gives w (Success (TestResResult version (test_unless w version a o))) in
    subst (λ (o : Option Stat). SaysStat version stat (ruled_answer store (decided_ruling (answer o)))) (sym e) (says_decided (answer (Some stat)) version stat store refl)
says_early w version (Locks a) stat store e =
    subst (λ (o : Option Stat). SaysStat version stat (ruled_answer store (by_reply version a.cookie (lock_unless the_limits w (lock_ask a (caller_row a) (Granted version a.exclusive a.alock) (slots_free the_limits w)) o)))) (sym e) (says_stays w version stat a.cookie store)
says_early w version (NmLock a) stat store e =
    subst (λ (o : Option Stat). SaysStat version stat (ruled_answer store (by_reply version a.cookie (lock_unless the_limits w (lock_ask a None (Granted version a.exclusive a.alock) (slots_free the_limits w)) o)))) (sym e) (says_stays w version stat a.cookie store)
says_early w version (Cancel a) stat store e =
    subst (λ (o : Option Stat). SaysStat version stat (ruled_answer store (by_reply version a.cookie (cancel_unless w (request_of a.exclusive a.alock) o)))) (sym e) (says_stays w version stat a.cookie store)
says_early w version (Unlock a) stat store e =
    subst (λ (o : Option Stat). SaysStat version stat (ruled_answer store (by_reply version a.cookie (unlock_unless the_limits w a.alock o)))) (sym e) (says_stays w version stat a.cookie store)
says_early w version (ShareCall a) stat store e =
    let answer : Option Stat → Answered = λ o. share_told version a (share_unless the_limits w a o) in
    subst (λ (o : Option Stat). SaysStat version stat (ruled_answer store (decided_ruling (answer o)))) (sym e) (says_decided (answer (Some stat)) version stat store refl)
says_early w version (Unshare a) stat store e =
    let answer : Option Stat → Answered = λ o. share_told version a (unshare_unless w a o) in
    subst (λ (o : Option Stat). SaysStat version stat (ruled_answer store (decided_ruling (answer o)))) (sym e) (says_decided (answer (Some stat)) version stat store refl)
says_early w version call stat store e = absurd cc

-- ---- and of a message form what the call says that becomes due for it

-- so it is answered by this call, where a place is free for it
abbrev IsSentBack : World → Version → NlmCall → Stat → StoreAnswer → Type 0
IsSentBack w version call stat store =
    (callback : Callback) × (refusal_callback version call stat ≡ Some callback) × (ruled_answer store (nlm_answer the_limits w version call) ≡ sent_back callback w)

sent_back_stays : (w : World) (callback : Stat → Callback) (stat : Stat) (store : StoreAnswer) → ruled_answer store (by_call callback (stays w stat)) ≡ sent_back (callback stat) w
sent_back_stays w callback stat NotAsked = refl
sent_back_stays w callback stat Yes = refl
sent_back_stays w callback stat Refused = refl

sent_back_decided : (a : Answered) (store : StoreAnswer) → ruled_answer store (decided_ruling a) ≡ a
sent_back_decided a NotAsked = refl
sent_back_decided a Yes = refl
sent_back_decided a Refused = refl

-- a ruling that needs one place, where it is made by what is refused early
sent_back_early : (w : World) (callback : Stat → Callback) (verdict : Option Stat → Ruling (Response Stat)) (refusal : Option Stat) (stat : Stat) (store : StoreAnswer) → leb 1 (slots_free the_limits w) ≡ true → refusal ≡ Some stat → verdict (Some stat) ≡ stays w stat
    → ruled_answer store (by_message the_limits w callback (verdict refusal)) ≡ sent_back (callback stat) w
sent_back_early w callback verdict refusal stat store free e is =
    ap (λ (b : Bool). ruled_answer store (cond b (by_call callback (verdict refusal)) (decided_ruling (gives w SystemErr)))) free
    ∙ ap (λ (o : Option Stat). ruled_answer store (by_call callback (verdict o))) e
    ∙ ap (λ (r : Ruling (Response Stat)). ruled_answer store (by_call callback r)) is
    ∙ sent_back_stays w callback stat store

sent_back_as : (w : World) (version : Version) (call : NlmCall) (stat : Stat) (store : StoreAnswer) → leb 1 (slots_free the_limits w) ≡ true → early_message_refusal w call ≡ Some stat → IsSentBack w version call stat store
sent_back_as w version (TestMsg a) stat store free e =
    let answer : Bool → Option Stat → Ruling Answered = λ b o. cond b (decided_ruling (sent_back (to_caller a.alock (TestResult version (test_unless w version a o))) w)) (decided_ruling (gives w SystemErr)) in (
      to_caller a.alock (TestResult version (test_unless w version a (Some stat))),
      refl,
      ap (λ (b : Bool). ruled_answer store (answer b (range_refusal w Testing a.alock))) free
          ∙ ap (λ (o : Option Stat). ruled_answer store (answer true o)) e
          ∙ sent_back_decided _ store,
    )
sent_back_as w version (LockMsg a) stat store free e =
    let ask = lock_ask a (caller_row a) (GrantedMsg version a.exclusive a.alock) (slots_free the_limits w - 1) in
    (lock_callback version a stat, refl, sent_back_early w (lock_callback version a) (lock_unless the_limits w ask) _ stat store free e refl)
sent_back_as w version (CancelMsg a) stat store free e =
    (cancel_callback version a stat, refl, sent_back_early w (cancel_callback version a) (cancel_unless w (request_of a.exclusive a.alock)) _ stat store free e refl)
sent_back_as w version (UnlockMsg a) stat store free e =
    (unlock_callback version a stat, refl, sent_back_early w (unlock_callback version a) (unlock_unless the_limits w a.alock) _ stat store free e refl)
sent_back_as w version call stat store free e = absurd cc

-- ---- what a step gives for a record that asks for a call

module _ (s new : State) (said : Event) (u : StepResult) (h : IsStep s said u new) (peer : Peer) (asked : Bytes) (xid : ℕ) (call : Call) (is : said ≡ Take peer asked (Asks xid call)) where
  steps : (completion : Completion) → u.completion ≡ completion → (u.given ≡ (step the_limits s (Take peer asked (Asks xid call)) completion u.store).given) × (new ≡ (step the_limits s (Take peer asked (Asks xid call)) completion u.store).state)
  steps completion e =
      let to : Event → Completion → Stepped = λ event d. step the_limits s event d u.store in
      let same : to said u.completion ≡ to (Take peer asked (Asks xid call)) completion = ap (λ event. to event u.completion) is ∙ ap (to (Take peer asked (Asks xid call))) e in
      (sym h.gives ∙ ap (λ (t : Stepped). t.given) same, sym h.leaves ∙ ap (λ (t : Stepped). t.state) same)

  -- where its reply is not kept
  anew : u.completion ≡ Applied → look s peer asked ≡ None → u.given ≡ Replies xid (ruled_answer u.store (ruling the_limits s.world peer.local call)).outcome
  anew e n = (steps Applied e).0 ∙ ap (λ (o : Option KeptPair). (taken_step the_limits s peer asked xid call u.store o).given) n

  left_anew : u.completion ≡ Applied → look s peer asked ≡ None → new.world ≡ settled_world the_limits (ruled_answer u.store (ruling the_limits s.world peer.local call)).world
  left_anew e n = ap (λ (x : State). x.world) (steps Applied e).1 ∙ ap (λ (o : Option KeptPair). (taken_step the_limits s peer asked xid call u.store o).state.world) n

  module _ (k : KeptPair) (there : look s peer asked ≡ Some k) where
    again : u.completion ≡ Applied → (u.given ≡ (repeated_step the_limits s k).given) × (new ≡ (repeated_step the_limits s k).state)
    again e =
        let same : taken_step the_limits s peer asked xid call u.store (look s peer asked) ≡ repeated_step the_limits s k = ap (taken_step the_limits s peer asked xid call u.store) there in
        ((steps Applied e).0 ∙ ap (λ (t : Stepped). t.given) same, (steps Applied e).1 ∙ ap (λ (t : Stepped). t.state) same)

    wanting : u.completion ≡ Starved → (u.given ≡ Replies xid SystemErr) × (new ≡ s)
    wanting e =
        let row : Option KeptPair → State = λ o. with_row_stored s call (asked_unless_kept the_limits s peer call o) u.store in
        ((steps Starved e).0, (steps Starved e).1 ∙ ap row there ∙ unstored call u.store)
      where
        unstored : (c : Call) (a : StoreAnswer) → with_row_stored s c None a ≡ s
        unstored (Nlm version (Locks b)) a = refl
        unstored (Nlm version (LockMsg b)) a = refl
        unstored _ a = refl

-- ---- the laws

module _ (old new : State) (event : JournalEvent) (step_result : StepResult) (s : Steps old event step_result new) (peer : Peer) (asked : Bytes) (xid : ℕ) where
  tells : (version : Version) (call : NlmCall) (stat : Stat) → s.said ≡ Take peer asked (Asks xid (Nlm version call)) → look old peer asked ≡ None
      → step_result.completion ≡ Applied → early_refusal old.world call ≡ Some stat → TellsStat xid (shown_stat version stat) step_result.given
  tells version call stat is none applied_step early = record {
    outcome = (ruled_answer step_result.store (nlm_answer the_limits old.world version call)).outcome;
    stat_is = says_early old.world version call stat step_result.store early;
    gives = anew old new s.said step_result s.step peer asked xid (Nlm version call) is applied_step none;
  }

  calls_back : (version : Version) (call : NlmCall) (stat : Stat) → s.said ≡ Take peer asked (Asks xid (Nlm version call)) → look old peer asked ≡ None
      → step_result.completion ≡ Applied → 0 < slots_free the_limits old.world → early_message_refusal old.world call ≡ Some stat → CallsBack xid version call stat old step_result.given new
  calls_back version call stat is none applied_step free early =
      let back = sent_back_as old.world version call stat step_result.store (grind (arith, nat_tests)) early in
      record {
        gives = anew old new s.said step_result s.step peer asked xid (Nlm version call) is applied_step none ∙ ap (λ (a : Answered). Replies xid a.outcome) back.2;
        callback = back.0;
        tells = back.1;
        world = left_anew old new s.said step_result s.step peer asked xid (Nlm version call) is applied_step none ∙ ap (λ (a : Answered). settled_world the_limits a.world) back.2;
      }

  repeats : (call : Call) (k : KeptPair) → s.said ≡ Take peer asked (Asks xid call) → look old peer asked ≡ Some k → AnswersRepeat xid k old step_result new
  repeats call k is there = record {
    unapplied = subst (λ (t : State). LeavesRest old.world t.world) (sym (steps old new s.said step_result s.step peer asked xid call is step_result.completion refl).1) (repeat_law the_limits old peer asked xid call step_result.completion step_result.store k there);
    again = λ applied_step slots.
        let r = again old new s.said step_result s.step peer asked xid call is k there applied_step in
        let both : repeated_step the_limits old k ≡ record { given = Replies k.xid k.outcome; state = record { world = with_all_due old.world k.callbacks; kept = moved_to_front k old.kept } } = rw slots refl in
        record {
          gives = r.0 ∙ ap (λ (x : Stepped). x.given) both;
          world = ap (λ (t : State). t.world) r.1 ∙ ap (λ (x : Stepped). x.state.world) both;
          kept = ap (λ (t : State). t.kept) r.1 ∙ ap (λ (x : Stepped). x.state.kept) both;
        };
    full = λ applied_step slots.
        let r = again old new s.said step_result s.step peer asked xid call is k there applied_step in
        let both : repeated_step the_limits old k ≡ record { given = Replies k.xid SystemErr; state = old } = rw slots refl in
        record { gives = r.0 ∙ ap (λ (x : Stepped). x.given) both; state = r.1 ∙ ap (λ (x : Stepped). x.state) both };
    starved = λ starves.
        let r = wanting old new s.said step_result s.step peer asked xid call is k there starves in
        record { gives = r.0; state = r.1 };
  }

pub refusal_is_told : RefusalIsAnswered
refusal_is_told old new event step_result s peer asked xid version call stat is none applied_step early = tells old new event step_result s peer asked xid version call stat is none applied_step early

pub message_refusal_is_told : MessageRefusalIsAnswered
message_refusal_is_told old new event step_result s peer asked xid version call stat is none applied_step free early = calls_back old new event step_result s peer asked xid version call stat is none applied_step free early

pub kept_is_given_again : KeptIsGivenAgain
kept_is_given_again old new event step_result s peer asked xid call k is there = repeats old new event step_result s peer asked xid call k is there
