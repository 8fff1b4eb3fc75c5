-- Over whole lists of events, and honest reclaims that are granted.
use Rattle.std.proofs.Common.{◌≡◌, ℕ, ◌-◌, false, cond, not, ◌&&◌, List, [], ◌∷◌, refl, ap, ◌∙◌, Option, Some, None}
use Rattle.std.proofs.lemmas.Bool.{or_from}
use Rattle.definitions.specs.Settings.{Setting, setting_of}
use Rattle.definitions.specs.Conflict.{conflicts}
use Rattle.definitions.specs.Starts.{is_short}
use Rattle.definitions.specs.Quotas.{quotas_of, exceeds, lacks_room}
use Rattle.definitions.specs.Phases.{Locking}
use Rattle.definitions.specs.Hosts.{StoreCall}
use Rattle.definitions.specs.Nlm.{Stat, GRANTED, DENIED, DENIED_NOLOCKS, LockArgs}
use Rattle.definitions.specs.Outgoing.{Message, Granted, GrantedMsg}
use Rattle.definitions.specs.Ranges.{range_refusal, request_of}
use Rattle.definitions.specs.Rulings.{stays}
use Rattle.definitions.specs.LockRules.{LockAsk, with_lock, NewHost, lock_rules, free_lock, blocked_lock, row_asked, after_row}
use Rattle.definitions.specs.Answer.{lock_ask, lock_unless, lock_verdict, caller_row}
use Rattle.definitions.specs.World.{World, Limits, slots_free}
use Rattle.definitions.specs.Step.{State, opening_state_with}
use Rattle.definitions.specs.Replay.{Done, after, state_after}
use Rattle.definitions.specs.Reclaims.{AreCompatible, IsHonest, IsUnder}
use Rattle.definitions.specs.Moves.{IsSound, RunIsSound, GraceRunLaw, HonestIsGranted}
use Rattle.definitions.proofs.ReclaimLaws.{honest_meets_no_conflict}
use Rattle.definition_laws.proofs.AnswerMoves.{admitted}
use Rattle.definition_laws.proofs.StepLaws.{exclusion_law, grace_law}

run_sound : (limits : Limits) (s : State) (done : List Done) → IsSound limits s.world → IsSound limits (state_after limits s done).world
run_sound limits s [] sound = sound
run_sound limits s (d ∷ done) sound = run_sound limits (after limits s d).state done (exclusion_law limits s d.event d.completion d.store sound)

pub run_is_sound : RunIsSound
run_is_sound limits name rules hosts done = run_sound limits (opening_state_with name rules hosts) done (record { compatible = λ file x y byte wanted differ e. refl; ranges = tt; at_rest = refl })

pub grace_run_law : GraceRunLaw
grace_run_law limits old s [] under h = under
grace_run_law limits old s (d ∷ done) under h = grace_run_law limits old (after limits s d).state done (grace_law limits old s d.event d.completion d.store h.0 under h.1) h.2

row_says : (w : World) (call : Option StoreCall) (stat : Stat) (change : World → World) → (after_row w call stat change).agreed.says ≡ stat
row_says w None stat change = refl
row_says w (Some call) stat change = refl

granted : (limits : Limits) (w : World) (a : LockAsk) → conflicts w.settings a.request ≡ false → lacks_room limits.runs (quotas_of w.hosts) w.settings a.request ≡ false → (lock_rules limits w a).agreed.says ≡ GRANTED
granted limits w a free room =
    ap (λ b. (cond b (cond (a.block && not a.reclaim) (blocked_lock w a) (stays w DENIED)) (free_lock limits w a)).agreed.says) free
    ∙ ap (λ b. (cond b (stays w DENIED_NOLOCKS) (after_row w (row_asked w a.row) GRANTED (λ v. with_lock v a.request))).agreed.says) room
    ∙ row_says w (row_asked w a.row) GRANTED (λ v. with_lock v a.request)

module _ (limits : Limits) (old : List Setting) (w : World) (a : LockArgs) (compatible : AreCompatible old) (under : IsUnder old w) (ok : range_refusal w (Locking a.reclaim) a.alock ≡ None) (honest : IsHonest old (request_of a.exclusive a.alock)) (room : lacks_room limits.runs (quotas_of w.hosts) w.settings (request_of a.exclusive a.alock) ≡ false) where
  ask_granted : (row : Option NewHost) (message : Message) (slots : ℕ) → (lock_verdict limits w a (lock_ask a row message slots)).agreed.says ≡ GRANTED
  ask_granted row message slots =
      ap (λ o. (lock_unless limits w (lock_ask a row message slots) o).agreed.says) ok
      ∙ granted limits w (lock_ask a row message slots) (honest_meets_no_conflict old w.settings (request_of a.exclusive a.alock) (admitted w (Locking a.reclaim) a.alock ok).0 compatible under.settings honest) room

pub honest_is_granted : HonestIsGranted
honest_is_granted limits old w version a g compatible under reclaim ok honest free quota =
    let room = or_from (is_short limits.runs w.settings) (exceeds (quotas_of w.hosts) w.settings (setting_of (request_of a.exclusive a.alock))) free quota in
    let ask = ask_granted limits old w a compatible under ok honest room in
    (ask (caller_row a) (Granted version a.exclusive a.alock) (slots_free limits w), ask None (Granted version a.exclusive a.alock) (slots_free limits w), ask (caller_row a) (GrantedMsg version a.exclusive a.alock) (slots_free limits w - 1))
