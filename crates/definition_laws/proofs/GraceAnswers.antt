-- In grace a lock or a share is answered GRANTED only where it is a reclaim.
use Rattle.std.proofs.Common.{◌≡◌, ◌-◌, Bool, true, false, cond, refl, sym, ap, ◌∙◌, Some, None, is_some}
use Rattle.std.proofs.lemmas.Bool.{true≢false}
use Rattle.definitions.specs.Phases.{Phase, Grace, Normal, Testing, Locking, Sharing, LocalLocking, admits}
use Rattle.definitions.specs.Nlm.{Stat, STALE_FH, FBIG, DENIED_GRACE_PERIOD, LockArgs, ShareArgs}
use Rattle.definitions.specs.Hosts.{StoreAnswer, NotAsked, Yes, Refused}
use Rattle.definitions.specs.Outgoing.{LocalLock, Granted, GrantedMsg}
use Rattle.definitions.specs.Ranges.{is_stale, is_too_far}
use Rattle.definitions.specs.Replies.{LineFbig, LineGrace}
use Rattle.definitions.specs.World.{World, Limits, slots_free}
use Rattle.definitions.specs.Rulings.{stays, ruled_answer}
use Rattle.definitions.specs.LockRules.{LockAsk}
use Rattle.definitions.specs.Answer.{lock_ask, caller_row, lock_unless, lock_verdict, share_unless, share_verdict}
use Rattle.definitions.specs.Lines.{line_refusal}
use Rattle.definition_laws.specs.Monitored.{stands}
use Rattle.definition_laws.specs.Standing.{GraceAnswersLaw}

says_so : (w : World) (stat : Stat) (store : StoreAnswer) → (ruled_answer store (stays w stat)).says ≡ stat
says_so w stat NotAsked = refl
says_so w stat Yes = refl
says_so w stat Refused = refl

refused : (w : World) (stat : Stat) (store : StoreAnswer) → stands stat ≡ false → stands (ruled_answer store (stays w stat)).says ≡ true → ⊥
refused w stat store e h = true≢false (sym h ∙ ap stands (says_so w stat store) ∙ e)

grace_lock : (phase : Phase) (reclaim : Bool) → phase ≡ Grace → admits phase (Locking reclaim) ≡ true → reclaim ≡ true
grace_lock Grace reclaim g e = e
grace_lock Normal reclaim g e = absurd (true≢false (ap (λ p. admits p Testing) g))

grace_share : (phase : Phase) (reclaim : Bool) → phase ≡ Grace → admits phase (Sharing reclaim) ≡ true → reclaim ≡ true
grace_share Grace reclaim g e = e
grace_share Normal reclaim g e = absurd (true≢false (ap (λ p. admits p Testing) g))

lock_reclaims : (limits : Limits) (w : World) (a : LockArgs) (ask : LockAsk) (store : StoreAnswer) → w.phase ≡ Grace → stands (ruled_answer store (lock_verdict limits w a ask)).says ≡ true → a.reclaim ≡ true
lock_reclaims limits w a ask store g = go (is_stale a.alock.fh) (is_too_far a.alock.l_offset a.alock.l_len) (admits w.phase (Locking a.reclaim)) (grace_lock w.phase a.reclaim g)
  where
    go : (b c d : Bool) → (d ≡ true → a.reclaim ≡ true) → stands (ruled_answer store (lock_unless limits w ask (cond b (Some STALE_FH) (cond c (Some FBIG) (cond d None (Some DENIED_GRACE_PERIOD)))))).says ≡ true → a.reclaim ≡ true
    go true c d k h = absurd (refused w STALE_FH store refl h)
    go false true d k h = absurd (refused w FBIG store refl h)
    go false false true k h = k refl
    go false false false k h = absurd (refused w DENIED_GRACE_PERIOD store refl h)

share_reclaims : (limits : Limits) (w : World) (a : ShareArgs) → w.phase ≡ Grace → stands (share_verdict limits w a).says ≡ true → a.reclaim ≡ true
share_reclaims limits w a g = go (is_stale a.fh) (admits w.phase (Sharing a.reclaim)) (grace_share w.phase a.reclaim g)
  where
    go : (b d : Bool) → (d ≡ true → a.reclaim ≡ true) → stands (share_unless limits w a (cond b (Some STALE_FH) (cond d None (Some DENIED_GRACE_PERIOD)))).says ≡ true → a.reclaim ≡ true
    go true d k h = absurd (true≢false (sym h))
    go false true k h = k refl
    go false false k h = absurd (true≢false (sym h))

line_refused : (w : World) (lock : LocalLock) → w.phase ≡ Grace → is_some (line_refusal w lock) ≡ true
line_refused w lock g = go (is_too_far lock.offset lock.len) (admits w.phase LocalLocking) (ap (λ p. admits p LocalLocking) g)
  where
    go : (b d : Bool) → d ≡ false → is_some (cond b (Some LineFbig) (cond d None (Some LineGrace))) ≡ true
    go true d e = refl
    go false true e = absurd (true≢false e)
    go false false e = refl

pub grace_answers_law : GraceAnswersLaw
grace_answers_law = record {
  locks = λ limits w version a store. lock_reclaims limits w a (lock_ask a (caller_row a) (Granted version a.exclusive a.alock) (slots_free limits w)) store;
  unmonitored_locks = λ limits w version a store. lock_reclaims limits w a (lock_ask a None (Granted version a.exclusive a.alock) (slots_free limits w)) store;
  message_locks = λ limits w version a store. lock_reclaims limits w a (lock_ask a (caller_row a) (GrantedMsg version a.exclusive a.alock) (slots_free limits w - 1)) store;
  shares = share_reclaims;
  lines = line_refused;
}
