-- Each answer to a call of the server's own, by what it changes beside the table.
use Rattle.std.proofs.Common.{◌≡◌, ℕ, false, refl, Option, Some, None, inl}
use Rattle.definitions.specs.Bytes.{Bytes, first_that}
use Rattle.definitions.specs.Quotas.{quotas_of, is_refused}
use Rattle.definitions.specs.Shares.{Share}
use Rattle.definitions.specs.Nlm.{Stat, DENIED, DENIED_GRACE_PERIOD, Lock}
use Rattle.definitions.specs.Outgoing.{Outgoing, Message, Granted, GrantedMsg, Notify, Destination, ToHost, ToConnection, is_numbered, call_of_xid, call_of_cookie, after_silence, after_silence_at, without_call}
use Rattle.definitions.specs.Ranges.{unlock_of}
use Rattle.definitions.specs.Replies.{AnswerReading, Unreadable, AcceptedSuccess, OtherAnswer}
use Rattle.definitions.specs.World.{World, Limits, with_setting, with_calls}
use Rattle.definitions.specs.Rulings.{Response, Ruling}
use Rattle.definitions.specs.Grants.{TableChange, world_without_call, grant_answered, granted_res_rules, granted_res_at, granted_res_of, notice_answered, ruling_on_success, answered_success, answered_otherwise, answer_rules, became, TableStays, TableChanges}
use Rattle.definitions.proofs.MoveLaws.{by_cond}
use Rattle.definition_laws.proofs.CallLaws.{left_without_first}
use Rattle.definition_laws.proofs.SideMoves.{SharesStay, SideMoves, unmoved_sides, goes_left, goes_silent}

module _ (R : Share → Type 0) where
  ended_sides : (w : World) (c : Outgoing) → SideMoves R false w (world_without_call w c)
  ended_sides w c = record {
    name = refl;
    rules = refl;
    shares = SharesStay;
    calls = inl (goes_left w (world_without_call w c) (without_call c.number w.calls) (left_without_first (is_numbered c.number) w.calls) refl refl refl);
  }

  silent_sides : (w : World) (number : ℕ) → SideMoves R false w (with_calls w (after_silence number w.calls))
  silent_sides w number = go (first_that (is_numbered number) w.calls) refl
    where
      go : (o : Option Outgoing) → first_that (is_numbered number) w.calls ≡ o → SideMoves R false w (with_calls w (after_silence_at o w.calls))
      go None e = unmoved_sides R false w
      go (Some c) e = record {
        name = refl;
        rules = refl;
        shares = SharesStay;
        calls = inl (goes_silent w number c e (with_calls w (after_silence_at (Some c) w.calls)) refl refl refl);
      }

  grant_sides : (limits : Limits) (w : World) (c : Outgoing) (alock : Lock) (stat : Option Stat) → SideMoves R false w (grant_answered limits w c alock stat).world
  grant_sides limits w c alock (Some DENIED) =
      let e = ended_sides w c in
      by_cond (λ (t : Response TableChange). SideMoves R false w t.world) (is_refused limits.runs (quotas_of w.hosts) w.settings (unlock_of alock)) (became TableStays (world_without_call w c)) (became TableChanges (with_setting (world_without_call w c) (unlock_of alock)))
      (λ _. e)
      (λ _. record {
        name = refl;
        rules = refl;
        shares = SharesStay;
        calls = inl (goes_left w (with_setting (world_without_call w c) (unlock_of alock)) (without_call c.number w.calls) (left_without_first (is_numbered c.number) w.calls) refl refl refl);
      })
  grant_sides limits w c alock (Some DENIED_GRACE_PERIOD) = silent_sides w c.number
  grant_sides limits w c alock _ = ended_sides w c

  pub granted_res_sides : (limits : Limits) (w : World) (cookie : Bytes) (stat : Stat) → SideMoves R false w (granted_res_rules limits w cookie stat).world
  granted_res_sides limits w cookie stat = go (call_of_cookie cookie w.calls)
    where
      by_message_of : (c : Outgoing) (m : Message) → SideMoves R false w (granted_res_of limits w stat c m).world
      by_message_of c (GrantedMsg version exclusive alock) = grant_sides limits w c alock (Some stat)
      by_message_of c _ = unmoved_sides R false w

      go : (o : Option Outgoing) → SideMoves R false w (granted_res_at limits w stat o).world
      go None = unmoved_sides R false w
      go (Some c) = by_message_of c c.callback.message

  abbrev pub BothSides : World → Ruling (Response TableChange) → Type 0
  BothSides w r = SideMoves R false w r.agreed.world × SideMoves R false w r.refused.world

  notice_sides : (w : World) (c : Outgoing) (to : Destination) → BothSides w (notice_answered w c to)
  notice_sides w c (ToHost name) = (
    record {
      name = refl;
      rules = refl;
      shares = SharesStay;
      calls = inl (goes_left w _ (without_call c.number w.calls) (left_without_first (is_numbered c.number) w.calls) refl refl refl);
    },
    ended_sides w c,
  )
  notice_sides w c (ToConnection l) = (ended_sides w c, ended_sides w c)

  succeeded_sides : (limits : Limits) (w : World) (c : Outgoing) (stat : Option Stat) (m : Message) → BothSides w (ruling_on_success limits w c stat m)
  succeeded_sides limits w c stat (Granted version exclusive alock) = (grant_sides limits w c alock stat, grant_sides limits w c alock stat)
  succeeded_sides limits w c stat (GrantedMsg version exclusive alock) = (unmoved_sides R false w, unmoved_sides R false w)
  succeeded_sides limits w c stat (Notify name state) = notice_sides w c c.callback.to
  succeeded_sides limits w c stat _ = (ended_sides w c, ended_sides w c)

  pub answer_sides : (limits : Limits) (w : World) (reading : AnswerReading) → BothSides w (answer_rules limits w reading)
  answer_sides limits w Unreadable = (unmoved_sides R false w, unmoved_sides R false w)
  answer_sides limits w (AcceptedSuccess xid stat) = go (call_of_xid xid w.calls)
    where
      go : (o : Option Outgoing) → BothSides w (answered_success limits w stat o)
      go None = (unmoved_sides R false w, unmoved_sides R false w)
      go (Some c) = succeeded_sides limits w c stat c.callback.message
  answer_sides limits w (OtherAnswer xid) = go (call_of_xid xid w.calls)
    where
      go : (o : Option Outgoing) → BothSides w (answered_otherwise w o)
      go None = (unmoved_sides R false w, unmoved_sides R false w)
      go (Some c) = (ended_sides w c, ended_sides w c)
