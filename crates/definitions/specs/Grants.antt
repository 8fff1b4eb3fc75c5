-- What an answer, or the lack of one, does to a call of the server's own.
use Rattle.std.specs.Prelude.{cond, Option, Some, None}
use Rattle.definitions.specs.Bytes.{Bytes}
use Rattle.definitions.specs.Settings.{Setting}
use Rattle.definitions.specs.Quotas.{quotas_of, is_refused}
use Rattle.definitions.specs.Nlm.{Stat, DENIED, DENIED_GRACE_PERIOD, Lock}
use Rattle.definitions.specs.Hosts.{Acked, after_store}
use Rattle.definitions.specs.Outgoing.{Outgoing, Destination, ToHost, ToConnection, Message, Granted, GrantedMsg, Notify, without_call, after_silence, call_of_xid, call_of_cookie}
use Rattle.definitions.specs.Ranges.{unlock_of}
use Rattle.definitions.specs.Replies.{AnswerReading, Unreadable, AcceptedSuccess, OtherAnswer}
use Rattle.definitions.specs.World.{World, Limits, with_setting, with_hosts, with_calls}
use Rattle.definitions.specs.Rulings.{Response, Ruling, decided_ruling, stays}

-- an answer changes the table where it unlocks a range, and then settle follows
pub data TableChange : Type 0 where
  TableStays TableChanges : TableChange

abbrev pub world_without_call : World → Outgoing → World
world_without_call w c = with_calls w (without_call c.number w.calls)

abbrev pub became : TableChange → World → Response TableChange
became change w = record { says = change; world = w }

-- the range of a grant that its client refused is unlocked, unless that is refused for want of runs or by its host's quota: then the lock stays
abbrev pub unlocked_response : Limits → World → Setting → Response TableChange
unlocked_response limits w s =
    cond (is_refused limits.runs (quotas_of w.hosts) w.settings s) (became TableStays w) (became TableChanges (with_setting w s))

-- status 0 ends a grant, 1 ends it and unlocks, 4 counts as a silence, and all else ends it
abbrev pub grant_answered : Limits → World → Outgoing → Lock → Option Stat → Response TableChange
grant_answered limits w c alock (Some DENIED) = unlocked_response limits (world_without_call w c) (unlock_of alock)
grant_answered limits w c alock (Some DENIED_GRACE_PERIOD) = became TableStays (with_calls w (after_silence c.number w.calls))
grant_answered limits w c alock _ = became TableStays (world_without_call w c)

-- a host that has heard of the restart: its epoch is stored, and where the store refuses, the row stays
abbrev pub notice_answered : World → Outgoing → Destination → Ruling (Response TableChange)
notice_answered w c (ToHost name) =
    let call = Acked name w.hosts.own in
    record {
      asks = Some call;
      agreed = became TableStays (world_without_call (with_hosts w (after_store w.hosts call)) c);
      refused = became TableStays (world_without_call w c);
    }
notice_answered w c (ToConnection l) = stays (world_without_call w c) TableStays

-- a reply that was accepted with SUCCESS
abbrev pub ruling_on_success : Limits → World → Outgoing → Option Stat → Message → Ruling (Response TableChange)
ruling_on_success limits w c stat (Granted version exclusive alock) = decided_ruling (grant_answered limits w c alock stat)
ruling_on_success limits w c stat (GrantedMsg version exclusive alock) = stays w TableStays
ruling_on_success limits w c stat (Notify name state) = notice_answered w c c.callback.to
ruling_on_success limits w c stat _ = stays (world_without_call w c) TableStays

abbrev pub answered_success : Limits → World → Option Stat → Option Outgoing → Ruling (Response TableChange)
answered_success limits w stat None = stays w TableStays
answered_success limits w stat (Some c) = ruling_on_success limits w c stat c.callback.message

abbrev pub answered_otherwise : World → Option Outgoing → Ruling (Response TableChange)
answered_otherwise w None = stays w TableStays
answered_otherwise w (Some c) = stays (world_without_call w c) TableStays

-- a reply belongs to the oldest call of its xid that was sent; one that belongs to none changes nothing
abbrev pub answer_rules : Limits → World → AnswerReading → Ruling (Response TableChange)
answer_rules limits w Unreadable = stays w TableStays
answer_rules limits w (AcceptedSuccess xid stat) = answered_success limits w stat (call_of_xid xid w.calls)
answer_rules limits w (OtherAnswer xid) = answered_otherwise w (call_of_xid xid w.calls)

abbrev pub granted_res_of : Limits → World → Stat → Outgoing → Message → Response TableChange
granted_res_of limits w stat c (GrantedMsg version exclusive alock) = grant_answered limits w c alock (Some stat)
granted_res_of limits w stat c _ = became TableStays w

abbrev pub granted_res_at : Limits → World → Stat → Option Outgoing → Response TableChange
granted_res_at limits w stat None = became TableStays w
granted_res_at limits w stat (Some c) = granted_res_of limits w stat c c.callback.message

-- GRANTED_RES, which belongs by its cookie to a GRANTED_MSG that was sent
abbrev pub granted_res_rules : Limits → World → Bytes → Stat → Response TableChange
granted_res_rules limits w cookie stat = granted_res_at limits w stat (call_of_cookie cookie w.calls)
