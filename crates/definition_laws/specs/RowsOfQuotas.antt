-- Worked rows on quotas of runs.
use Rattle.std.specs.Prelude.{◌≡◌, ℕ, List, [], ◌∷◌, Some, pos}
use Rattle.definitions.specs.Bytes.{Bytes}
use Rattle.definitions.specs.Hosts.{HostRow}
use Rattle.definitions.specs.Nlm.{GRANTED, DENIED, DENIED_NOLOCKS, BLOCKED}
use Rattle.definitions.specs.Replies.{AcceptedSuccess, HostList, SetQuota, BadLine, LineOk, LineAbsent, LineRefused, LineBad, LineHosts}
use Rattle.definition_laws.specs.ShortForms.{A, B, C, w, LOCK, LOCK+block, LOCK+reclaim, TEST, UNLOCK, stat, held_by, grants, left, then_given, then_left, refused_event}
use Rattle.definitions.specs.Step.{Event, Send, Answer, Local, Restart, GraceOver, Given, Nothing, Says}

abbrev pub quota : Bytes → ℕ → Event
quota name runs = Local 1 (SetQuota name runs)

-- a host's row under own state 1 with state 3 seen
abbrev pub host_with : Bytes → ℕ → HostRow
host_with name runs = record { name = name; epoch = 1; seen = pos 3; quota = runs }

-- a quota past 65,536 is no line of the protocol
abbrev pub quota_of_runs : List Event
quota_of_runs =
    LOCK 180 A w 0 10
    ∷ quota A.name 1
    ∷ LOCK 181 A w 20 1
    ∷ LOCK 182 A w 10 5
    ∷ UNLOCK 183 A 5 1
    ∷ UNLOCK 184 A 0 5
    ∷ Local 1 HostList
    ∷ quota B.name 5
    ∷ Local 1 BadLine
    ∷ TEST 185 B w 0 0
    ∷ LOCK+block 186 B w 5 1
    ∷ quota B.name 0
    ∷ UNLOCK 187 A 0 0
    ∷ Send
    ∷ quota B.name 1
    ∷ Send
    ∷ []

abbrev pub quota_of_runs_gives : List Given
quota_of_runs_gives =
    stat 180 GRANTED
    ∷ Says LineOk
    ∷ stat 181 DENIED_NOLOCKS
    ∷ stat 182 GRANTED
    ∷ stat 183 DENIED_NOLOCKS
    ∷ stat 184 GRANTED
    ∷ Says (LineHosts (host_with A.name 1 ∷ []))
    ∷ Says LineAbsent
    ∷ Says LineBad
    ∷ held_by 185 A w 5 10
    ∷ stat 186 BLOCKED
    ∷ Says LineOk
    ∷ stat 187 GRANTED
    ∷ Nothing
    ∷ Says LineOk
    ∷ grants 1 B w 5 1
    ∷ []

-- runs on all files and of all owners of the host count together, and what is there beyond a lowered quota stays
abbrev pub lowered_quota_events : List Event
lowered_quota_events =
    LOCK 1 A w 0 1 ∷ LOCK 2 A w 2 1 ∷ LOCK 3 A w 4 1 ∷ quota A.name 2 ∷ LOCK 4 A w 6 1 ∷ LOCK 5 A w 3 1 ∷ LOCK 6 A w 6 1
    ∷ UNLOCK 7 A 0 5 ∷ LOCK 8 A w 6 1 ∷ []

abbrev pub lowered_gives : List Given
lowered_gives =
    stat 1 GRANTED ∷ stat 2 GRANTED ∷ stat 3 GRANTED ∷ Says LineOk ∷ stat 4 DENIED_NOLOCKS ∷ stat 5 GRANTED
    ∷ stat 6 DENIED_NOLOCKS ∷ stat 7 GRANTED ∷ stat 8 GRANTED ∷ []

-- one who waits is granted once another lock of its host has gone, on whatever file, and not before
abbrev pub freed_by_own : List Event
freed_by_own = LOCK 1 A w 0 1 ∷ LOCK 2 B w 10 1 ∷ LOCK+block 3 B w 0 1 ∷ quota B.name 1 ∷ UNLOCK 4 A 0 1 ∷ Send ∷ LOCK 5 C w 5 1 ∷ UNLOCK 6 B 10 1 ∷ Send ∷ []

abbrev pub freed_by_own_gives : List Given
freed_by_own_gives =
    stat 1 GRANTED ∷ stat 2 GRANTED ∷ stat 3 BLOCKED ∷ Says LineOk ∷ stat 4 GRANTED ∷ Nothing ∷ stat 5 GRANTED ∷ stat 6 GRANTED
    ∷ grants 1 B w 0 1 ∷ []

-- a grant that its client refuses stays where the quota refuses its unlock, and its call has ended
abbrev pub refused_grant_stays : List Event
refused_grant_stays =
    LOCK 1 A w 3 4
    ∷ LOCK 2 B w 0 3
    ∷ LOCK 3 B w 7 3
    ∷ LOCK+block 4 B w 3 4
    ∷ UNLOCK 5 A 3 4
    ∷ quota B.name 1
    ∷ Send
    ∷ Answer (AcceptedSuccess 1 (Some DENIED))
    ∷ TEST 6 C w 4 1
    ∷ Send
    ∷ []

abbrev pub refused_grant_stays_gives : List Given
refused_grant_stays_gives =
    stat 1 GRANTED ∷ stat 2 GRANTED ∷ stat 3 GRANTED ∷ stat 4 BLOCKED ∷ stat 5 GRANTED ∷ Says LineOk ∷ grants 1 B w 3 4 ∷ Nothing
    ∷ held_by 6 B w 0 10 ∷ Nothing ∷ []

-- the line acts in grace, and a quota outlasts a restart
abbrev pub quota_in_grace : List Event
quota_in_grace = LOCK 1 A w 0 1 ∷ Restart ∷ quota A.name 0 ∷ LOCK+reclaim 2 A w 0 1 ∷ quota A.name 1 ∷ LOCK+reclaim 3 A w 0 1 ∷ GraceOver ∷ LOCK 4 A w 2 1 ∷ []

abbrev pub quota_in_grace_gives : List Given
quota_in_grace_gives = stat 1 GRANTED ∷ Nothing ∷ Says LineOk ∷ stat 2 DENIED_NOLOCKS ∷ Says LineOk ∷ stat 3 GRANTED ∷ Nothing ∷ stat 4 DENIED_NOLOCKS ∷ []

-- where the store refuses, the quota stays
abbrev pub QuotaRefused : Type 0
QuotaRefused = then_given (LOCK 1 A w 0 1 ∷ []) (refused_event (quota A.name 0)) ≡ Says LineRefused

abbrev pub QuotaRefusedStays : Type 0
QuotaRefusedStays = then_left (LOCK 1 A w 0 1 ∷ []) (refused_event (quota A.name 0)) ≡ left (LOCK 1 A w 0 1 ∷ [])
