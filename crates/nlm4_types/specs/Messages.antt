-- The bytes of what is sent by version: the arguments of the server's own calls, and the result of TEST. A status is a word of its version already.
use Rattle.std.specs.Prelude.{ℕ, Bool, List}
use Rattle.definitions.specs.Nlm.{Version, Lock, TestArgs, TestRes}
use Rattle.definitions.specs.Outgoing.{granted_args}
use Rattle.nlm4_types.specs.declared.messages.GrantedArgs as grant_declared
use Rattle.nlm4_types.specs.declared.messages.NlmMessage.{NlmMessage}
use Rattle.nlm4_types.specs.declared.messages.NlmMessage.TheVariants as message
use Rattle.nlm4_types.specs.Version.{is_wide}
use Rattle.nlm4_types.specs.Lock.{view_of_lock, clamped_lock}
use Rattle.nlm4_types.specs.Arguments.{testargs}
use Rattle.nlm4_types.specs.Results.{view_of_res, view_of_testres, res, testres, clamped_testres}

-- the arguments with an offset and a length that have a spelling
abbrev pub clamped_testargs : Bool → TestArgs → TestArgs
clamped_testargs wide a = record a { alock = clamped_lock wide a.alock }

-- what is written of a lock that is tested or granted
abbrev pub args_bytes : Bool → List ℕ → Bool → Lock → List ℕ
args_bytes wide cookie exclusive alock = (testargs wide).written (record { cookie = cookie; exclusive = exclusive; alock = alock })

-- the bytes are a spelling of it
abbrev pub SpellsArgs : Bool → List ℕ → List ℕ → Bool → Lock → Type 0
SpellsArgs wide text cookie exclusive alock = (testargs wide).Spells text (record { cookie = cookie; exclusive = exclusive; alock = alock })

-- the arguments of GRANTED and GRANTED_MSG
abbrev pub shown_grant : Version → ℕ → Bool → Lock → TestArgs
shown_grant version number exclusive alock = clamped_testargs (is_wide version) (granted_args number exclusive alock)

abbrev pub grant_bytes : Version → ℕ → Bool → Lock → List ℕ
grant_bytes version number exclusive alock = (testargs (is_wide version)).written (shown_grant version number exclusive alock)

-- a holder that a version shows has an offset and a length that have a spelling in it
abbrev pub testres_bytes : Version → TestRes → List ℕ
testres_bytes version r = (testres (is_wide version)).written (clamped_testres (is_wide version) r)

-- ---- the calls that the server makes

abbrev pub bytes_of_grant : Version → grant_declared.GrantedArgs → List ℕ
bytes_of_grant version g = grant_bytes version g.number g.exclusive (view_of_lock g.alock)

abbrev pub procedure_of : NlmMessage → ℕ
procedure_of (message.Granted g) = 5
procedure_of (message.GrantedMsg g) = 10
procedure_of (message.TestRes r) = 11
procedure_of (message.LockRes r) = 12
procedure_of (message.CancelRes r) = 13
procedure_of (message.UnlockRes r) = 14

abbrev pub message_bytes : Version → NlmMessage → List ℕ
message_bytes version (message.Granted g) = bytes_of_grant version g
message_bytes version (message.GrantedMsg g) = bytes_of_grant version g
message_bytes version (message.TestRes r) = testres_bytes version (view_of_testres r)
message_bytes version (message.LockRes r) = res.written (view_of_res r)
message_bytes version (message.CancelRes r) = res.written (view_of_res r)
message_bytes version (message.UnlockRes r) = res.written (view_of_res r)

-- what the bytes of a message are a spelling of
abbrev pub SpellsGrant : Version → List ℕ → grant_declared.GrantedArgs → Type 0
SpellsGrant version text g = (testargs (is_wide version)).Spells text (shown_grant version g.number g.exclusive (view_of_lock g.alock))

abbrev pub SpellsTestRes : Version → List ℕ → TestRes → Type 0
SpellsTestRes version text r = (testres (is_wide version)).Spells text (clamped_testres (is_wide version) r)

abbrev pub SpellsMessage : Version → List ℕ → NlmMessage → Type 0
SpellsMessage version text (message.Granted g) = SpellsGrant version text g
SpellsMessage version text (message.GrantedMsg g) = SpellsGrant version text g
SpellsMessage version text (message.TestRes r) = SpellsTestRes version text (view_of_testres r)
SpellsMessage version text (message.LockRes r) = res.Spells text (view_of_res r)
SpellsMessage version text (message.CancelRes r) = res.Spells text (view_of_res r)
SpellsMessage version text (message.UnlockRes r) = res.Spells text (view_of_res r)
