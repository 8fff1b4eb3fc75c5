-- What a record says, by what a front of it spells: header, program, version, procedure, arguments, in this order (RFC 5531, section 9).
use Rattle.std.specs.Prelude.{ℕ, ◌≡◌, ◌⊎◌, Bool, true, false, ◌==◌, List, Option, Some, None}
use Rattle.xdr_core.specs.Codec.{Codec, Front}
use Rattle.definitions.specs.Nlm as nlm
use Rattle.definitions.specs.Replies.{Call, Nlm, Nsm, RpcMismatch, BadCredential, ProgUnavail, ProgMismatch, ProcUnavail, GarbageArgs, Reading, Ignored, Turned, Asks}
use Rattle.rpc_msg.specs.declared.header.Header.{Header}
use Rattle.rpc_msg.specs.declared.header.HeaderError.{HeaderError}
use Rattle.rpc_msg.specs.declared.header.HeaderError.TheVariants.{NotACall, BadHeader, RpcVersion, BadCred}
use Rattle.rpc_msg.specs.Verdict.{Asks as HeaderAsks, IsRefusal, NoFront}
use Rattle.nlm4_types.specs.Call as nlm_call
use Rattle.nlm4_types.specs.Version.{program as nlm_program, numbered_version}
use Rattle.nsm_types.specs.Call as nsm_call

-- what is no call, or has no header, is ignored
abbrev pub view_of_header_error : HeaderError → Reading
view_of_header_error NotACall = Ignored
view_of_header_error BadHeader = Ignored
view_of_header_error (RpcVersion xid) = Turned xid RpcMismatch
view_of_header_error (BadCred xid) = Turned xid BadCredential

-- a version that is not served, of a program that is served between these
abbrev pub mismatch : ℕ → ℕ → ℕ → Reading
mismatch xid low high = Turned xid (ProgMismatch low high)

-- a front of the bytes spells the arguments, which make the call
pub record IsCallOf {V : Type 0} (c : Codec V) (named : V → Call) (xid : ℕ) (arguments : List ℕ) (said : Reading) : Type 0 where
  pub value : V
  pub rest : List ℕ
  pub front : Front c.Spells arguments value rest
  pub is : said ≡ Asks xid (named value)

-- no front does
pub record IsGarbage {V : Type 0} (c : Codec V) (xid : ℕ) (arguments : List ℕ) (said : Reading) : Type 0 where
  pub none : NoFront c arguments
  pub is : said ≡ Turned xid GarbageArgs

-- the arguments of a procedure, if the program has it
abbrev pub IsArguments : {V : Type 0} → Bool → Codec V → (V → Call) → ℕ → List ℕ → Reading → Type 0
IsArguments false c named xid arguments said = said ≡ Turned xid ProcUnavail
IsArguments true c named xid arguments said = IsCallOf c named xid arguments said ⊎ IsGarbage c xid arguments said

-- the lock manager, versions 1, 3 and 4, or another
abbrev pub IsNlmAsked : Option nlm.Version → ℕ → ℕ → List ℕ → Reading → Type 0
IsNlmAsked (Some version) xid procedure arguments said =
    IsArguments (nlm_call.is_known_in version procedure) (nlm_call.call version procedure) (Nlm version) xid arguments said
IsNlmAsked None xid procedure arguments said = said ≡ mismatch xid 1 4

-- the status monitor, version 1
abbrev pub IsNsmAsked : ℕ → ℕ → List ℕ → Reading → Type 0
IsNsmAsked xid procedure arguments said = IsArguments (nsm_call.is_known_number procedure) (nsm_call.call procedure) Nsm xid arguments said

abbrev pub in_version : Bool → Type 0 → Type 0 → Type 0
in_version true served other = served
in_version false served other = other

-- a call with a header: its program, its version, its procedure
abbrev pub IsAsked : Header → List ℕ → Reading → Type 0
IsAsked h arguments said =
    in_version (h.prog == nlm_program)
    (IsNlmAsked (numbered_version h.vers) h.xid h.proc arguments said)
    (in_version (h.prog == nsm_call.program)
    (in_version (h.vers == nsm_call.version) (IsNsmAsked h.xid h.proc arguments said) (said ≡ mismatch h.xid nsm_call.version nsm_call.version))
    (said ≡ Turned h.xid ProgUnavail))

pub record IsCalled (record' : List ℕ) (said : Reading) : Type 0 where
  pub header : Header
  pub arguments : List ℕ
  pub asks : HeaderAsks record' header arguments
  pub is : IsAsked header arguments said

pub record IsTurned (record' : List ℕ) (said : Reading) : Type 0 where
  pub error : HeaderError
  pub refused : IsRefusal record' error
  pub is : said ≡ view_of_header_error error

abbrev pub IsReading : List ℕ → Reading → Type 0
IsReading bytes said = IsCalled bytes said ⊎ IsTurned bytes said

-- a record has one reading
abbrev pub OneReading : Type 0
OneReading = (bytes : List ℕ) (a b : Reading) → IsReading bytes a → IsReading bytes b → a ≡ b
