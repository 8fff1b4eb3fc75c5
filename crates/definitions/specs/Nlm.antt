-- The values of NLM (RFC 1813, appendix II; XNFS): what a call's arguments and a reply's result say, not how they are spelled.
use Rattle.std.specs.Prelude.{ℕ, Bool, true, false, ℤ, Option}
use Rattle.definitions.specs.Bytes.{Bytes}
use Rattle.definitions.specs.Shares.{Access}

-- the version that a call came in. What answers it, at once or later, is spelled in it, too
pub data Version : Type 0 where
  V1 V3 V4 : Version

pub data Stat : Type 0 where
  GRANTED DENIED DENIED_NOLOCKS BLOCKED DENIED_GRACE_PERIOD DEADLCK ROFS STALE_FH FBIG FAILED : Stat

pub record Lock : Type 0 where
  pub caller_name : Bytes
  pub fh : Bytes
  pub oh : Bytes
  pub svid : ℤ
  pub l_offset : ℕ
  pub l_len : ℕ

pub record LockArgs : Type 0 where
  pub cookie : Bytes
  pub block : Bool
  pub exclusive : Bool
  pub alock : Lock
  pub reclaim : Bool
  pub state : ℤ

pub record CancelArgs : Type 0 where
  pub cookie : Bytes
  pub block : Bool
  pub exclusive : Bool
  pub alock : Lock

pub record TestArgs : Type 0 where
  pub cookie : Bytes
  pub exclusive : Bool
  pub alock : Lock

pub record UnlockArgs : Type 0 where
  pub cookie : Bytes
  pub alock : Lock

pub record Res : Type 0 where
  pub cookie : Bytes
  pub stat : Stat

pub record Holder : Type 0 where
  pub exclusive : Bool
  pub svid : ℤ
  pub oh : Bytes
  pub l_offset : ℕ
  pub l_len : ℕ

abbrev pub is_denial : Stat → Bool
is_denial DENIED = true
is_denial _ = false

-- there is a holder exactly where the status is DENIED
pub record TestRes : Type 0 where
  pub cookie : Bytes
  pub stat : Stat
  pub holder : Option Holder

-- `mode` says what the share denies the others
pub record ShareArgs : Type 0 where
  pub cookie : Bytes
  pub caller_name : Bytes
  pub fh : Bytes
  pub oh : Bytes
  pub mode : Access
  pub access : Access
  pub reclaim : Bool

pub record ShareRes : Type 0 where
  pub cookie : Bytes
  pub stat : Stat
  pub sequence : ℤ

-- a call of a procedure that the server answers
pub data NlmCall : Type 0 where
  Null : NlmCall
  Test : TestArgs → NlmCall
  Locks : LockArgs → NlmCall
  Cancel : CancelArgs → NlmCall
  Unlock : UnlockArgs → NlmCall
  TestMsg : TestArgs → NlmCall
  LockMsg : LockArgs → NlmCall
  CancelMsg : CancelArgs → NlmCall
  UnlockMsg : UnlockArgs → NlmCall
  GrantedRes : Res → NlmCall
  ShareCall : ShareArgs → NlmCall
  Unshare : ShareArgs → NlmCall
  NmLock : LockArgs → NlmCall
  FreeAll : Bytes → ℤ → NlmCall
