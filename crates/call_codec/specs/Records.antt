-- The records of the server's own calls: the header of a call, with AUTH_NONE, and its arguments (RFC 5531, section 9). A local line is text.
use Rattle.std.specs.Prelude.{ℕ, ◌%◌, ◌^◌, ◌++◌}
use Rattle.std.specs.Int.{w32, cast_unsigned}
use Rattle.definitions.specs.Bytes.{Bytes}
use Rattle.definitions.specs.Nlm.{Version}
use Rattle.definitions.specs.Nsm.{MyId}
use Rattle.definitions.specs.Outgoing.{Message, Granted, GrantedMsg, GrantedLine, TestResult, LockResult, CancelResult, UnlockResult, Status, Notify}
use Rattle.rpc_msg.specs.Grammar.{written_call}
use Rattle.local_ops.specs.Texts.{granted_line}
use Rattle.nlm4_types.specs.Version.{program as nlm_program, version_number}
use Rattle.nlm4_types.specs.Messages.{grant_bytes, testres_bytes}
use Rattle.nlm4_types.specs.Results.{res}
use Rattle.nsm_types.specs.Call as nsm_call
use Rattle.nsm_types.specs.Arguments.{stat_chge, status}
use Rattle.call_codec.specs.declared.records.callee.Callee.{Callee}

-- the xid is the low 32 bits of the call's number
abbrev pub record_to : ℕ → Callee → Bytes → Bytes
record_to number to arguments = written_call (number % 2 ^ 32) to.program to.version to.procedure ++ arguments

-- a procedure of a client's lock manager, in the version of the call that it belongs to
abbrev pub lock_manager : Version → ℕ → Callee
lock_manager version procedure = record { program = nlm_program; version = version_number version; procedure = procedure }

-- SM_NOTIFY of a client's status monitor
abbrev pub status_monitor : Callee
status_monitor = record { program = nsm_call.program; version = nsm_call.version; procedure = 6 }

-- the program, version and procedure that a watcher named, as words
abbrev pub watcher : MyId → Callee
watcher m = record { program = cast_unsigned w32 m.prog; version = cast_unsigned w32 m.vers; procedure = cast_unsigned w32 m.proc }

abbrev pub call_record : ℕ → Message → Bytes
call_record number (Granted version exclusive lock) = record_to number (lock_manager version 5) (grant_bytes version number exclusive lock)
call_record number (GrantedMsg version exclusive lock) = record_to number (lock_manager version 10) (grant_bytes version number exclusive lock)
call_record number (GrantedLine mode lock) = granted_line mode lock
call_record number (TestResult version r) = record_to number (lock_manager version 11) (testres_bytes version r)
call_record number (LockResult version r) = record_to number (lock_manager version 12) (res.written r)
call_record number (CancelResult version r) = record_to number (lock_manager version 13) (res.written r)
call_record number (UnlockResult version r) = record_to number (lock_manager version 14) (res.written r)
call_record number (Status m mon_name state bytes) =
    record_to number (watcher m) (status.written (record { mon_name = mon_name; state = state; private_bytes = bytes }))
call_record number (Notify name state) = record_to number status_monitor (stat_chge.written (record { mon_name = name; state = state }))
