-- The calls of the status monitor, and how their arguments are spelled: one case for each procedure (XNFS, the status monitor).
use Rattle.std.specs.Prelude.{ℕ, Bool, ◌==◌, leb, List, [], refl}
use Rattle.xdr_core.specs.Codec.{Codec}
use Rattle.xdr_core.specs.Choices.{choose, nothing, alone, case}
use Rattle.definitions.specs.Nsm as nsm
use Rattle.nsm_types.specs.declared.call.NsmCall.{NsmCall}
use Rattle.nsm_types.specs.declared.call.NsmCall.TheVariants.{Null, Stat, Mon, Unmon, UnmonAll, SimuCrash, Notify}
use Rattle.nsm_types.specs.Arguments.{MonArgs, MonIdArgs, StatChgeArgs, view_of_my_id, name, my_id, mon_id, mon, stat_chge}

-- the status monitor's program, and its only version
abbrev pub program : ℕ
program = 100024

abbrev pub version : ℕ
version = 1

abbrev pub view_of_call : NsmCall → nsm.NsmCall
view_of_call Null = nsm.SmNull
view_of_call (Stat a) = nsm.SmStat a.bytes.now
view_of_call (Mon a) = nsm.SmMon a.mon_name.bytes.now (view_of_my_id a.my_id) a.private_bytes.bytes.now
view_of_call (Unmon a) = nsm.SmUnmon a.mon_name.bytes.now (view_of_my_id a.my_id)
view_of_call (UnmonAll a) = nsm.SmUnmonAll (view_of_my_id a)
view_of_call SimuCrash = nsm.SmSimuCrash
view_of_call (Notify a) = nsm.SmNotify a.mon_name.bytes.now a.state

abbrev to_mon : MonArgs → nsm.NsmCall
to_mon a = nsm.SmMon a.mon_name a.my_id a.private_bytes

abbrev to_unmon : MonIdArgs → nsm.NsmCall
to_unmon a = nsm.SmUnmon a.mon_name a.my_id

abbrev to_notify : StatChgeArgs → nsm.NsmCall
to_notify a = nsm.SmNotify a.mon_name a.state

-- what is written of a call's arguments
abbrev pub written_call : nsm.NsmCall → List ℕ
written_call nsm.SmNull = []
written_call (nsm.SmStat a) = name.written a
written_call (nsm.SmMon a b c) = mon.written (record { mon_name = a; my_id = b; private_bytes = c })
written_call (nsm.SmUnmon a b) = mon_id.written (record { mon_name = a; my_id = b })
written_call (nsm.SmUnmonAll a) = my_id.written a
written_call nsm.SmSimuCrash = []
written_call (nsm.SmNotify a b) = stat_chge.written (record { mon_name = a; state = b })

-- the arguments of a procedure, as the call that they make
unfoldable pub arguments_of : ℕ → Codec nsm.NsmCall
arguments_of procedure =
    choose (procedure == 0) (alone nsm.SmNull) (
    choose (procedure == 1) (case nsm.SmStat written_call name (λ _. refl)) (
    choose (procedure == 2) (case to_mon written_call mon (λ _. refl)) (
    choose (procedure == 3) (case to_unmon written_call mon_id (λ _. refl)) (
    choose (procedure == 4) (case nsm.SmUnmonAll written_call my_id (λ _. refl)) (
    choose (procedure == 5) (alone nsm.SmSimuCrash) (
    choose (procedure == 6) (case to_notify written_call stat_chge (λ _. refl)) nothing))))))

abbrev pub is_known_number : ℕ → Bool
is_known_number procedure = leb procedure 6

-- the arguments of a procedure that the monitor has
unfoldable pub call : ℕ → Codec nsm.NsmCall
call procedure = choose (is_known_number procedure) (arguments_of procedure) nothing
