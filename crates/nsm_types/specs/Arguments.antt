-- What is monitored, and who watches it (XNFS, the status monitor).
use Rattle.std.specs.Prelude.{ℕ, ℤ, List, refl}
use Rattle.xdr_core.specs.Codec.{Codec}
use Rattle.xdr_core.specs.Formats.{◌&◌, fields, signed, opaque, padded_codec}
use Rattle.definitions.specs.Nsm.{MyId}
use Rattle.nsm_types.specs.declared.arguments.MyId as my_id_declared
use Rattle.nsm_types.specs.declared.arguments.MonId as mon_id_declared
use Rattle.nsm_types.specs.declared.arguments.Mon as mon_declared
use Rattle.nsm_types.specs.declared.arguments.StatChge as stat_chge_declared
use Rattle.nsm_types.specs.declared.arguments.Status as status_declared

abbrev pub name : Codec (List ℕ)
name = opaque 1024

-- ---- my_id

abbrev pub view_of_my_id : my_id_declared.MyId → MyId
view_of_my_id v = record { my_name = v.my_name.bytes.now; prog = v.prog; vers = v.vers; proc = v.proc }

unfoldable pub my_id : Codec MyId
my_id =
    fields
    (λ p. record { my_name = p.0; prog = p.1.0; vers = p.1.1.0; proc = p.1.1.1 })
    (λ v. (v.my_name, (v.prog, (v.vers, v.proc))))
    (name & signed & signed & signed)
    (λ _. refl) (λ _. refl)

-- ---- mon_id

pub record MonIdArgs : Type 0 where
  pub mon_name : List ℕ
  pub my_id : MyId

abbrev pub view_of_mon_id : mon_id_declared.MonId → MonIdArgs
view_of_mon_id v = record { mon_name = v.mon_name.bytes.now; my_id = view_of_my_id v.my_id }

unfoldable pub mon_id : Codec MonIdArgs
mon_id =
    fields
    (λ p. record { mon_name = p.0; my_id = p.1 })
    (λ v. (v.mon_name, v.my_id))
    (name & my_id)
    (λ _. refl) (λ _. refl)

-- ---- mon

pub record MonArgs : Type 0 where
  pub mon_name : List ℕ
  pub my_id : MyId
  pub private_bytes : List ℕ

abbrev pub view_of_mon : mon_declared.Mon → MonArgs
view_of_mon v = record { mon_name = v.mon_name.bytes.now; my_id = view_of_my_id v.my_id; private_bytes = v.private_bytes.bytes.now }

unfoldable pub mon : Codec MonArgs
mon =
    fields
    (λ p. record { mon_name = p.0; my_id = p.1.0; private_bytes = p.1.1 })
    (λ v. (v.mon_name, (v.my_id, v.private_bytes)))
    (name & my_id & padded_codec 16)
    (λ _. refl) (λ _. refl)

-- ---- stat_chge

pub record StatChgeArgs : Type 0 where
  pub mon_name : List ℕ
  pub state : ℤ

abbrev pub view_of_stat_chge : stat_chge_declared.StatChge → StatChgeArgs
view_of_stat_chge v = record { mon_name = v.mon_name.bytes.now; state = v.state }

unfoldable pub stat_chge : Codec StatChgeArgs
stat_chge =
    fields
    (λ p. record { mon_name = p.0; state = p.1 })
    (λ v. (v.mon_name, v.state))
    (name & signed)
    (λ _. refl) (λ _. refl)

-- ---- status

pub record StatusArgs : Type 0 where
  pub mon_name : List ℕ
  pub state : ℤ
  pub private_bytes : List ℕ

abbrev pub view_of_status : status_declared.Status → StatusArgs
view_of_status v = record { mon_name = v.mon_name.bytes.now; state = v.state; private_bytes = v.private_bytes.bytes.now }

unfoldable pub status : Codec StatusArgs
status =
    fields
    (λ p. record { mon_name = p.0; state = p.1.0; private_bytes = p.1.1 })
    (λ v. (v.mon_name, (v.state, v.private_bytes)))
    (name & signed & padded_codec 16)
    (λ _. refl) (λ _. refl)
