-- The arguments and the result of SHARE and UNSHARE (XNFS; RFC 1813, appendix II).
use Rattle.std.specs.Prelude.{refl}
use Rattle.xdr_core.specs.Codec.{Codec}
use Rattle.xdr_core.specs.Formats.{◌&◌, fields, signed, flag}
use Rattle.definitions.specs.Nlm.{ShareArgs, ShareRes}
use Rattle.nlm4_types.specs.declared.shares.ShareArgs as args_declared
use Rattle.nlm4_types.specs.declared.shares.ShareRes as res_declared
use Rattle.nlm4_types.specs.Stat.{view_of_stat, stat}
use Rattle.nlm4_types.specs.Access.{view_of_access, access}
use Rattle.nlm4_types.specs.Lock.{netobj, name}

abbrev pub view_of_shareargs : args_declared.ShareArgs → ShareArgs
view_of_shareargs v = record {
  cookie = v.cookie.bytes.now;
  caller_name = v.caller_name.bytes.now;
  fh = v.fh.bytes.now;
  oh = v.oh.bytes.now;
  mode = view_of_access v.mode;
  access = view_of_access v.access;
  reclaim = v.reclaim;
}

unfoldable pub shareargs : Codec ShareArgs
shareargs =
    fields
    (λ p. record { cookie = p.0; caller_name = p.1.0; fh = p.1.1.0; oh = p.1.1.1.0; mode = p.1.1.1.1.0; access = p.1.1.1.1.1.0; reclaim = p.1.1.1.1.1.1 })
    (λ v. (v.cookie, (v.caller_name, (v.fh, (v.oh, (v.mode, (v.access, v.reclaim)))))))
    (netobj & name & netobj & netobj & access & access & flag)
    (λ _. refl) (λ _. refl)

abbrev pub view_of_shareres : res_declared.ShareRes → ShareRes
view_of_shareres v = record { cookie = v.cookie.bytes.now; stat = view_of_stat v.stat; sequence = v.sequence }

unfoldable pub shareres : Codec ShareRes
shareres =
    fields
    (λ p. record { cookie = p.0; stat = p.1.0; sequence = p.1.1 })
    (λ v. (v.cookie, (v.stat, v.sequence)))
    (netobj & stat & signed)
    (λ _. refl) (λ _. refl)
