-- The results of the calls about a lock (RFC 1813, appendix II; XNFS).
use Rattle.std.specs.Prelude.{ℕ, Bool, List, refl}
use Rattle.std.specs.Option.{option_map}
use Rattle.xdr_core.specs.Codec.{Codec}
use Rattle.xdr_core.specs.Formats.{◌&◌, fields, tagged, signed, flag}
use Rattle.definitions.specs.Nlm.{Stat, Res, Holder, TestRes, is_denial}
use Rattle.nlm4_types.specs.declared.results.Res as res_declared
use Rattle.nlm4_types.specs.declared.results.Holder as holder_declared
use Rattle.nlm4_types.specs.declared.results.TestRes as testres_declared
use Rattle.nlm4_types.specs.Offset.{offset, clamped_number}
use Rattle.nlm4_types.specs.Stat.{view_of_stat, stat}
use Rattle.nlm4_types.specs.Lock.{netobj}

abbrev pub view_of_res : res_declared.Res → Res
view_of_res v = record { cookie = v.cookie.bytes.now; stat = view_of_stat v.stat }

unfoldable pub res : Codec Res
res =
    fields
    (λ p. record { cookie = p.0; stat = p.1 })
    (λ v. (v.cookie, v.stat))
    (netobj & stat)
    (λ _. refl) (λ _. refl)

abbrev pub view_of_holder : {n : ℕ} → holder_declared.Holder n → Holder
view_of_holder v = record { exclusive = v.exclusive; svid = v.svid; oh = v.oh.bytes.now; l_offset = v.l_offset; l_len = v.l_len }

-- the holder with an offset and a length that have a spelling
abbrev pub clamped_holder : Bool → Holder → Holder
clamped_holder wide v = record v { l_offset = clamped_number wide v.l_offset; l_len = clamped_number wide v.l_len }

unfoldable pub holder : Bool → Codec Holder
holder wide =
    fields
    (λ p. record { exclusive = p.0; svid = p.1.0; oh = p.1.1.0; l_offset = p.1.1.1.0; l_len = p.1.1.1.1 })
    (λ v. (v.exclusive, (v.svid, (v.oh, (v.l_offset, v.l_len)))))
    (flag & signed & netobj & offset wide & offset wide)
    (λ _. refl) (λ _. refl)

abbrev pub view_of_testres : {n : ℕ} → testres_declared.TestRes n → TestRes
view_of_testres v = record { cookie = v.cookie.bytes.now; stat = view_of_stat v.stat; holder = option_map view_of_holder v.holder }

abbrev pub clamped_testres : Bool → TestRes → TestRes
clamped_testres wide v = record v { holder = option_map (clamped_holder wide) v.holder }

-- whether a holder follows a cookie and a status
abbrev pub has_holder : List ℕ × Stat → Bool
has_holder p = is_denial p.1

unfoldable pub testres : Bool → Codec TestRes
testres wide =
    fields
    (λ p. record { cookie = p.0.0; stat = p.0.1; holder = p.1 })
    (λ v. ((v.cookie, v.stat), v.holder))
    (tagged (netobj & stat) has_holder (holder wide))
    (λ _. refl) (λ _. refl)
