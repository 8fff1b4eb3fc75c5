-- A lock that is asked for (RFC 1813, appendix II, nlm4_lock; XNFS, nlm_lock).
use Rattle.std.specs.Prelude.{ℕ, Bool, List, refl}
use Rattle.xdr_core.specs.Codec.{Codec}
use Rattle.xdr_core.specs.Formats.{◌&◌, fields, signed, opaque}
use Rattle.definitions.specs.Nlm.{Lock}
use Rattle.nlm4_types.specs.declared.lock.Lock as declared
use Rattle.nlm4_types.specs.Offset.{offset, clamped_number}

abbrev pub netobj : Codec (List ℕ)
netobj = opaque 1024

abbrev pub name : Codec (List ℕ)
name = opaque 1024

abbrev pub view_of_lock : {n : ℕ} → declared.Lock n → Lock
view_of_lock v = record {
  caller_name = v.caller_name.bytes.now;
  fh = v.fh.bytes.now;
  oh = v.oh.bytes.now;
  svid = v.svid;
  l_offset = v.l_offset;
  l_len = v.l_len;
}

-- the lock with an offset and a length that have a spelling
abbrev pub clamped_lock : Bool → Lock → Lock
clamped_lock wide v = record v { l_offset = clamped_number wide v.l_offset; l_len = clamped_number wide v.l_len }

unfoldable pub lock : Bool → Codec Lock
lock wide =
    fields
    (λ p. record { caller_name = p.0; fh = p.1.0; oh = p.1.1.0; svid = p.1.1.1.0; l_offset = p.1.1.1.1.0; l_len = p.1.1.1.1.1 })
    (λ v. (v.caller_name, (v.fh, (v.oh, (v.svid, (v.l_offset, v.l_len))))))
    (name & netobj & netobj & signed & offset wide & offset wide)
    (λ _. refl) (λ _. refl)
