-- The formats of a mapping and of a port (RFC 1833, section 3).
use Rattle.std.specs.Prelude.{ℕ, ◌&&◌, nat_le, refl}
use Rattle.xdr_core.specs.declared.error.XdrError.TheVariants.{BadEnum}
use Rattle.xdr_core.specs.Codec.{Codec}
use Rattle.xdr_core.specs.Laws.{bad_enum-named}
use Rattle.xdr_core.specs.Formats.{◌&◌, fields, narrowed_codec, word}
use Rattle.port_mapper.specs.declared.mapping.Mapping.{Mapping}

unfoldable pub mapping : Codec Mapping
mapping =
    fields
    (λ p. record { prog = p.0; vers = p.1.0; prot = p.1.1.0; port = p.1.1.1 })
    (λ v. (v.prog, (v.vers, (v.prot, v.port))))
    (word & word & word & word)
    (λ _. refl) (λ _. refl)

-- a word of 1 to 65,535; 0 says that no port is set
unfoldable pub port : Codec ℕ
port = narrowed_codec word (λ n. nat_le 1 n && nat_le n 65535) BadEnum bad_enum-named
