-- The arguments of FREE_ALL (RFC 1813, appendix II, nlm4_notify).
use Rattle.std.specs.Prelude.{ℕ, ℤ, List, refl}
use Rattle.xdr_core.specs.Codec.{Codec}
use Rattle.xdr_core.specs.Formats.{◌&◌, fields, signed, opaque}
use Rattle.nlm4_types.specs.declared.notify.Notify.{Notify}

pub record NotifyArgs : Type 0 where
  pub name : List ℕ
  pub state : ℤ

abbrev pub view_of_notify : Notify → NotifyArgs
view_of_notify v = record { name = v.name.bytes.now; state = v.state }

unfoldable pub notify : Codec NotifyArgs
notify =
    fields
    (λ p. record { name = p.0; state = p.1 })
    (λ v. (v.name, v.state))
    (opaque 1025 & signed)
    (λ _. refl) (λ _. refl)
