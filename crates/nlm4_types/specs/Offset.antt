-- Offsets and lengths: 8 bytes in version 4 (RFC 1813, appendix II), 4 bytes in versions 1 and 3 (XNFS).
use Rattle.std.specs.Prelude.{ℕ, Bool, true, false, min}
use Rattle.xdr_core.specs.Codec.{Codec}
use Rattle.xdr_core.specs.Formats.{word, hyper}
use Rattle.definitions.specs.Shown.{narrow_top}

unfoldable pub offset : Bool → Codec ℕ
offset true = hyper
offset false = word

-- the number, or the greatest one of 4 bytes where it passes them
abbrev pub clamped_number : Bool → ℕ → ℕ
clamped_number true n = n
clamped_number false n = min n narrow_top
