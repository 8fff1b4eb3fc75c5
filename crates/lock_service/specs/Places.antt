-- The bytes that a call names.
use Rattle.std.specs.Prelude.{◌≡◌, ℕ, None}
use Rattle.definitions.specs.Bytes.{Bytes}
use Rattle.definitions.specs.Nlm.{Lock}
use Rattle.definitions.specs.Phases.{CallKind}
use Rattle.definitions.specs.Ranges.{last_of, range_refusal}
use Rattle.definitions.specs.World.{World}

-- nothing refuses it, and these are the file and the range of its lock
abbrev pub IsPlaceOf : World → CallKind → Lock → Bytes → ℕ → ℕ → Type 0
IsPlaceOf w kind alock file first last =
    (range_refusal w kind alock ≡ None) × (file ≡ alock.fh) × (first ≡ alock.l_offset) × (last ≡ last_of alock.l_offset alock.l_len)
