-- Which record is answered for a job.
use Rattle.std.specs.Prelude.{◌≡◌, Option, Some, None}
use Rattle.definitions.specs.Bytes.{Bytes}

-- the record that a gate gives in place of the job's own, or the job's own where it gives none
abbrev pub answered_record : Option Bytes → Bytes → Bytes
answered_record None asked = asked
answered_record (Some instead) asked = instead

-- the record that is answered is the job's own
abbrev pub IsOwn : Bytes → Bytes → Type 0
IsOwn asked answered = answered ≡ asked
