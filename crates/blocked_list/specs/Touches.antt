-- Which bytes of a file a change touches.
use Rattle.std.specs.Prelude.{◌≡◌, ◌≤◌, ℕ, Bool, cond, leb, ◌&&◌}
use Rattle.definitions.specs.Bytes.{Bytes, same_bytes}
use Rattle.definitions.specs.Settings.{Request}
use Rattle.blocked_list.specs.declared.touched.Touched.{Touched}

abbrev pub lesser : ℕ → ℕ → ℕ
lesser a b = cond (leb a b) a b

abbrev pub greater : ℕ → ℕ → ℕ
greater a b = cond (leb a b) b a

-- a byte from first to last is one of them
abbrev pub meets : Touched → ℕ → ℕ → Bool
meets t first last = leb first t.last && leb t.first last

-- those of both, and what lies between them, of a's file
abbrev pub joined : Touched → Touched → Touched
joined a b = record { file = a.file; first = lesser a.first b.first; last = greater a.last b.last }

-- the request is for one of them
abbrev pub touches : Touched → Request → Bool
touches t r = meets t r.first r.last && same_bytes r.file t.file

-- all bytes of the file from one to another are among them
pub record Spans (t : Touched) (of : Bytes) (one another : ℕ) : Type 0 where
  pub file : t.file ≡ of
  pub from : t.first ≤ one
  pub upto : another ≤ t.last
