-- Nanoseconds as seconds.
use Rattle.std.specs.Prelude.{ℕ, ◌+◌, ◌/◌, ◌%◌, List, ◌++◌, codes, decimal, drop}

-- nine digits: those behind the first one of a number of ten
abbrev pub fraction_text : ℕ → List ℕ
fraction_text nanos = drop 1 (decimal (1000000000 + nanos % 1000000000))

abbrev pub seconds_text : ℕ → List ℕ
seconds_text nanos = decimal (nanos / 1000000000) ++ (codes "." ++ fraction_text nanos)
