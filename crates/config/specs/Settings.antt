-- What a setting's text says, and which text it has.
use Rattle.std.specs.Prelude.{ℕ, Bool, false, cond, leb, ◌&&◌, List, length, codes, Option, Some, None, option_map, bytes_eq}
use Rattle.std.specs.Option.{option_and_then, option_map_or}
use Rattle.clap.specs.Words.{Row, Text, first_of}
use Rattle.local_ops.specs.Reading.{number_in}

abbrev pub is_between : ℕ → ℕ → ℕ → Bool
is_between least most n = leb least n && leb n most

-- a number in decimal, without sign or leading zeros
abbrev pub number_between : ℕ → ℕ → Text → Option ℕ
number_between least most text = option_and_then (λ n. cond (is_between least most n) (Some n) None) (number_in text)

abbrev pub port_in : Text → Option ℕ
port_in = number_between 1 65535

abbrev pub seconds_in : Text → Option ℕ
seconds_in = number_between 1 86400

abbrev pub workers_in : Text → Option ℕ
workers_in = number_between 1 16

abbrev pub connections_in : Text → Option ℕ
connections_in = number_between 1 4096

abbrev pub is_name : Text → Bool
is_name text = is_between 1 1024 (length text)

abbrev pub name_in : Text → Option Text
name_in text = cond (is_name text) (Some text) None

-- ---- of the options that a parse found, which have their defaults where the words don't give them

-- a setting by its option
abbrev pub setting : {X : Type 0} → (Text → Option X) → Text → List Row → Option X
setting read id rows = option_and_then read (first_of id rows)

-- a setting by its option, which need not be given: nothing is wrong where it isn't
abbrev pub optional_setting : {X : Type 0} → (Text → Option X) → Text → List Row → Option (Option X)
optional_setting read id rows = elim (first_of id rows) [ None ↦ Some None | Some text ↦ option_map Some (read text) ]

-- whether an option without value was given
abbrev pub flag_in : Text → List Row → Bool
flag_in id rows = option_map_or (λ text. bytes_eq text (codes "true")) (first_of id rows) false
