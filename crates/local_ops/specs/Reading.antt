-- How a line is read, field by field.
use Rattle.std.specs.Prelude.{◌≡◌, ℕ, ◌^◌, cond, ◌&&◌, eqb, leb, ltb, List, [], ◌∷◌, length, codes, Option, Some, None, Result, Ok, Err, bytes_eq}
use Rattle.std.specs.Fmt.{decimal}
use Rattle.std.specs.Option.{option_map, option_and_then}
use Rattle.std.specs.Result.{result_ok}
use Rattle.std.specs.Str.Parse.{digits_value}
use Rattle.definitions.specs.Bytes.{Bytes}
use Rattle.definitions.specs.Owners.{Owner, Process, Description}
use Rattle.definitions.specs.Settings.{Mode, Shared, Exclusive}
use Rattle.definitions.specs.Outgoing.{LocalLock}
use Rattle.hex.specs.Hex.{decode_of}
use Rattle.byte_io.specs.Parts.{parts_at}

-- what was returned is what reading gives
abbrev pub Gives : {X Y E : Type 0} → (X → Y) → Result X E → Option Y → Type 0
Gives view (Ok x) read = read ≡ Some (view x)
Gives view (Err e) read = read ≡ None

-- and the fields that are left are the rest
abbrev pub GivesRest : {X Y E : Type 0} → (X → Y) → Result X E → List Bytes → Option (Y × List Bytes) → Type 0
GivesRest view (Ok x) rest read = read ≡ Some (view x, rest)
GivesRest view (Err e) rest read = read ≡ None

-- a line is cut at its spaces
abbrev pub fields_of : Bytes → List Bytes
fields_of line = parts_at 32 line

-- ---- one field

-- a number's one text is the one that it is printed in
abbrev pub number_at : Bytes → ℕ → Option ℕ
number_at text number = cond (ltb number (2 ^ 64) && bytes_eq (decimal number) text) (Some number) None

unfoldable pub number_in : Bytes → Option ℕ
number_in text = number_at text (digits_value 10 text)

abbrev pub process_of : ℕ → Option Owner
process_of pid = cond (ltb pid (2 ^ 31)) (Some (Process pid)) None

abbrev pub owner_of_kind : ℕ → Option ℕ → Option Owner
owner_of_kind kind number = cond (eqb kind 112) (option_and_then process_of number) (cond (eqb kind 100) (option_map Description number) None)

unfoldable pub owner_in : Bytes → Option Owner
owner_in [] = None
owner_in (kind ∷ digits) = owner_of_kind kind (number_in digits)

-- 2 hexadecimal digits or more, and so many at most
unfoldable pub hex_in : ℕ → Bytes → Option Bytes
hex_in most text = cond (leb 2 (length text) && leb (length text) most) (result_ok (decode_of text)) None

abbrev pub runs_of : ℕ → Option ℕ
runs_of runs = cond (leb runs 65536) (Some runs) None

abbrev pub runs_in : Bytes → Option ℕ
runs_in text = option_and_then runs_of (number_in text)

unfoldable pub change_in : Bytes → Option (Option Mode)
change_in text =
    cond (bytes_eq text (codes "r")) (Some (Some Shared))
    (cond (bytes_eq text (codes "w")) (Some (Some Exclusive)) (cond (bytes_eq text (codes "u")) (Some None) None))

-- ---- one field after the other

abbrev pub and_rest : {X : Type 0} → List Bytes → X → X × List Bytes
and_rest rest x = (x, rest)

abbrev pub first_field : {X : Type 0} → (Bytes → Option X) → List Bytes → Option (X × List Bytes)
first_field read [] = None
first_field read (field ∷ rest) = option_map (and_rest rest) (read field)

infixl 10 ◌>>=◌
abbrev pub ◌>>=◌ : {X Y : Type 0} → Option X → (X → Option Y) → Option Y
None >>= next = None
Some x >>= next = next x

-- OWNER FH
unfoldable pub owned_in : List Bytes → Option ((Owner × Bytes) × List Bytes)
owned_in fields = do
  owner ← first_field owner_in fields
  file ← first_field (hex_in 128) owner.1
  Some ((owner.0, file.0), file.1)

-- NAME N
unfoldable pub quota_in : List Bytes → Option ((Bytes × ℕ) × List Bytes)
quota_in fields = do
  name ← first_field (hex_in 480) fields
  runs ← first_field runs_in name.1
  Some ((name.0, runs.0), runs.1)

-- OWNER FH MODE FIRST LEN
unfoldable pub lock_in : List Bytes → Option ((Option Mode × LocalLock) × List Bytes)
lock_in fields = do
  owned ← owned_in fields
  mode ← first_field change_in owned.1
  first ← first_field number_in mode.1
  len ← first_field number_in first.1
  Some ((mode.0, record { owner = owned.0.0; file = owned.0.1; offset = first.0; len = len.0 }), len.1)
