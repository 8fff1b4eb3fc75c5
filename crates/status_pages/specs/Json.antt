-- Rows as JSON (RFC 8259). Bytes stand under two keys: as text where they are UTF-8, else null; and in hexadecimal.
use Rattle.std.specs.Prelude.{◌≡◌, ◌⊎◌, ℕ, Bool, cond, nat_lt, List, length, codes, ℤ, IsUtf8}
use Rattle.hex.specs.Hex.{encode_lower}
use Rattle.serde_json.specs.Data.{Data, null, number, unsigned, string, array, Members, put}
use Rattle.serde_json.specs.Find.{of_integer}
use Rattle.serde_json.specs.View.{items_view}
use Rattle.serde_json.specs.Written.{IsInOrder}
use Rattle.serde_json.specs.declared.value.Value.{Value}
use Rattle.status_pages.specs.declared.rows.LockRow.{LockRow}

abbrev pub Text : Type 0
Text = List ℕ

-- the text of bytes, if they are text
abbrev pub IsTextOf : Text → Data → Type 0
IsTextOf bytes d = (IsUtf8 bytes × (d ≡ string bytes)) ⊎ ((IsUtf8 bytes → ⊥) × (d ≡ null))

abbrev pub hex_data : Text → Data
hex_data bytes = string (encode_lower bytes)

abbrev pub count_data : ℕ → Data
count_data n = number (unsigned n)

-- bytes under both keys
abbrev pub HasBytes : Text → Text → Text → Members → Members → Type 0
HasBytes key hex_key bytes old new = (text : Data) × IsTextOf bytes text × (new ≡ put hex_key (hex_data bytes) (put key text old))

abbrev pub mode_text : Bool → Text
mode_text is_exclusive = cond is_exclusive (codes "write") (codes "read")

-- the last byte of a lock, or null to the end of the file
abbrev pub last_data : ℕ → Data
last_data last = cond (nat_lt last 0x7fff_ffff_ffff_ffff) (count_data last) null

abbrev pub range_members : LockRow → Members → Members
range_members row old =
    put (codes "last") (last_data row.last)
    (put (codes "first") (count_data row.first)
    (put (codes "mode") (string (mode_text row.is_exclusive))
    (put (codes "file") (hex_data row.file.items) old)))

-- what is shown of an owner of this machine
abbrev pub local_members : Text → ℕ → Members → Members
local_members kind n old =
    put (codes "number") (count_data n)
    (put (codes "oh_hex") null
    (put (codes "oh") null
    (put (codes "svid") null
    (put (codes "host_hex") null
    (put (codes "host") null
    (put (codes "kind") (string kind) old))))))

-- what is shown of a host's owner beside its bytes
abbrev pub svid_members : ℤ → Members → Members
svid_members svid old =
    put (codes "number") null (put (codes "svid") (number (of_integer svid)) (put (codes "kind") (string (codes "host")) old))

-- its name and its owner handle
abbrev pub HasNames : Text → Text → Members → Members → Type 0
HasNames name oh old new =
    (named : Members) × HasBytes (codes "host") (codes "host_hex") name old named × HasBytes (codes "oh") (codes "oh_hex") oh named new

-- the text of an array of these values: it has each of them once, in order, as JSON
abbrev pub IsArrayText : List Value → Text → Type 0
IsArrayText values text = IsInOrder text (array (items_view values))

-- the text of an array of so many values
abbrev pub IsArrayOf : ℕ → Text → Type 0
IsArrayOf count text = (values : List Value) × (length values ≡ count) × IsArrayText values text
