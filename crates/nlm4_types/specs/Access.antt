-- What a share does or denies, and its words (XNFS, fsh_access and fsh_mode).
use Rattle.std.specs.Prelude.{ℕ, ◌+◌, true, false, cond, List, [], ◌∷◌, refl}
use Rattle.xdr_core.specs.Codec.{Codec}
use Rattle.xdr_core.specs.Formats.{enumeration}
use Rattle.definitions.specs.Shares.{Access, no_access, read_only, write_only, read_and_write}
use Rattle.nlm4_types.specs.declared.access.Access as declared
use Rattle.nlm4_types.specs.declared.access.Access.TheVariants.{None, Read, Write, Both}

abbrev pub view_of_access : declared.Access → Access
view_of_access None = no_access
view_of_access Read = read_only
view_of_access Write = write_only
view_of_access Both = read_and_write

-- reading counts 1 and writing 2
abbrev pub number_of_access : Access → ℕ
number_of_access a = cond a.read 1 0 + cond a.write 2 0

abbrev pub accesses : List Access
accesses = no_access ∷ read_only ∷ write_only ∷ read_and_write ∷ []

unfoldable pub access : Codec Access
access = enumeration accesses read_and_write number_of_access refl
