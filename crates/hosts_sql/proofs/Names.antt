-- Two names are one where they compare equal, whichever stands first.
use Rattle.std.proofs.Common.{◌≡◌, sym, ◌∙◌}
use Rattle.std.specs.Ordering.{eq_by_cmp}
use Rattle.std.specs.Cmp.{eq_by_cmp_equiv}
use Rattle.std.specs.Cmp.Lexicographic.{nat_list_cmp_total}
use Rattle.std.proofs.lemmas.Map.Text.{is_eq-slice_cmp}
use Rattle.definitions.specs.Bytes.{Bytes, bytes_cmp, same_bytes}

pub names_agree : (a b : Bytes) → same_bytes a b ≡ eq_by_cmp bytes_cmp a b
names_agree a b = sym (is_eq-slice_cmp a b)

pub names_agree_turned : (a b : Bytes) → same_bytes a b ≡ eq_by_cmp bytes_cmp b a
names_agree_turned a b = names_agree a b ∙ (eq_by_cmp_equiv nat_list_cmp_total).symm a b
