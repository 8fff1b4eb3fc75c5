use Rattle.std.proofs.Common.{◌≡◌, [], Option, subst}
use Rattle.std.specs.Borrow.{Bor}
use Rattle.definitions.specs.Bytes.{Bytes}
use Rattle.byte_io.specs.Parts.{parts_left}
use Rattle.byte_io.proofs.Cuts.{some_part}
use Rattle.local_ops.proofs.fields.Fields.end.Goals as goal

pub returns-in-Some : goal.returns-in-Some
returns-in-Some c =
    let P : Option (Bor Bytes) → Type 0 = λ rest. parts_left 32 rest ≡ [] in
    rw (← c.self.view_is) (λ e. absurd cc, λ e. absurd (some_part 32 c.in-Some.field-0.now (subst P c.in-Some.is e)))
