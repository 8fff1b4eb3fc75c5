use Rattle.std.proofs.Common.{◌≡◌, [], arith, rules}
use Rattle.std.specs.Prelude.{Result, Ok, Err, IsOk, is_err, true}
use Rattle.local_ops.proofs.Parts.{length-parts-upto, fits_so_far, parts_are_all}
use Rattle.local_ops.proofs.text.append_parts.Goals as goal

ok_not_err : {T E : Type 0} (r : Result T E) → is_err r ≡ true → IsOk r → ⊥
ok_not_err (Ok x) e ok = absurd cc
ok_not_err (Err x) e ok = absurd cc

pub returns-then-is_err-clause-room : goal.returns-then-is_err-clause-room
returns-then-is_err-clause-room c =
    let i = c.loop-part.part-index in
    let upto = length-parts-upto (λ part. part.now) c.args.parts.now i (record { ref_ptr = (0, 0); now = [] }) c.loop-part-test.true in (
      λ e. absurd cc,
      λ fits. absurd (ok_not_err c.append.result (search rules) (c.append.ensures.room.1 (fits_so_far c.args.f.now _ _ _ _ c.loop-part.invariant.appended upto fits))),
    )

pub returns-clause-room : goal.returns-clause-room
returns-clause-room c =
    let whole = parts_are_all (λ part. part.now) c.args.f.now c.loop-part.f c.args.parts.now c.loop-part.part-index c.loop-part.invariant.appended c.loop-part-test.false in
    (λ e. omega (arith, whole, c.loop-part.invariant.fits), λ fits. search rules)
