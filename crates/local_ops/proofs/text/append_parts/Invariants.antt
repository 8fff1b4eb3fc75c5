use Rattle.std.proofs.Common.{◌≡◌, ◌≤◌, ◌++◌, length, take}
use Rattle.std.specs.List.{flat_map}
use Rattle.local_ops.proofs.text.append_parts.Given as goal

abbrev pub invariant-loop-part : goal.invariant-loop-part
invariant-loop-part l = record {
  appended : l.f ≡ l.initial.f ++ flat_map (λ part. part.now) (take l.part-index l.parts);
  started : l.start ≡ length l.initial.f;
  fits : length l.f ≤ 4096;
}
