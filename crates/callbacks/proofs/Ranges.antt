-- What it means that a lock's file handle and range are ones that a file can have.
use Rattle.std.proofs.Common.{◌≡◌, ℕ, ◌<◌, ◌≤◌, false, eqb, ltb, length, arith}
use Rattle.std.proofs.lemmas.Bool.Decides.{nat_tests}
use Rattle.std.proofs.lemmas.Bool.{or_parts}
use Rattle.definitions.specs.Bytes.{Bytes}
use Rattle.definitions.specs.Ranges.{top, last_of, is_stale, is_too_far}

pub handle_some : (fh : Bytes) → is_stale fh ≡ false → 0 < length fh
handle_some fh e =
    let f = (or_parts (eqb (length fh) 0) (ltb 64 (length fh)) e).0 in
    grind (arith, nat_tests, f)

pub handle_few : (fh : Bytes) → is_stale fh ≡ false → length fh ≤ 64
handle_few fh e =
    let f = (or_parts (eqb (length fh) 0) (ltb 64 (length fh)) e).1 in
    grind (arith, nat_tests, f)

pub begins_inside : (offset len : ℕ) → is_too_far offset len ≡ false → offset ≤ top
begins_inside offset len e =
    let f = (or_parts (ltb top offset) (ltb top (last_of offset len)) e).0 in
    grind (arith, nat_tests, f)

pub ends_inside : (offset len : ℕ) → is_too_far offset len ≡ false → last_of offset len ≤ top
ends_inside offset len e =
    let f = (or_parts (ltb top offset) (ltb top (last_of offset len)) e).1 in
    grind (arith, nat_tests, f)
