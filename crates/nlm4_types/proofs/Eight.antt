-- The eight bytes of a number, as they are written.
use Rattle.std.proofs.Common.{◌≡◌, ℕ, ◌/◌, ◌%◌, ◌^◌, arith}
use Rattle.std.specs.Int.{w64, to_be_bytes}
use Rattle.definitions.specs.Bytes.{eight_bytes}

pub eight_bytes_written : (n : ℕ) → eight_bytes n ≡ to_be_bytes w64 n
eight_bytes_written n =
    let one : n / 256 % 256 ≡ n / 256 ^ 1 % 256 = omega arith in
    let two : n / 256 / 256 % 256 ≡ n / 256 ^ 2 % 256 = omega arith in
    let three : n / 256 / 256 / 256 % 256 ≡ n / 256 ^ 3 % 256 = omega arith in
    let four : n / 256 / 256 / 256 / 256 % 256 ≡ n / 256 ^ 4 % 256 = omega arith in
    let five : n / 256 / 256 / 256 / 256 / 256 % 256 ≡ n / 256 ^ 5 % 256 = omega arith in
    let six : n / 256 / 256 / 256 / 256 / 256 / 256 % 256 ≡ n / 256 ^ 6 % 256 = omega arith in
    let seven : n / 256 / 256 / 256 / 256 / 256 / 256 / 256 % 256 ≡ n / 256 ^ 7 % 256 = omega arith in
    cc
