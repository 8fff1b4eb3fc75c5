-- How much reads take at most.
use Rattle.std.proofs.Common.{ℕ, ◌+◌, ◌≤◌, List, length, Option, Some, None, ap, arith, length-append}
use Rattle.std.specs.Io.KnownBytes.{Keeps, Consumes}
use Rattle.byte_io.specs.Reads.{TakesAtMost}

pub taken-kept : (old new : Option (List ℕ)) (most : ℕ) → Keeps old new → TakesAtMost most old new
taken-kept None new most k = tt
taken-kept (Some x) None most k = k
taken-kept (Some x) (Some y) most k = omega (arith, ap length k)

pub taken-bytes : (old new : Option (List ℕ)) (bytes : List ℕ) (most : ℕ) → Consumes old new bytes → length bytes ≤ most → TakesAtMost most old new
taken-bytes None new bytes most c h = tt
taken-bytes (Some x) None bytes most c h = c
taken-bytes (Some x) (Some y) bytes most c h = omega (arith, ap length c, length-append bytes y, h)

-- and then so many more
pub taken-more : (old mid new : Option (List ℕ)) (a b : ℕ) → TakesAtMost a old mid → TakesAtMost b mid new → TakesAtMost (a + b) old new
taken-more None mid new a b h k = tt
taken-more (Some x) None new a b h k = absurd h
taken-more (Some x) (Some y) None a b h k = k
taken-more (Some x) (Some y) (Some z) a b h k = omega (arith, h, k)

pub taken-within : (old new : Option (List ℕ)) (a b : ℕ) → TakesAtMost a old new → a ≤ b → TakesAtMost b old new
taken-within None new a b h l = tt
taken-within (Some x) None a b h l = h
taken-within (Some x) (Some y) a b h l = omega (arith, l, h)
