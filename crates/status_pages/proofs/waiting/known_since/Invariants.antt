use Rattle.std.proofs.Common.{◌≡◌, map}
use Rattle.status_pages.specs.Waits.{lock_of}
use Rattle.status_pages.proofs.waiting.known_since.Given as goal

abbrev pub invariant-loop-lock : goal.invariant-loop-lock
invariant-loop-lock l = map lock_of l.all.items ≡ l.yielded
