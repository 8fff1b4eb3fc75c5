-- Who waits for whom.
use Rattle.std.specs.Prelude.{◌≡◌, ◌≤◌, Bool, true, ◌||◌}
use Rattle.status_pages.specs.declared.rows.LockRow.{LockRow}
use Rattle.status_pages.specs.declared.rows.Waiting.{Waiting}

-- two locks of bytes of one file that overlap, one of them at least for writing
pub record Overlap (a b : LockRow) : Type 0 where
  pub file : a.file.items ≡ b.file.items
  pub low : a.first ≤ b.last
  pub high : b.first ≤ a.last
  pub modes : (a.is_exclusive || b.is_exclusive) ≡ true

abbrev pub lock_of : Waiting → LockRow
lock_of w = w.lock
