-- What those who answered jobs leave behind, gathered.
use Rattle.std.specs.Prelude.{◌≡◌, ℕ, Bool, true, false, cond, List, [], length, flat_map, IsPermutation}
use Rattle.book.specs.Journal.{Journal}
use Rattle.book.specs.Receipts.{Receipt}
use Rattle.journal_audit.specs.Audits.{Agrees}
use Rattle.workers.specs.Answers.{Worker}
use Rattle.workers.specs.Holds.{IsOneHistory}

-- the receipts that a worker leaves: all of them, where it keeps them
abbrev pub left_by : Worker → List Receipt
left_by w = cond w.keeps w.receipts []

abbrev pub left_by_all : List Worker → List Receipt
left_by_all workers = flat_map left_by workers

-- put in order, they are the receipts of the entries of these segments that took a record, each once, and there are so many
pub record Audited (segments : List Journal) (receipts : List Receipt) (calls : ℕ) : Type 0 where
  pub ordered : List Receipt
  pub same : IsPermutation receipts ordered
  pub agrees : Agrees segments ordered
  pub counted : calls ≡ length receipts

-- where the segments were kept they are one history, and were audited
abbrev pub Settles : Bool → List Receipt → ℕ → Type 0
Settles false receipts calls = calls ≡ 0
Settles true receipts calls = (segments : List Journal) × IsOneHistory segments × Audited segments receipts calls
