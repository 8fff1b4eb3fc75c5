use Rattle.server_tests.proofs.threads.rounds.audited.Given as goal

abbrev pub ghosts-play-P-Place : goal.ghosts-play-P-Place
ghosts-play-P-Place g a = record { table = a.opened.slip.table_id; key = a.opened.slip.me.0.of }

abbrev pub ghosts-play-L-Ledger : goal.ghosts-play-L-Ledger
ghosts-play-L-Ledger g a = record { name = a.blank.name; parts = a.blank.parts }
