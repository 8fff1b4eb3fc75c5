use Rattle.server.proofs.serving.serve.Given as goal

abbrev pub ghosts-serve_as-L-Ledger : goal.ghosts-serve_as-L-Ledger
ghosts-serve_as-L-Ledger g a = record { name = a.unnamed.blank.name; parts = a.unnamed.blank.parts }

abbrev pub ghosts-serve_as-P-Place : goal.ghosts-serve_as-P-Place
ghosts-serve_as-P-Place g a = record { table = a.unnamed.opened.slip.table_id; key = a.unnamed.opened.slip.me.0.of }
