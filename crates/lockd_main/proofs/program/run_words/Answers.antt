use Rattle.std.proofs.Common.{map, string_bytes}
use Rattle.config.specs.Asked.{Asks}
use Rattle.lockd_main.proofs.Ended.{asked_ends, asked_runs}
use Rattle.lockd_main.proofs.program.run_words.Goals as goal

pub returns-clause-runs : goal.returns-clause-runs
returns-clause-runs g c =
    asked_runs (Asks (map (λ w. string_bytes w) c.args.words.now)) _ _ _ c.config.result c.config.ensures c.run_asked.ensures.runs c.run_asked.ensures.refused

pub returns-clause-asked : goal.returns-clause-asked
returns-clause-asked g c =
    asked_ends (Asks (map (λ w. string_bytes w) c.args.words.now)) _ _ _ c.config.result c.config.ensures c.run_asked.ensures.runs c.run_asked.ensures.refused
