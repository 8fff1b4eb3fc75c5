use Rattle.workers.proofs.ghost_trace.GhostTrace.after.Given as goal

abbrev pub ghost-after : goal.ghost-after
ghost-after g a = g.entries
