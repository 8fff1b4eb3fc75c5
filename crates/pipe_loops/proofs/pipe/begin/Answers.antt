use Rattle.std.proofs.Common.{[], ◌∷◌}
use Rattle.std.specs.Prelude.{Err}
use Rattle.std.proofs.lemmas.Result.{err_from_is_err_and}
use Rattle.kept_replies.specs.declared.key.TheConstants.Peer.{PIPE}
use Rattle.daemon_core.specs.declared.event.Event.TheVariants.{Connect, GraceOver, Restart}
use Rattle.pipe_loops.proofs.Beginnings.{anew-refused, refused, passed}
use Rattle.pipe_loops.proofs.pipe.begin.Goals as goal

pub returns-in_err-pass : goal.returns-in_err-pass
returns-in_err-pass g c =
    let p = err_from_is_err_and c.from_residual.result c.from_residual.ensures.1 in
    rw (p.1, p.2) (anew-refused c.args.is_grace c.args.daemon.now _ c.in_err-pass.field-0.0 c.in_err-pass.ensures)

pub returns-then-is_grace : goal.returns-then-is_grace
returns-then-is_grace g c = rw c.if-is_grace.true (passed Restart (Connect 0 PIPE ∷ []) c.args.daemon.now c.pass.new.daemon c.connect.new.daemon c.connect.result c.in_ok-pass.ensures c.connect.ensures)

pub returns-in_err-pass-2 : goal.returns-in_err-pass-2
returns-in_err-pass-2 g c =
    let p = err_from_is_err_and c.from_residual-in_err-pass-2.result c.from_residual-in_err-pass-2.ensures.1 in
    rw (p.1, p.2, c.if-is_grace.false)
    (passed Restart (GraceOver ∷ Connect 0 PIPE ∷ []) c.args.daemon.now c.pass.new.daemon c.pass-2.new.daemon (Err c.in_err-pass-2.field-0.0) c.in_ok-pass.ensures (refused GraceOver (Connect 0 PIPE ∷ []) tt c.pass.new.daemon c.pass-2.new.daemon c.in_err-pass-2.field-0.0 c.in_err-pass-2.ensures))

pub returns : goal.returns
returns g c =
    rw c.if-is_grace.false
    (passed Restart (GraceOver ∷ Connect 0 PIPE ∷ []) c.args.daemon.now c.pass.new.daemon c.connect-2.new.daemon c.connect-2.result c.in_ok-pass.ensures (passed GraceOver (Connect 0 PIPE ∷ []) c.pass.new.daemon c.pass-2.new.daemon c.connect-2.new.daemon c.connect-2.result c.in_ok-pass-2.ensures c.connect-2.ensures))
