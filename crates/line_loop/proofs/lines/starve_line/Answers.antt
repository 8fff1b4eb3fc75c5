use Rattle.std.proofs.Common.{◌∷◌, [], refl, sym, subst}
use Rattle.std.specs.Prelude.{None}
use Rattle.std.proofs.lemmas.List.{append-nil}
use Rattle.definitions.specs.Bytes.{Bytes}
use Rattle.line_loop.specs.Lines.{Takes, kept_prefix, trace}
use Rattle.line_loop.proofs.LineLemmas.{line-said, line-answered}
use Rattle.line_loop.proofs.lines.starve_line.Goals as goal

pub returns : goal.returns
returns g c =
    let s = c.starve-reply.ensures in
    let told = g.A.Answers.told c.args.line_handler.now in
    let answered = line-answered c.finish.result c.tell-told.result c.args.connection (kept_prefix c.args.part.now) _ _ _ told told (None, s.said, sym (append-nil told)) c.tell-told.ensures c.finish.ensures in
    subst (λ (l : Bytes). Takes c.finish.result c.args.connection c.args.part.now (10 ∷ []) l (trace (g.O.Write.contents c.args.output.now) told) (trace (g.O.Write.contents c.tell-told.new.output) told)) (sym s.next)
    (line-said c.finish.result c.args.connection c.args.part.now (kept_prefix c.args.part.now) _ _ s.no_feed refl answered)
