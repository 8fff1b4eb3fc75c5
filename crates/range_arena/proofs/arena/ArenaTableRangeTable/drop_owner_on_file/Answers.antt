use Rattle.std.proofs.Common.{◌≡◌, ◌∙◌, ◌&&◌, ◌==◌, not, ap}
use Rattle.std.specs.List.{filter}
use Rattle.range_table.specs.File.{same_file}
use Rattle.range_table.specs.Runs.{is_of}
use Rattle.range_table.specs.declared.run.Setting.{Setting}
use Rattle.range_table.proofs.Kept.{KeepSettings-filter}
use Rattle.range_arena.proofs.arena.ArenaTableRangeTable.drop_owner_on_file.Goals as goal

pub invariant_of-self : goal.invariant_of-self
invariant_of-self c =
    let e : c.drop_owner_on_file.new.self.list ≡ filter (λ r. not (is_of r c.args.file.now c.args.owner)) c.self.inside.runs.list = c.drop_owner_on_file.ensures ∙ ap (λ (s : Setting). filter (λ r. not (is_of r s.file s.owner)) c.self.inside.runs.list) c.new-range.ensures in
    rw (e, c.after-self-inside.ensures) (KeepSettings-filter c.self.inside.runs.list c.self.inside.history.items c.self.invariant (λ f o. same_file f c.args.file.now && (o == c.args.owner)))
