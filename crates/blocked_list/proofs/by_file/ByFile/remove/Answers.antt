use Rattle.std.proofs.Common.{rules, not, eqb, ap, ◌∙◌, ◌≡◌, ℕ, map, length, drop, arith}
use Rattle.std.proofs.lemmas.Fn.{filter_same}
use Rattle.std.proofs.lemmas.List.{length-map}
use Rattle.std.specs.List.{filter}
use Rattle.blocked_list.specs.ByFile.{moved_up, without_place}
use Rattle.blocked_list.proofs.Places.{whole_written}
use Rattle.blocked_list.proofs.by_file.ByFile.remove.Goals as goal

pub returns : goal.returns
returns c =
    let ps = c.self.inside.places.items in
    let p = c.args.place in
    let t = λ (q : ℕ). not (eqb q c.args.place) in
    let kept : c.retain.new.self.items ≡ filter t ps = filter_same _ t _ (λ x b f' k. search rules) _ _ c.retain.ensures.filtered in
    let new : c.move_up.new.places ≡ map (moved_up c.args.place) c.retain.new.self.items = c.move_up.ensures ∙ ap (map (moved_up c.args.place)) c.as_mut_slice.ensures.value in
    let long : length c.move_up.new.places ≡ c.retain.new.self.len = (let a = ap length new in let b = length-map c.retain.new.self.items (moved_up c.args.place) in let ok = c.retain.new.self.ok.0 in omega arith) in
    whole_written c.retain.new.self.len c.move_up.new.places (drop (length c.move_up.new.places) c.retain.new.self.items) long
    ∙ new ∙ ap (map (moved_up c.args.place)) kept ∙ ap (without_place c.args.place) c.self.view_is
