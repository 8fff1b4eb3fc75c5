use Rattle.std.proofs.Common.{◌≢◌, ℕ, Some}
use Rattle.std.proofs.lemmas.Option.{none-some}
use Rattle.definitions.specs.Settings.{without_owner_on}
use Rattle.owner_ids.specs.Views.{view_of_owner}
use Rattle.owner_ids.specs.Names.{names_of_owners}
use Rattle.held_locks.proofs.Ties.{tied_dropped, tied_undropped}
use Rattle.held_locks.proofs.HostCounts.{hosts_changed, hosts_kept, drop_alike}
use Rattle.held_locks.proofs.locks.Locks.drop_owner_on_file.Goals as goal
use Rattle.held_locks.proofs.locks.Locks.drop_owner_on_file.Goals.{in-Some, in_default}

pub invariant_of-self : goal.invariant_of-self
invariant_of-self g c =
    let ns = g.R.RangeTable.settings c.self.inside.table in
    let counts = c.self.inside.counts.items in
    let names = c.self.inside.owners in
    let settings = c.self.inside.settings.items in
    let file = c.args.file.now in
    let x = view_of_owner c.args.owner.now in
    let next = without_owner_on file x settings in
    let was = c.self.invariant.tied in
    elim c.match-number.branch [
      | in-Some w ↦
          let others = g.R.RangeTable.settings w.drop_owner_on_file.new.table in
          let left = w.drop_owner_on_file.new.counts.items in
          let done = w.drop_owner_on_file.ensures in
          let tied = tied_dropped ns others counts left names settings w.in-Some.number x file was w.in-Some.ensures.found done.settings done.counted done.places in
          rw (c.after-self-inside.ensures, w.self-inside-is)
          (record { tied = tied; by_host = hosts_changed settings next x (drop_alike file x settings) ns others counts left names c.self.inside.hosts w.drop_owner_on_file.new.hosts was tied c.self.invariant.by_host done.hosts })
      | in_default w ↦
          let fresh : (k : ℕ) → names_of_owners names k ≢ Some x = λ k e. none-some k (w.in_default.ensures.known k e) in
          let tied = tied_undropped ns counts names settings x file was fresh in
          rw (c.after-self-inside.ensures, w.self-inside-is)
          (record { tied = tied; by_host = hosts_kept ns names settings next c.self.inside.hosts was.stands tied.stands c.self.invariant.by_host })
    ]
