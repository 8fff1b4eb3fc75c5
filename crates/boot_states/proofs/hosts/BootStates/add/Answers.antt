use Rattle.std.proofs.Common.{rules, ◌≡◌, None}
use Rattle.boot_states.specs.Hosts.{host_of}
use Rattle.boot_states.specs.Views.{view_of_entries}
use Rattle.boot_states.proofs.Entries.{added}
use Rattle.boot_states.proofs.hosts.BootStates.add.Goals as goal

pub returns-clause-ok : goal.returns-clause-ok
returns-clause-ok c =
    let missing : host_of c.in_ok-name.name.items (view_of_entries c.self.inside.cache.entries) ≡ None = search rules in
    let new = added c.self.inside.cache c.in_ok-name.name c.args.host c.self.invariant missing in
    search rules
