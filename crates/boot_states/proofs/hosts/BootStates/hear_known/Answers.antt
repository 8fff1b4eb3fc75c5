use Rattle.std.proofs.Common.{rules, ap, sym, ◌∙◌}
use Rattle.std.specs.Option.{option_copied_mut}
use Rattle.boot_states.specs.Reports.{finding_of_state}
use Rattle.boot_states.specs.Hosts.{reports_of, with_report}
use Rattle.boot_states.proofs.Entries.{known_reports, known_with, unknown}
use Rattle.boot_states.proofs.hosts.BootStates.hear_known.Goals as goal

pub returns-in_err-host-clause-none : goal.returns-in_err-host-clause-none
returns-in_err-host-clause-none c =
    let missing = unknown c.args.name.now c.self.inside.cache.entries (sym c.get_mut.ensures.value ∙ ap option_copied_mut c.in_err-host.was) in
    search rules

pub returns-clause-some : goal.returns-clause-some
returns-clause-some c =
    let found = sym c.get_mut.ensures.value ∙ ap option_copied_mut c.in_ok-host.was in
    let reports = ap (reports_of c.args.name.now) (sym c.self.view_is) ∙ known_reports c.args.name.now c.self.inside.cache.entries c.in_ok-host.host.now found in (
      c.hear.ensures.found ∙ (λ i. finding_of_state (sym reports i) c.args.report),
      known_with c.args.name.now c.self.inside.cache.entries c.in_ok-host.host.now c.hear.new.self c.args.report found c.hear.ensures.heard
          ∙ ap (with_report c.args.name.now c.args.report) c.self.view_is,
    )
