use Rattle.std.proofs.Common.{refl}
use Rattle.definitions.specs.Hosts.{NotAsked}
use Rattle.callbacks.specs.Meanings.{view_of_local_lock}
use Rattle.definitions.specs.Lines.{get_unless, line_refusal}
use Rattle.definitions.specs.Replies.{GetLock, Close, Table, HostList, SetQuota, Stop, LineOk, LineTable, LineHosts}
use Rattle.definitions.specs.Starts.{runs}
use Rattle.range_table.specs.Modes.{view_of_mode}
use Rattle.definitions.specs.Step.{State}
use Rattle.call_plans.specs.Planned.{view_of_stored}
use Rattle.local_ops.specs.Answers.{view_of_local_answer}
use Rattle.owner_ids.specs.Views.{view_of_owner}
use Rattle.book.proofs.Lines.{done}
use Rattle.book.proofs.state.BookState.asked.Goals as goal

pub returns-in-Close-clause-ok : goal.returns-in-Close-clause-ok
returns-in-Close-clause-ok g c =
    let s : State = record { world = c.self-in-Close.inside.world.world; kept = c.self-in-Close.inside.kept } in
    rw (← c.self-in-Close.view_is, c.in-Close.is)
    (done s (Close (view_of_owner c.in-Close.owner) c.in-Close.file) NotAsked LineOk c.close_file.new.world.world (λ l. refl) c.close_file.ensures.world c.args.connection refl)

pub returns-in-Quota-clause-ok : goal.returns-in-Quota-clause-ok
returns-in-Quota-clause-ok g c =
    let s : State = record { world = c.self-in-Quota.inside.world.world; kept = c.self-in-Quota.inside.kept } in
    rw (← c.self-in-Quota.view_is, c.in-Quota.is)
    (done s (SetQuota c.in-Quota.quota.name c.in-Quota.quota.runs) (view_of_stored c.set_quota.result.1) (view_of_local_answer c.set_quota.result.0) c.set_quota.new.world.world c.set_quota.ensures.reply c.set_quota.ensures.world c.args.connection (c.set_quota.ensures.fits c.self-in-Quota.inside.kept c.args.connection))

pub returns-in-GetLock-clause-ok : goal.returns-in-GetLock-clause-ok
returns-in-GetLock-clause-ok g c =
    let w = c.self.inside.world.world in
    let mode = view_of_mode c.in-GetLock.mode in
    let lock = view_of_local_lock c.in-GetLock.lock in
    let ok = rw (← c.self.view_is) at c.settled.ensures.ok in
    rw (← c.self.view_is, c.in-GetLock.is) (ok c.args.connection (GetLock mode lock) (get_unless w mode lock (line_refusal w lock)) (refl, refl) c.get_lock-told.ensures)

pub returns-in-Table-clause-ok : goal.returns-in-Table-clause-ok
returns-in-Table-clause-ok g c =
    let ok = rw (← c.self-in-Table.view_is) at c.settled-in-Table.ensures.ok in
    rw (← c.self-in-Table.view_is, c.in-Table.is) (ok c.args.connection Table (LineTable (runs c.self-in-Table.inside.world.world.settings)) (refl, refl) c.list_table-told.ensures)

pub returns-in-Hosts-clause-ok : goal.returns-in-Hosts-clause-ok
returns-in-Hosts-clause-ok g c =
    let ok = rw (← c.self-in-Hosts.view_is) at c.settled-in-Hosts.ensures.ok in
    rw (← c.self-in-Hosts.view_is, c.in-Hosts.is) (ok c.args.connection HostList (LineHosts c.self-in-Hosts.inside.world.world.hosts.rows) (refl, refl) c.list_hosts-told.ensures)

pub returns-in-Stop-clause-ok : goal.returns-in-Stop-clause-ok
returns-in-Stop-clause-ok g c = rw c.in-Stop.is (c.settled-in-Stop.ensures.ok c.args.connection Stop LineOk (refl, refl) refl)
