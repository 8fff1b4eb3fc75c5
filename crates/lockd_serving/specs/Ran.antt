-- What the program does that is asked to serve a stream, and how it ends.
use Rattle.std.specs.Prelude.{◌≡◌, ◌≤◌, ◌⊎◌, ℕ, List, [], Option, Some, None, Result, Ok, Err}
use Rattle.definitions.specs.Hosts.{Hosts}
use Rattle.daemon_core.specs.declared.event.Event.{Event}
use Rattle.daemon_core.specs.DaemonState.{DaemonState, opening}
use Rattle.byte_io.specs.declared.pieces.TheConstants.{MOST_READS}
use Rattle.pipe_loops.specs.declared.fault.StreamFault.{StreamFault}
use Rattle.pipe_loops.specs.Pipe.{beginning, PipeEnds}
use Rattle.pipe_loops.specs.Table.{TableEnds}
use Rattle.config.specs.declared.settings.Config.{Config}
use Rattle.config.specs.declared.settings.Config.TheVariants as config
use Rattle.config.specs.declared.settings.StreamConfig.{StreamConfig}
use Rattle.lockd_serving.specs.declared.streams.Output.{Output}
use Rattle.lockd_serving.specs.declared.streams.Output.TheVariants.{Replies, Table}
use Rattle.lockd_serving.specs.declared.streams.Console.{Console}
use Rattle.lockd_serving.specs.declared.work.Work.{Work}
use Rattle.lockd_serving.specs.declared.work.Work.TheVariants.{Stream, Sockets}

-- what a reader has left, and what a writer holds
pub record Stand : Type 0 where
  pub unread : Option (List ℕ)
  pub written : Option (List ℕ)

abbrev pub stand : {I O : Type 0} → (I → Option (List ℕ)) → (O → Option (List ℕ)) → Console I O → Stand
stand remaining contents console = record { unread = remaining console.input; written = contents console.output }

-- how the loop of this output ends
abbrev pub LoopEnds : Output → List Event → DaemonState → ℕ → Result (Unit {0}) StreamFault → Stand → Stand → Type 0
LoopEnds Replies events start bound result old new = PipeEnds events start bound result old.unread new.unread old.written new.written
LoopEnds Table events start bound result old new = TableEnds events start bound result old.unread new.unread old.written new.written

-- a stream is served as these words ask, over a store of these rows
abbrev pub Served : Output → StreamConfig → Hosts → ℕ → Result (Unit {0}) StreamFault → Stand → Stand → Type 0
Served output asked rows refusals result old new = LoopEnds output (beginning asked.grace) (opening asked.name rows refusals) MOST_READS result old new

-- the status of a program that ends so
abbrev pub IsStatus : Result (Unit {0}) StreamFault → ℕ → Type 0
IsStatus (Ok done) status = status ≡ 0
IsStatus (Err fault) status = status ≡ 1

-- the stream was served, and the status says how that ended
abbrev pub RunsStream : Output → StreamConfig → Hosts → ℕ → ℕ → Stand → Stand → Type 0
RunsStream output asked rows refusals status old new = (ended : Result (Unit {0}) StreamFault) × Served output asked rows refusals ended old new × IsStatus ended status

-- it didn't start: nothing was read or written
abbrev pub Fails : ℕ → Stand → Stand → Type 0
Fails status old new = (status ≡ 1) × (new ≡ old)

-- without a file there are no hosts, and the own state is 0
abbrev pub AreStored : Option (List ℕ) → Hosts → Type 0
AreStored None rows = rows ≡ record { own = 0; rows = []; watches = [] }
AreStored (Some path) rows = Unit {0}

-- over the store of this file, whose rows no contract can name, where it could be had
abbrev pub RanStream : Output → StreamConfig → ℕ → Stand → Stand → Type 0
RanStream output asked status old new = ((rows : Hosts) × AreStored asked.db rows × RunsStream output asked rows 0 status old new) ⊎ Fails status old new

-- of sockets no contract can say what they carry
abbrev pub RanServer : ℕ → Stand → Stand → Type 0
RanServer status old new = (status ≤ 1) × (new ≡ old)

-- what was asked is what was done
abbrev pub Ran : Config → ℕ → Stand → Stand → Type 0
Ran (config.Pipe asked) status old new = RanStream Replies asked status old new
Ran (config.Table asked) status old new = RanStream Table asked status old new
Ran (config.Serve asked) status old new = RanServer status old new

-- ---- the work, once there is a store

abbrev pub Runs : Work → Hosts → ℕ → ℕ → Stand → Stand → Type 0
Runs (Stream output asked) rows refusals status old new = RunsStream output asked.now rows refusals status old new
Runs (Sockets asked peers) rows refusals status old new = RanServer status old new

-- over a store of such rows, or there is none
abbrev pub RanOver : Work → (Hosts → Type 0) → ℕ → Stand → Stand → Type 0
RanOver work has status old new = ((rows : Hosts) × has rows × Runs work rows 0 status old new) ⊎ Fails status old new
