-- What a store is asked to write.
use Rattle.std.specs.Prelude.{◌≡◌, ◌≤◌, false, length}
use Rattle.std.specs.Option.{option_copied}
use Rattle.definitions.specs.Hosts.{Hosts, StoreCall, Begin, Monitor, Seen, Acked, Quota, Watched, Unwatched, has_row}
use Rattle.hosts_db.specs.Notes.{view_of_note}
use Rattle.hosts_db.specs.declared.writing.Writing.{Writing}
use Rattle.hosts_db.specs.declared.writing.Writing.TheVariants as writing
use Rattle.hosts_db.specs.declared.prepared.Prepared.{Prepared}
use Rattle.hosts_db.specs.declared.prepared.Prepared.TheVariants as prepared

abbrev pub view_of_writing : Writing → StoreCall
view_of_writing (writing.Monitor name state) = Monitor name.now state
view_of_writing (writing.Note name note) = view_of_note name.now note
view_of_writing (writing.Watch mon_name my_id private_bytes) = Watched mon_name.now my_id.now private_bytes.now
view_of_writing (writing.Unwatch mon_name my_id) = Unwatched (option_copied mon_name) my_id.now

abbrev pub view_of_prepared : Prepared → StoreCall
view_of_prepared (prepared.Monitor name state) = Monitor name.items state
view_of_prepared (prepared.Note name note) = view_of_note name.now note
view_of_prepared (prepared.Watch mon_name watch) = Watched mon_name.items watch.my_id watch.private_bytes
view_of_prepared (prepared.Unwatch mon_name my_id) = Unwatched (option_copied mon_name) my_id.now

-- a watch is of the host whose name goes with it
abbrev pub IsOfHost : Prepared → Type 0
IsOfHost (prepared.Monitor name state) = Unit {0}
IsOfHost (prepared.Note name note) = Unit {0}
IsOfHost (prepared.Watch mon_name watch) = mon_name.items ≡ watch.mon_name
IsOfHost (prepared.Unwatch mon_name my_id) = Unit {0}

-- a name that is stored has at most 1,024 bytes, and a quota is of at most 65,536 runs
abbrev pub Fits : StoreCall → Type 0
Fits Begin = Unit {0}
Fits (Monitor name state) = length name ≤ 1024
Fits (Seen name state) = Unit {0}
Fits (Acked name epoch) = Unit {0}
Fits (Quota name runs) = runs ≤ 65536
Fits (Watched name my bytes) = length name ≤ 1024
Fits (Unwatched name my) = Unit {0}

-- a row is asked for where there is none
abbrev pub IsNew : Hosts → StoreCall → Type 0
IsNew hosts Begin = Unit {0}
IsNew hosts (Monitor name state) = has_row hosts name ≡ false
IsNew hosts (Seen name state) = Unit {0}
IsNew hosts (Acked name epoch) = Unit {0}
IsNew hosts (Quota name runs) = Unit {0}
IsNew hosts (Watched name my bytes) = Unit {0}
IsNew hosts (Unwatched name my) = Unit {0}

-- a row or a watch is added, which takes memory
abbrev pub Adds : StoreCall → Type 0
Adds Begin = ⊥
Adds (Monitor name state) = Unit {0}
Adds (Seen name state) = ⊥
Adds (Acked name epoch) = ⊥
Adds (Quota name runs) = ⊥
Adds (Watched name my bytes) = Unit {0}
Adds (Unwatched name my) = ⊥
