-- What is noted in the row of a host.
use Rattle.definitions.specs.Bytes.{Bytes}
use Rattle.definitions.specs.Hosts.{HostRow, StoreCall, Seen, Acked, Quota}
use Rattle.hosts_db.specs.declared.rows.RowNote.{RowNote}
use Rattle.hosts_db.specs.declared.rows.RowNote.TheVariants as to

-- the call that notes it
abbrev pub view_of_note : Bytes → RowNote → StoreCall
view_of_note name (to.Seen seen) = Seen name seen
view_of_note name (to.Epoch epoch) = Acked name epoch
view_of_note name (to.Quota runs) = Quota name runs

-- and the row with it
abbrev pub noted_row : RowNote → HostRow → HostRow
noted_row (to.Seen seen) = λ (row : HostRow). record row { seen = seen }
noted_row (to.Epoch epoch) = λ (row : HostRow). record row { epoch = epoch }
noted_row (to.Quota runs) = λ (row : HostRow). record row { quota = runs }
