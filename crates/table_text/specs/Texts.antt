-- All locks and all hosts, as text: a line each, as answers to lines of the protocol of local programs show them.
use Rattle.std.specs.List.{flat_map}
use Rattle.std.specs.Prelude.{List}
use Rattle.definitions.specs.Bytes.{Bytes}
use Rattle.definitions.specs.Starts.{Run}
use Rattle.definitions.specs.Hosts.{HostRow}
use Rattle.local_ops.specs.Texts.{run_line, host_line}

abbrev pub runs_text : List Run → Bytes
runs_text runs = flat_map run_line runs

abbrev pub rows_text : List HostRow → Bytes
rows_text rows = flat_map host_line rows
