-- What a store knows of its database.
use Rattle.std.specs.Prelude.{Option, Some, None}
use Rattle.sqlite.specs.State.{State}
use Rattle.hosts_sql.specs.Wrote.{HasTables, HasTables-prop, IsFresh, IsFresh-prop}
use Rattle.hosts_sql.specs.declared.tables.TablesVersion.{TablesVersion}

-- the last commit holds the tables of this version, or no object
abbrev pub Holds : Option TablesVersion → State → Type 0
Holds None s = IsFresh s
Holds (Some version) s = HasTables version s

pub Holds-prop : (version : Option TablesVersion) (s : State) → IsProp (Holds version s)
Holds-prop None s = IsFresh-prop s
Holds-prop (Some version) s = HasTables-prop version s
