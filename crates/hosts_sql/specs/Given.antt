-- What the statements on watches are given.
use Rattle.std.specs.Prelude.{List, ℕ, [], ◌∷◌}
use Rattle.sqlite_value.specs.declared.value.Value.TheVariants.{Int, Blob}
use Rattle.sqlite_value.specs.Order.{Row}
use Rattle.definitions.specs.Bytes.{Bytes}
use Rattle.definitions.specs.Nsm.{MyId}
use Rattle.hosts_sql.specs.Maps.{WatchKey}

abbrev pub my_given : MyId → Row
my_given my = Blob my.my_name ∷ Int my.prog ∷ Int my.vers ∷ Int my.proc ∷ []

abbrev pub watch_given : Bytes → MyId → Row
watch_given mon my = Blob mon ∷ my_given my

abbrev pub watch_params : WatchKey → List ℕ → Row
watch_params k private = Blob k.mon ∷ Blob k.my.my_name ∷ Int k.my.prog ∷ Int k.my.vers ∷ Int k.my.proc ∷ Blob private ∷ []
