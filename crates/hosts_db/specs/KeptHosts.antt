-- What hosts show, wherever they are kept.
use Rattle.hosts_db.specs.declared.lasting.kept.KeptHosts.{KeptHosts}
use Rattle.hosts_db.specs.declared.lasting.kept.KeptHosts.TheVariants.{InMemory, Stored}

-- a store keeps them
abbrev pub IsStored : {M S : Type 0} → KeptHosts M S → Type 0
IsStored (InMemory hosts) = ⊥
IsStored (Stored hosts) = Unit {0}

-- as those in memory show it, or the store
abbrev pub in_either : {M S X : Type 0} → (M → X) → (S → X) → KeptHosts M S → X
in_either of_memory of_store (InMemory hosts) = of_memory hosts
in_either of_memory of_store (Stored hosts) = of_store hosts

-- what is so of those in memory, or of the store
abbrev pub IsInEither : {M S X : Type 0} → (M → X → Type 0) → (S → X → Type 0) → KeptHosts M S → X → Type 0
IsInEither of_memory of_store (InMemory hosts) = of_memory hosts
IsInEither of_memory of_store (Stored hosts) = of_store hosts
