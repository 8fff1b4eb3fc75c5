-- What is answered for a database that isn't taken.
use Rattle.hosts_db.specs.declared.error.StoreError.{StoreError}
use Rattle.hosts_db.specs.declared.error.StoreError.TheVariants as answer
use Rattle.hosts_sql.specs.declared.error.AdoptError.{AdoptError}
use Rattle.hosts_sql.specs.declared.error.AdoptError.TheVariants.{Starved}

-- want of memory, or a refusal for any other cause
abbrev pub refusal_of : AdoptError → StoreError
refusal_of Starved = answer.Starved
refusal_of _ = answer.StoreRefused
