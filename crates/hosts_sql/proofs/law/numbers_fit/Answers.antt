use Rattle.hosts_sql.proofs.Numbers.{numbers_fit}
use Rattle.hosts_sql.proofs.law.numbers_fit.Goals as goal

pub returns : goal.returns
returns c = numbers_fit
