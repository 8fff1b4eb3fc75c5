use Rattle.std.proofs.Common.{◌≡◌, Some, rules}
use Rattle.hosts_sql.specs.Schemas.{table_in}
use Rattle.hosts_sql.specs.Tables.{addresses_name, addresses_table}
use Rattle.hosts_sql.proofs.Schemas.{addresses_there}
use Rattle.hosts_sql.proofs.objects.check_addresses.Goals as goal

pub returns : goal.returns
returns c =
    let schema = c.args.schema.now in
    let t = c.in-Some.table.now in
    let is : table_in schema addresses_name ≡ Some t = search rules in
    let same : t ≡ addresses_table t.tree = search rules in
    addresses_there schema t is same (search rules) (search rules)
