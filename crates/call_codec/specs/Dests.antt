-- Whom a record is for.
use Rattle.definitions.specs.Outgoing as outgoing
use Rattle.call_codec.specs.declared.records.dest.Dest.{Dest}
use Rattle.call_codec.specs.declared.records.dest.Dest.TheVariants as dest

abbrev pub view_of_dest : Dest → outgoing.Destination
view_of_dest (dest.Host name) = outgoing.ToHost name
view_of_dest (dest.Connection number) = outgoing.ToConnection number
