-- Answers as the definitions have them.
use Rattle.definitions.specs.Replies as def
use Rattle.owner_ids.specs.Views.{view_of_owner}
use Rattle.range_table.specs.Modes.{view_of_mode}
use Rattle.local_ops.specs.declared.answer.LocalAnswer.{LocalAnswer}
use Rattle.local_ops.specs.declared.answer.LocalAnswer.TheVariants as answer

abbrev pub view_of_local_answer : LocalAnswer → def.LineReply
view_of_local_answer answer.Done = def.LineOk
view_of_local_answer answer.Again = def.LineAgain
view_of_local_answer answer.Wait = def.LineWait
view_of_local_answer answer.Deadlock = def.LineDeadlk
view_of_local_answer answer.NoLocks = def.LineNolck
view_of_local_answer answer.TooFar = def.LineFbig
view_of_local_answer answer.Grace = def.LineGrace
view_of_local_answer answer.Free = def.LineFree
view_of_local_answer answer.Absent = def.LineAbsent
view_of_local_answer answer.Refused = def.LineRefused
view_of_local_answer answer.Bad = def.LineBad
view_of_local_answer answer.Starved = def.LineStarved
view_of_local_answer (answer.Held mode first len owner) = def.LineHeld (view_of_mode mode) first len (view_of_owner owner)
view_of_local_answer (answer.Table runs) = def.LineTable runs
view_of_local_answer (answer.Hosts rows) = def.LineHosts rows
