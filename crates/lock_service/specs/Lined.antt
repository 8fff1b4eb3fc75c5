-- What a line of a local connection comes to.
use Rattle.std.specs.Prelude.{ℕ, Bool, true, false}
use Rattle.definitions.specs.Lines.{line_ask}
use Rattle.definitions.specs.LockRules.{LockAsk}
use Rattle.definitions.specs.World.{World}
use Rattle.definitions.specs.Rulings.{Response}
use Rattle.definitions.specs.Replies.{Line, LineReply, SetLock, SetLockWait}
use Rattle.callbacks.specs.Meanings.{view_of_local_lock}
use Rattle.local_ops.specs.Answers.{view_of_local_answer}
use Rattle.range_table.specs.Modes.{view_of_mode, view_of_held_mode}
use Rattle.range_table.specs.declared.run.Mode.{Mode}
use Rattle.call_plans.specs.Planned.{changed_world}
use Rattle.lock_service.specs.declared.local.LinePlan.{LinePlan}
use Rattle.lock_service.specs.declared.local.SetLine as line

abbrev pub line_planned : LinePlan → World → Response LineReply
line_planned p w = record { says = view_of_local_answer p.answer; world = changed_world p.change w }

-- `setlk`, or `setlkw`, which waits
abbrev pub set_line_if : Bool → line.SetLine → Line
set_line_if true s = SetLockWait (view_of_held_mode s.mode) (view_of_local_lock s.lock.now)
set_line_if false s = SetLock (view_of_held_mode s.mode) (view_of_local_lock s.lock.now)

-- what the lock rules are asked by a line with a mode, where so many places are free
abbrev pub lock_asked : line.SetLine → Mode → ℕ → LockAsk
lock_asked s mode free = line_ask s.connection free s.waits (view_of_mode mode) (view_of_local_lock s.lock.now)

abbrev pub view_of_set_line : line.SetLine → Line
view_of_set_line s = set_line_if s.waits s
