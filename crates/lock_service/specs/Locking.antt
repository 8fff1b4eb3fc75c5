-- The three calls that lock.
use Rattle.std.specs.Prelude.{Bool, true, false, Option, None}
use Rattle.definitions.specs.Nlm as nlm
use Rattle.definitions.specs.World.{World, the_limits}
use Rattle.definitions.specs.Rulings.{Response, Ruling}
use Rattle.definitions.specs.LockRules.{NewHost}
use Rattle.definitions.specs.Answer.{caller_row, lock_answer, nm_lock_answer, lock_msg_answer}
use Rattle.lock_service.specs.declared.lock.LockCall.{LockCall}
use Rattle.lock_service.specs.declared.lock.LockCall.TheVariants as call
use Rattle.lock_service.specs.declared.telling.Form.{Form}
use Rattle.lock_service.specs.declared.telling.Form.TheVariants as form

abbrev pub answer_by : LockCall → World → nlm.Version → nlm.LockArgs → Ruling (Response nlm.Stat)
answer_by call.Lock w version a = lock_answer the_limits w version a
answer_by call.NmLock w version a = nm_lock_answer the_limits w version a
answer_by call.LockMsg w version a = lock_msg_answer the_limits w version a

-- its host gets a row
abbrev pub is_monitored : LockCall → Bool
is_monitored call.Lock = true
is_monitored call.NmLock = false
is_monitored call.LockMsg = true

abbrev pub row_by : LockCall → nlm.LockArgs → Option NewHost
row_by call.Lock a = caller_row a
row_by call.NmLock a = None
row_by call.LockMsg a = caller_row a

abbrev pub is_message : LockCall → Bool
is_message call.Lock = false
is_message call.NmLock = false
is_message call.LockMsg = true

-- how it is told
abbrev pub form_by : LockCall → Form
form_by call.Lock = form.Reply
form_by call.NmLock = form.Reply
form_by call.LockMsg = form.Message
