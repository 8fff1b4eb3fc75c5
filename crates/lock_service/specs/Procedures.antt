-- What LOCK, CANCEL, UNLOCK and their like come to, and how each is told.
use Rattle.definitions.specs.World.{World}
use Rattle.definitions.specs.Rulings.{Ruling}
use Rattle.definitions.specs.Answer.{Answered}
use Rattle.nlm4_types.specs.declared.version.Version.{Version}
use Rattle.nlm4_types.specs.Version.{view_of_version}
use Rattle.nlm4_types.specs.declared.arguments.LockArgs as lock_declared
use Rattle.nlm4_types.specs.declared.arguments.CancelArgs as cancel_declared
use Rattle.nlm4_types.specs.declared.arguments.UnlockArgs as unlock_declared
use Rattle.nlm4_types.specs.Arguments.{view_of_lockargs}
use Rattle.lock_service.specs.declared.lock.LockCall.{LockCall}
use Rattle.lock_service.specs.declared.telling.Form.{Form}
use Rattle.lock_service.specs.declared.telling.ResultCall.TheVariants.{Lock, Cancel, Unlock}
use Rattle.lock_service.specs.declared.telling.Telling.{Telling}
use Rattle.lock_service.specs.Locking.{answer_by, form_by}
use Rattle.lock_service.specs.Tellings.{telling_of}

abbrev pub lock_telling : Form → Version → lock_declared.LockArgs 8 → Telling
lock_telling form version a = record { form = form; result = Lock; version = version; cookie = a.cookie; host = a.alock.caller_name }

abbrev pub cancel_telling : Form → Version → cancel_declared.CancelArgs 8 → Telling
cancel_telling form version a = record { form = form; result = Cancel; version = version; cookie = a.cookie; host = a.alock.caller_name }

abbrev pub unlock_telling : Form → Version → unlock_declared.UnlockArgs 8 → Telling
unlock_telling form version a = record { form = form; result = Unlock; version = version; cookie = a.cookie; host = a.alock.caller_name }

abbrev pub lock_told : LockCall → Version → lock_declared.LockArgs 8 → World → Ruling Answered
lock_told call version a w =
    telling_of (form_by call) (lock_telling (form_by call) version a) w (answer_by call w (view_of_version version) (view_of_lockargs a))
