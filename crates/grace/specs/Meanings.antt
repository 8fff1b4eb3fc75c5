-- What the phase and the kinds of call mean, as the definitions have them.
use Rattle.definitions.specs.Phases.{Phase, Grace, Normal, CallKind, Testing, Locking, Sharing, Cancelling, Unlocking, Unsharing, LocalLocking, Always}
use Rattle.grace.specs.declared.Phase.{Phase as CodedPhase}
use Rattle.grace.specs.declared.Phase.TheVariants.{Grace as CodedGrace, Normal as CodedNormal}
use Rattle.grace.specs.declared.CallKind.{CallKind as CodedKind}
use Rattle.grace.specs.declared.CallKind.TheVariants.{Testing as CodedTesting, Locking as CodedLocking, Sharing as CodedSharing, Cancelling as CodedCancelling, Unlocking as CodedUnlocking, Unsharing as CodedUnsharing, LocalLocking as CodedLocalLocking, Always as CodedAlways}

abbrev pub view_of_phase : CodedPhase → Phase
view_of_phase CodedGrace = Grace
view_of_phase CodedNormal = Normal

abbrev pub view_of_kind : CodedKind → CallKind
view_of_kind CodedTesting = Testing
view_of_kind (CodedLocking reclaim) = Locking reclaim
view_of_kind (CodedSharing reclaim) = Sharing reclaim
view_of_kind CodedCancelling = Cancelling
view_of_kind CodedUnlocking = Unlocking
view_of_kind CodedUnsharing = Unsharing
view_of_kind CodedLocalLocking = LocalLocking
view_of_kind CodedAlways = Always
