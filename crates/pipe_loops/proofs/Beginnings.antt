-- The beginning of a pipe, event by event.
use Rattle.std.proofs.Common.{◌≡◌, ℕ, suc, Bool, true, false, List, [], ◌∷◌, ◌++◌, Option, Some, None, refl, sym, ap, ◌∙◌}
use Rattle.std.specs.Option.{option_to_list}
use Rattle.std.specs.Prelude.{Result, Ok, Err}
use Rattle.definitions.specs.Step.{Given, Nothing, Replies, Says, Sends, IsStarved, IsRefused}
use Rattle.daemon_core.specs.declared.event_outcome.EventOutcome.{EventOutcome}
use Rattle.daemon_core.specs.declared.event_outcome.EventOutcome.TheVariants.{Applied, Starved, NoSegment}
use Rattle.book.specs.Notes.{JournalEvent, GraceEnds, BeginsAnew}
use Rattle.daemon_core.specs.declared.event.Event.{Event}
use Rattle.daemon_core.specs.declared.event.Event.TheVariants.{Connect, GraceOver, Restart}
use Rattle.daemon_core.specs.declared.outputs.Outputs.{Outputs}
use Rattle.daemon_core.specs.declared.event.EventRefusal.{EventRefusal}
use Rattle.kept_replies.specs.declared.key.Peer.{Peer}
use Rattle.daemon_core.specs.Outputs.{outputs_of, refusal_of}
use Rattle.daemon_core.specs.DaemonState.{DaemonState, place_of, Connects, Happens, DaemonStep}
use Rattle.pipe_loops.specs.declared.fault.StreamFault.{StreamFault}
use Rattle.pipe_loops.specs.Pipe.{beginning, Passes, Begins, refusals}

abbrev more : Option EventRefusal → List EventRefusal → List EventRefusal
more r rest = option_to_list r ++ rest

-- no event of the beginning brings a record

told-short : (given : Given) → refusal_of given ≡ Some EventRefusal.RecordTooLong → ⊥
told-short IsStarved e = cc
told-short IsRefused e = cc
told-short Nothing e = cc
told-short (Replies xid outcome) e = cc
told-short (Says line) e = cc
told-short (Sends call callback) e = cc

happens-short : (event : JournalEvent) (old new : DaemonState) (out : Outputs) (why : EventRefusal) → Happens outputs_of event old out new → out.refusal ≡ Some why → why ≡ EventRefusal.RecordTooLong → ⊥
happens-short event old new out why h met is =
    told-short h.given (sym (ap (λ (o : Outputs). o.refusal) h.outputs) ∙ met ∙ ap (λ r. Some r) is)

connect-short : (place : Option ℕ) (o : EventOutcome) (number : ℕ) (peer : Peer) (old new : DaemonState) (out : Outputs) (why : EventRefusal) → Connects place o number peer old out new → out.refusal ≡ Some why → why ≡ EventRefusal.RecordTooLong → ⊥
connect-short (Some place) o number peer old new out why h met is = let e : None ≡ Some why = sym (ap (λ (x : Outputs). x.refusal) h.1) ∙ met in cc
connect-short None Applied number peer old new out why h met is = let e : None ≡ Some why = sym (ap (λ (x : Outputs). x.refusal) h.1) ∙ met in cc
connect-short None Starved number peer old new out why h met is = let e : Some EventRefusal.Starved ≡ Some EventRefusal.RecordTooLong = sym (ap (λ (x : Outputs). x.refusal) h.1) ∙ met ∙ ap (λ r. Some r) is in cc
connect-short None NoSegment number peer old new out why h met is = absurd h

-- an event of a beginning
abbrev pub Opens : Event → Type 0
Opens Restart = Unit {0}
Opens GraceOver = Unit {0}
Opens (Connect number peer) = Unit {0}
Opens _ = ⊥

opens-short : (event : Event) → Opens event → (old new : DaemonState) (out : Outputs) (why : EventRefusal) → DaemonStep old event out new → out.refusal ≡ Some why → why ≡ EventRefusal.RecordTooLong → ⊥
opens-short Restart o old new out why h = happens-short BeginsAnew old new out why h
opens-short GraceOver o old new out why h = happens-short GraceEnds old new out why h
opens-short (Connect number peer) o old new out why h = connect-short (place_of number old.links) out.outcome number peer old new out why h
opens-short _ o old new out why h = absurd o

-- the first of these events is refused
pub refused : (event : Event) (rest : List Event) → Opens event → (old new : DaemonState) (fault : StreamFault) → Passes (Err fault) event old new → Begins (event ∷ rest) (Err fault) old new
refused event rest o old new fault a = (a.2, a.4, record { count = 1; outs = a.0 ∷ []; run = (new, a.1, refl); met_is = ap (λ r. more r []) a.3 }, opens-short event o old new a.0 a.2 a.1 a.3)

-- or it is not, and the others decide
pub passed : (event : Event) (rest : List Event) (old mid new : DaemonState) (r : Result (Unit {0}) StreamFault) → Passes (Ok tt) event old mid → Begins rest r mid new → Begins (event ∷ rest) r old new
passed event rest old mid new (Ok done) a b = record { outs = a.0 ∷ b.outs; run = (mid, a.1, b.run); agreed = ap (λ r. more r (refusals b.outs)) a.2 ∙ b.agreed }
passed event rest old mid new (Err fault) a b = (
  b.0,
  b.1,
  record { count = suc b.2.count; outs = a.0 ∷ b.2.outs; run = (mid, a.1, b.2.run); met_is = ap (λ r. more r (refusals b.2.outs)) a.2 ∙ b.2.met_is },
  b.3,
)

-- it is the last of them
pub last : (event : Event) → Opens event → (old new : DaemonState) (r : Result (Unit {0}) StreamFault) → Passes r event old new → Begins (event ∷ []) r old new
last event o old new (Ok done) a = record { outs = a.0 ∷ []; run = (new, a.1, refl); agreed = ap (λ r. more r []) a.2 }
last event o old new (Err fault) a = refused event [] o old new fault a

-- whatever comes behind it, the first event of a beginning is a restart
pub anew-refused : (grace : Bool) (old new : DaemonState) (fault : StreamFault) → Passes (Err fault) Restart old new → Begins (beginning grace) (Err fault) old new
anew-refused true old new fault a = refused Restart _ tt old new fault a
anew-refused false old new fault a = refused Restart _ tt old new fault a
