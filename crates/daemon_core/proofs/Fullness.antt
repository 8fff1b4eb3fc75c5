-- What takes no memory starves for a segment alone.
use Rattle.std.proofs.Common.{◌≡◌, ◌⊎◌, Bool, inl, inr, refl}
use Rattle.daemon_core.specs.declared.event.Event.TheVariants.{Connect, Piece, Disconnect, Take, Send, Answer, Local, Silent, GraceOver, Restart}
use Rattle.daemon_core.specs.declared.event_outcome.EventOutcome.{EventOutcome}
use Rattle.daemon_core.specs.declared.event_outcome.EventOutcome.TheVariants.{Applied, Starved, NoSegment}
use Rattle.daemon_core.specs.Rooms.{Room, RoomAfter}
use Rattle.daemon_core.specs.Laws.{StarvesWhereFull}

-- of each thing that may become of it
full : (outcome : EventOutcome) (needed : Bool) (old new : Room) → (outcome ≡ Starved → ⊥) → RoomAfter outcome needed old new → (outcome ≡ Applied) ⊎ ((outcome ≡ NoSegment) × (old.left ≡ 0))
full Applied needed old new fed room = inl refl
full Starved needed old new fed room = absurd (fed refl)
full NoSegment needed old new fed room = inr (refl, room.0)

pub starves_where_full : StarvesWhereFull
starves_where_full old new (Send send_buffer) out spare step = full out.outcome _ _ _ step.fed step.room
starves_where_full old new (Answer bytes) out spare step = full out.outcome _ _ _ step.fed step.room
starves_where_full old new (Silent number) out spare step = full out.outcome _ _ _ step.fed step.room
starves_where_full old new GraceOver out spare step = full out.outcome _ _ _ step.fed step.room
starves_where_full old new (Connect number peer) out spare step = absurd spare
starves_where_full old new (Piece number bytes) out spare step = absurd spare
starves_where_full old new (Disconnect number) out spare step = absurd spare
starves_where_full old new (Take number i) out spare step = absurd spare
starves_where_full old new (Local l line) out spare step = absurd spare
starves_where_full old new Restart out spare step = absurd spare
