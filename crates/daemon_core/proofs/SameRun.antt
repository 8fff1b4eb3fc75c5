-- One list of events with the same outcomes has one run.
use Rattle.std.proofs.Common.{◌≡◌, ℕ, zero, suc, ◌≤◌, inl, inr, Bool, true, false, List, [], ◌∷◌, length, Option, Some, None, slice_get, slice_set, refl, sym, ◌∙◌, ap, subst, arith}
use Rattle.record_mark.specs.Stream.{Splits, HasOneReading}
use Rattle.definitions.specs.Step.{Given, State}
use Rattle.kept_replies.specs.declared.key.Peer.{Peer}
use Rattle.kept_replies.specs.Pairs.{view_of_peer}
use Rattle.step_order.specs.declared.store.StoreAnswer.{StoreAnswer}
use Rattle.call_plans.specs.Planned.{view_of_stored, refusal_count}
use Rattle.book.specs.Given.{comes_to}
use Rattle.book.specs.Notes.{JournalEvent, Takes, SendsNext, HearsAnswer, AsksLine, FallsSilent, GraceEnds, BeginsAnew, Steps, OneStep}
use Rattle.daemon_core.specs.declared.event.Event.{Event}
use Rattle.daemon_core.specs.declared.event.Event.TheVariants.{Connect, Piece, Disconnect, Take, Send, Answer, Local, Silent, GraceOver, Restart}
use Rattle.daemon_core.specs.declared.event_outcome.EventOutcome.{EventOutcome}
use Rattle.daemon_core.specs.declared.event_outcome.EventOutcome.TheVariants.{Applied, Starved, NoSegment}
use Rattle.daemon_core.specs.declared.outputs.Outputs.{Outputs}
use Rattle.daemon_core.specs.Outcomes.{view_of_event_outcome, needs_entry}
use Rattle.daemon_core.specs.Outputs.{marked_by, outputs_of, told_call, told_line, told_to}
use Rattle.daemon_core.specs.Rooms.{Room, TakesIfNeeded, RoomAfter}
use Rattle.record_mark.specs.Untaken.{AreRecords, untaken_records}
use Rattle.daemon_core.specs.Link.{Link, Hears, Receives, with_taken}
use Rattle.daemon_core.specs.DaemonState.{DaemonState, with_links, place_of, IsQuiet, Connects, Disconnects, Pieces, Answers, HasNone, TakesAt, links_after, Happens, DaemonStep, Run, HasOneRun}

abbrev Same : Outputs → Outputs → DaemonState → DaemonState → Type 0
Same out out' new new' = (out ≡ out') × (new ≡ new')

same-daemon_state : (new end : DaemonState) → new.state ≡ end.state → new.refusals ≡ end.refusals → new.room ≡ end.room → new.links ≡ end.links → new ≡ end
same-daemon_state new end s r m l = λ i. record { state = s i; refusals = r i; room = m i; links = l i }

-- the room after an event
taken-same : (needed : Bool) (old new end : Room) → TakesIfNeeded needed old new → TakesIfNeeded needed old end → new ≡ end
taken-same true old new end h h' =
    let left : new.left ≡ end.left = omega (arith, h.0, h'.0) in
    let next : new.next ≡ end.next = h.1 ∙ sym h'.1 in λ i. record { left = left i; next = next i }
taken-same false old new end h h' = h ∙ sym h'

room-same : (o p : EventOutcome) (needed : Bool) (old new end : Room) → o ≡ p → RoomAfter o needed old new → RoomAfter p needed old end → new ≡ end
room-same o p needed old new end e h h' = go o h (subst (λ (q : EventOutcome). RoomAfter q needed old end) (sym e) h')
  where
    go : (q : EventOutcome) → RoomAfter q needed old new → RoomAfter q needed old end → new ≡ end
    go NoSegment k k' = k.1 ∙ sym k'.1
    go Applied k k' = taken-same needed old new end k k'
    go Starved k k' = taken-same needed old new end k k'

-- what the events gave, and the states after them
same-step : OneStep → (old new end : State) (event : JournalEvent) (o p : EventOutcome) (a b : StoreAnswer) (given other : Given) → o ≡ p → a ≡ b → Steps old event (comes_to (view_of_event_outcome o) (view_of_stored a) given) new
    → Steps old event (comes_to (view_of_event_outcome p) (view_of_stored b) other) end → (given ≡ other) × (new ≡ end)
same-step one old new end event o p a b given other e f x y =
    one old new end event (view_of_event_outcome p) (view_of_stored b) given other (subst (λ (q : EventOutcome). Steps old event (comes_to (view_of_event_outcome q) (view_of_stored b) given) new) e (subst (λ (q : StoreAnswer). Steps old event (comes_to (view_of_event_outcome o) (view_of_stored q) given) new) f x)) y

quiet-same : (old new new' : DaemonState) (out out' : Outputs) → IsQuiet old out new → IsQuiet old out' new' → Same out out' new new'
quiet-same old new new' out out' h h' = (h.1 ∙ sym h'.1, h.0 ∙ sym h'.0)

Connects-same : (place : Option ℕ) (o o' : EventOutcome) (number : ℕ) (peer : Peer) (old new new' : DaemonState) (out out' : Outputs) → o ≡ o' → Connects place o number peer old out new
    → Connects place o' number peer old out' new' → Same out out' new new'
Connects-same (Some place) o o' number peer old new new' out out' e h h' = quiet-same old new new' out out' h h'
Connects-same None Applied Applied number peer old new new' out out' e h h' = (h.1 ∙ sym h'.1, h.0 ∙ sym h'.0)
Connects-same None Starved Starved number peer old new new' out out' e h h' = (h.1 ∙ sym h'.1, h.0 ∙ sym h'.0)
Connects-same None Applied Starved number peer old new new' out out' e h h' = absurd cc
Connects-same None Starved Applied number peer old new new' out out' e h h' = absurd cc
Connects-same None NoSegment o' number peer old new new' out out' e h h' = absurd h
Connects-same None o NoSegment number peer old new new' out out' e h h' = absurd h'

Disconnects-same : (place : Option ℕ) (old new new' : DaemonState) (out out' : Outputs) → Disconnects place old out new → Disconnects place old out' new' → Same out out' new new'
Disconnects-same None old new new' out out' h h' = (h.1 ∙ sym h'.1, h.0 ∙ sym h'.0)
Disconnects-same (Some place) old new new' out out' h h' = (h.1 ∙ sym h'.1, h.0 ∙ sym h'.0)

Hears-same : HasOneReading → (o o' : EventOutcome) (old new new' : Link) (bytes : List ℕ) (out out' : Outputs) → o ≡ o' → Hears o old bytes out new → Hears o' old bytes out' new'
    → (out ≡ out') × (new ≡ new')
Hears-same one Applied Applied old new new' bytes out out' e h h' =
    let links : new ≡ new' = h.0 ∙ sym h'.0 in
    let P : Link → Type 0 = λ l. Splits l.received h.1.0 h.1.1 in
    let faults = (one new'.received h.1.0 h'.1.0 h.1.1 h'.1.1 (subst P links h.1.2) h'.1.2).1 in
    (h.1.3 ∙ (ap marked_by faults ∙ sym h'.1.3), links)
Hears-same one Starved Starved old new new' bytes out out' e h h' = (h.1 ∙ sym h'.1, h.0 ∙ sym h'.0)
Hears-same one Applied Starved old new new' bytes out out' e h h' = absurd cc
Hears-same one Starved Applied old new new' bytes out out' e h h' = absurd cc
Hears-same one NoSegment o' old new new' bytes out out' e h h' = absurd h
Hears-same one o NoSegment old new new' bytes out out' e h h' = absurd h'

Receives-same : HasOneReading → (receives : Bool) (old new new' : Link) (bytes : List ℕ) (out out' : Outputs) → out.outcome ≡ out'.outcome → Receives receives old bytes out new
    → Receives receives old bytes out' new' → (out ≡ out') × (new ≡ new')
Receives-same one true old new new' bytes out out' e h h' = Hears-same one out.outcome out'.outcome old new new' bytes out out' e h h'
Receives-same one false old new new' bytes out out' e h h' = (h.1 ∙ sym h'.1, h.0 ∙ sym h'.0)

some-same : (links : List Link) (place : ℕ) (l m : Link) → slice_get links place ≡ Some l → slice_get links place ≡ Some m → l ≡ m
some-same links place l m e f =
    let g : Some l ≡ Some m = sym e ∙ f in cc

bytes-same : (x : Option (List ℕ)) (l m : List ℕ) → x ≡ Some l → x ≡ Some m → l ≡ m
bytes-same x l m e f =
    let g : Some l ≡ Some m = sym e ∙ f in cc

Pieces-same : HasOneReading → (place : Option ℕ) (bytes : List ℕ) (old new new' : DaemonState) (out out' : Outputs) → out.outcome ≡ out'.outcome → Pieces place bytes old out new
    → Pieces place bytes old out' new' → Same out out' new new'
Pieces-same one None bytes old new new' out out' e h h' = quiet-same old new new' out out' h h'
Pieces-same one (Some place) bytes old new new' out out' e h h' =
    let link : h'.link ≡ h.link = some-same old.links place h'.link h.link h'.there h.there in
    let P : Link → Type 0 = λ l. Receives l.receives l bytes out' h'.link' in
    let found = Receives-same one h.link.receives h.link h.link' h'.link' bytes out out' e h.receives (subst P link h'.receives) in
    let after : Link → DaemonState = λ l. with_links old (slice_set old.links place l) in
    (found.0, h.rest ∙ (ap after found.1 ∙ sym h'.rest))

records-same : HasOneReading → (received : List ℕ) (records others : List (List ℕ)) → AreRecords received records → AreRecords received others → records ≡ others
records-same one received records others a b = (one received records others a.0 b.0 a.1 b.1).0

get-none : (xs : List (List ℕ)) (i : ℕ) (x : List ℕ) → slice_get xs i ≡ Some x → length xs ≤ i → ⊥
get-none [] i x e h = cc
get-none (y ∷ ys) zero x e h = omega arith
get-none (y ∷ ys) (suc i) x e h = get-none ys i x e (omega arith)

Answers-same : HasOneReading → OneStep → (place i : ℕ) (old new new' : DaemonState) (out out' : Outputs) → out.outcome ≡ out'.outcome → out.store ≡ out'.store → Answers place i old out new → Answers place i old out' new' → Same out out' new new'
Answers-same one step place i old new new' out out' e f h h' =
    let link : h'.link ≡ h.link = some-same old.links place h'.link h.link h'.there h.there in
    let P : Link → Type 0 = λ l. AreRecords l.received h'.records in
    let records : h'.records ≡ h.records = records-same one h.link.received h'.records h.records (subst P link h'.are) h.are in
    let get : Link → List (List ℕ) → Option (List ℕ) = λ l rs. slice_get (untaken_records rs l.taken) i in
    let is' : slice_get (untaken_records h.records h.link.taken) i ≡ Some h'.bytes = ap (λ (rs : List (List ℕ)). get h.link rs) (sym records) ∙ (ap (λ (l : Link). get l h'.records) (sym link) ∙ h'.is) in
    let bytes : h'.bytes ≡ h.bytes = bytes-same (slice_get (untaken_records h.records h.link.taken) i) h'.bytes h.bytes is' h.is in
    let Q : Link → List ℕ → Type 0 = λ l b. Steps old.state (Takes (view_of_peer l.peer) b) (comes_to (view_of_event_outcome out'.outcome) (view_of_stored out'.store) h'.given) new'.state in
    let step' = subst (λ (b : List ℕ). Q h.link b) bytes (subst (λ (l : Link). Q l h'.bytes) link h'.step) in
    let same = same-step step old.state new.state new'.state (Takes (view_of_peer h.link.peer) h.bytes) out.outcome out'.outcome out.store out'.store h.given h'.given e f h.step step' in
    let links : new.links ≡ new'.links = h.links ∙ (ap (λ (l : Link). slice_set old.links place (with_taken l i)) (sym link) ∙ sym h'.links) in (
      h.outputs ∙ ap (λ (o : EventOutcome). told_to h.link.number o out.store h.given) e ∙ ap (λ (a : StoreAnswer). told_to h.link.number out'.outcome a h.given) f ∙ ap (λ (x : Given). told_to h.link.number out'.outcome out'.store x) same.0 ∙ ap (λ (l : Link). told_to l.number out'.outcome out'.store h'.given) (sym link) ∙ sym h'.outputs,
      same-daemon_state new new' same.1 (h.refusals ∙ ap (λ (a : StoreAnswer). refusal_count (view_of_stored a) old.refusals) f ∙ sym h'.refusals) (room-same out.outcome out'.outcome true old.room new.room new'.room e h.room h'.room) links,
    )

Happens-same : OneStep → (tell : EventOutcome → StoreAnswer → Given → Outputs) (event : JournalEvent) (old new new' : DaemonState) (out out' : Outputs) → out.outcome ≡ out'.outcome → out.store ≡ out'.store → Happens tell event old out new → Happens tell event old out' new' → Same out out' new new'
Happens-same step tell event old new new' out out' e f h h' =
    let same = same-step step old.state new.state new'.state event out.outcome out'.outcome out.store out'.store h.given h'.given e f h.step h'.step in (
      h.outputs ∙ ap (λ (o : EventOutcome). tell o out.store h.given) e ∙ ap (λ (a : StoreAnswer). tell out'.outcome a h.given) f ∙ ap (λ (x : Given). tell out'.outcome out'.store x) same.0 ∙ sym h'.outputs,
      same-daemon_state new new' same.1 (h.refusals ∙ ap (λ (a : StoreAnswer). refusal_count (view_of_stored a) old.refusals) f ∙ sym h'.refusals) (room-same out.outcome out'.outcome (needs_entry event old.state) old.room new.room new'.room e h.room h'.room) (h.links ∙ ap (λ (a : StoreAnswer). links_after event a old.links) f ∙ sym h'.links),
    )

none-not : HasOneReading → (place i : ℕ) (old new new' : DaemonState) (out out' : Outputs) → Answers place i old out new → HasNone place i old out' new' → ⊥
none-not one place i old new new' out out' h h' =
    let link : h'.link ≡ h.link = some-same old.links place h'.link h.link h'.there h.there in
    let P : Link → Type 0 = λ l. AreRecords l.received h'.records × (length (untaken_records h'.records l.taken) ≤ i) in
    let moved = subst P link (h'.are, h'.few) in
    let records : h'.records ≡ h.records = records-same one h.link.received h'.records h.records moved.0 h.are in
    let Q : List (List ℕ) → Type 0 = λ rs. length (untaken_records rs h.link.taken) ≤ i in
    get-none (untaken_records h.records h.link.taken) i h.bytes h.is (subst Q records moved.1)

TakesAt-same : HasOneReading → OneStep → (place : Option ℕ) (i : ℕ) (old new new' : DaemonState) (out out' : Outputs) → out.outcome ≡ out'.outcome → out.store ≡ out'.store → TakesAt place i old out new → TakesAt place i old out' new' → Same out out' new new'
TakesAt-same one step None i old new new' out out' e f h h' = quiet-same old new new' out out' h h'
TakesAt-same one step (Some place) i old new new' out out' e f (inl h) (inl h') = Answers-same one step place i old new new' out out' e f h h'
TakesAt-same one step (Some place) i old new new' out out' e f (inr h) (inr h') = quiet-same old new new' out out' h.quiet h'.quiet
TakesAt-same one step (Some place) i old new new' out out' e f (inl h) (inr h') = absurd (none-not one place i old new new' out out' h h')
TakesAt-same one step (Some place) i old new new' out out' e f (inr h) (inl h') = absurd (none-not one place i old new' new out' out h' h)

DaemonStep-same : HasOneReading → OneStep → (old new new' : DaemonState) (event : Event) (out out' : Outputs) → DaemonStep old event out new → DaemonStep old event out' new' → out.outcome ≡ out'.outcome → out.store ≡ out'.store → Same out out' new new'
DaemonStep-same one step old new new' (Connect number peer) out out' h h' e f = Connects-same (place_of number old.links) out.outcome out'.outcome number peer old new new' out out' e h h'
DaemonStep-same one step old new new' (Piece number bytes) out out' h h' e f = Pieces-same one (place_of number old.links) bytes.items old new new' out out' e h h'
DaemonStep-same one step old new new' (Disconnect number) out out' h h' e f = Disconnects-same (place_of number old.links) old new new' out out' h h'
DaemonStep-same one step old new new' (Take number i) out out' h h' e f = TakesAt-same one step (place_of number old.links) i old new new' out out' e f h h'
DaemonStep-same one step old new new' (Send send_buffer) out out' h h' e f = Happens-same step told_call SendsNext old new new' out out' e f h h'
DaemonStep-same one step old new new' (Answer bytes) out out' h h' e f = Happens-same step outputs_of (HearsAnswer bytes.items) old new new' out out' e f h h'
DaemonStep-same one step old new new' (Local l line) out out' h h' e f = Happens-same step (told_line l) (AsksLine l line.items) old new new' out out' e f h h'
DaemonStep-same one step old new new' (Silent number) out out' h h' e f = Happens-same step outputs_of (FallsSilent number) old new new' out out' e f h h'
DaemonStep-same one step old new new' GraceOver out out' h h' e f = Happens-same step outputs_of GraceEnds old new new' out out' e f h h'
DaemonStep-same one step old new new' Restart out out' h h' e f = Happens-same step outputs_of BeginsAnew old new new' out out' e f h h'

pub Run-same : HasOneReading → OneStep → HasOneRun
Run-same one step old new new' [] [] [] h h' alike = (refl, h ∙ sym h')
Run-same one step old new new' [] (o ∷ outs) outs' h h' alike = absurd h
Run-same one step old new new' [] [] (o ∷ outs') h h' alike = absurd h'
Run-same one step old new new' (e ∷ events) [] outs' h h' alike = absurd h
Run-same one step old new new' (e ∷ events) (o ∷ outs) [] h h' alike = absurd h'
Run-same one step old new new' (e ∷ events) (o ∷ outs) (o' ∷ outs') h h' alike =
    let first = DaemonStep-same one step old h.0 h'.0 e o o' h.1 h'.1 alike.0 alike.1 in
    let P : DaemonState → Type 0 = λ m. Run m events outs' new' in
    let rest = Run-same one step h.0 new new' events outs outs' h.2 (subst P (sym first.1) h'.2) alike.2 in
    (ap (λ x. x ∷ outs) first.0 ∙ ap (λ xs. o' ∷ xs) rest.0, rest.1)
