-- Pieces, the records that are whole after them, and the calls that are due behind each.
use Rattle.std.proofs.Common.{◌≡◌, ℕ, ◌<◌, ◌≤◌, ◌⊎◌, inl, inr, Bool, true, false, List, [], ◌∷◌, ◌++◌, length, Option, Some, None, refl, sym, ◌∙◌, ap, subst, append_assoc, arith}
use Rattle.std.specs.Option.{option_to_list}
use Rattle.std.specs.Prelude.{Err}
use Rattle.std.specs.Io.KnownBytes.{Appends, Keeps, Consumes}
use Rattle.std.proofs.KnownBytes.{Consumes-nil, Consumes-trans, Consumes-kept, Appends-nil, Appends-trans, Appends-kept, Keeps-refl}
use Rattle.std.proofs.lemmas.Grind.{flat_map-append}
use Rattle.std.proofs.lemmas.List.{append-nil, length-append}
use Rattle.std.proofs.lemmas.List.Elements.{All-nil, All-push}
use Rattle.daemon_core.specs.declared.event.Event.{Event}
use Rattle.daemon_core.specs.declared.event.Event.TheVariants.{Piece, Connect}
use Rattle.daemon_core.specs.declared.event_outcome.EventOutcome.{EventOutcome}
use Rattle.daemon_core.specs.declared.event_outcome.EventOutcome.TheVariants.{Applied, Starved, NoSegment}
use Rattle.daemon_core.specs.declared.outputs.Outputs.{Outputs}
use Rattle.daemon_core.specs.declared.event.EventRefusal.{EventRefusal}
use Rattle.daemon_core.specs.Sending.{Sending}
use Rattle.kept_replies.specs.declared.key.Peer.{Peer}
use Rattle.kept_replies.specs.declared.key.TheConstants.Peer.{PIPE}
use Rattle.daemon_core.specs.Outputs.{bytes_sent, marked_by}
use Rattle.daemon_core.specs.Link.{Link, Hears as HearsOn, Receives}
use Rattle.daemon_core.specs.DaemonState.{DaemonState, place_of, Pieces, Connects, Waits, DaemonStep, Run, all_bytes_sent}
use Rattle.pipe_loops.specs.declared.fault.StreamFault.{StreamFault}
use Rattle.pipe_loops.specs.FaultOf.{fault_of}
use Rattle.byte_io.specs.Written.{WroteFront}
use Rattle.pipe_loops.specs.Answered.{in_order, Breaks}
use Rattle.pipe_loops.specs.Pipe.{IsPiece, Hears, Turn, Turns, met_by, beginning, PipeRun, concatenation, IsShort, AnswersAll, AnswersSome, WholeTurn, BrokenTurn, TurnEnds, BeginsAll, BeginsSome, EndsAt, BrokenPipe, StreamEnds}
use Rattle.byte_io.proofs.Appending.{WroteFront-whole, WroteFront-after}

pub bytes-append : (outs more : List Outputs) → all_bytes_sent (outs ++ more) ≡ all_bytes_sent outs ++ all_bytes_sent more
bytes-append outs more = flat_map-append (λ (o : Outputs). bytes_sent o.sent) outs more

sent_of : {a b : Outputs} → a ≡ b → a.sent ≡ b.sent
sent_of e = ap (λ (o : Outputs). o.sent) e

-- ---- a piece sends nothing

marked-sends : (fault : Bool) → (marked_by fault).sent ≡ None
marked-sends false = refl
marked-sends true = refl

hears-sends : (o : EventOutcome) (old new : Link) (bytes : List ℕ) (out : Outputs) → HearsOn o old bytes out new → out.sent ≡ None
hears-sends Applied old new bytes out h = sent_of h.1.3 ∙ marked-sends h.1.1
hears-sends Starved old new bytes out h = sent_of h.1
hears-sends NoSegment old new bytes out h = absurd h

receives-sends : (receives : Bool) (old new : Link) (bytes : List ℕ) (out : Outputs) → Receives receives old bytes out new → out.sent ≡ None
receives-sends true old new bytes out h = hears-sends out.outcome old new bytes out h
receives-sends false old new bytes out h = sent_of h.1

pieces-send : (place : Option ℕ) (bytes : List ℕ) (old new : DaemonState) (out : Outputs) → Pieces place bytes old out new → out.sent ≡ None
pieces-send None bytes old new out h = sent_of h.1
pieces-send (Some place) bytes old new out h = receives-sends h.link.receives h.link h.link' bytes out h.receives

piece-sends : (old new : DaemonState) (event : Event) (bytes : List ℕ) (out : Outputs) → IsPiece event bytes → DaemonStep old event out new → out.sent ≡ None
piece-sends old new (Piece number v) bytes out is h = pieces-send (place_of number old.links) v.items old new out h
piece-sends old new _ bytes out is h = absurd is

pub bytes-more : (outs : List Outputs) (out : Outputs) → all_bytes_sent (outs ++ out ∷ []) ≡ all_bytes_sent outs ++ bytes_sent out.sent
bytes-more outs out = bytes-append outs (out ∷ []) ∙ ap (λ x. all_bytes_sent outs ++ x) (append-nil (bytes_sent out.sent))

heard-bytes : (heard : Outputs) (answers : List Outputs) → heard.sent ≡ None → all_bytes_sent (heard ∷ answers) ≡ all_bytes_sent answers
heard-bytes heard answers e = ap (λ (s : Option Sending). bytes_sent s ++ all_bytes_sent answers) e

-- ---- what ends it

pub Breaks-after : (fault : StreamFault) (old new : DaemonState) (a b d : Option (List ℕ)) (outs more : List Outputs) → Appends a b (all_bytes_sent outs) → Breaks fault old new b d more → Breaks fault old new a d (outs ++ more)
Breaks-after StreamFault.WriteFault old new a b d outs more w h =
    let P : List ℕ → Type 0 = λ x. WroteFront a d x in (h.0, subst P (sym (bytes-append outs more)) (WroteFront-after a b d _ _ w h.1))
Breaks-after StreamFault.Starved old new a b d outs more w h =
    let P : List ℕ → Type 0 = λ x. Appends a d x in (h.0, subst P (sym (bytes-append outs more)) (Appends-trans a b d _ _ w h.1))
Breaks-after StreamFault.RecordTooLong old new a b d outs more w h = absurd h
Breaks-after StreamFault.StoreRefused old new a b d outs more w h = absurd h
Breaks-after StreamFault.ReadFault old new a b d outs more w h = absurd h

Front-kept : (a b d : Option (List ℕ)) (x : List ℕ) → WroteFront a b x → Keeps b d → WroteFront a d x
Front-kept a b d x w k = record { front = w.front; rest = w.rest; parts = w.parts; appends = Appends-kept a b d w.front w.appends k }

Breaks-kept : (fault : StreamFault) (old new : DaemonState) (a b d : Option (List ℕ)) (outs : List Outputs) → Breaks fault old new a b outs → Keeps b d → Breaks fault old new a d outs
Breaks-kept StreamFault.WriteFault old new a b d outs h k = (h.0, Front-kept a b d _ h.1 k)
Breaks-kept StreamFault.Starved old new a b d outs h k = (h.0, Appends-kept a b d _ h.1 k)
Breaks-kept StreamFault.RecordTooLong old new a b d outs h k = absurd h
Breaks-kept StreamFault.StoreRefused old new a b d outs h k = absurd h
Breaks-kept StreamFault.ReadFault old new a b d outs h k = absurd h

-- behind an event that sends nothing
Breaks-heard : (fault : StreamFault) (old new : DaemonState) (a b : Option (List ℕ)) (heard : Outputs) (outs : List Outputs) → heard.sent ≡ None → Breaks fault old new a b outs → Breaks fault old new a b (heard ∷ outs)
Breaks-heard StreamFault.WriteFault old new a b heard outs e h = let P : List ℕ → Type 0 = λ x. WroteFront a b x in (h.0, subst P (sym (heard-bytes heard outs e)) h.1)
Breaks-heard StreamFault.Starved old new a b heard outs e h = let P : List ℕ → Type 0 = λ x. Appends a b x in (h.0, subst P (sym (heard-bytes heard outs e)) h.1)
Breaks-heard StreamFault.RecordTooLong old new a b heard outs e h = absurd h
Breaks-heard StreamFault.StoreRefused old new a b heard outs e h = absurd h
Breaks-heard StreamFault.ReadFault old new a b heard outs e h = absurd h

-- ---- turns

module _ (old mid new : DaemonState) (piece : Event) (bytes : List ℕ) (heard : Outputs) (is : IsPiece piece bytes) (step : DaemonStep old piece heard mid) (before after later : Option (List ℕ)) (kept : Keeps after later) where
  hears : (whole : ℕ) → Waits (place_of 0 mid.links) mid whole → Hears old bytes heard whole mid
  hears whole waits = record { piece = piece; is = is; step = step; waits = waits }

  breaks : (fault : StreamFault) → AnswersSome fault mid new before after → BrokenTurn fault old new bytes before later
  breaks fault a = record {
    outs = heard ∷ (in_order a.answers ++ a.last);
    mid = a.mid;
    turn = record { heard = heard; mid = mid; whole = a.whole; hears = hears a.whole a.waits; answers = a.answers; next = a.next; each = a.each; last = a.last; part = a.part; some = a.some; all = refl };
    breaks = Breaks-heard fault a.mid new before later heard (in_order a.answers ++ a.last) (piece-sends old mid piece bytes heard is step) (Breaks-kept fault a.mid new before after later (in_order a.answers ++ a.last) a.breaks kept);
  }

  -- an answer that was cut short ends the turn
  pub broken : (fault : StreamFault) → AnswersSome fault mid new before after → TurnEnds (Err fault) old new bytes before later
  broken StreamFault.WriteFault a = breaks StreamFault.WriteFault a
  broken StreamFault.Starved a = inr (breaks StreamFault.Starved a)
  broken StreamFault.RecordTooLong a = absurd a.breaks
  broken StreamFault.StoreRefused a = absurd a.breaks
  broken StreamFault.ReadFault a = absurd a.breaks

  -- all was written, and could not be handed on
  pub unflushed : AnswersAll mid new before after → BrokenTurn StreamFault.WriteFault old new bytes before later
  unflushed a = record {
    outs = heard ∷ (in_order a.answers ++ []);
    mid = new;
    turn = record { heard = heard; mid = mid; whole = length a.answers; hears = hears (length a.answers) a.waits; answers = a.answers; next = new; each = a.each; last = []; part = refl; some = omega arith; all = refl };
    breaks = Breaks-heard StreamFault.WriteFault new new before later heard (in_order a.answers ++ []) (piece-sends old mid piece bytes heard is step) (let P : List Outputs → Type 0 = λ os. WroteFront before later (all_bytes_sent os) in (refl, subst P (sym (append-nil (in_order a.answers))) (Front-kept before after later _ (WroteFront-whole before after _ a.wrote) kept)));
  }

  pub whole : (met : Option EventRefusal) → heard.refusal ≡ met → AnswersAll mid new before after → WholeTurn old new bytes before later (option_to_list met)
  whole met e a = record {
    outs = heard ∷ in_order a.answers;
    turn = record { heard = heard; mid = mid; answers = a.answers; hears = hears (length a.answers) a.waits; each = a.each; all = refl };
    wrote = let P : List ℕ → Type 0 = λ b. Appends before later b in
        subst P (sym (heard-bytes heard (in_order a.answers) (piece-sends old mid piece bytes heard is step))) (Appends-kept before after later _ a.wrote kept);
    met_is = ap (λ (r : Option EventRefusal). option_to_list r) e;
  }

-- a piece asks no store

marked-agreed : (fault : Bool) → (marked_by fault).refusal ≡ Some EventRefusal.StoreRefused → ⊥
marked-agreed false e = cc
marked-agreed true e = cc

hears-agreed : (o : EventOutcome) (old new : Link) (bytes : List ℕ) (out : Outputs) → HearsOn o old bytes out new → out.refusal ≡ Some EventRefusal.StoreRefused → ⊥
hears-agreed Applied old new bytes out h e = marked-agreed h.1.1 (sym (ap (λ (o : Outputs). o.refusal) h.1.3) ∙ e)
hears-agreed Starved old new bytes out h e = cc
hears-agreed NoSegment old new bytes out h e = absurd h

receives-agreed : (receives : Bool) (old new : Link) (bytes : List ℕ) (out : Outputs) → Receives receives old bytes out new → out.refusal ≡ Some EventRefusal.StoreRefused → ⊥
receives-agreed true old new bytes out h e = hears-agreed out.outcome old new bytes out h e
receives-agreed false old new bytes out h e = cc

pieces-at-agreed : (place : Option ℕ) (bytes : List ℕ) (old new : DaemonState) (out : Outputs) → Pieces place bytes old out new → out.refusal ≡ Some EventRefusal.StoreRefused → ⊥
pieces-at-agreed None bytes old new out h e = cc
pieces-at-agreed (Some place) bytes old new out h e = receives-agreed h.link.receives h.link h.link' bytes out h.receives e

pieces-agreed : (old new : DaemonState) (event : Event) (bytes : List ℕ) (out : Outputs) → IsPiece event bytes → DaemonStep old event out new → out.refusal ≡ Some EventRefusal.StoreRefused → ⊥
pieces-agreed old new (Piece number v) bytes out is h e = pieces-at-agreed (place_of number old.links) v.items old new out h e
pieces-agreed old new _ bytes out is h e = absurd is

-- a piece that was refused
pub refused-turn : (old mid new : DaemonState) (piece : Event) (bytes : List ℕ) (heard : Outputs) → IsPiece piece bytes → DaemonStep old piece heard mid → (before after later : Option (List ℕ)) → Keeps after later → (r : EventRefusal) → heard.refusal ≡ Some r
    → AnswersAll mid new before after → TurnEnds (Err (fault_of r)) old new bytes before later
refused-turn old mid new piece bytes heard is step before after later kept EventRefusal.Starved e a = inl (whole old mid new piece bytes heard is step before after later kept (Some EventRefusal.Starved) e a)
refused-turn old mid new piece bytes heard is step before after later kept EventRefusal.StoreRefused e a = absurd (pieces-agreed old mid piece bytes heard is step e)
refused-turn old mid new piece bytes heard is step before after later kept EventRefusal.RecordTooLong e a = whole old mid new piece bytes heard is step before after later kept (Some EventRefusal.RecordTooLong) e a

first-turn : (old mid new : DaemonState) (outs more : List Outputs) (met : List EventRefusal) (piece : List ℕ) → mid ≡ old → outs ≡ [] → met ≡ [] → (t : Turn mid piece more new)
    → Turns old (piece ∷ []) (outs ++ more) (met ++ met_by t.heard) new
first-turn old mid new outs more met piece h o m t =
    let P : DaemonState → Type 0 = λ q. (u : Turn q piece more new) × (met_by u.heard ≡ met_by t.heard) in
    let moved = subst P h (t, refl) in (
      new,
      more,
      [],
      [],
      moved.0,
      (refl, refl, refl),
      ap (λ (os : List Outputs). os ++ more) o ∙ sym (append-nil more),
      ap (λ (rs : List EventRefusal). rs ++ met_by t.heard) m ∙ sym moved.1 ∙ sym (append-nil (met_by moved.0.heard)),
    )

pub Turns-more : (old mid new : DaemonState) (pieces : List (List ℕ)) (outs more : List Outputs) (met : List EventRefusal) (piece : List ℕ) → Turns old pieces outs met mid → (t : Turn mid piece more new)
    → Turns old (pieces ++ piece ∷ []) (outs ++ more) (met ++ met_by t.heard) new
Turns-more old mid new [] outs more met piece h t = first-turn old mid new outs more met piece h.0 h.1 h.2 t
Turns-more old mid new (p ∷ pieces) outs more met piece h t =
    let rest = Turns-more h.0 mid new pieces h.2 more h.3 piece h.5 t in (
      h.0,
      h.1,
      h.2 ++ more,
      h.3 ++ met_by t.heard,
      h.4,
      rest,
      ap (λ (os : List Outputs). os ++ more) h.6 ∙ append_assoc h.1 h.2 more,
      ap (λ (rs : List EventRefusal). rs ++ met_by t.heard) h.7 ∙ append_assoc (met_by h.4.heard) h.3 (met_by t.heard),
    )

pub PipeRun-more : (events : List Event) (start : DaemonState) (pieces : List (List ℕ)) (outs more : List Outputs) (met : List EventRefusal) (mid new : DaemonState) (piece : List ℕ) → PipeRun events start pieces outs met mid → (t : Turn mid piece more new)
    → PipeRun events start (pieces ++ piece ∷ []) (outs ++ more) (met ++ met_by t.heard) new
PipeRun-more events start pieces outs more met mid new piece r t = record {
  begun = r.begun;
  firsts = r.firsts;
  begins = r.begins;
  agreed = r.agreed;
  rest = r.rest ++ more;
  turns = Turns-more r.begun mid new pieces r.rest more met piece r.turns t;
  all = ap (λ (os : List Outputs). os ++ more) r.all ∙ append_assoc r.firsts r.rest more;
}

pub joined-more : (pieces : List (List ℕ)) (piece : List ℕ) → concatenation (pieces ++ piece ∷ []) ≡ concatenation pieces ++ piece
joined-more pieces piece = flat_map-append (λ p. p) pieces (piece ∷ []) ∙ ap (λ x. concatenation pieces ++ x) (append-nil piece)

-- ---- the whole loop

-- so many pieces, and perhaps more
pub ends-within : (events : List Event) (start : DaemonState) (most bound : ℕ) → most ≤ bound → (unread left before after : Option (List ℕ)) (daemon_state : DaemonState) → EndsAt events start most unread left before after [] daemon_state → EndsAt events start bound unread left before after [] daemon_state
ends-within events start most bound fits unread left before after daemon_state e = record { pieces = e.pieces; few = omega arith; short = e.short; outs = e.outs; run = e.run; read = e.read; wrote = e.wrote }

-- there was no memory for the place of the pieces
pub unplaced : (events : List Event) (start : DaemonState) (bound : ℕ) (unread left before after : Option (List ℕ)) (daemon_state : DaemonState) → EndsAt events start 0 unread left before after [] daemon_state → (end : DaemonState) → StreamEnds events start bound (Err StreamFault.Starved) unread left before after end
unplaced events start bound unread left before after daemon_state e end = inr (inl (inl (daemon_state, e)))

module _ (events : List Event) (start : DaemonState) (most next : ℕ) (one_more : most < next) (unread left before after : Option (List ℕ)) (mid : DaemonState) (so_far : EndsAt events start most unread left before after [] mid) where
  -- a read that failed
  pub read-kept : (later : Option (List ℕ)) → Keeps left later → EndsAt events start next unread later before after [] mid
  read-kept later k = record { pieces = so_far.pieces; few = omega arith; short = so_far.short; outs = so_far.outs; run = so_far.run; read = Consumes-kept unread left later _ so_far.read k; wrote = so_far.wrote }

  -- the end, which was read as an empty piece
  pub read-nothing : (later : Option (List ℕ)) (piece : List ℕ) → piece ≡ [] → Consumes left later piece → EndsAt events start most unread later before after [] mid
  read-nothing later piece e read = record {
    pieces = so_far.pieces;
    few = so_far.few;
    short = so_far.short;
    outs = so_far.outs;
    run = so_far.run;
    read = let P : List ℕ → Type 0 = λ x. Consumes unread later x in
        subst P (append-nil (concatenation so_far.pieces)) (Consumes-trans unread left later (concatenation so_far.pieces) [] so_far.read (let Q : List ℕ → Type 0 = λ x. Consumes left later x in subst Q e read));
    wrote = so_far.wrote;
  }

  module _ (later : Option (List ℕ)) (piece : List ℕ) (short : IsShort piece) (read : Consumes left later piece) (new : DaemonState) (written : Option (List ℕ)) where
    pub turn-more : (met : List EventRefusal) → WholeTurn mid new piece after written met → EndsAt events start next unread later before written met new
    turn-more met t = record {
      pieces = so_far.pieces ++ piece ∷ [];
      few = let longer = length-append so_far.pieces (piece ∷ []) in omega (arith, longer);
      short = All-push IsShort so_far.pieces piece so_far.short short;
      outs = so_far.outs ++ t.outs;
      run = let P : List EventRefusal → Type 0 = λ rs. PipeRun events start (so_far.pieces ++ piece ∷ []) (so_far.outs ++ t.outs) rs new in
          subst P t.met_is (PipeRun-more events start so_far.pieces so_far.outs t.outs [] mid new piece so_far.run t.turn);
      read = let P : List ℕ → Type 0 = λ x. Consumes unread later x in subst P (sym (joined-more so_far.pieces piece)) (Consumes-trans unread left later _ piece so_far.read read);
      wrote = let P : List ℕ → Type 0 = λ x. Appends before written x in subst P (sym (bytes-append so_far.outs t.outs)) (Appends-trans before after written _ _ so_far.wrote t.wrote);
    }

    turn-broken : (fault : StreamFault) → BrokenTurn fault mid new piece after written → BrokenPipe fault events start next unread later before written
    turn-broken fault t = record {
      pieces = so_far.pieces;
      few = omega arith;
      short = so_far.short;
      outs = so_far.outs;
      mid = mid;
      run = so_far.run;
      last = piece;
      last_short = short;
      more = t.outs;
      next = t.mid;
      turn = t.turn;
      end = new;
      read = Consumes-trans unread left later _ piece so_far.read read;
      breaks = Breaks-after fault t.mid new before after written so_far.outs t.outs so_far.wrote t.breaks;
    }

    turn-starved : WholeTurn mid new piece after written (EventRefusal.Starved ∷ []) ⊎ BrokenTurn StreamFault.Starved mid new piece after written → (end : DaemonState) → StreamEnds events start next (Err StreamFault.Starved) unread later before written end
    turn-starved (inl t) end = inr (inl (inr (new, turn-more (EventRefusal.Starved ∷ []) t)))
    turn-starved (inr t) end = inr (inr (turn-broken StreamFault.Starved t))

    pub turn-failed : (f : StreamFault) → TurnEnds (Err f) mid new piece after written → (end : DaemonState) → StreamEnds events start next (Err f) unread later before written end
    turn-failed StreamFault.Starved t end = turn-starved t end
    turn-failed StreamFault.RecordTooLong t end = (new, turn-more (EventRefusal.RecordTooLong ∷ []) t)
    turn-failed StreamFault.WriteFault t end = turn-broken StreamFault.WriteFault t
    turn-failed StreamFault.ReadFault t end = absurd t
    turn-failed StreamFault.StoreRefused t end = absurd t

-- ---- the beginning

connects-sends : (place : Option ℕ) (o : EventOutcome) (number : ℕ) (peer : Peer) (old new : DaemonState) (out : Outputs) → Connects place o number peer old out new → out.sent ≡ None
connects-sends (Some place) o number peer old new out h = sent_of h.1
connects-sends None Applied number peer old new out h = sent_of h.1
connects-sends None Starved number peer old new out h = sent_of h.1
connects-sends None NoSegment number peer old new out h = absurd h

-- the events of the beginning send nothing
connect-quiet : (old new : DaemonState) (outs : List Outputs) → Run old (Connect 0 PIPE ∷ []) outs new → all_bytes_sent outs ≡ []
connect-quiet old new [] h = absurd h
connect-quiet old new (a ∷ []) h = heard-bytes a [] (connects-sends (place_of 0 old.links) a.outcome 0 PIPE old h.0 a h.1)
connect-quiet old new (a ∷ b ∷ outs) h = absurd h.2

begins-quietly : (grace : Bool) (old new : DaemonState) (outs : List Outputs) → Run old (beginning grace) outs new → all_bytes_sent outs ≡ []
begins-quietly true old new [] h = absurd h
begins-quietly true old new (a ∷ outs) h = heard-bytes a outs (sent_of h.1.outputs) ∙ connect-quiet h.0 new outs h.2
begins-quietly false old new [] h = absurd h
begins-quietly false old new (a ∷ []) h = absurd h.2
begins-quietly false old new (a ∷ b ∷ outs) h = heard-bytes a (b ∷ outs) (sent_of h.1.outputs) ∙ heard-bytes b outs (sent_of h.2.1.outputs) ∙ connect-quiet h.2.0 new outs h.2.2

pub at-start : (grace : Bool) (start daemon_state : DaemonState) (unread before : Option (List ℕ)) → BeginsAll (beginning grace) start daemon_state → EndsAt (beginning grace) start 0 unread unread before before [] daemon_state
at-start grace start daemon_state unread before b = record {
  pieces = [];
  few = omega arith;
  short = All-nil IsShort;
  outs = b.outs;
  run = record { begun = daemon_state; firsts = b.outs; begins = b.run; agreed = b.agreed; rest = []; turns = (refl, refl, refl); all = sym (append-nil b.outs) };
  read = Consumes-nil unread;
  wrote = let P : List ℕ → Type 0 = λ x. Appends before before x in subst P (sym (begins-quietly grace start daemon_state b.outs b.run)) (Appends-nil before);
}

pub unbegun : (events : List Event) (start daemon_state : DaemonState) (bound : ℕ) (why : EventRefusal) (unread before : Option (List ℕ)) (end : DaemonState) → BeginsSome events why start daemon_state → (why ≡ EventRefusal.RecordTooLong → ⊥) → StreamEnds events start bound (Err (fault_of why)) unread unread before before end
unbegun events start daemon_state bound EventRefusal.Starved unread before end some short = inl (inr (record { end = daemon_state; some = some; untouched = record { read = Keeps-refl unread; wrote = Keeps-refl before } }))
unbegun events start daemon_state bound EventRefusal.RecordTooLong unread before end some short = absurd (short refl)
unbegun events start daemon_state bound EventRefusal.StoreRefused unread before end some short = record { end = daemon_state; some = some; untouched = record { read = Keeps-refl unread; wrote = Keeps-refl before } }
