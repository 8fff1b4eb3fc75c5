-- Lines go on.
use Rattle.std.proofs.Common.{◌≡◌, ℕ, ◌+◌, ◌<◌, ◌≤◌, Bool, true, eqb, List, [], ◌∷◌, ◌++◌, length, take, drop, get_or, Option, Some, None, refl, sym, ◌∙◌, ap, subst, append_assoc, length-take-le}
use Rattle.std.specs.Prelude.{Result, Ok, Err, IfOk, IfErr}
use Rattle.std.specs.Option.{option_to_list}
use Rattle.std.proofs.lemmas.Bool.{eqb-true}
use Rattle.std.specs.Io.KnownBytes.{Appends, Consumes, IsAtEnd, Keeps}
use Rattle.std.proofs.KnownBytes.{Consumes-nil, Consumes-trans, Consumes-kept, Appends-nil, Appends-trans, Appends-kept}
use Rattle.std.proofs.lemmas.Grind.{flat_map-append}
use Rattle.std.proofs.lemmas.List.{append-nil, take_more, take-append-drop}
use Rattle.definitions.specs.Bytes.{Bytes}
use Rattle.definitions.specs.Step.{State, Given, Starved}
use Rattle.definitions.specs.Hosts.{NotAsked}
use Rattle.book.specs.declared.event.BookEvent.{BookEvent}
use Rattle.book.specs.Given.{StepResult}
use Rattle.book.specs.Notes.{JournalEvent, AsksLine, Note, Steps, view_of_event}
use Rattle.workers.specs.Holds.{Held, entry_of, Notes, Adds}
use Rattle.workers.specs.Answers.{StarvesAs}
use Rattle.byte_io.specs.Written.{Wrote, WroteFront}
use Rattle.byte_io.specs.declared.written.WriteFault.{WriteFault}
use Rattle.byte_io.proofs.Appending.{WroteFront-whole}
use Rattle.line_loop.specs.declared.ending.LinesEnding.{LinesEnding}
use Rattle.line_loop.specs.declared.ending.LinesEnding.TheVariants as ending
use Rattle.line_loop.specs.Lines.{IsOpen, Answer, AreOpen, bytes_of_lines, kept_prefix, text_of, texts, entries, IsAnswered, AreAnswered, Asks, Trace, trace, Goes, Serves, ServesFront, Breaks, Cuts, Stops, Ends, Turns, Takes, Hears, IsSaid, AnswersLine, Finishes, TellsOf}

open-all : (ls ms : List Answer) → AreOpen ls → AreOpen ms → AreOpen (ls ++ ms)
open-all [] ms p q = q
open-all (l ∷ ls) ms p q = (p.0, open-all ls ms p.1 q)

answered-all : (c : ℕ) (ls ms : List Answer) → AreAnswered c ls → AreAnswered c ms → AreAnswered c (ls ++ ms)
answered-all c [] ms p q = q
answered-all c (l ∷ ls) ms p q = (p.0, answered-all c ls ms p.1 q)

-- ---- what is written and noted

Goes-none : (x : Trace) → Goes x x [] []
Goes-none x = record { wrote = Appends-nil x.written; noted = sym (append-nil x.told) }

Goes-trans : (x y z : Trace) (s t : Bytes) (ms ns : List Note) → Goes x y s ms → Goes y z t ns → Goes x z (s ++ t) (ms ++ ns)
Goes-trans x y z s t ms ns g h = record {
  wrote = Appends-trans x.written y.written z.written s t g.wrote h.wrote;
  noted = h.noted ∙ ap (λ (l : List Note). l ++ ns) g.noted ∙ append_assoc x.told ms ns;
}

-- ---- bytes that are answered

pub Serves-none : (c : ℕ) (part : Bytes) (x : Trace) → IsOpen part → Serves c part [] part x x
Serves-none c part x o = record { answers = []; joined = append-nil part; whole = tt; unended = o; answered = tt; goes = Goes-none x }

pub Serves-line : (c : ℕ) (part : Bytes) (x y : Trace) → IsOpen part → IsSaid c (kept_prefix part) x y → Serves c part (10 ∷ []) [] x y
Serves-line c part x y o said = record {
  answers = record { line = part; given = said.0; entry = said.1 } ∷ [];
  joined = sym (append-nil (part ++ 10 ∷ [])) ∙ sym (append-nil ((part ++ 10 ∷ []) ++ []));
  whole = (o, tt);
  unended = refl;
  answered = (said.2, tt);
  goes = record {
    wrote = subst (λ (bytes : Bytes). Appends x.written y.written bytes) (sym (append-nil (text_of said.0))) said.3.wrote;
    noted = said.3.noted ∙ ap (λ (l : List Note). x.told ++ l) (sym (append-nil (option_to_list said.1)));
  };
}

pub Serves-append : (c : ℕ) (p q r : Bytes) (bs cs : Bytes) (x y z : Trace) → Serves c p bs q x y → Serves c q cs r y z → Serves c p (bs ++ cs) r x z
Serves-append c p q r bs cs x y z s t = record {
  answers = s.answers ++ t.answers;
  joined =
      sym (append_assoc p bs cs) ∙ ap (λ (l : Bytes). l ++ cs) s.joined ∙ append_assoc (bytes_of_lines s.answers) q cs
      ∙ ap (λ (l : Bytes). bytes_of_lines s.answers ++ l) t.joined ∙ sym (append_assoc (bytes_of_lines s.answers) (bytes_of_lines t.answers) r)
      ∙ ap (λ (l : Bytes). l ++ r) (sym (flat_map-append (λ (a : Answer). a.line ++ 10 ∷ []) s.answers t.answers));
  whole = open-all s.answers t.answers s.whole t.whole;
  unended = t.unended;
  answered = answered-all c s.answers t.answers s.answered t.answered;
  goes = subst (λ (w : Bytes × List Note). Goes x z w.0 w.1) (λ i. (sym (flat_map-append (λ (a : Answer). text_of a.given) s.answers t.answers) i, sym (flat_map-append (λ (a : Answer). option_to_list a.entry) s.answers t.answers) i))
      (Goes-trans x y z (texts s.answers) (texts t.answers) (entries s.answers) (entries t.answers) s.goes t.goes);
}

-- ---- ends

pub Front-none : (c : ℕ) (part bytes : Bytes) (x : Trace) → IsOpen part → ServesFront c part bytes x x
Front-none c part bytes x o = record { front = []; rest = bytes; is = refl; left = part; serves = Serves-none c part x o }

pub Front-all : (c : ℕ) (part bytes left : Bytes) (x y : Trace) → Serves c part bytes left x y → ServesFront c part bytes x y
Front-all c part bytes left x y s = record { front = bytes; rest = []; is = sym (append-nil bytes); left = left; serves = s }

module _ (c : ℕ) (p q : Bytes) (bs : Bytes) (x y : Trace) (s : Serves c p bs q x y) where
  Front-after : (cs : Bytes) (z : Trace) → ServesFront c q cs y z → ServesFront c p (bs ++ cs) x z
  Front-after cs z f = record {
    front = bs ++ f.front;
    rest = f.rest;
    is = ap (λ (l : Bytes). bs ++ l) f.is ∙ sym (append_assoc bs f.front f.rest);
    left = f.left;
    serves = Serves-append c p q f.left bs f.front x y z s f.serves;
  }

  Breaks-after : (cs : Bytes) (z : Trace) → Breaks c q cs y z → Breaks c p (bs ++ cs) x z
  Breaks-after cs z f = record {
    front = bs ++ f.front;
    rest = f.rest;
    is = ap (λ (l : Bytes). bs ++ l) f.is ∙ sym (append_assoc bs f.front (10 ∷ f.rest));
    line = f.line;
    between = f.between;
    serves = Serves-append c p q f.line bs f.front x y f.between s f.serves;
    given = f.given;
    entry = f.entry;
    answered = f.answered;
    goes = f.goes;
  }

  Cuts-after : (e : LinesEnding) (cs : Bytes) (z : Trace) → Cuts e c q cs y z → Cuts e c p (bs ++ cs) x z
  Cuts-after ending.Over cs z h = absurd h
  Cuts-after ending.Stopped cs z h = Front-after cs z h
  Cuts-after ending.Starved cs z h = absurd h
  Cuts-after ending.ReadFault cs z h = Front-after cs z h
  Cuts-after ending.WriteFault cs z h = Breaks-after cs z h

  pub Stops-after : (u m l : Option Bytes) → Consumes u m bs → (e : LinesEnding) (z : Trace) → Stops e c q m l y z → Stops e c p u l x z
  Stops-after u m l read ending.Over z h = (bs ++ h.0, Consumes-trans u m l bs h.0 read h.1, h.2, (h.3.0, Serves-append c p q h.3.0 bs h.0 x y z s h.3.1))
  Stops-after u m l read ending.Stopped z h = (bs ++ h.0, Consumes-trans u m l bs h.0 read h.1, Front-after h.0 z h.2)
  Stops-after u m l read ending.Starved z h = absurd h.2
  Stops-after u m l read ending.ReadFault z h = (bs ++ h.0, Consumes-trans u m l bs h.0 read h.1, Front-after h.0 z h.2)
  Stops-after u m l read ending.WriteFault z h = (bs ++ h.0, Consumes-trans u m l bs h.0 read h.1, Breaks-after h.0 z h.2)

-- more bytes may stand behind those that cut it
pub Cuts-longer : (e : LinesEnding) (c : ℕ) (p bs cs : Bytes) (x y : Trace) → Cuts e c p bs x y → Cuts e c p (bs ++ cs) x y
Cuts-longer ending.Over c p bs cs x y h = absurd h
Cuts-longer ending.Stopped c p bs cs x y h = record { front = h.front; rest = h.rest ++ cs; is = ap (λ (l : Bytes). l ++ cs) h.is ∙ append_assoc h.front h.rest cs; left = h.left; serves = h.serves }
Cuts-longer ending.Starved c p bs cs x y h = absurd h
Cuts-longer ending.ReadFault c p bs cs x y h = record { front = h.front; rest = h.rest ++ cs; is = ap (λ (l : Bytes). l ++ cs) h.is ∙ append_assoc h.front h.rest cs; left = h.left; serves = h.serves }
Cuts-longer ending.WriteFault c p bs cs x y h = record {
  front = h.front;
  rest = h.rest ++ cs;
  is = ap (λ (l : Bytes). l ++ cs) h.is ∙ append_assoc h.front (10 ∷ h.rest) cs;
  line = h.line;
  between = h.between;
  serves = h.serves;
  given = h.given;
  entry = h.entry;
  answered = h.answered;
  goes = h.goes;
}

-- ---- a line

-- the end of a line is the byte that was taken
pub line-said : (e : Option LinesEnding) (c : ℕ) (part line : Bytes) (x y : Trace) → IsOpen part → line ≡ kept_prefix part → AnswersLine e c line x y → Takes e c part (10 ∷ []) [] x y
line-said None c part line x y o is h = Serves-line c part x y o (subst (λ (l : Bytes). IsSaid c l x y) is h)
line-said (Some ending.Stopped) c part line x y o is h = Front-all c part (10 ∷ []) [] x y (Serves-line c part x y o (subst (λ (l : Bytes). IsSaid c l x y) is h))
line-said (Some ending.WriteFault) c part line x y o is h = record {
  front = [];
  rest = [];
  is = refl;
  line = part;
  between = x;
  serves = Serves-none c part x o;
  given = h.0;
  entry = h.1;
  answered = subst (λ (l : Bytes). IsAnswered c l h.0 h.1) is h.2;
  goes = h.3;
}
line-said (Some ending.Over) c part line x y o is h = absurd h
line-said (Some ending.Starved) c part line x y o is h = absurd h
line-said (Some ending.ReadFault) c part line x y o is h = absurd h

-- what a line was answered was written, or a front of it
pub line-answered : (e : Option LinesEnding) (r : Result (Unit {0}) WriteFault) (c : ℕ) (line : Bytes) (given : Given) (a b : Option Bytes) (told told' : List Note) → Asks c line given told told' → Wrote a b r (text_of given) → Finishes r e → AnswersLine e c line (trace a told) (trace b told')
line-answered None (Ok done) c line given a b told told' asked wrote ends = (given, asked.0, asked.1, record { wrote = wrote; noted = asked.2 })
line-answered (Some ending.Stopped) (Ok done) c line given a b told told' asked wrote ends = (given, asked.0, asked.1, record { wrote = wrote; noted = asked.2 })
line-answered (Some ending.WriteFault) (Err fault) c line given a b told told' asked wrote ends = (given, asked.0, asked.1, record { wrote = wrote; noted = asked.2 })
line-answered (Some ending.Over) (Ok done) c line given a b told told' asked wrote ends = absurd ends
line-answered (Some ending.Starved) (Ok done) c line given a b told told' asked wrote ends = absurd ends
line-answered (Some ending.ReadFault) (Ok done) c line given a b told told' asked wrote ends = absurd ends
line-answered (Some ending.WriteFault) (Ok done) c line given a b told told' asked wrote ends = absurd ends
line-answered None (Err fault) c line given a b told told' asked wrote ends = absurd ends
line-answered (Some ending.Over) (Err fault) c line given a b told told' asked wrote ends = absurd ends
line-answered (Some ending.Starved) (Err fault) c line given a b told told' asked wrote ends = absurd ends
line-answered (Some ending.ReadFault) (Err fault) c line given a b told told' asked wrote ends = absurd ends
line-answered (Some ending.Stopped) (Err fault) c line given a b told told' asked wrote ends = absurd ends

pub flush_done : (a b d : Option Bytes) (x : Bytes) → Appends a b x → Keeps b d → Appends a d x
flush_done a b d x p k = Appends-kept a b d x p k

pub flush_failed : (a b d : Option Bytes) (x : Bytes) → Appends a b x → Keeps b d → WroteFront a d x
flush_failed a b d x p k = WroteFront-whole a d x (Appends-kept a b d x p k)

-- ---- a piece

-- nothing was read
pub nothing-read : (c : ℕ) (part : Bytes) (u l : Option Bytes) (x : Trace) → IsOpen part → Keeps u l → Turns None c part part u l x x
nothing-read c part u l x o keeps = ([], Consumes-kept u u l [] (Consumes-nil u) keeps, Serves-none c part x o)

pub read-failed : (c : ℕ) (part : Bytes) (u l : Option Bytes) (x : Trace) → IsOpen part → Keeps u l → Stops ending.ReadFault c part u l x x
read-failed c part u l x o keeps = ([], Consumes-kept u u l [] (Consumes-nil u) keeps, Front-none c part [] x o)

-- how a turn ends it
pub stopped : (e : LinesEnding) (c : ℕ) (u l : Option Bytes) (x y : Trace) → Stops e c [] u l x y → Ends e c u l x y
stopped ending.Over c u l x y h = h
stopped ending.Stopped c u l x y h = h
stopped ending.Starved c u l x y h = absurd h.2
stopped ending.ReadFault c u l x y h = h
stopped ending.WriteFault c u l x y h = h

-- what was read was answered
pub piece-heard : (e : Option LinesEnding) (c count : ℕ) (part rest place : Bytes) (u l : Option Bytes) (x y : Trace) → (count ≤ length place) × Consumes u l (take count place) × (count ≡ 0 → IsAtEnd l) → Hears e c part (take count place) rest x y → Turns e c part rest u l x y
piece-heard None c count part rest place u l x y read h = (take count place, read.1, h)
piece-heard (Some ending.Over) c count part rest place u l x y read h =
    let none : count ≡ 0 = sym (length-take-le count place read.0) ∙ ap length h.0 in
    ([], subst (Consumes u l) h.0 read.1, read.2 none, (rest, h.1))
piece-heard (Some ending.Stopped) c count part rest place u l x y read h = (take count place, read.1, h)
piece-heard (Some ending.Starved) c count part rest place u l x y read h = absurd h
piece-heard (Some ending.ReadFault) c count part rest place u l x y read h = (take count place, read.1, h)
piece-heard (Some ending.WriteFault) c count part rest place u l x y read h = (take count place, read.1, h)

-- ---- a byte

pub byte_ended : (e : Option LinesEnding) (c : ℕ) (part rest : Bytes) (byte : ℕ) (t : Bool) (x y : Trace) → t ≡ eqb byte 10 → t ≡ true → Takes e c part (10 ∷ []) rest x y → Takes e c part (byte ∷ []) rest x y
byte_ended e c part rest byte t x y is fed h = subst (λ (b : ℕ). Takes e c part (b ∷ []) rest x y) (sym (eqb-true byte 10 (sym is ∙ fed))) h

pub byte_added : (c : ℕ) (part more : Bytes) (byte : ℕ) (x : Trace) → IsOpen more → more ≡ part ++ byte ∷ [] → Serves c part (byte ∷ []) more x x
byte_added c part more byte x o added = record { answers = []; joined = sym added; whole = tt; unended = o; answered = tt; goes = Goes-none x }

module _ (c : ℕ) (p piece : Bytes) (i d : ℕ) (q : Bytes) (x y : Trace) (within : i < length piece) (s : Serves c p (take i piece) q x y) where
  pub piece-more : (r : Bytes) (z : Trace) → Serves c q (get_or piece i d ∷ []) r y z → Serves c p (take (i + 1) piece) r x z
  piece-more r z t = subst (λ (l : Bytes). Serves c p l r x z) (sym (take_more piece i d within)) (Serves-append c p q r (take i piece) (get_or piece i d ∷ []) x y z s t)

  pub piece-cut : (e : LinesEnding) (z : Trace) → Cuts e c q (get_or piece i d ∷ []) y z → Cuts e c p piece x z
  piece-cut e z h =
      let front = subst (λ (l : Bytes). Cuts e c p l x z) (sym (take_more piece i d within)) (Cuts-after c p q (take i piece) x y s e (get_or piece i d ∷ []) z h) in
      subst (λ (l : Bytes). Cuts e c p l x z) (take-append-drop (i + 1) piece) (Cuts-longer e c p (take (i + 1) piece) (drop (i + 1) piece) x z front)

-- ---- what a hold gave

pub starved_told : (event : JournalEvent) (given : Given) (u : StepResult) → u.completion ≡ Starved → u.store ≡ NotAsked → ((s : State) → Steps s event u s) → given ≡ u.given → StarvesAs event given
starved_told event given u completion store steps is = λ s. subst (λ (u : StepResult). Steps s event u s) (λ i. record { completion = completion i; store = store i; given = sym is i }) (steps s)

module _ (old new : Held) (c : ℕ) (line : Bytes) (event : BookEvent) (told told' : List Note) (is : view_of_event event ≡ AsksLine c line) where
  entered : (u : StepResult) (given : Given) (number : ℕ) → Notes old (view_of_event event) u new → Adds new (entry_of number (view_of_event event) u) told told' → given ≡ u.given → Asks c line given told told'
  entered u given number notes adds gave = (
    Some (entry_of number (view_of_event event) u),
    record { before = old; after = new; notes = subst (λ (h : JournalEvent). Notes old h u new) is notes; is_newest = adds.is_newest; event = is; gave = sym gave },
    adds.added,
  )

  pub asked : (r : Result StepResult BookEvent) (given : Given) → IfOk r (λ u. Notes old (view_of_event event) u new) → IfOk r (λ u. (number : ℕ) × Adds new (entry_of number (view_of_event event) u) told told') → IfErr r (λ back. (back ≡ event) × (told' ≡ told)) → TellsOf r given → Asks c line given told told'
  asked (Ok u) given noted adds none gave = entered u given adds.0 noted adds.1 gave
  asked (Err back) given noted adds none starved =
      (None, subst (λ (h : JournalEvent). StarvesAs h given) (ap view_of_event none.0 ∙ is) starved, none.1 ∙ sym (append-nil told))
