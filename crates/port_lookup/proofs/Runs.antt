-- Runs, by their newest event.
use Rattle.std.proofs.Common.{◌≡◌, ◌<◌, ℕ, ◌+◌, Bool, true, false, leb, List, [], ◌∷◌, ◌++◌, refl, sym, ap, subst, ◌∙◌, arith}
use Rattle.std.proofs.lemmas.Bool.{leb-false}
use Rattle.std.specs.Time.{instant_nanos}
use Rattle.std.specs.declared.time.Instant.{Instant}
use Rattle.port_mapper.specs.declared.port.Port.{Port}
use Rattle.port_mapper.specs.declared.reply.Response.{Response}
use Rattle.port_mapper.specs.declared.reply.Response.TheVariants.{Other, NoResult, Result}
use Rattle.port_mapper.specs.Replies.{ReadsPort, GivesPort}
use Rattle.port_lookup.specs.declared.lookup.Transport.{Transport}
use Rattle.port_lookup.specs.declared.lookup.Transport.TheVariants.{Tcp, Udp}
use Rattle.port_lookup.specs.declared.lookup.Question.{Question}
use Rattle.port_lookup.specs.declared.lookup.State.{State}
use Rattle.port_lookup.specs.declared.lookup.State.TheVariants.{Idle, Asked, Named, Unnamed}
use Rattle.port_lookup.specs.declared.lookup.Action.{Action}
use Rattle.port_lookup.specs.declared.lookup.Action.TheVariants.{Nothing, Connect, SendDatagram, Close}
use Rattle.port_lookup.specs.Lookups.{Event, Needed, Refused, Came, Passed, Lost, Steps, Hears, after, after_refusal, after_time, after_response, is_up, first_question}
use Rattle.port_lookup.specs.Laws.{Done, Runs, asked_by, ended_by, count_of, open_in, IsAskedOnce, IsBefore, AreBefore, IsOpen, HasADeadline, IsNoLoss, AreNoLosses, IsGiven, NamesWhatWasGiven}

-- ---- how many questions

-- an outcome asks as much as it ends
abbrev Balanced : State → State × Action → Type 0
Balanced b p = asked_by p.1 + open_in b ≡ ended_by p.1 + open_in p.0

balanced-refusal : (q : Question) (t : Transport) → Balanced (Asked q) (after_refusal q t)
balanced-refusal q Tcp = refl
balanced-refusal q Udp = refl

balanced-time : (q : Question) (up : Bool) → Balanced (Asked q) (after_time q up)
balanced-time q true = refl
balanced-time q false = refl

balanced-response : (q : Question) (r : Response Port) → Balanced (Asked q) (after_response q r)
balanced-response q Other = refl
balanced-response q NoResult = refl
balanced-response q (Result port) = refl

balanced-after : (b : State) (e : Event) → Balanced b (after b e)
balanced-after Idle (Needed xid until) = refl
balanced-after Idle Refused = refl
balanced-after Idle (Came bytes) = refl
balanced-after Idle (Passed now) = refl
balanced-after Idle Lost = refl
balanced-after (Asked q) (Needed xid until) = refl
balanced-after (Asked q) Refused = balanced-refusal q q.over
balanced-after (Asked q) (Came bytes) = refl
balanced-after (Asked q) (Passed now) = balanced-time q (is_up now q)
balanced-after (Asked q) Lost = refl
balanced-after (Named port) (Needed xid until) = refl
balanced-after (Named port) Refused = refl
balanced-after (Named port) (Came bytes) = refl
balanced-after (Named port) (Passed now) = refl
balanced-after (Named port) Lost = refl
balanced-after Unnamed (Needed xid until) = refl
balanced-after Unnamed Refused = refl
balanced-after Unnamed (Came bytes) = refl
balanced-after Unnamed (Passed now) = refl
balanced-after Unnamed Lost = refl

-- an event leads where `after` says, but where bytes come while it is asked
pub data Outcome (b : State) (e : Event) (p : State × Action) : Type 0 where
  Told : p ≡ after b e → Outcome b e p
  Heard : (q : Question) (bytes : List ℕ) (r : Response Port) → b ≡ Asked q → e ≡ Came bytes → ReadsPort q.xid bytes r → p ≡ after_response q r → Outcome b e p

outcome_of : (b : State) (e : Event) (s : State) (a : Action) → Steps b e s a → Outcome b e (s, a)
outcome_of Idle e s a p = Told p
outcome_of (Asked q) (Needed xid until) s a p = Told p
outcome_of (Asked q) Refused s a p = Told p
outcome_of (Asked q) (Came bytes) s a p = Heard q bytes p.0 refl refl p.1 p.2
outcome_of (Asked q) (Passed now) s a p = Told p
outcome_of (Asked q) Lost s a p = Told p
outcome_of (Named port) e s a p = Told p
outcome_of Unnamed e s a p = Told p

balanced : (b : State) (e : Event) (p : State × Action) → Outcome b e p → Balanced b p
balanced b e p (Told is) = subst (Balanced b) (sym is) (balanced-after b e)
balanced b e p (Heard q bytes r asked came reads is) = rw (asked, is) (balanced-response q r)

pub asked_once : IsAskedOnce
asked_once [] s runs = rw runs refl
asked_once (d ∷ earlier) s runs =
    let before = asked_once earlier runs.0 runs.1 in
    let step = balanced runs.0 d.0 (s, d.1) (outcome_of runs.0 d.0 s d.1 runs.2) in
    omega (arith, before, step)

-- ---- the question that was asked last

-- what is left and done is this
abbrev Same : State × Action → State × Action → Type 0
Same p r = p ≡ r

asked-same : (q o : Question) (a x : Action) → Same (Asked q, a) (Asked o, x) → (q ≡ o) × (a ≡ x)
asked-same q o a x e = let s : Asked q ≡ Asked o = ap (λ (p : State × Action). p.0) e in (cc, ap (λ (p : State × Action). p.1) e)

not-idle : (q : Question) (a x : Action) → Same (Asked q, a) (Idle, x) → ⊥
not-idle q a x e = let s : Asked q ≡ Idle = ap (λ (p : State × Action). p.0) e in cc

not-named : (q : Question) (port : Port) (a x : Action) → Same (Asked q, a) (Named port, x) → ⊥
not-named q port a x e = let s : Asked q ≡ Named port = ap (λ (p : State × Action). p.0) e in cc

not-unnamed : (q : Question) (a x : Action) → Same (Asked q, a) (Unnamed, x) → ⊥
not-unnamed q a x e = let s : Asked q ≡ Unnamed = ap (λ (p : State × Action). p.0) e in cc

-- an event leaves this question asked: it was asked by it, or before
pub data Opens (q : Question) (b : State) (e : Event) (a : Action) : Type 0 where
  First : e ≡ Needed q.xid q.until → a ≡ Connect → Opens q b e a
  Still : (o : Question) → b ≡ Asked o → o.xid ≡ q.xid → o.until ≡ q.until → ended_by a ≡ 0 → IsBefore q.until e → Opens q b e a

opens-first : (q : Question) (xid : ℕ) (until : Instant) (a : Action) → Same (Asked q, a) (Asked (first_question xid until), Connect) → Opens q Idle (Needed xid until) a
opens-first q xid until a e =
    let same = asked-same q (first_question xid until) a Connect e in
    First (sym (ap (λ (x : Question). Needed x.xid x.until) same.0)) same.1

opens-still : (q o : Question) (e : Event) (a : Action) → Same (Asked q, a) (Asked o, Nothing) → IsBefore o.until e → Opens q (Asked o) e a
opens-still q o e a is before =
    let same = asked-same q o a Nothing is in
    let P : Question → Type 0 = λ x. IsBefore x.until e in
    Still o refl (sym (ap (λ (x : Question). x.xid) same.0)) (sym (ap (λ (x : Question). x.until) same.0)) (ap ended_by same.1) (subst P (sym same.0) before)

opens-refusal : (q o : Question) (t : Transport) (a : Action) → (Asked q, a) ≡ after_refusal o t → Opens q (Asked o) Refused a
opens-refusal q o Tcp a is =
    let same = asked-same q (record o { over = Udp }) a SendDatagram is in
    Still o refl (sym (ap (λ (x : Question). x.xid) same.0)) (sym (ap (λ (x : Question). x.until) same.0)) (ap ended_by same.1) tt
opens-refusal q o Udp a is = absurd (not-unnamed q a Close is)

opens-time : (q o : Question) (now : Instant) (up : Bool) (a : Action) → is_up now o ≡ up → (Asked q, a) ≡ after_time o up → Opens q (Asked o) (Passed now) a
opens-time q o now true a up is = absurd (not-unnamed q a Close is)
opens-time q o now false a up is = opens-still q o (Passed now) a is (leb-false (instant_nanos o.until) (instant_nanos now) up)

opens-response : (q o : Question) (bytes : List ℕ) (r : Response Port) (a : Action) → (Asked q, a) ≡ after_response o r → Opens q (Asked o) (Came bytes) a
opens-response q o bytes Other a is = opens-still q o (Came bytes) a is tt
opens-response q o bytes NoResult a is = absurd (not-unnamed q a Close is)
opens-response q o bytes (Result port) a is = absurd (not-named q port a Close is)

opens-after : (q : Question) (b : State) (e : Event) (a : Action) → (Asked q, a) ≡ after b e → Opens q b e a
opens-after q Idle (Needed xid until) a is = opens-first q xid until a is
opens-after q Idle Refused a is = absurd (not-idle q a Nothing is)
opens-after q Idle (Came bytes) a is = absurd (not-idle q a Nothing is)
opens-after q Idle (Passed now) a is = absurd (not-idle q a Nothing is)
opens-after q Idle Lost a is = absurd (not-idle q a Nothing is)
opens-after q (Asked o) (Needed xid until) a is = opens-still q o (Needed xid until) a is tt
opens-after q (Asked o) Refused a is = opens-refusal q o o.over a is
opens-after q (Asked o) (Came bytes) a is = opens-still q o (Came bytes) a is tt
opens-after q (Asked o) (Passed now) a is = opens-time q o now (is_up now o) a refl is
opens-after q (Asked o) Lost a is = opens-still q o Lost a is tt
opens-after q (Named port) (Needed xid until) a is = absurd (not-named q port a Nothing is)
opens-after q (Named port) Refused a is = absurd (not-named q port a Nothing is)
opens-after q (Named port) (Came bytes) a is = absurd (not-named q port a Nothing is)
opens-after q (Named port) (Passed now) a is = absurd (not-named q port a Nothing is)
opens-after q (Named port) Lost a is = absurd (not-idle q a Nothing is)
opens-after q Unnamed (Needed xid until) a is = absurd (not-unnamed q a Nothing is)
opens-after q Unnamed Refused a is = absurd (not-unnamed q a Nothing is)
opens-after q Unnamed (Came bytes) a is = absurd (not-unnamed q a Nothing is)
opens-after q Unnamed (Passed now) a is = absurd (not-unnamed q a Nothing is)
opens-after q Unnamed Lost a is = absurd (not-idle q a Nothing is)

opens : (q : Question) (b : State) (e : Event) (a : Action) → Outcome b e (Asked q, a) → Opens q b e a
opens q b e a (Told is) = opens-after q b e a is
opens q b e a (Heard o bytes r asked came reads is) = rw (asked, came) (opens-response q o bytes r a is)

-- one event more, which neither asks nor ends
open-on : (xid : ℕ) (until : Instant) (e : Event) (a : Action) (earlier : List Done) → ended_by a ≡ 0 → IsBefore until e → IsOpen xid until earlier → IsOpen xid until ((e, a) ∷ earlier)
open-on xid until e a earlier none before o = record {
  later = (e, a) ∷ o.later;
  earlier = o.earlier;
  all = ap (λ (l : List Done). (e, a) ∷ l) o.all;
  open_still = let p = o.open_still in omega (arith, none, p);
  in_time = (before, o.in_time);
}

open-first : (xid : ℕ) (until : Instant) (earlier : List Done) → IsOpen xid until ((Needed xid until, Connect) ∷ earlier)
open-first xid until earlier = record { later = []; earlier = earlier; all = refl; open_still = refl; in_time = tt }

open-more : (q : Question) (b : State) (e : Event) (a : Action) (earlier : List Done) → ((o : Question) → b ≡ Asked o → IsOpen o.xid o.until earlier) → Opens q b e a → IsOpen q.xid q.until ((e, a) ∷ earlier)
open-more q b e a earlier before (First needed asked) = rw (needed, asked) (open-first q.xid q.until earlier)
open-more q b e a earlier before (Still o asked xid until none passed) =
    let P : ℕ → Type 0 = λ x. IsOpen x o.until earlier in
    let Q : Instant → Type 0 = λ u. IsOpen q.xid u earlier in
    open-on q.xid q.until e a earlier none passed (subst Q until (subst P xid (before o asked)))

pub has_deadline : HasADeadline
has_deadline [] q runs = absurd cc
has_deadline (d ∷ earlier) q runs =
    open-more q runs.0 d.0 d.1 earlier
    (λ o asked. has_deadline earlier o (subst (λ (s : State). Runs earlier s) asked runs.1))
    (opens q runs.0 d.0 d.1 (outcome_of runs.0 d.0 (Asked q) d.1 runs.2))

-- ---- the port that is named

-- an event leaves this port named: it gave it, or it was named before
pub data Names (port : Port) (b : State) (e : Event) (a : Action) : Type 0 where
  Gave : (o : Question) (bytes : List ℕ) → b ≡ Asked o → e ≡ Came bytes → a ≡ Close → GivesPort o.xid bytes port.number → Names port b e a
  Kept : b ≡ Named port → IsNoLoss e → Names port b e a

named-same : (port p : Port) (a x : Action) → Same (Named port, a) (Named p, x) → (port ≡ p) × (a ≡ x)
named-same port p a x e = let s : Named port ≡ Named p = ap (λ (y : State × Action). y.0) e in (cc, ap (λ (y : State × Action). y.1) e)

named-not-idle : (port : Port) (a x : Action) → Same (Named port, a) (Idle, x) → ⊥
named-not-idle port a x e = let s : Named port ≡ Idle = ap (λ (y : State × Action). y.0) e in cc

named-not-asked : (port : Port) (q : Question) (a x : Action) → Same (Named port, a) (Asked q, x) → ⊥
named-not-asked port q a x e = let s : Named port ≡ Asked q = ap (λ (y : State × Action). y.0) e in cc

named-not-unnamed : (port : Port) (a x : Action) → Same (Named port, a) (Unnamed, x) → ⊥
named-not-unnamed port a x e = let s : Named port ≡ Unnamed = ap (λ (y : State × Action). y.0) e in cc

names-refusal : (port : Port) (q : Question) (t : Transport) (a : Action) → (Named port, a) ≡ after_refusal q t → ⊥
names-refusal port q Tcp a is = named-not-asked port (record q { over = Udp }) a SendDatagram is
names-refusal port q Udp a is = named-not-unnamed port a Close is

names-time : (port : Port) (q : Question) (up : Bool) (a : Action) → (Named port, a) ≡ after_time q up → ⊥
names-time port q true a is = named-not-unnamed port a Close is
names-time port q false a is = named-not-asked port q a Nothing is

names-kept : (port p : Port) (e : Event) (a : Action) → Same (Named port, a) (Named p, Nothing) → IsNoLoss e → Names port (Named p) e a
names-kept port p e a is on = Kept (sym (ap Named (named-same port p a Nothing is).0)) on

names-after : (port : Port) (b : State) (e : Event) (a : Action) → (Named port, a) ≡ after b e → Names port b e a
names-after port Idle (Needed xid until) a is = absurd (named-not-asked port (first_question xid until) a Connect is)
names-after port Idle Refused a is = absurd (named-not-idle port a Nothing is)
names-after port Idle (Came bytes) a is = absurd (named-not-idle port a Nothing is)
names-after port Idle (Passed now) a is = absurd (named-not-idle port a Nothing is)
names-after port Idle Lost a is = absurd (named-not-idle port a Nothing is)
names-after port (Asked q) (Needed xid until) a is = absurd (named-not-asked port q a Nothing is)
names-after port (Asked q) Refused a is = absurd (names-refusal port q q.over a is)
names-after port (Asked q) (Came bytes) a is = absurd (named-not-asked port q a Nothing is)
names-after port (Asked q) (Passed now) a is = absurd (names-time port q (is_up now q) a is)
names-after port (Asked q) Lost a is = absurd (named-not-asked port q a Nothing is)
names-after port (Named p) (Needed xid until) a is = names-kept port p (Needed xid until) a is tt
names-after port (Named p) Refused a is = names-kept port p Refused a is tt
names-after port (Named p) (Came bytes) a is = names-kept port p (Came bytes) a is tt
names-after port (Named p) (Passed now) a is = names-kept port p (Passed now) a is tt
names-after port (Named p) Lost a is = absurd (named-not-idle port a Nothing is)
names-after port Unnamed (Needed xid until) a is = absurd (named-not-unnamed port a Nothing is)
names-after port Unnamed Refused a is = absurd (named-not-unnamed port a Nothing is)
names-after port Unnamed (Came bytes) a is = absurd (named-not-unnamed port a Nothing is)
names-after port Unnamed (Passed now) a is = absurd (named-not-unnamed port a Nothing is)
names-after port Unnamed Lost a is = absurd (named-not-idle port a Nothing is)

names-response : (port : Port) (o : Question) (bytes : List ℕ) (r : Response Port) (a : Action) → ReadsPort o.xid bytes r → (Named port, a) ≡ after_response o r → Names port (Asked o) (Came bytes) a
names-response port o bytes Other a reads is = absurd (named-not-asked port o a Nothing is)
names-response port o bytes NoResult a reads is = absurd (named-not-unnamed port a Close is)
names-response port o bytes (Result p) a reads is =
    let same = named-same port p a Close is in
    let P : ℕ → Type 0 = λ n. GivesPort o.xid bytes n in
    Gave o bytes refl refl same.1 (subst P (sym (ap (λ (x : Port). x.number) same.0)) reads)

names : (port : Port) (b : State) (e : Event) (a : Action) → Outcome b e (Named port, a) → Names port b e a
names port b e a (Told is) = names-after port b e a is
names port b e a (Heard o bytes r asked came reads is) = rw (asked, came) (names-response port o bytes r a reads is)

given-on : (n : ℕ) (d : Done) (earlier : List Done) → IsNoLoss d.0 → IsGiven n earlier → IsGiven n (d ∷ earlier)
given-on n d earlier on g = record {
  later = d ∷ g.later;
  earlier = g.earlier;
  bytes = g.bytes;
  xid = g.xid;
  until = g.until;
  all = ap (λ (l : List Done). d ∷ l) g.all;
  asked = g.asked;
  gives = g.gives;
  kept = (on, g.kept);
}

given-first : (n : ℕ) (bytes : List ℕ) (xid : ℕ) (until : Instant) (earlier : List Done) → IsOpen xid until earlier → GivesPort xid bytes n → IsGiven n ((Came bytes, Close) ∷ earlier)
given-first n bytes xid until earlier asked gives =
    record { later = []; earlier = earlier; bytes = bytes; xid = xid; until = until; all = refl; asked = asked; gives = gives; kept = tt }

given-more : (port : Port) (b : State) (e : Event) (a : Action) (earlier : List Done) → Runs earlier b → (b ≡ Named port → IsGiven port.number earlier) → Names port b e a → IsGiven port.number ((e, a) ∷ earlier)
given-more port b e a earlier runs before (Gave o bytes asked came closed gives) =
    rw (came, closed) (given-first port.number bytes o.xid o.until earlier (has_deadline earlier o (subst (λ (s : State). Runs earlier s) asked runs)) gives)
given-more port b e a earlier runs before (Kept named on) = given-on port.number (e, a) earlier on (before named)

pub names_given : NamesWhatWasGiven
names_given [] port runs = absurd cc
names_given (d ∷ earlier) port runs =
    given-more port runs.0 d.0 d.1 earlier runs.1
    (λ named. names_given earlier port (subst (λ (s : State). Runs earlier s) named runs.1))
    (names port runs.0 d.0 d.1 (outcome_of runs.0 d.0 (Named port) d.1 runs.2))
