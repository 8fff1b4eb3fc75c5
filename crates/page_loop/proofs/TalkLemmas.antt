-- Requests that are answered one behind the other.
use Rattle.std.proofs.Math.Seq.{drop-append_seam}
use Rattle.std.proofs.lemmas.List.{length-append}
use Rattle.std.proofs.Common.{Bool, true, false, cond, arith, length, drop, ◌+◌, ◌≤◌, ◌≡◌, ℕ, List, [], ◌∷◌, ◌++◌, refl, sym, ap, subst, ◌∙◌, append_assoc, append-nil, inl, inr}
use Rattle.std.specs.Prelude.{◌⊎◌, ◌||◌, nat_lt, Option, Some, None}
use Rattle.std.specs.List.{flat_map}
use Rattle.std.specs.Io.KnownBytes.{Appends, Consumes, Keeps}
use Rattle.std.proofs.KnownBytes.{Consumes-nil, Consumes-trans, Appends-nil, Appends-trans}
use Rattle.byte_io.specs.Written.{WroteFront}
use Rattle.status_pages.specs.Responses.{response_text}
use Rattle.status_pages.specs.declared.request.Asked.{Asked}
use Rattle.status_pages.specs.declared.responses.Delivery.{Delivery}
use Rattle.page_loop.specs.declared.ending.PagesEnding.{PagesEnding}
use Rattle.page_loop.specs.declared.ending.PagesEnding.TheVariants as ending
use Rattle.page_loop.specs.Answers.{FitsAsked}
use Rattle.status_pages.specs.declared.request.Reading.{Reading}
use Rattle.status_pages.specs.declared.request.Reading.TheVariants.{Partial, Wanted, Refused}
use Rattle.status_pages.specs.declared.request.Refusal.{Refusal}
use Rattle.status_pages.specs.declared.request.Refusal.TheVariants.{BadRequest, MethodNotAllowed, TooLong}
use Rattle.status_pages.specs.Requests.{Head, Reads, Comes, head_of, verdict, is_bad, is_get, is_head, stays, page_of}
use Rattle.httparse.specs.Grammar.{print_request}
use Rattle.std.specs.Prelude.{Result, Ok, Err, IfErr}
use Rattle.std.proofs.KnownBytes.{Appends-kept}
use Rattle.byte_io.proofs.Appending.{WroteFront-whole}
use Rattle.page_loop.specs.Answers.{FitsRefusal}
use Rattle.page_loop.specs.Talks.{Writes, Replies, Refuses, Text, Known, Said, text_of, Stands, AnswersAll, Trace, trace, Talks, IsFront, EndsWith, Stops, Turns, EndsReading, Hears}

texts-append : (xs ys : List Said) → flat_map text_of (xs ++ ys) ≡ flat_map text_of xs ++ flat_map text_of ys
texts-append [] ys = refl
texts-append (x ∷ xs) ys = ap (λ l. text_of x ++ l) (texts-append xs ys) ∙ sym (append_assoc (text_of x) (flat_map text_of xs) (flat_map text_of ys))

-- more bytes behind change nothing in front
stands-more : (asked : Asked) (bytes behind more : Text) → Stands asked bytes behind → Stands asked (bytes ++ more) (behind ++ more)
stands-more asked bytes behind more s = (s.0, (s.1.0, ap (λ l. l ++ more) s.1.1 ∙ append_assoc _ behind more), s.2)

answers-more : (bytes : Text) (said : List Said) (left more : Text) → AnswersAll bytes said left → AnswersAll (bytes ++ more) said (left ++ more)
answers-more bytes [] left more a = ap (λ l. l ++ more) a
answers-more bytes (s ∷ said) left more a = (a.0 ++ more, stands-more s.asked bytes a.0 more a.1, a.2, answers-more a.0 said left more a.3)

answers-then : (bytes : Text) (said : List Said) (mid : Text) (others : List Said) (left : Text) → AnswersAll bytes said mid → AnswersAll mid others left → AnswersAll bytes (said ++ others) left
answers-then bytes [] mid others left a b = subst (λ (l : Text). AnswersAll l others left) (sym a) b
answers-then bytes (s ∷ said) mid others left a b = (a.0, a.1, a.2, answers-then a.0 said mid others left a.3 b)

-- nothing yet
pub talks-start : (bytes : Text) (x : Trace) → Talks bytes bytes x x
talks-start bytes x = ([], Consumes-nil x.unread, [], append-nil bytes, Appends-nil x.written)

pub talks-trans : (bytes mid left : Text) (x y z : Trace) → Talks bytes mid x y → Talks mid left y z → Talks bytes left x z
talks-trans bytes mid left x y z p q = (
  p.0 ++ q.0,
  Consumes-trans x.unread y.unread z.unread p.0 q.0 p.1 q.1,
  p.2 ++ q.2,
  subst (λ (l : Text). AnswersAll l (p.2 ++ q.2) left) (append_assoc bytes p.0 q.0)
      (answers-then ((bytes ++ p.0) ++ q.0) p.2 (mid ++ q.0) q.2 left (answers-more (bytes ++ p.0) p.2 mid q.0 p.3) q.3),
  subst (Appends x.written z.written) (sym (texts-append p.2 q.2)) (Appends-trans x.written y.written z.written _ _ p.4 q.4),
)

pub stops-after : (e : PagesEnding) (bytes mid : Text) (x y z : Trace) → Talks bytes mid x y → Stops e mid y z → Stops e bytes x z
stops-after e bytes mid x y z p s =
    (s.0, s.1, talks-trans bytes mid s.0 x y (trace z.unread s.1) p s.2, s.3, s.4, s.5)

pub turn-after : (r : Option PagesEnding) (bytes mid left : Text) (x y z : Trace) → Talks bytes mid x y → Turns r mid left y z → Turns r bytes left x z
turn-after None bytes mid left x y z p t = talks-trans bytes mid left x y z p t
turn-after (Some e) bytes mid left x y z p t = stops-after e bytes mid x y z p t

-- a read
talks-read : (bytes piece : Text) (u v w : Known) → Consumes u v piece → Talks bytes (bytes ++ piece) (trace u w) (trace v w)
talks-read bytes piece u v w c = (piece, c, [], refl, Appends-nil w)

ends-nothing : (e : PagesEnding) (left : Text) → EndsReading e → EndsWith e left []
ends-nothing ending.Over left h = refl
ends-nothing ending.ReadFault left h = refl
ends-nothing ending.Starved left h = inl refl
ends-nothing ending.Refused left h = absurd h
ends-nothing ending.WriteFault left h = absurd h

pub turn-read : (r : Option PagesEnding) (bytes left : Text) (u v w : Known) → Hears r bytes left u v → Turns r bytes left (trace u w) (trace v w)
turn-read None bytes left u v w h = subst (λ (l : Text). Talks bytes l (trace u w) (trace v w)) (sym h.2) (talks-read bytes h.0 u v w h.1)
turn-read (Some e) bytes left u v w h =
    (bytes ++ h.1.0, w, talks-read bytes h.1.0 u v w h.1.1, [], ends-nothing e (bytes ++ h.1.0) h.0, Appends-nil w)

-- an answer
pub talks-answer : (asked : Asked) (how : Delivery) (body bytes left : Text) (u w v : Known) → Stands asked bytes left → FitsAsked asked how body → Appends w v (response_text how body) → Talks bytes left (trace u w) (trace u v)
talks-answer asked how body bytes left u w v s f a =
    let said : Said = record { asked = asked; how = how; body = body } in (
      [],
      Consumes-nil u,
      said ∷ [],
      subst (λ (l : Text). AnswersAll l (said ∷ []) left) (sym (append-nil bytes)) (left, s, f, refl),
      subst (Appends w v) (sym (append-nil (response_text how body))) a,
    )

pub stops-answered : (asked : Asked) (how : Delivery) (body bytes left : Text) (u w v : Known) → Stands asked bytes left → FitsAsked asked how body → Appends w v (response_text how body) → Stops ending.Over bytes (trace u w) (trace u v)
stops-answered asked how body bytes left u w v s f a = (left, v, talks-answer asked how body bytes left u w v s f a, [], refl, Appends-nil v)

ends-front : (e : PagesEnding) (left last : Text) → (e ≡ ending.Starved) ⊎ (e ≡ ending.WriteFault) → IsFront last → EndsWith e left last
ends-front e left last (inl is) f = subst (λ (o : PagesEnding). EndsWith o left last) (sym is) f
ends-front e left last (inr is) f = subst (λ (o : PagesEnding). EndsWith o left last) (sym is) f

-- a front of an answer
pub stops-cut : (e : PagesEnding) (how : Delivery) (body bytes : Text) (u w v : Known) → (e ≡ ending.Starved) ⊎ (e ≡ ending.WriteFault) → WroteFront w v (response_text how body) → Stops e bytes (trace u w) (trace u v)
stops-cut e how body bytes u w v is f =
    (bytes, w, talks-start bytes (trace u w), f.front, ends-front e bytes f.front is (inr (how, body, f.rest, f.parts)), f.appends)

pub turn-answer : (r : Option PagesEnding) (asked : Asked) (bytes left : Text) (u w v : Known) → Stands asked bytes left → Replies r asked w v → Turns r bytes left (trace u w) (trace u v)
turn-answer None asked bytes left u w v s h = talks-answer asked h.0 h.1 bytes left u w v s h.2 h.3
turn-answer (Some ending.Over) asked bytes left u w v s h = stops-answered asked h.0 h.1 bytes left u w v s h.2 h.3
turn-answer (Some ending.Starved) asked bytes left u w v s h = stops-cut ending.Starved h.0 h.1 bytes u w v (inl refl) h.2
turn-answer (Some ending.WriteFault) asked bytes left u w v s h = stops-cut ending.WriteFault h.0 h.1 bytes u w v (inr refl) h.2
turn-answer (Some ending.Refused) asked bytes left u w v s h = absurd h
turn-answer (Some ending.ReadFault) asked bytes left u w v s h = absurd h

pub turn-refused : (e : PagesEnding) (refusal : Refusal) (bytes : Text) (u w v : Known) → Reads bytes (Refused refusal) → Refuses e refusal w v → Stops e bytes (trace u w) (trace u v)
turn-refused ending.Refused refusal bytes u w v reads h =
    (bytes, w, talks-start bytes (trace u w), response_text h.0 h.1, (refusal, reads, h.0, h.1, h.2, refl), h.3)
turn-refused ending.Starved refusal bytes u w v reads h = stops-cut ending.Starved h.0 h.1 bytes u w v (inl refl) h.2
turn-refused ending.WriteFault refusal bytes u w v reads h = stops-cut ending.WriteFault h.0 h.1 bytes u w v (inr refl) h.2
turn-refused ending.Over refusal bytes u w v reads h = absurd h
turn-refused ending.ReadFault refusal bytes u w v reads h = absurd h

-- ---- a request that stands in front

abbrev len_of : Reading → ℕ
len_of (Wanted asked) = asked.len
len_of Partial = 0
len_of (Refused r) = 0

wanted-len : (a b c : Bool) (w asked : Asked) → Wanted asked ≡ cond a (Refused TooLong) (cond b (cond c (Refused BadRequest) (Wanted w)) (Refused MethodNotAllowed)) → asked.len ≡ w.len
wanted-len true b c w asked e = absurd cc
wanted-len false false c w asked e = absurd cc
wanted-len false true true w asked e = absurd cc
wanted-len false true false w asked e = ap len_of e

verdict-len : (h : Head) (asked : Asked) → Wanted asked ≡ verdict h → asked.len ≡ h.len
verdict-len h asked e =
    wanted-len (nat_lt 8192 h.len) (is_get h.method || is_head h.method) (is_bad h)
    (record { page = page_of h.target; is_head = is_head h.method; stays = stays h; len = h.len }) asked e

pub wanted-stands : (asked : Asked) (bytes : Text) → Reads bytes (Wanted asked) → Stands asked bytes (drop asked.len bytes)
wanted-stands asked bytes c =
    let h = c.0 in
    let is = verdict-len (head_of h) asked c.3 in
    let left : drop asked.len bytes ≡ c.1 = rw (is, c.2.1) (drop-append_seam (print_request h) c.1) in
    (h, (c.2.0, c.2.1 ∙ ap (λ l. print_request h ++ l) (sym left)), c.3)

pub wanted-fits : (asked : Asked) (bytes : Text) → Reads bytes (Wanted asked) → asked.len ≤ length bytes
wanted-fits asked bytes c =
    let h = c.0 in
    let is = verdict-len (head_of h) asked c.3 in
    let long : length bytes ≡ length (print_request h) + length c.1 = ap length c.2.1 ∙ length-append (print_request h) c.1 in
    omega (arith, is, long)

-- ---- writes

pub front-none : (w : Known) (text : Text) → WroteFront w w text
front-none w text = record { front = []; rest = text; parts = refl; appends = Appends-nil w }

pub front-same : (w v : Known) (head same sent : Text) → head ≡ same → WroteFront w v (head ++ sent) → WroteFront w v (same ++ sent)
front-same w v head same sent e f = subst (λ (l : Text). WroteFront w v (l ++ sent)) e f

pub writes-flushed : (r : Result (Unit {0}) PagesEnding) (w v x : Known) (head same sent : Text) → head ≡ same → Appends w v (head ++ sent) → Keeps v x → IfErr r (λ e. e ≡ ending.WriteFault) → Writes r (same ++ sent) w x
writes-flushed (Ok done) w v x head same sent e a k why = subst (λ (l : Text). Appends w x (l ++ sent)) e (Appends-kept w v x (head ++ sent) a k)
writes-flushed (Err f) w v x head same sent e a k why =
    subst (λ (o : PagesEnding). Writes (Err o) (same ++ sent) w x) (sym why)
    (front-same w x head same sent e (WroteFront-whole w x (head ++ sent) (Appends-kept w v x (head ++ sent) a k)))

pub replies-failed : (r : Result (Unit {0}) PagesEnding) (e : PagesEnding) (asked : Asked) (how : Delivery) (body : Text) (w v : Known) → r ≡ Err e → Writes r (response_text how body) w v → Replies (Some e) asked w v
replies-failed r e asked how body w v is h = failed e (subst (λ (x : Result (Unit {0}) PagesEnding). Writes x (response_text how body) w v) is h)
  where
    failed : (e : PagesEnding) → Writes (Err e) (response_text how body) w v → Replies (Some e) asked w v
    failed ending.Starved f = (how, body, f)
    failed ending.WriteFault f = (how, body, f)
    failed ending.Over f = absurd f
    failed ending.Refused f = absurd f
    failed ending.ReadFault f = absurd f

pub replies-written : (r : Result (Unit {0}) PagesEnding) (asked : Asked) (how : Delivery) (body : Text) (w v : Known) → r ≡ Ok tt → FitsAsked asked how body → Writes r (response_text how body) w v → Replies None asked w v
replies-written r asked how body w v is fits h = (how, body, fits, subst (λ (x : Result (Unit {0}) PagesEnding). Writes x (response_text how body) w v) is h)

pub refuses-failed : (r : Result (Unit {0}) PagesEnding) (e : PagesEnding) (refusal : Refusal) (how : Delivery) (body : Text) (w v : Known) → r ≡ Err e → Writes r (response_text how body) w v → Refuses e refusal w v
refuses-failed r e refusal how body w v is h = failed e (subst (λ (x : Result (Unit {0}) PagesEnding). Writes x (response_text how body) w v) is h)
  where
    failed : (e : PagesEnding) → Writes (Err e) (response_text how body) w v → Refuses e refusal w v
    failed ending.Starved f = (how, body, f)
    failed ending.WriteFault f = (how, body, f)
    failed ending.Over f = absurd f
    failed ending.Refused f = absurd f
    failed ending.ReadFault f = absurd f

-- ---- the whole

pub stops-at : (e : PagesEnding) (bytes : Text) (u w : Known) → EndsReading e → Stops e bytes (trace u w) (trace u w)
stops-at e bytes u w h = (bytes, w, talks-start bytes (trace u w), [], ends-nothing e bytes h, Appends-nil w)

pub stops-last : (e : PagesEnding) (bytes left : Text) (u w v x : Known) → EndsReading e → Talks bytes left (trace u w) (trace v x) → Stops e bytes (trace u w) (trace v x)
stops-last e bytes left u w v x h p = stops-after e bytes left (trace u w) (trace v x) (trace v x) p (stops-at e left v x h)
