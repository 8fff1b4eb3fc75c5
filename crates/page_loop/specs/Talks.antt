-- What the bytes of a connection are answered: its requests in order, one behind the other (RFC 9112, section 9.3).
use Rattle.std.specs.Prelude.{◌≡◌, ◌⊎◌, ⊤, ℕ, List, [], ◌∷◌, ◌++◌, Option, Some, None, Result, Ok, Err}
use Rattle.std.specs.List.{flat_map}
use Rattle.std.specs.Io.KnownBytes.{Appends, Consumes}
use Rattle.byte_io.specs.Written.{WroteFront}
use Rattle.httparse.specs.Grammar.{RequestHead, ReadsRequest}
use Rattle.status_pages.specs.Requests.{Reads, head_of, verdict}
use Rattle.status_pages.specs.Responses.{response_text}
use Rattle.status_pages.specs.declared.request.Asked.{Asked}
use Rattle.status_pages.specs.declared.request.Reading.TheVariants.{Wanted, Refused}
use Rattle.status_pages.specs.declared.request.Refusal.{Refusal}
use Rattle.status_pages.specs.declared.responses.Delivery.{Delivery}
use Rattle.page_loop.specs.declared.ending.PagesEnding.{PagesEnding}
use Rattle.page_loop.specs.declared.ending.PagesEnding.TheVariants as ending
use Rattle.page_loop.specs.Answers.{FitsAsked, FitsRefusal}

abbrev pub Text : Type 0
Text = List ℕ

abbrev pub Known : Type 0
Known = Option Text

-- a request, and what it was answered
pub record Said : Type 0 where
  pub asked : Asked
  pub how : Delivery
  pub body : Text

abbrev pub text_of : Said → Text
text_of s = response_text s.how s.body

-- the head of this request stands in front of the bytes, and these come behind it
abbrev pub Stands : Asked → Text → Text → Type 0
Stands asked bytes behind = (h : RequestHead) × ReadsRequest bytes h behind × (Wanted asked ≡ verdict (head_of h))

-- the requests in front of the bytes, one behind the other, are answered so, and these bytes are left
abbrev pub AnswersAll : Text → List Said → Text → Type 0
AnswersAll bytes [] rest = bytes ≡ rest
AnswersAll bytes (s ∷ said) rest = (behind : Text) × Stands s.asked bytes behind × FitsAsked s.asked s.how s.body × AnswersAll behind said rest

-- what a reader has left and a writer holds
pub record Trace : Type 0 where
  pub unread : Known
  pub written : Known

abbrev pub trace : Known → Known → Trace
trace unread written = record { unread = unread; written = written }

-- some bytes more were read behind these, all requests but what is left now are answered, and the answers are written, whole and in order
abbrev pub Talks : Text → Text → Trace → Trace → Type 0
Talks bytes left x y =
    (piece : Text) × Consumes x.unread y.unread piece × (said : List Said) × AnswersAll (bytes ++ piece) said left
    × Appends x.written y.written (flat_map text_of said)

-- the front of an answer
abbrev pub IsFront : Text → Type 0
IsFront last = (last ≡ []) ⊎ ((how : Delivery) × (body : Text) × (behind : Text) × (last ++ behind ≡ response_text how body))

-- what was written behind the last whole answer, where these bytes are left: nothing, the answer to what is no request for a page, or the
-- front of an answer
abbrev pub EndsWith : PagesEnding → Text → Text → Type 0
EndsWith ending.Over left last = last ≡ []
EndsWith ending.ReadFault left last = last ≡ []
EndsWith ending.Refused left last =
    (refusal : Refusal) × Reads left (Refused refusal) × (how : Delivery) × (body : Text) × FitsRefusal refusal how body × (last ≡ response_text how body)
EndsWith ending.Starved left last = IsFront last
EndsWith ending.WriteFault left last = IsFront last

-- how a connection ends on which these bytes came
abbrev pub Stops : PagesEnding → Text → Trace → Trace → Type 0
Stops e bytes x y =
    (left : Text) × (written : Known) × Talks bytes left x (trace y.unread written) × (last : Text) × EndsWith e left last × Appends written y.written last

-- what a request is answered: all of it is written, or a front
abbrev pub Replies : Option PagesEnding → Asked → Known → Known → Type 0
Replies None asked w v = (how : Delivery) × (body : Text) × FitsAsked asked how body × Appends w v (response_text how body)
Replies (Some ending.Over) asked w v = (how : Delivery) × (body : Text) × FitsAsked asked how body × Appends w v (response_text how body)
Replies (Some ending.Starved) asked w v = (how : Delivery) × (body : Text) × WroteFront w v (response_text how body)
Replies (Some ending.WriteFault) asked w v = (how : Delivery) × (body : Text) × WroteFront w v (response_text how body)
Replies (Some ending.Refused) asked w v = ⊥
Replies (Some ending.ReadFault) asked w v = ⊥

-- the same of what is no request for a page
abbrev pub Refuses : PagesEnding → Refusal → Known → Known → Type 0
Refuses ending.Refused refusal w v = (how : Delivery) × (body : Text) × FitsRefusal refusal how body × Appends w v (response_text how body)
Refuses ending.Starved refusal w v = (how : Delivery) × (body : Text) × WroteFront w v (response_text how body)
Refuses ending.WriteFault refusal w v = (how : Delivery) × (body : Text) × WroteFront w v (response_text how body)
Refuses ending.Over refusal w v = ⊥
Refuses ending.ReadFault refusal w v = ⊥

-- a write of an answer
abbrev pub Writes : Result (Unit {0}) PagesEnding → Text → Known → Known → Type 0
Writes (Ok done) text w v = Appends w v text
Writes (Err ending.Starved) text w v = WroteFront w v text
Writes (Err ending.WriteFault) text w v = WroteFront w v text
Writes (Err ending.Over) text w v = ⊥
Writes (Err ending.Refused) text w v = ⊥
Writes (Err ending.ReadFault) text w v = ⊥

-- a turn
abbrev pub Turns : Option PagesEnding → Text → Text → Trace → Trace → Type 0
Turns None bytes left x y = Talks bytes left x y
Turns (Some e) bytes left x y = Stops e bytes x y

-- a read: bytes more, or how it ends
abbrev pub EndsReading : PagesEnding → Type 0
EndsReading ending.Over = ⊤
EndsReading ending.ReadFault = ⊤
EndsReading ending.Starved = ⊤
EndsReading ending.Refused = ⊥
EndsReading ending.WriteFault = ⊥

abbrev pub Hears : Option PagesEnding → Text → Text → Known → Known → Type 0
Hears None bytes left u v = (piece : Text) × Consumes u v piece × (left ≡ bytes ++ piece)
Hears (Some e) bytes left u v = EndsReading e × ((piece : Text) × Consumes u v piece)
