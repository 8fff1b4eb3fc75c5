-- What a request is answered, by what it is read as (RFC 9110, sections 9.3 and 15).
use Rattle.std.specs.Prelude.{◌≡◌, ◌⊎◌, List, [], ℕ, cond, Option, Some, None, false}
use Rattle.status_pages.specs.Responses.{note_of, status_of}
use Rattle.status_pages.specs.declared.page.Page.{Page}
use Rattle.status_pages.specs.declared.page.Page.TheVariants as page
use Rattle.status_pages.specs.declared.request.Asked.{Asked}
use Rattle.status_pages.specs.declared.request.Refusal.{Refusal}
use Rattle.status_pages.specs.declared.responses.Status.{Status}
use Rattle.status_pages.specs.declared.responses.Status.TheVariants as status
use Rattle.status_pages.specs.declared.responses.ContentType.{ContentType}
use Rattle.status_pages.specs.declared.responses.ContentType.TheVariants as kind
use Rattle.status_pages.specs.declared.responses.Delivery.{Delivery}
use Rattle.page_loop.specs.declared.answer.Body.{Body}
use Rattle.page_loop.specs.declared.answer.Body.TheVariants as body

abbrev pub Text : Type 0
Text = List ℕ

abbrev pub body_of : Body → Text
body_of (body.Page bytes) = bytes.items
body_of (body.Note text) = text.now

-- what is sent of a body
abbrev pub sent_of : Delivery → Text → Text
sent_of how text = cond how.is_head [] text

abbrev pub type_of : Page → ContentType
type_of page.Index = kind.Html
type_of page.Metrics = kind.Metrics
type_of page.Locks = kind.Json
type_of page.Waiters = kind.Json
type_of page.Hosts = kind.Json
type_of page.Status = kind.Json

-- a line that says what is wrong
abbrev pub IsNote : Status → Delivery → Text → Type 0
IsNote s how text = (how.status ≡ s) × (how.content_type ≡ kind.Text) × (text ≡ note_of s)

-- the page with its own type, or that there is none, or no memory for it
abbrev pub IsPageOf : Option Page → Delivery → Text → Type 0
IsPageOf None how text = IsNote status.NotFound how text
IsPageOf (Some p) how text = ((how.status ≡ status.Ok) × (how.content_type ≡ type_of p)) ⊎ IsNote status.Starved how text

-- as the request asks: its head alone, or all of it; and the connection stays or ends
abbrev pub FitsAsked : Asked → Delivery → Text → Type 0
FitsAsked asked how text = (how.is_head ≡ asked.is_head) × (how.stays ≡ asked.stays) × IsPageOf asked.page how text

-- a refusal ends the connection
abbrev pub FitsRefusal : Refusal → Delivery → Text → Type 0
FitsRefusal refusal how text = (how.is_head ≡ false) × (how.stays ≡ false) × IsNote (status_of refusal) how text
