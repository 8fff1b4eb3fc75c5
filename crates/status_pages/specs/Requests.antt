-- Which request is answered how: HTTP/1.1 heads (RFC 9112) without a body, of at most 8,192 bytes and 64 fields.
use Rattle.std.specs.Prelude.{◌≡◌, ◌≤◌, ◌<◌, ◌⊎◌, ℕ, Bool, not, ◌&&◌, ◌||◌, cond, nat_lt, ◌==◌, List, length, map, codes, Option, Some, None, bytes_eq}
use Rattle.std.specs.List.{list_any}
use Rattle.std.specs.Char.{to_ascii_lowercase}
use Rattle.httparse.specs.Grammar.{RequestHead, print_request, ReadsRequest, HasNoRequest, NeverHasRequest}
use Rattle.httparse.specs.Spans.{name_and_value, RequestExceeds}
use Rattle.status_pages.specs.declared.page.Page.{Page}
use Rattle.status_pages.specs.declared.page.Page.TheVariants as page
use Rattle.status_pages.specs.declared.request.Reading.{Reading}
use Rattle.status_pages.specs.declared.request.Reading.TheVariants.{Partial, Wanted, Refused}
use Rattle.status_pages.specs.declared.request.Refusal.TheVariants.{BadRequest, MethodNotAllowed, TooLong}

abbrev pub Text : Type 0
Text = List ℕ

-- the page of a target
unfoldable pub page_of : Text → Option Page
page_of target =
    cond (bytes_eq target (codes "/")) (Some page.Index)
    (cond (bytes_eq target (codes "/metrics")) (Some page.Metrics)
    (cond (bytes_eq target (codes "/locks.json")) (Some page.Locks)
    (cond (bytes_eq target (codes "/waiters.json")) (Some page.Waiters)
    (cond (bytes_eq target (codes "/hosts.json")) (Some page.Hosts)
    (cond (bytes_eq target (codes "/status.json")) (Some page.Status) None)))))

-- texts that differ in the case of ASCII letters at most (RFC 9110, section 5.1)
abbrev pub same_word : Text → Text → Bool
same_word a b = bytes_eq (map to_ascii_lowercase a) (map to_ascii_lowercase b)

-- a field by its name and its value
abbrev pub FieldParts : Type 0
FieldParts = Text × Text

-- a body follows the head (RFC 9112, section 6): a coding of it, or a length that isn't 0
abbrev pub announces_body : FieldParts → Bool
announces_body f = same_word f.0 (codes "transfer-encoding") || (same_word f.0 (codes "content-length") && not (bytes_eq f.1 (codes "0")))

abbrev pub is_host : FieldParts → Bool
is_host f = same_word f.0 (codes "host")

-- the connection is asked to end (RFC 9112, section 9.6): its field says another word than keep-alive
abbrev pub ends_connection : FieldParts → Bool
ends_connection f = same_word f.0 (codes "connection") && not (same_word f.1 (codes "keep-alive"))

-- the parts of a whole head, and its length
pub record Head : Type 0 where
  pub method : Text
  pub target : Text
  pub minor : ℕ
  pub fields : List FieldParts
  pub len : ℕ

abbrev pub is_get : Text → Bool
is_get method = bytes_eq method (codes "GET")

abbrev pub is_head : Text → Bool
is_head method = bytes_eq method (codes "HEAD")

-- a body follows, or a request of HTTP/1.1 names no host (RFC 9112, section 3.2)
abbrev pub is_bad : Head → Bool
is_bad h = list_any announces_body h.fields || ((h.minor == 1) && not (list_any is_host h.fields))

-- HTTP/1.1 alone keeps the connection
abbrev pub stays : Head → Bool
stays h = (h.minor == 1) && not (list_any ends_connection h.fields)

-- what a whole head comes to
abbrev pub verdict : Head → Reading
verdict h =
    cond (nat_lt 8192 h.len) (Refused TooLong)
    (cond (is_get h.method || is_head h.method)
    (cond (is_bad h) (Refused BadRequest)
    (Wanted (record { page = page_of h.target; is_head = is_head h.method; stays = stays h; len = h.len })))
    (Refused MethodNotAllowed))

abbrev pub head_of : RequestHead → Head
head_of h = record { method = h.method; target = h.target; minor = h.minor; fields = map name_and_value h.fields; len = length (print_request h) }

-- a whole head stands in front, and comes to this
abbrev pub Comes : List ℕ → Reading → Type 0
Comes bytes reading = (h : RequestHead) × (rest : List ℕ) × ReadsRequest bytes h rest × (reading ≡ verdict (head_of h))

-- what these bytes are read as: nothing yet; or the verdict on the head in front; or that no head can come of them, or none of a
-- length and a number of fields that are taken
abbrev pub Reads : List ℕ → Reading → Type 0
Reads bytes Partial = HasNoRequest bytes × (length bytes < 8192)
Reads bytes (Wanted asked) = Comes bytes (Wanted asked)
Reads bytes (Refused MethodNotAllowed) = Comes bytes (Refused MethodNotAllowed)
Reads bytes (Refused BadRequest) = Comes bytes (Refused BadRequest) ⊎ NeverHasRequest bytes
Reads bytes (Refused TooLong) =
    Comes bytes (Refused TooLong) ⊎ ((HasNoRequest bytes × (8192 ≤ length bytes)) ⊎ RequestExceeds 64 bytes)
