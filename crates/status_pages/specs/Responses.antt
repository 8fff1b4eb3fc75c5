-- Answers, byte for byte (RFC 9112, sections 4 to 6).
use Rattle.std.specs.Prelude.{ℕ, Bool, cond, List, [], ◌++◌, length, codes, decimal}
use Rattle.status_pages.specs.declared.request.Refusal.{Refusal}
use Rattle.status_pages.specs.declared.request.Refusal.TheVariants.{BadRequest, MethodNotAllowed, TooLong}
use Rattle.status_pages.specs.declared.responses.Status.{Status}
use Rattle.status_pages.specs.declared.responses.Status.TheVariants as status
use Rattle.status_pages.specs.declared.responses.ContentType.{ContentType}
use Rattle.status_pages.specs.declared.responses.ContentType.TheVariants as kind
use Rattle.status_pages.specs.declared.responses.Delivery.{Delivery}

abbrev pub Text : Type 0
Text = List ℕ

abbrev pub status_of : Refusal → Status
status_of BadRequest = status.BadRequest
status_of MethodNotAllowed = status.MethodNotAllowed
status_of TooLong = status.TooLong

abbrev pub status_text : Status → Text
status_text status.Ok = codes "200 OK"
status_text status.BadRequest = codes "400 Bad Request"
status_text status.NotFound = codes "404 Not Found"
status_text status.MethodNotAllowed = codes "405 Method Not Allowed"
status_text status.TooLong = codes "431 Request Header Fields Too Large"
status_text status.Starved = codes "503 Service Unavailable"

abbrev pub note_of : Status → Text
note_of status.Ok = codes "done\n"
note_of status.BadRequest = codes "this is no request for a page\n"
note_of status.NotFound = codes "there is no such page; there are / /metrics /locks.json /waiters.json /hosts.json /status.json\n"
note_of status.MethodNotAllowed = codes "pages are read by GET and HEAD alone\n"
note_of status.TooLong = codes "a request has at most 8192 bytes and 64 fields\n"
note_of status.Starved = codes "there is no memory for this page\n"

abbrev pub allow_text : Status → Text
allow_text status.Ok = []
allow_text status.BadRequest = []
allow_text status.NotFound = []
allow_text status.MethodNotAllowed = codes "Allow: GET, HEAD\r\n"
allow_text status.TooLong = []
allow_text status.Starved = []

abbrev pub type_text : ContentType → Text
type_text kind.Html = codes "text/html; charset=utf-8"
type_text kind.Json = codes "application/json"
type_text kind.Metrics = codes "text/plain; version=0.0.4; charset=utf-8"
type_text kind.Text = codes "text/plain; charset=utf-8"

abbrev pub connection_text : Bool → Text
connection_text stays = cond stays (codes "Connection: keep-alive\r\n") (codes "Connection: close\r\n")

abbrev pub fixed_text : Text
fixed_text = codes "Cache-Control: no-store\r\nX-Content-Type-Options: nosniff\r\nContent-Security-Policy: default-src 'none'; style-src 'unsafe-inline'\r\n"

-- the start line and what the body is
abbrev pub start_text : Delivery → Text
start_text how = codes "HTTP/1.1 " ++ (status_text how.status ++ (codes "\r\nContent-Type: " ++ type_text how.content_type))

abbrev pub length_text : ℕ → Text
length_text len = codes "\r\nContent-Length: " ++ (decimal len ++ codes "\r\n")

abbrev pub end_text : Delivery → Text
end_text how = allow_text how.status ++ (fixed_text ++ (connection_text how.stays ++ codes "\r\n"))

-- the head of an answer whose body has so many bytes
abbrev pub head_text : Delivery → ℕ → Text
head_text how len = start_text how ++ (length_text len ++ end_text how)

abbrev pub response_text : Delivery → Text → Text
response_text how body = head_text how (length body) ++ cond how.is_head [] body
