-- The bytes of an answer.
use Rattle.std.specs.Prelude.{ℕ, ◌==◌, Bool, if◌then◌else◌, List, [], ◌++◌, length, codes, decimal, unwrap_or}
use Rattle.http.specs.StatusCode.{reason_phrase}

unfoldable pub phrase : ℕ → List ℕ
phrase status = unwrap_or (reason_phrase status) []

abbrev pub kind_line : ℕ → List ℕ
kind_line status = if status == 200 then codes "Content-Type: application/json\r\n" else []

abbrev pub close_line : Bool → List ℕ
close_line closes = if closes then codes "Connection: close\r\n" else []

unfoldable pub status_line : ℕ → List ℕ
status_line status = codes "HTTP/1.1 " ++ decimal status ++ codes " " ++ phrase status ++ codes "\r\n"

unfoldable pub length_line : ℕ → List ℕ
length_line n = codes "Content-Length: " ++ decimal n ++ codes "\r\n"

-- an answer with this status and body, after which the connection closes or not
unfoldable pub response : ℕ → Bool → List ℕ → List ℕ
response status closes body = status_line status ++ kind_line status ++ length_line (length body) ++ close_line closes ++ codes "\r\n" ++ body

-- the answer where memory is short
abbrev pub shortage : List ℕ
shortage = codes "HTTP/1.1 503 Service Unavailable\r\nContent-Length: 0\r\nConnection: close\r\n\r\n"

-- the body that tells a session's number and how many of its calls were answered
unfoldable pub session_text : ℕ → ℕ → List ℕ
session_text calls session = codes "{\"calls\":" ++ decimal calls ++ codes ",\"session\":" ++ decimal session ++ codes "}"
