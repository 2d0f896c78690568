-- What a head decides of its request: how long the body is, whether the connection closes, and what is asked for.
use Rattle.std.specs.Prelude.{ℕ, Bool, true, ◌&&◌, ◌||◌, ◌==◌, nat_lt, nat_le, if◌then◌else◌, List, [], ◌∷◌, length, map, filter, codes, bytes_eq, Option, None, Some, Result, Ok, Err}
use Rattle.std.specs.List.{list_any}
use Rattle.std.specs.Str.{all_ascii_digits, str_eq_ignore_ascii_case}
use Rattle.std.specs.Str.Parse.{digits_value}
use Rattle.http_requests.specs.declared.decision.Decision.{Decision}
use Rattle.http_requests.specs.declared.decision.Verdict.{Verdict}
use Rattle.http_requests.specs.declared.decision.Verdict.TheVariants.{Refused, Session, Call}
use Rattle.http_requests.specs.Heads.{Head}
use Rattle.http_requests.specs.Limits.{body_limit, digit_limit}

-- ---- its fields

-- the name of a field, in whatever case of ASCII
abbrev pub has_name : List ℕ → List ℕ × List ℕ → Bool
has_name name field = str_eq_ignore_ascii_case field.0 name

abbrev pub values_of : List ℕ → List (List ℕ × List ℕ) → List (List ℕ)
values_of name fields = map (λ (field : List ℕ × List ℕ). field.1) (filter (has_name name) fields)

abbrev pub says_close : List ℕ × List ℕ → Bool
says_close field = has_name (codes "connection") field && str_eq_ignore_ascii_case field.1 (codes "close")

-- the connection closes after the answer: HTTP/1.0, or a field that says so
abbrev pub closes : Head → Bool
closes head = head.minor == 0 || list_any says_close head.fields

-- ---- its body

abbrev pub is_length : List ℕ → Bool
is_length digits = nat_le 1 (length digits) && nat_le (length digits) digit_limit && all_ascii_digits digits

-- the length that a value tells, or the status that refuses it
abbrev pub told_length : List ℕ → Result ℕ ℕ
told_length digits =
    if is_length digits then (if nat_lt body_limit (digits_value 10 digits) then Err 413 else Ok (digits_value 10 digits))
    else Err 400

-- by the values that tell a length; a POST has to have one
abbrev pub length_by : Bool → List (List ℕ) → Result ℕ ℕ
length_by posts [] = if posts then Err 411 else Ok 0
length_by posts (digits ∷ []) = told_length digits
length_by posts (first ∷ second ∷ others) = Err 400

-- how long the body is, or the status that refuses the request
abbrev pub body_length : Head → Result ℕ ℕ
body_length head =
    if list_any (has_name (codes "transfer-encoding")) head.fields then Err 411
    else length_by (bytes_eq head.method (codes "POST")) (values_of (codes "content-length") head.fields)

-- ---- what is asked for

-- by the whole target, and then by the method
abbrev pub verdict_of : List ℕ → List ℕ → Verdict
verdict_of target method =
    if bytes_eq target (codes "/call") then (if bytes_eq method (codes "POST") then Call else Refused 405)
    else if bytes_eq target (codes "/session") then (if bytes_eq method (codes "GET") then Session else Refused 405)
    else Refused 404

-- ---- the decision

-- a request that is refused before its body is read; the connection closes
abbrev pub refusal : ℕ → Decision
refusal status = record { body = 0; closes = true; verdict = Refused status }

abbrev pub by_length : Head → Result ℕ ℕ → Decision
by_length head (Err status) = refusal status
by_length head (Ok body) = record { body = body; closes = closes head; verdict = verdict_of head.target head.method }

-- by what was read of the head
abbrev pub decision_of : Option Head → Decision
decision_of None = refusal 400
decision_of (Some head) = by_length head (body_length head)
