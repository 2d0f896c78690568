-- Which bytes are an answer, and what bytes begin with.
use Rattle.std.specs.Prelude.{◌≡◌, ℕ, ◌+◌, ◌<◌, ◌≤◌, nat_le, if◌then◌else◌, List, [], ◌∷◌, ◌++◌, length, take, map, slice_range, codes, Option, None, Some}
use Rattle.std.specs.Option.{option_and_then}
use Rattle.httparse.specs.Grammar.{MayBecomeResponse, ReadsResponse, ResponseHead, status_code}
use Rattle.httparse.specs.Spans.{name_and_value}
use Rattle.http_requests.specs.Decisions.{values_of}
use Rattle.http_requests.specs.Fields.{length_in}
use Rattle.http_requests.specs.Limits.{field_limit, head_limit}
use Rattle.http_answers.specs.Limits.{body_limit}
use Rattle.http_answers.specs.declared.answer.Answer.{Answer}
use Rattle.http_answers.specs.declared.answer.Front.{Front}
use Rattle.http_answers.specs.declared.answer.Front.TheVariants.{Short, Begun, Other}

-- ---- an answer

-- all of these bytes are this head of `httparse`'s grammar, within the limits of a head
pub record IsHead (text : List ℕ) (head : ResponseHead) : Type 0 where
  pub reads : ReadsResponse text head []
  pub few : length head.fields ≤ field_limit
  pub limit : length text ≤ head_limit

abbrev pub within : ℕ → Option ℕ
within n = if nat_le n body_limit then Some n else None

-- by the values of the fields that tell a length: there has to be one, and one alone
abbrev pub length_by : List (List ℕ) → Option ℕ
length_by [] = None
length_by (digits ∷ []) = option_and_then within (length_in digits)
length_by (first ∷ second ∷ others) = None

-- the length of a body that the fields tell
abbrev pub content_length : List (List ℕ × List ℕ) → Option ℕ
content_length fields = length_by (values_of (codes "content-length") fields)

abbrev pub body_length : ResponseHead → Option ℕ
body_length head = content_length (map name_and_value head.fields)

-- just these bytes are an answer with this status and this body
pub record IsAnswer (own : List ℕ) (status : ℕ) (body : List ℕ) : Type 0 where
  pub text : List ℕ
  pub head : ResponseHead
  pub is_head : IsHead text head
  pub status_is : status ≡ status_code head
  pub parts : own ≡ text ++ body
  pub whole : body_length head ≡ Some (length body)

-- whatever comes behind these bytes, they begin with no answer
abbrev pub NeverAnswers : List ℕ → Type 0
NeverAnswers bytes = (more own rest : List ℕ) (status : ℕ) (body : List ℕ) → IsAnswer own status body → bytes ++ more ≡ own ++ rest → ⊥

-- they begin with no whole answer
abbrev pub IsUnfinished : List ℕ → Type 0
IsUnfinished bytes = (own rest : List ℕ) (status : ℕ) (body : List ℕ) → IsAnswer own status body → bytes ≡ own ++ rest → ⊥

-- ---- answers at the front of bytes

-- the bytes begin with the head of this answer
pub record Begins (bytes : List ℕ) (answer : Answer) : Type 0 where
  pub within : answer.head ≤ length bytes
  pub limits : (answer.head ≤ head_limit) × (answer.body ≤ body_limit)
  pub head : ResponseHead
  pub is_head : IsHead (take answer.head bytes) head
  pub status_is : answer.status ≡ status_code head
  pub body_is : body_length head ≡ Some answer.body

-- and all of it has come
pub record IsWholeAt (bytes : List ℕ) (answer : Answer) : Type 0 where
  pub within : answer.head + answer.body ≤ length bytes
  pub is : IsAnswer (take (answer.head + answer.body) bytes) answer.status (slice_range bytes answer.head (answer.head + answer.body))

-- or less than all of it
pub record IsBodyShort (bytes : List ℕ) (answer : Answer) : Type 0 where
  pub begins : Begins bytes answer
  pub short : length bytes < answer.head + answer.body

-- what the bytes begin with; of those that are no head yet, some bytes that may follow make one
abbrev pub Shows : List ℕ → Front → Type 0
Shows bytes Short = IsUnfinished bytes × (length bytes < head_limit) × MayBecomeResponse bytes
Shows bytes (Begun answer) = Begins bytes answer
Shows bytes Other = NeverAnswers bytes
