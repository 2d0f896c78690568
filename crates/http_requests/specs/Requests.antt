-- Which bytes are a request, which are less than one, and how bytes are cut into requests.
use Rattle.std.specs.Prelude.{◌≡◌, ◌⊎◌, ℕ, ◌+◌, ◌<◌, ◌≤◌, List, ◌++◌, length, take, slice_range, Option}
use Rattle.std.specs.List.{AllByRecursion, flat_map}
use Rattle.http_requests.specs.declared.decision.Decision.{Decision}
use Rattle.http_requests.specs.declared.request.Request.{Request}
use Rattle.http_requests.specs.Decisions.{decision_of, refusal}
use Rattle.http_requests.specs.Heads.{Head, HasNoEnd, IsHeadText, Reads}
use Rattle.http_requests.specs.Limits.{head_limit}

-- ---- what decides

-- as many bytes as a head may have, with no end of one
pub record IsTooLong (text : List ℕ) (decision : Decision) : Type 0 where
  pub limit : length text ≡ head_limit
  pub endless : HasNoEnd text
  pub refused : decision ≡ refusal 431

-- the bytes up to a head's end, and what is read of them
pub record IsJudged (text : List ℕ) (decision : Decision) : Type 0 where
  pub head : IsHeadText text
  pub read : Option Head
  pub reads : Reads text read
  pub judged : decision ≡ decision_of read

-- bytes that decide this of the request that begins with them
abbrev pub Decides : List ℕ → Decision → Type 0
Decides text decision = IsTooLong text decision ⊎ IsJudged text decision

-- ---- requests

-- just these bytes are a request with this body, of which this is decided
pub record IsRequest (own body : List ℕ) (decision : Decision) : Type 0 where
  pub text : List ℕ
  pub decides : Decides text decision
  pub parts : own ≡ text ++ body
  pub whole : length body ≡ decision.body

pub record IsHeadShort (bytes : List ℕ) : Type 0 where
  pub endless : HasNoEnd bytes
  pub short : length bytes < head_limit

pub record IsBodyShort (bytes : List ℕ) : Type 0 where
  pub text : List ℕ
  pub body : List ℕ
  pub decision : Decision
  pub decides : Decides text decision
  pub parts : bytes ≡ text ++ body
  pub short : length body < decision.body

-- less than a request: bytes that may be followed by others with which they are one
abbrev pub IsUnfinished : List ℕ → Type 0
IsUnfinished bytes = IsHeadShort bytes ⊎ IsBodyShort bytes

-- ---- requests at the front of bytes

-- the bytes begin with what decides of this request
pub record Begins (bytes : List ℕ) (r : Request) : Type 0 where
  pub within : r.head ≤ length bytes
  pub decides : Decides (take r.head bytes) r.decision

-- and all of it has come
pub record IsWholeAt (bytes : List ℕ) (r : Request) : Type 0 where
  pub within : r.head + r.decision.body ≤ length bytes
  pub is : IsRequest (take (r.head + r.decision.body) bytes) (slice_range bytes r.head (r.head + r.decision.body)) r.decision

-- ---- bytes cut into requests

pub record Cut : Type 0 where
  pub own : List ℕ
  pub body : List ℕ
  pub decision : Decision

abbrev pub IsOne : Cut → Type 0
IsOne cut = IsRequest cut.own cut.body cut.decision

abbrev pub AreRequests : List Cut → Type 0
AreRequests cuts = AllByRecursion IsOne cuts

-- their bytes, one after the other
abbrev pub own_of : List Cut → List ℕ
own_of cuts = flat_map (λ (cut : Cut). cut.own) cuts

-- the bytes are these requests, and then less than one
pub record IsCut (bytes : List ℕ) (cuts : List Cut) (rest : List ℕ) : Type 0 where
  pub each : AreRequests cuts
  pub parts : bytes ≡ own_of cuts ++ rest
  pub unfinished : IsUnfinished rest
