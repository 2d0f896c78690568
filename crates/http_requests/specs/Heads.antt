-- Where the head of a request ends, and what is read of it.
use Rattle.std.specs.Prelude.{◌≡◌, ℕ, ◌<◌, ◌≤◌, Bool, true, false, ◌||◌, nat_eq, List, [], length, take, map, codes, Option, None, Some}
use Rattle.std.specs.List.{ends_with}
use Rattle.httparse.specs.Grammar.{RequestHead, ReadsRequest}
use Rattle.httparse.specs.Spans.{name_and_value}
use Rattle.http_requests.specs.Limits.{head_limit, field_limit}

-- ---- where it ends

-- the bytes end with an empty line behind the line feed of another
abbrev pub ends_head : List ℕ → Bool
ends_head bytes = ends_with nat_eq bytes (codes "\n\n") || ends_with nat_eq bytes (codes "\n\r\n")

-- the bytes do not end so, and no front of them does
abbrev pub HasNoEnd : List ℕ → Type 0
HasNoEnd bytes = (n : ℕ) → ends_head (take n bytes) ≡ false

-- bytes up to the first place where they end so, as few as a head may have
pub record IsHeadText (text : List ℕ) : Type 0 where
  pub ends : ends_head text ≡ true
  pub first : (n : ℕ) → n < length text → ends_head (take n text) ≡ false
  pub limit : length text ≤ head_limit

-- ---- what is read

-- the parts of a head: each field is its name, and its value without the white space around it
pub record Head : Type 0 where
  pub method : List ℕ
  pub target : List ℕ
  -- the digit behind `HTTP/1.`
  pub minor : ℕ
  pub fields : List (List ℕ × List ℕ)

abbrev pub parts_of : RequestHead → Head
parts_of h = record { method = h.method; target = h.target; minor = h.minor; fields = map name_and_value h.fields }

-- all of these bytes are this head of `httparse`'s grammar, with as few fields as a head may have
pub record IsHead (text : List ℕ) (h : RequestHead) : Type 0 where
  pub reads : ReadsRequest text h []
  pub few : length h.fields ≤ field_limit

-- what is read of the bytes: the parts of the head that they are, or nothing where they are none
abbrev pub Reads : List ℕ → Option Head → Type 0
Reads text None = (h : RequestHead) → ¬ (IsHead text h)
Reads text (Some head) = (h : RequestHead) × IsHead text h × (head ≡ parts_of h)
