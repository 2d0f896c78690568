-- What the line of a session file says, where it says something.
use Rattle.std.specs.Prelude.{ℕ, ◌^◌, nat_le, nat_eq, ◌==◌, if◌then◌else◌, List, [], ◌∷◌, drop, Option, None, Some, codes}
use Rattle.std.specs.Option.{option_map}
use Rattle.std.specs.List.{starts_with}
use Rattle.std.specs.Str.{bytes_eq}
use Rattle.desk_values.specs.Fields.{cut_at}
use Rattle.desk_values.specs.Reading.{◌>>=◌, number_of, number_below}
use Rattle.capture_format.specs.Inside.Fields.{two_of}
use Rattle.capture_format.specs.CallReading.{call_of}
use Rattle.capture_format.specs.ReplyReading.{reply_of}
use Rattle.capture_format.specs.declared.session_line.CallLine.{CallLine}
use Rattle.capture_format.specs.declared.session_line.Exchange.{Exchange}
use Rattle.capture_format.specs.declared.session_line.SessionLine.{SessionLine}
use Rattle.desk_values.specs.Limits.{last_moment}
use Rattle.capture_format.specs.declared.session_line.SessionLine.TheVariants.{Head, Call, End}

-- a number up to this one, and what stands behind the space after it
unfoldable pub number_at : ℕ → List ℕ → Option (ℕ × List ℕ)
number_at most bytes = do
  parts ← cut_at 32 bytes
  n ← number_of parts.0
  if nat_le n most then Some (n, parts.1) else None

-- 0 for `-`, or a number from 1
unfoldable pub commit_number_of : List ℕ → Option ℕ
commit_number_of bytes = if bytes_eq bytes (codes "-") then Some 0 else (do
  n ← number_of bytes
  if n == 0 then None else Some n)

-- the number of a commit, and what stands behind the space after it
unfoldable pub commit_number_at : List ℕ → Option (ℕ × List ℕ)
commit_number_at bytes = do
  parts ← cut_at 32 bytes
  n ← commit_number_of parts.0
  Some (n, parts.1)

-- what stands before a space at the end
abbrev pub before_space : List ℕ → Option (List ℕ)
before_space [] = None
before_space (byte ∷ []) = if byte == 32 then Some [] else None
before_space (byte ∷ next ∷ bytes) = option_map (λ front. byte ∷ front) (before_space (next ∷ bytes))

-- what stands behind a space at the front
abbrev pub behind_space : List ℕ → Option (List ℕ)
behind_space [] = None
behind_space (byte ∷ bytes) = if byte == 32 then Some bytes else None

-- what was asked and what was answered, with ` > ` between
unfoldable pub exchange_of : List ℕ → Option Exchange
exchange_of bytes = do
  parts ← cut_at 62 bytes
  asked ← before_space parts.0
  answered ← behind_space parts.1
  call ← call_of asked
  reply ← reply_of answered
  Some (record { call = call; reply = reply })

-- the line of a call: stamp, began, ended, seen, number, and what was asked and answered
unfoldable pub call_line_of : List ℕ → Option CallLine
call_line_of bytes = do
  stamp ← number_at 4294967295 bytes
  began ← number_at last_moment stamp.1
  ended ← number_at last_moment began.1
  seen ← number_at 18446744073709551615 ended.1
  number ← commit_number_at seen.1
  exchange ← exchange_of number.1
  Some (record {
    stamp = stamp.0;
    began = began.0;
    ended = ended.0;
    seen = seen.0;
    number = number.0;
    call = exchange.call;
    reply = exchange.reply;
  })

-- the version and the session's number behind `session `
unfoldable pub head_of : List ℕ → Option (ℕ × ℕ)
head_of bytes = if starts_with nat_eq bytes (codes "session ")
    then two_of 32 (number_below (2 ^ 32)) (number_below (2 ^ 32)) (drop 8 bytes) else None

-- the head where there is one, and otherwise the line of a call
abbrev pub head_or_call : List ℕ → Option (ℕ × ℕ) → Option SessionLine
head_or_call bytes (Some head) = Some (Head head.0 head.1)
head_or_call bytes None = option_map Call (call_line_of bytes)

-- the line of a session file: the end, the head, or a call
unfoldable pub session_line_of : List ℕ → Option SessionLine
session_line_of bytes = if bytes_eq bytes (codes "end") then Some End else head_or_call bytes (head_of bytes)
