-- What contracts see of lines and dials.
use Rattle.std.specs.Prelude.{ℕ, ◌==◌, Bool, if◌then◌else◌, List, [], map, slice_get, Option, None}
use Rattle.std.specs.List.{list_any}
use Rattle.desk_values.specs.declared.call.Reply.{Reply}
use Rattle.remote_link.specs.declared.heard.Heard.{Heard}
use Rattle.remote_link.specs.declared.mem_line.MemScript.{MemScript}

-- a line by HTTP: the bytes that came and were not taken, its two ends, and how many calls failed
pub record HttpView (I O : Type 0) : Type 0 where
  pub held : List ℕ
  pub input : I
  pub output : O
  pub faults : ℕ

-- a line in memory: the replies of its script and how many of them were given, which calls are to fail, how many calls there
-- were, how many failed, and what was said
pub record MemoryLine : Type 0 where
  pub replies : List Reply
  pub given : ℕ
  pub fails : List ℕ
  pub made : ℕ
  pub faults : ℕ
  pub said : List Heard

-- one on which nothing was said
abbrev pub line_of : MemScript → MemoryLine
line_of script = record { replies = script.replies; given = 0; fails = script.fails; made = 0; faults = 0; said = [] }

-- the number is one of those that are to fail
abbrev pub is_failing : List ℕ → ℕ → Bool
is_failing fails number = list_any (λ n. n == number) fails

-- what the next call is answered: nothing where it is to fail, or the script has ended
abbrev pub next_reply : MemoryLine → Option Reply
next_reply line = if is_failing line.fails line.made then None else slice_get line.replies line.given

-- the counts of a dial in memory, or of the network: how many calls failed, here or on a line that was given back, how often it was
-- dialled, how often that failed, and how often a line was given back, whatever came of it; and the port that was asked for last
pub record DialCounts : Type 0 where
  pub faults : ℕ
  pub port : Option ℕ
  pub dials : ℕ
  pub failed : ℕ
  pub backs : ℕ

-- before any call
abbrev pub no_dials : DialCounts
no_dials = record { faults = 0; port = None; dials = 0; failed = 0; backs = 0 }

-- a dial in memory: the scripts that are left, which dials are to fail, its counts, and the lines that were given back
pub record MemoryDial : Type 0 where
  pub scripts : List MemScript
  pub fails : List ℕ
  pub counts : DialCounts
  pub returned : List MemoryLine

-- what was said on those lines
abbrev pub said_on : MemoryDial → List (List Heard)
said_on dial = map (λ (line : MemoryLine). line.said) dial.returned
