-- Which values and replies can be written as text.
use Rattle.std.specs.Prelude.{◌≡◌, ℕ, ◌<◌, ◌≤◌, ◌^◌, Bool, true, false, ◌&&◌, nat_lt, List, [], ◌∷◌, length, IfSome, FitsSigned}
use Rattle.std.specs.Int.{w64}
use Rattle.std.specs.Str.{IsUtf8}
use Rattle.std.specs.List.{AllByRecursion}
use Rattle.desk_values.specs.Limits.{text_limit, bind_limit, table_limit}
use Rattle.desk_values.specs.declared.value.Value.{Value}
use Rattle.desk_values.specs.declared.value.Value.TheVariants.{Null, Int, Text, Row, Draw}
use Rattle.desk_values.specs.declared.value.Image.{Image}
use Rattle.desk_values.specs.declared.call.Outcome.{Outcome}
use Rattle.desk_values.specs.declared.call.Outcome.TheVariants.{Rows, Count, Committed, RolledBack, Marked, Connected, Disconnected, Refused}
use Rattle.desk_values.specs.declared.call.Call.{Call}
use Rattle.desk_values.specs.declared.call.Call.TheVariants.{Connect, Sql, Disconnect}
use Rattle.desk_values.specs.declared.call.Reply.{Reply}
use Rattle.desk_values.specs.declared.fault.Fault.TheVariants.{NoSavepoint}

-- a text of the desk: at most 1,000 bytes of UTF-8
pub record IsTxt (bytes : List ℕ) : Type 0 where
  pub limit : length bytes ≤ text_limit
  pub utf8 : IsUtf8 bytes

-- a value whose parts are within the limits of their types
abbrev pub IsValue : Value → Type 0
IsValue Null = Unit {0}
IsValue (Int n) = FitsSigned w64 n
IsValue (Text text) = IsTxt text
IsValue (Row n) = n < 2 ^ 64
IsValue (Draw sequence n) = (sequence < 2 ^ 32) × (n < 2 ^ 64)

abbrev pub IsValues : List Value → Type 0
IsValues values = AllByRecursion IsValue values

-- a row of a reply has at least one value
abbrev pub IsGoodRow : List Value → Type 0
IsGoodRow values = (0 < length values) × IsValues values

-- only draws stand among draws
abbrev pub IsGoodDraw : Value → Type 0
IsGoodDraw (Draw sequence n) = (sequence < 2 ^ 32) × (n < 2 ^ 64)
IsGoodDraw other = ⊥

pub record IsGoodImage (image : Image) : Type 0 where
  pub row : image.row < 2 ^ 64
  pub table : image.table < table_limit
  pub left : IfSome image.left IsGoodRow

-- the rows of images ascend strictly
abbrev pub Ascend : List Image → Type 0
Ascend [] = Unit {0}
Ascend (first ∷ []) = Unit {0}
Ascend (first ∷ second ∷ others) = (first.row < second.row) × Ascend (second ∷ others)

abbrev pub IsGoodOutcome : Outcome → Type 0
IsGoodOutcome (Rows rows) = AllByRecursion IsGoodRow rows
IsGoodOutcome (Count n) = n < 2 ^ 64
IsGoodOutcome (Committed images) = AllByRecursion IsGoodImage images × Ascend images
IsGoodOutcome RolledBack = Unit {0}
IsGoodOutcome Marked = Unit {0}
IsGoodOutcome Connected = Unit {0}
IsGoodOutcome Disconnected = Unit {0}
IsGoodOutcome (Refused fault) = Unit {0}

-- a reply that has a text
pub record IsGoodReply (reply : Reply) : Type 0 where
  pub outcome : IsGoodOutcome reply.outcome
  pub draws : AllByRecursion IsGoodDraw reply.draws
  pub made : IfSome reply.made (λ row. row < 2 ^ 64)

-- ---- the shape of a reply: what its types do not give

abbrev pub HasValues : List Value → Type 0
HasValues values = 0 < length values

abbrev pub IsDraw : Value → Type 0
IsDraw (Draw sequence n) = Unit {0}
IsDraw other = ⊥

pub record IsShapedImage (image : Image) : Type 0 where
  pub table : image.table < table_limit
  pub left : IfSome image.left HasValues

abbrev pub IsShapedOutcome : Outcome → Type 0
IsShapedOutcome (Rows rows) = AllByRecursion HasValues rows
IsShapedOutcome (Committed images) = AllByRecursion IsShapedImage images × Ascend images
IsShapedOutcome other = Unit {0}

-- no row is empty, nor is what an image leaves; images stand by rising row, in tables that there may be; only draws stand
-- among the draws
pub record HasGoodShape (reply : Reply) : Type 0 where
  pub outcome : IsShapedOutcome reply.outcome
  pub draws : AllByRecursion IsDraw reply.draws

-- a call that has a text
abbrev pub IsCall : Call → Type 0
IsCall (Connect service) = IsTxt service
IsCall (Sql text binds) = IsTxt text × (length binds ≤ bind_limit) × IsValues binds
IsCall Disconnect = Unit {0}

-- ---- the same as tests

-- the rows ascend, from above this one on
abbrev pub ascend_above : ℕ → List Image → Bool
ascend_above row [] = true
ascend_above row (first ∷ others) = nat_lt row first.row && ascend_above first.row others

-- each row is below the next
abbrev pub rows_ascend : List Image → Bool
rows_ascend [] = true
rows_ascend (first ∷ others) = ascend_above first.row others

abbrev pub is_draw : Value → Bool
is_draw (Draw sequence n) = true
is_draw other = false

-- only draws
abbrev pub all_draws : List Value → Bool
all_draws [] = true
all_draws (first ∷ others) = is_draw first && all_draws others

-- it tells that a savepoint is not there
abbrev pub misses_savepoint : Outcome → Bool
misses_savepoint (Refused NoSavepoint) = true
misses_savepoint other = false

-- a server of version 1 has no savepoints, and tells of none
abbrev pub MayTell : ℕ → Reply → Type 0
MayTell version reply = version ≡ 1 → misses_savepoint reply.outcome ≡ false
