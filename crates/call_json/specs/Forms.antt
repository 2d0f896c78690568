-- The JSON value of a call and of a reply, and the text that is written for it. The keys of an object ascend.
use Rattle.std.specs.Prelude.{ℕ, true, List, map, codes, Option, None, Some}
use Rattle.desk_values.specs.declared.value.Value.{Value}
use Rattle.desk_values.specs.declared.value.Value.TheVariants as value
use Rattle.desk_values.specs.declared.value.Image.{Image}
use Rattle.desk_values.specs.declared.call.Call.{Call}
use Rattle.desk_values.specs.declared.call.Call.TheVariants.{Connect, Sql, Disconnect}
use Rattle.desk_values.specs.declared.call.Outcome.{Outcome}
use Rattle.desk_values.specs.declared.call.Outcome.TheVariants as outcome
use Rattle.desk_values.specs.declared.call.Reply.{Reply}
use Rattle.desk_values.specs.Fault.{fault_number}
use Rattle.serde_json.specs.Data.{Data, null, boolean, number, string, array, object, unsigned, no_members, member}
use Rattle.serde_json.specs.Find.{of_integer}
use Rattle.serde_json.specs.View.{items_of}
use Rattle.serde_json.specs.Written.{compact_text}

-- an object of just this key, of these two, of these three
abbrev pub object_of_one : List ℕ → Data → Data
object_of_one k d = object (member k d no_members)

abbrev pub object_of_two : List ℕ → Data → List ℕ → Data → Data
object_of_two k d l e = object (member k d (member l e no_members))

abbrev pub object_of_three : List ℕ → Data → List ℕ → Data → List ℕ → Data → Data
object_of_three k d l e m f = object (member k d (member l e (member m f no_members)))

-- a number that is no less than 0: an id, a count, a table, a sequence, a fault
abbrev pub count_data : ℕ → Data
count_data n = number (unsigned n)

-- an array of what each of them is
abbrev pub list_data : {X : Type 0} → (X → Data) → List X → Data
list_data f xs = array (items_of (map f xs))

-- null, a number, a text; {"row":3}; {"draw":10,"seq":0}
abbrev pub value_data : Value → Data
value_data value.Null = null
value_data (value.Int z) = number (of_integer z)
value_data (value.Text text) = string text
value_data (value.Row n) = object_of_one (codes "row") (count_data n)
value_data (value.Draw sequence n) = object_of_two (codes "draw") (count_data n) (codes "seq") (count_data sequence)

abbrev pub values_data : List Value → Data
values_data values = list_data value_data values

-- {"connect":"main"}; {"binds":[1],"sql":"COMMIT"}; {"disconnect":true}
abbrev pub call_data : Call → Data
call_data (Connect service) = object_of_one (codes "connect") (string service)
call_data (Sql text binds) = object_of_two (codes "binds") (values_data binds) (codes "sql") (string text)
call_data Disconnect = object_of_one (codes "disconnect") (boolean true)

-- what an image leaves: null where the row is deleted
abbrev pub left_data : Option (List Value) → Data
left_data None = null
left_data (Some values) = values_data values

-- {"now":[3,7],"row":3,"table":0}
abbrev pub image_data : Image → Data
image_data image =
    object_of_three (codes "now") (left_data image.left) (codes "row") (count_data image.row) (codes "table") (count_data image.table)

-- {"rows":[[1]]}; {"count":1}; {"committed":[IMAGE]}; {"refused":20}; a word with true
abbrev pub outcome_data : Outcome → Data
outcome_data (outcome.Rows rows) = object_of_one (codes "rows") (list_data values_data rows)
outcome_data (outcome.Count n) = object_of_one (codes "count") (count_data n)
outcome_data (outcome.Committed images) = object_of_one (codes "committed") (list_data image_data images)
outcome_data outcome.RolledBack = object_of_one (codes "rolledback") (boolean true)
outcome_data outcome.Marked = object_of_one (codes "marked") (boolean true)
outcome_data outcome.Connected = object_of_one (codes "connected") (boolean true)
outcome_data outcome.Disconnected = object_of_one (codes "disconnected") (boolean true)
outcome_data (outcome.Refused fault) = object_of_one (codes "refused") (count_data (fault_number fault))

-- null, or {"row":3}
abbrev pub made_data : Option ℕ → Data
made_data None = null
made_data (Some row) = object_of_one (codes "row") (count_data row)

-- {"draws":[],"made":null,"outcome":OUTCOME}
abbrev pub reply_data : Reply → Data
reply_data reply =
    object_of_three (codes "draws") (values_data reply.draws) (codes "made") (made_data reply.made)
    (codes "outcome") (outcome_data reply.outcome)

-- the texts with no blanks, which are written
abbrev pub call_text : Call → List ℕ
call_text call = compact_text (call_data call)

abbrev pub reply_text : Reply → List ℕ
reply_text reply = compact_text (reply_data reply)
