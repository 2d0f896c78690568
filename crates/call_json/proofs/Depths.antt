-- No call and no reply nests deep.
use Rattle.std.proofs.Common.{ℕ, ◌≤◌, List, [], ◌∷◌, map, Option, Some, arith, pos, negsuc}
use Rattle.std.specs.Prelude.{None}
use Rattle.desk_values.specs.declared.value.Value.{Value}
use Rattle.desk_values.specs.declared.value.Value.TheVariants as value
use Rattle.desk_values.specs.declared.call.Call.{Call}
use Rattle.desk_values.specs.declared.value.Image.{Image}
use Rattle.desk_values.specs.declared.call.Outcome.{Outcome}
use Rattle.desk_values.specs.declared.call.Outcome.TheVariants as outcome
use Rattle.desk_values.specs.declared.call.Reply.{Reply}
use Rattle.desk_values.specs.declared.call.Call.TheVariants.{Connect, Sql, Disconnect}
use Rattle.serde_json.specs.Data.{Data, depth, items_depth}
use Rattle.serde_json.specs.View.{items_of}
use Rattle.call_json.specs.Forms.{value_data, values_data, call_data, image_data, left_data, made_data, outcome_data, reply_data}

value_shallow : (v : Value) → depth (value_data v) ≤ 1
value_shallow value.Null = omega arith
value_shallow (value.Int (pos n)) = omega arith
value_shallow (value.Int (negsuc n)) = omega arith
value_shallow (value.Text t) = omega arith
value_shallow (value.Row n) = omega arith
value_shallow (value.Draw q n) = omega arith

values_shallow : (vs : List Value) → items_depth (items_of (map value_data vs)) ≤ 1
values_shallow [] = omega arith
values_shallow (v ∷ vs) = omega (arith, value_shallow v, values_shallow vs)

pub call_shallow : (c : Call) → depth (call_data c) ≤ 127
call_shallow (Connect s) = omega arith
call_shallow (Sql t bs) = omega (arith, values_shallow bs)
call_shallow Disconnect = omega arith

all_shallow : {X : Type 0} (f : X → Data) (n : ℕ) → ((x : X) → depth (f x) ≤ n) → (xs : List X) → items_depth (items_of (map f xs)) ≤ n
all_shallow f n each [] = omega arith
all_shallow f n each (x ∷ xs) = omega (arith, each x, all_shallow f n each xs)

row_shallow : (vs : List Value) → depth (values_data vs) ≤ 2
row_shallow vs = omega (arith, values_shallow vs)

left_shallow : (left : Option (List Value)) → depth (left_data left) ≤ 2
left_shallow None = omega arith
left_shallow (Some vs) = row_shallow vs

image_shallow : (i : Image) → depth (image_data i) ≤ 3
image_shallow i = omega (arith, left_shallow i.left)

outcome_shallow : (o : Outcome) → depth (outcome_data o) ≤ 5
outcome_shallow (outcome.Rows rows) = omega (arith, all_shallow values_data 2 row_shallow rows)
outcome_shallow (outcome.Count n) = omega arith
outcome_shallow (outcome.Committed images) = omega (arith, all_shallow image_data 3 image_shallow images)
outcome_shallow outcome.RolledBack = omega arith
outcome_shallow outcome.Marked = omega arith
outcome_shallow outcome.Connected = omega arith
outcome_shallow outcome.Disconnected = omega arith
outcome_shallow (outcome.Refused f) = omega arith

made_shallow : (made : Option ℕ) → depth (made_data made) ≤ 1
made_shallow None = omega arith
made_shallow (Some n) = omega arith

pub reply_shallow : (r : Reply) → depth (reply_data r) ≤ 127
reply_shallow r = omega (arith, row_shallow r.draws, made_shallow r.made, outcome_shallow r.outcome)
