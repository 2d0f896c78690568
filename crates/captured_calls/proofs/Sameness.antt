-- The test of replies says just whether they are equal.
use Rattle.std.proofs.Common.{◌≡◌, ℕ, Bool, true, false, ◌&&◌, List, refl, sym, ap, ◌∙◌}
use Rattle.std.specs.Prelude.{nat_eq, Option, None, Some}
use Rattle.std.specs.Bool.{Decides}
use Rattle.std.specs.Option.{option_eq}
use Rattle.std.specs.Cmp.Lexicographic.{pointwise}
use Rattle.std.proofs.lemmas.Bool.Decides.{Decides-eqb, Decides-int_eq}
use Rattle.std.proofs.lemmas.Slice.Eq.{slice_eq-Decides}
use Rattle.desk_values.specs.declared.value.Value.{Value}
use Rattle.desk_values.specs.declared.value.Value.TheVariants.{Null, Int, Text, Row, Draw}
use Rattle.desk_values.specs.declared.value.Image.{Image}
use Rattle.desk_values.specs.declared.fault.Fault.{Fault}
use Rattle.desk_values.specs.declared.call.Outcome.{Outcome}
use Rattle.desk_values.specs.declared.call.Outcome.TheVariants.{Rows, Count, Committed, RolledBack, Marked, Connected, Disconnected, Refused}
use Rattle.desk_values.specs.declared.call.Reply.{Reply}
use Rattle.desk_values.specs.Fault.{fault_number, fault_numbered}
use Rattle.desk_values.proofs.Faults.{numbered_again}
use Rattle.captured_calls.specs.Same.{same_value, same_values, same_image, same_outcome, same_reply}
use Rattle.captured_calls.proofs.Members.{some_is}

both : {P Q : Type 0} (a b : Bool) → Decides a P → Decides b Q → (a && b) ≡ true → P × Q
both true b p q e = (p.0 refl, q.0 e)
both false b p q e = cc

joined : {P Q : Type 0} (a b : Bool) → Decides a P → Decides b Q → P → Q → (a && b) ≡ true
joined a b p q x y = rw (p.1 x, q.1 y) refl

texts : (a b : List ℕ) → Decides (pointwise nat_eq a b) (a ≡ b)
texts a b = slice_eq-Decides Decides-eqb a b _ refl

options : {X : Type 0} (E : X → X → Bool) → ((a b : X) → Decides (E a b) (a ≡ b)) → (a b : Option X) → Decides (option_eq E a b) (a ≡ b)
options E each None None = (λ e. refl, λ e. refl)
options E each None (Some y) = (λ e. cc, λ e. cc)
options E each (Some x) None = (λ e. cc, λ e. cc)
options E each (Some x) (Some y) = (λ e. ap (λ z. Some z) ((each x y).0 e), λ e. (each x y).1 cc)

value_is : (a b : Value) → same_value a b ≡ true → a ≡ b
value_is Null Null e = refl
value_is (Int a) (Int b) e = ap (λ n. Int n) ((Decides-int_eq a b).0 e)
value_is (Text a) (Text b) e = ap (λ t. Text t) ((texts a b).0 e)
value_is (Row a) (Row b) e = ap (λ n. Row n) ((Decides-eqb a b).0 e)
value_is (Draw p a) (Draw q b) e =
    let two = both _ _ (Decides-eqb p q) (Decides-eqb a b) e in
    ap (λ n. Draw n a) two.0 ∙ ap (λ n. Draw q n) two.1
value_is _ _ e = cc

value_self : (a : Value) → same_value a a ≡ true
value_self Null = refl
value_self (Int a) = (Decides-int_eq a a).1 refl
value_self (Text a) = (texts a a).1 refl
value_self (Row a) = (Decides-eqb a a).1 refl
value_self (Draw p a) = joined _ _ (Decides-eqb p p) (Decides-eqb a a) refl refl

decided : {X : Type 0} (E : X → X → Bool) → ((a b : X) → E a b ≡ true → a ≡ b) → ((a : X) → E a a ≡ true) → (a b : X) → Decides (E a b) (a ≡ b)
decided E is self a b = (is a b, λ e. ap (E a) (sym e) ∙ self a)

pub value_decided : (a b : Value) → Decides (same_value a b) (a ≡ b)
value_decided = decided same_value value_is value_self

values_decided : (a b : List Value) → Decides (same_values a b) (a ≡ b)
values_decided a b = slice_eq-Decides value_decided a b _ refl

image_is : (a b : Image) → same_image a b ≡ true → a ≡ b
image_is a b e =
    let one = both _ _ (Decides-eqb a.row b.row) (rest a b) e in
    let two : a.row ≡ b.row = one.0 in
    let three : a.table ≡ b.table = one.1.0 in
    let four : a.left ≡ b.left = one.1.1 in
    λ i. record { row = two i; table = three i; left = four i }
  where
    rest : (a b : Image) → Decides (nat_eq a.table b.table && option_eq same_values a.left b.left) ((a.table ≡ b.table) × (a.left ≡ b.left))
    rest a b = (both _ _ (Decides-eqb a.table b.table) (options same_values values_decided a.left b.left), λ t. joined _ _ (Decides-eqb a.table b.table) (options same_values values_decided a.left b.left) t.0 t.1)

image_self : (a : Image) → same_image a a ≡ true
image_self a = rw ((Decides-eqb a.row a.row).1 refl, (Decides-eqb a.table a.table).1 refl, (options same_values values_decided a.left a.left).1 refl) refl

image_decided : (a b : Image) → Decides (same_image a b) (a ≡ b)
image_decided = decided same_image image_is image_self

images_decided : (a b : List Image) → Decides (pointwise same_image a b) (a ≡ b)
images_decided a b = slice_eq-Decides image_decided a b _ refl

rows_decided : (a b : List (List Value)) → Decides (pointwise same_values a b) (a ≡ b)
rows_decided a b = slice_eq-Decides values_decided a b _ refl

outcome_self : (a : Outcome) → same_outcome a a ≡ true
outcome_self (Rows a) = (rows_decided a a).1 refl
outcome_self (Count a) = (Decides-eqb a a).1 refl
outcome_self (Committed a) = (images_decided a a).1 refl
outcome_self RolledBack = refl
outcome_self Marked = refl
outcome_self Connected = refl
outcome_self Disconnected = refl
outcome_self (Refused a) = (Decides-eqb (fault_number a) (fault_number a)).1 refl

fault_is : (a b : Fault) → fault_number a ≡ fault_number b → a ≡ b
fault_is a b e = some_is (sym (numbered_again a) ∙ ap fault_numbered e ∙ numbered_again b)

outcome_is : (a b : Outcome) → same_outcome a b ≡ true → a ≡ b
outcome_is (Rows a) (Rows b) e = ap (λ r. Rows r) ((rows_decided a b).0 e)
outcome_is (Count a) (Count b) e = ap (λ n. Count n) ((Decides-eqb a b).0 e)
outcome_is (Committed a) (Committed b) e = ap (λ r. Committed r) ((images_decided a b).0 e)
outcome_is RolledBack RolledBack e = refl
outcome_is Marked Marked e = refl
outcome_is Connected Connected e = refl
outcome_is Disconnected Disconnected e = refl
outcome_is (Refused a) (Refused b) e = ap (λ f. Refused f) (fault_is a b ((Decides-eqb (fault_number a) (fault_number b)).0 e))
outcome_is _ _ e = cc

pub reply_is : (a b : Reply) → same_reply a b ≡ true → a ≡ b
unfolding same_reply
reply_is a b e =
    let all = both _ _ (decided same_outcome outcome_is outcome_self a.outcome b.outcome) (rest a b) e in
    let one : a.outcome ≡ b.outcome = all.0 in
    let two : a.draws ≡ b.draws = all.1.0 in
    let three : a.made ≡ b.made = all.1.1 in
    λ i. record { outcome = one i; draws = two i; made = three i }
  where
    rest : (a b : Reply) → Decides (same_values a.draws b.draws && option_eq nat_eq a.made b.made) ((a.draws ≡ b.draws) × (a.made ≡ b.made))
    rest a b = (both _ _ (values_decided a.draws b.draws) (options nat_eq Decides-eqb a.made b.made), λ t. joined _ _ (values_decided a.draws b.draws) (options nat_eq Decides-eqb a.made b.made) t.0 t.1)

pub reply_self : (a : Reply) → same_reply a a ≡ true
unfolding same_reply
reply_self a = rw (outcome_self a.outcome, (values_decided a.draws a.draws).1 refl, (options nat_eq Decides-eqb a.made a.made).1 refl) refl

pub reply_decided : (a b : Reply) → Decides (same_reply a b) (a ≡ b)
reply_decided = decided same_reply reply_is reply_self

-- a test that decides the same is the same
pub same_tests : {P : Type 0} (a b : Bool) → (a ≡ true → P) × (P → a ≡ true) → Decides b P → a ≡ b
same_tests true b is decides = sym (decides.1 (is.0 refl))
same_tests false true is decides = is.1 (decides.0 refl)
same_tests false false is decides = refl
