-- Keys that are one.
use Rattle.std.proofs.Common.{◌≡◌, ℕ, ◌==◌, ◌&&◌, Bool, true, false, if◌then◌else◌, nat_eq, List, refl, sym, ap, ◌∙◌, arith}
use Rattle.std.specs.Ordering.{int_cmp, nat_cmp, is_eq, ordering_reverse}
use Rattle.std.specs.Cmp.{IsEquivalence, IsTotalOrder, int_cmp_total, nat_eq_equiv}
use Rattle.std.specs.Cmp.Lexicographic.{slice_cmp}
use Rattle.std.specs.declared.cmp.Ordering.{Ordering}
use Rattle.std.specs.declared.cmp.Ordering.TheVariants.{Less, Equal, Greater}
use Rattle.std.proofs.lemmas.Map.Lookups.{exact_bytes, exact_signed}
use Rattle.std.proofs.lemmas.Cmp.{nat_list_cmp_total}
use Rattle.desk_values.specs.declared.value.Value.{Value}
use Rattle.desk_values.specs.declared.value.Value.TheVariants.{Null, Int, Text, Row, Draw}
use Rattle.desk_values.specs.Comparison.{same_key, text_order, without_trailing_spaces}
use Rattle.same_keys.specs.Print.{ArePrints, print_of, text_print}

is_equal : (o : Ordering) → is_eq o ≡ true → o ≡ Equal
is_equal Equal h = refl
is_equal Less h = absurd (grind (arith, h))
is_equal Greater h = absurd (grind (arith, h))

-- the text as it counts at the level
counted : ℕ → List ℕ → List ℕ
counted level text = if level == 2 then without_trailing_spaces text else text

order_counted : (level : ℕ) (a b : List ℕ) → text_order level a b ≡ slice_cmp nat_cmp (counted level a) (counted level b)
unfolding counted text_order
order_counted level a b = by (level == 2)
  where
    by : (l : Bool) → (if l then slice_cmp nat_cmp (without_trailing_spaces a) (without_trailing_spaces b) else slice_cmp nat_cmp a b) ≡ slice_cmp nat_cmp (if l then without_trailing_spaces a else a) (if l then without_trailing_spaces b else b)
    by true = refl
    by false = refl

texts_one : (level : ℕ) (a b : List ℕ) → same_key level (Text a) (Text b) ≡ true → counted level a ≡ counted level b
texts_one level a b h = exact_bytes _ _ (sym (order_counted level a b) ∙ is_equal (text_order level a b) h)

-- texts that are one are so without the spaces at their ends
trimmed : (level : ℕ) (a b : List ℕ) → counted level a ≡ counted level b → without_trailing_spaces a ≡ without_trailing_spaces b
unfolding counted
trimmed level a b = by (level == 2)
  where
    by : (l : Bool) → (if l then without_trailing_spaces a else a) ≡ (if l then without_trailing_spaces b else b) → without_trailing_spaces a ≡ without_trailing_spaces b
    by true e = e
    by false e = ap without_trailing_spaces e

-- ---- keys

others_text : (level : ℕ) (a b : List ℕ) → counted level a ≡ counted level b → (c : Value) → same_key level c (Text a) ≡ same_key level c (Text b)
others_text level a b e Null = refl
others_text level a b e (Int n) = refl
others_text level a b e (Row n) = refl
others_text level a b e (Draw q n) = refl
others_text level a b e (Text c) = ap is_eq (order_counted level c a ∙ ap (slice_cmp nat_cmp (counted level c)) e ∙ sym (order_counted level c b))

same_value : (level : ℕ) (a b : Value) → a ≡ b → ArePrints level a b
same_value level a b e = record { print = ap print_of e; others = λ c. ap (same_key level c) e }

pub share : (level : ℕ) (a b : Value) → same_key level a b ≡ true → ArePrints level a b
share level (Text a) (Text b) h =
    let e = texts_one level a b h in
    record { print = ap (text_print _) (trimmed level a b e); others = others_text level a b e }
share level (Int a) (Int b) h = same_value level (Int a) (Int b) (ap Int (exact_signed a b (is_equal (int_cmp a b) h)))
share level (Row a) (Row b) h = same_value level (Row a) (Row b) (let e : a ≡ b = grind (arith, h) in ap Row e)
share level (Draw p a) (Draw q b) h = same_value level (Draw p a) (Draw q b) (grind (arith, h))
share level a b h = absurd (grind (arith, h))

-- ---- either way

equal_back : (o : Ordering) → is_eq (ordering_reverse o) ≡ is_eq o
equal_back Less = refl
equal_back Equal = refl
equal_back Greater = refl

number_back : (a b : ℕ) → (a == b) ≡ (b == a)
number_back a b = let numbers : IsEquivalence nat_eq = nat_eq_equiv in numbers.symm a b

pub either : (level : ℕ) (a b : Value) → same_key level a b ≡ same_key level b a
either level (Int a) (Int b) = let order : IsTotalOrder int_cmp = int_cmp_total in ap is_eq (order.antisymm a b) ∙ equal_back (int_cmp b a)
either level (Text a) (Text b) =
    let order : IsTotalOrder (slice_cmp nat_cmp) = nat_list_cmp_total in
    ap is_eq (order_counted level a b ∙ order.antisymm (counted level a) (counted level b)) ∙ equal_back (slice_cmp nat_cmp (counted level b) (counted level a)) ∙ ap is_eq (sym (order_counted level b a))
either level (Row a) (Row b) = number_back a b
either level (Draw p a) (Draw q b) = ap (λ (s : Bool). s && (a == b)) (number_back p q) ∙ ap (λ (s : Bool). (q == p) && s) (number_back a b)
either level Null Null = refl
either level Null (Int b) = refl
either level Null (Text b) = refl
either level Null (Row b) = refl
either level Null (Draw q b) = refl
either level (Int a) Null = refl
either level (Int a) (Text b) = refl
either level (Int a) (Row b) = refl
either level (Int a) (Draw q b) = refl
either level (Text a) Null = refl
either level (Text a) (Int b) = refl
either level (Text a) (Row b) = refl
either level (Text a) (Draw q b) = refl
either level (Row a) Null = refl
either level (Row a) (Int b) = refl
either level (Row a) (Text b) = refl
either level (Row a) (Draw q b) = refl
either level (Draw p a) Null = refl
either level (Draw p a) (Int b) = refl
either level (Draw p a) (Text b) = refl
either level (Draw p a) (Row b) = refl

-- a key that is one with another is the same key as the same others, also where it comes first
pub moves : (level : ℕ) (a b c : Value) → same_key level a b ≡ true → same_key level a c ≡ same_key level b c
moves level a b c h = either level a c ∙ (share level a b h).others c ∙ either level c b
