-- MIN and MAX are what they say, in whatever order the rows stand.
use Rattle.std.proofs.Common.{◌≡◌, ℕ, ◌==◌, List, [], ◌∷◌, refl, ap, sym, ◌∙◌, subst, inl, inr, Contains}
use Rattle.std.specs.Prelude.{ℤ, pos, ◌+ℤ◌, Bool, true, false, Option, None, Some, Result, Ok, if◌then◌else◌}
use Rattle.std.specs.Result.{result_ok}
use Rattle.std.specs.List.{reduce, filter_map, cons_option}
use Rattle.std.specs.Ordering.{nat_cmp, int_cmp, is_gt, is_le, is_ge, ordering_reverse, ordering_then}
use Rattle.std.specs.Cmp.{IsTotalOrder}
use Rattle.std.specs.Cmp.Lexicographic.{slice_cmp}
use Rattle.std.proofs.lemmas.Cmp.{back_total, int_cmp_total, nat_list_cmp_total, on_total, then_total, tied_back}
use Rattle.std.proofs.lemmas.Map.Lookups.{exact_bytes, exact_signed}
use Rattle.std.proofs.lemmas.Option.{same_Some}
use Rattle.std.specs.declared.cmp.Ordering.{Ordering}
use Rattle.std.specs.declared.cmp.Ordering.TheVariants.{Less, Equal, Greater}
use Rattle.desk_values.specs.declared.value.Value.{Value}
use Rattle.desk_values.specs.declared.value.Value.TheVariants.{Null, Int, Text, Row, Draw}
use Rattle.desk_values.specs.declared.value.Image.{Image}
use Rattle.desk_values.specs.declared.fault.Fault.{Fault}
use Rattle.desk_values.specs.Comparison.{text_order, without_trailing_spaces}
use Rattle.sql_eval.specs.declared.totals.Extreme.{Extreme}
use Rattle.sql_eval.specs.declared.totals.Extreme.TheVariants.{Least, Greatest}
use Rattle.sql_eval.specs.Faults.{any_fault, divides, overflows, told, unless_told}
use Rattle.sql_eval.specs.Moved.{Moved}
use Rattle.sql_tree.specs.Plain as total
use Rattle.sql_eval.specs.Totals.{extreme_of, first_of, first_value, members, number_in, number_order, over, part_in, sum_of, sum_value, text_in, tied_order}
use Rattle.sql_eval.specs.TotalLaws.{IsExtreme, MaxIsGreatest, MinIsLeast, TotalIgnoresOrder, beyond_all, mixed, nothing}
use Rattle.sql_eval.proofs.Moved.{moved_any, moved_chosen, moved_length, moved_reduce, sums_exchange}
use Rattle.sql_eval.proofs.FirstOf.{IsExact, first_exchanges, reduced_first}
use Rattle.desk_schema.proofs.Members.{Contains-none, Contains-here, Contains-there, Contains-cases}

-- ---- the orders

text_total : (level : ℕ) → IsTotalOrder (text_order level)
unfolding text_order
text_total level = by (level == 2)
  where
    by : (b : Bool) → IsTotalOrder (λ x y. if b then slice_cmp nat_cmp (without_trailing_spaces x) (without_trailing_spaces y) else slice_cmp nat_cmp x y)
    by true = on_total without_trailing_spaces nat_list_cmp_total
    by false = nat_list_cmp_total

then_equal : (p q : Ordering) → ordering_then p q ≡ Equal → q ≡ Equal
then_equal Less q e = absurd (cc)
then_equal Equal q e = e
then_equal Greater q e = absurd (cc)

numbers_exact : (extreme : Extreme) → IsExact (number_order extreme)
numbers_exact Least = record { total = int_cmp_total; exact = exact_signed }
numbers_exact Greatest = record { total = back_total int_cmp_total; exact = λ a b e. sym (exact_signed b a e) }

texts_exact : (level : ℕ) (extreme : Extreme) → IsExact (tied_order level extreme)
unfolding tied_order
texts_exact level Least = record { total = then_total (text_total level) nat_list_cmp_total; exact = λ a b e. exact_bytes a b (then_equal (text_order level a b) (slice_cmp nat_cmp a b) e) }
texts_exact level Greatest = record { total = then_total (back_total (text_total level)) nat_list_cmp_total; exact = λ a b e. exact_bytes a b (then_equal (text_order level b a) (slice_cmp nat_cmp a b) e) }

-- ---- the order of rows

moved_over : (of : List Value → Result Value Fault) → ((values others : List Value) → Moved values others → of values ≡ of others) → (part : Image → Result Value Fault) (rows others : List Image) → Moved rows others → over of part rows ≡ over of part others
unfolding any_fault
moved_over of h part rows others m = rw (moved_any (λ r. divides (part r)) m, moved_any (λ r. overflows (part r)) m, h (members part rows) (members part others) (moved_chosen (λ r. result_ok (part r)) m)) refl

moved_sum : (values others : List Value) → Moved values others → sum_of values ≡ sum_of others
unfolding sum_of
moved_sum values others m = ap sum_value (moved_reduce ◌+ℤ◌ sums_exchange (moved_chosen number_in m))

moved_extreme : (level : ℕ) (extreme : Extreme) (values others : List Value) → Moved values others → extreme_of level extreme values ≡ extreme_of level extreme others
unfolding extreme_of
moved_extreme level extreme values others m =
    ap (λ n. first_value n (reduce (first_of (tied_order level extreme)) (filter_map text_in values))) (moved_reduce (first_of (number_order extreme)) (first_exchanges (numbers_exact extreme)) (moved_chosen number_in m))
    ∙ ap (first_value (reduce (first_of (number_order extreme)) (filter_map number_in others))) (moved_reduce (first_of (tied_order level extreme)) (first_exchanges (texts_exact level extreme)) (moved_chosen text_in m))

-- MIN or MAX, which has no fault of its own
abbrev told_extreme : ℕ → Extreme → List Value → Result Value Fault
told_extreme level extreme values = Ok (extreme_of level extreme values)

moved_extremes : (level : ℕ) (extreme : Extreme) (values others : List Value) → Moved values others → told_extreme level extreme values ≡ told_extreme level extreme others
moved_extremes level extreme values others m = ap Ok (moved_extreme level extreme values others m)

pub total_ignores_order : TotalIgnoresOrder
total_ignores_order level binds total.count rows others m = ap (λ n. Ok (Int (pos n))) (moved_length m)
total_ignores_order level binds (total.total part) rows others m = moved_over sum_of moved_sum (part_in level binds part) rows others m
total_ignores_order level binds (total.least part) rows others m = moved_over (told_extreme level Least) (moved_extremes level Least) (part_in level binds part) rows others m
total_ignores_order level binds (total.greatest part) rows others m = moved_over (told_extreme level Greatest) (moved_extremes level Greatest) (part_in level binds part) rows others m

-- ---- what is chosen of values

record Came {X A : Type 0} (choose : X → Option A) (xs : List X) (a : A) : Type 0 where
  item : X
  among : Contains xs item
  gave : choose item ≡ Some a

came_later : {X A : Type 0} (choose : X → Option A) (x : X) (xs : List X) (a : A) → Came choose xs a → Came choose (x ∷ xs) a
came_later choose x xs a c = record { item = c.item; among = Contains-there x xs c.item c.among; gave = c.gave }

came_first : {X A : Type 0} (choose : X → Option A) (x : X) (xs : List X) (a : A) (rest : List A) (o : Option A) → o ≡ choose x → (Contains rest a → Came choose xs a) → Contains (cons_option o rest) a → Came choose (x ∷ xs) a
came_first choose x xs a rest None e more c = came_later choose x xs a (more c)
came_first choose x xs a rest (Some b) e more c = elim (Contains-cases b rest a c) [
  | inl f ↦ record { item = x; among = Contains-here x xs; gave = sym e ∙ ap Some f }
  | inr d ↦ came_later choose x xs a (more d)
]

came : {X A : Type 0} (choose : X → Option A) (xs : List X) (a : A) → Contains (filter_map choose xs) a → Came choose xs a
came choose [] a c = absurd (Contains-none a c)
came choose (x ∷ xs) a c = came_first choose x xs a (filter_map choose xs) (choose x) refl (came choose xs a) c

goes_here : {A : Type 0} (o : Option A) (rest : List A) (a : A) → o ≡ Some a → Contains (cons_option o rest) a
goes_here None rest a h = absurd (cc)
goes_here {A} (Some b) rest a h = let P : A → Type 0 = λ x. Contains (b ∷ rest) x in subst P (same_Some b a h) (Contains-here b rest)

goes_there : {A : Type 0} (o : Option A) (rest : List A) (a : A) → Contains rest a → Contains (cons_option o rest) a
goes_there None rest a c = c
goes_there (Some b) rest a c = Contains-there b rest a c

goes : {X A : Type 0} (choose : X → Option A) (xs : List X) (x : X) (a : A) → Contains xs x → choose x ≡ Some a → Contains (filter_map choose xs) a
goes choose [] x a c e = absurd (Contains-none x c)
goes choose (y ∷ ys) x a c e = elim (Contains-cases y ys x c) [
  | inl f ↦ goes_here (choose y) (filter_map choose ys) a (ap choose f ∙ e)
  | inr d ↦ goes_there (choose y) (filter_map choose ys) a (goes choose ys x a d e)
]

number_is : (v : Value) (n : ℤ) → number_in v ≡ Some n → v ≡ Int n
number_is (Int m) n e = ap Int (cc)
number_is Null n e = absurd (cc)
number_is (Text t) n e = absurd (cc)
number_is (Row r) n e = absurd (cc)
number_is (Draw s r) n e = absurd (cc)

text_is : (v : Value) (t : List ℕ) → text_in v ≡ Some t → v ≡ Text t
text_is (Text s) t e = ap Text (cc)
text_is Null t e = absurd (cc)
text_is (Int n) t e = absurd (cc)
text_is (Row r) t e = absurd (cc)
text_is (Draw s r) t e = absurd (cc)

number_stands : (values : List Value) (n : ℤ) → Contains (filter_map number_in values) n → Contains values (Int n)
number_stands values n c = let from = came number_in values n c in let P : Value → Type 0 = λ v. Contains values v in subst P (number_is from.item n from.gave) from.among

text_stands : (values : List Value) (t : List ℕ) → Contains (filter_map text_in values) t → Contains values (Text t)
text_stands values t c = let from = came text_in values t c in let P : Value → Type 0 = λ v. Contains values v in subst P (text_is from.item t from.gave) from.among

-- ---- MIN and MAX

none_reduced : {A : Type 0} (f : A → A → A) (xs : List A) (a : A) → reduce f xs ≡ None → Contains xs a → ⊥
none_reduced f [] a e c = Contains-none a c
none_reduced f (x ∷ xs) a e c = absurd (cc e)

-- at most, or at least
abbrev test_of : Extreme → Ordering → Bool
test_of Least = is_le
test_of Greatest = is_ge

up_to : (o : Ordering) → is_gt o ≡ false → is_le o ≡ true
up_to Less h = refl
up_to Equal h = refl
up_to Greater h = absurd (cc)

down_to : (o p : Ordering) → p ≡ ordering_reverse o → is_gt o ≡ false → is_ge p ≡ true
down_to Less p e h = rw e refl
down_to Equal p e h = rw e refl
down_to Greater p e h = absurd (cc)

number_passes : (extreme : Extreme) (a b : ℤ) → is_gt (number_order extreme a b) ≡ false → test_of extreme (int_cmp a b) ≡ true
number_passes Least a b h = up_to (int_cmp a b) h
number_passes Greatest a b h = down_to (int_cmp b a) (int_cmp a b) (int_cmp_total.antisymm a b) h

then_first : (p q : Ordering) → is_gt (ordering_then p q) ≡ false → is_gt p ≡ false
then_first Less q h = refl
then_first Equal q h = refl
then_first Greater q h = absurd (cc)

then_second : (p q : Ordering) → is_gt (ordering_then p q) ≡ false → p ≡ Equal → is_gt q ≡ false
then_second Equal q h e = h
then_second Less q h e = absurd (cc)
then_second Greater q h e = absurd (cc)

text_passes : (level : ℕ) (extreme : Extreme) (a b : List ℕ) → is_gt (tied_order level extreme a b) ≡ false → test_of extreme (text_order level a b) ≡ true
unfolding tied_order
text_passes level Least a b h = up_to (text_order level a b) (then_first (text_order level a b) (slice_cmp nat_cmp a b) h)
text_passes level Greatest a b h = down_to (text_order level b a) (text_order level a b) ((text_total level).antisymm a b) (then_first (text_order level b a) (slice_cmp nat_cmp a b) h)

text_ties : (level : ℕ) (extreme : Extreme) (a b : List ℕ) → is_gt (tied_order level extreme a b) ≡ false → text_order level a b ≡ Equal → is_gt (slice_cmp nat_cmp a b) ≡ false
unfolding tied_order
text_ties level Least a b h e = then_second (text_order level a b) (slice_cmp nat_cmp a b) h e
text_ties level Greatest a b h e = then_second (text_order level b a) (slice_cmp nat_cmp a b) h (tied_back (text_total level) a b e)

same_text : (s t : List ℕ) → Text s ≡ Text t → s ≡ t
same_text s t e = cc

module _ (level : ℕ) (extreme : Extreme) (values : List Value) where
  found : (n : Option ℤ) (t : Option (List ℕ)) → reduce (first_of (number_order extreme)) (filter_map number_in values) ≡ n → reduce (first_of (tied_order level extreme)) (filter_map text_in values) ≡ t → IsExtreme level (test_of extreme) values (first_value n t)
  found None None e f = nothing
      (λ n c. none_reduced (first_of (number_order extreme)) (filter_map number_in values) n e (goes number_in values (Int n) n c refl))
      (λ t c. none_reduced (first_of (tied_order level extreme)) (filter_map text_in values) t f (goes text_in values (Text t) t c refl))
  found (Some n) None e f =
      let first = reduced_first (numbers_exact extreme) (filter_map number_in values) n e in
      beyond_all (Int n) (record {
        among = number_stands values n first.among;
        numbers = λ m c. number_passes extreme n m (first.before m (goes number_in values (Int m) m c refl));
        texts = λ t c. absurd (none_reduced (first_of (tied_order level extreme)) (filter_map text_in values) t f (goes text_in values (Text t) t c refl));
        ties = λ s t e c o. absurd (cc e);
      })
  found None (Some t) e f =
      let first = reduced_first (texts_exact level extreme) (filter_map text_in values) t f in
      beyond_all (Text t) (record {
        among = text_stands values t first.among;
        numbers = λ m c. absurd (none_reduced (first_of (number_order extreme)) (filter_map number_in values) m e (goes number_in values (Int m) m c refl));
        texts = λ s c. text_passes level extreme t s (first.before s (goes text_in values (Text s) s c refl));
        ties = λ a s same c o.
            let P : List ℕ → Type 0 = λ x. text_order level x s ≡ Equal → is_gt (slice_cmp nat_cmp x s) ≡ false in
            subst P (same_text t a same) (text_ties level extreme t s (first.before s (goes text_in values (Text s) s c refl))) o;
      })
  found (Some n) (Some t) e f = mixed n t
      (number_stands values n (reduced_first (numbers_exact extreme) (filter_map number_in values) n e).among)
      (text_stands values t (reduced_first (texts_exact level extreme) (filter_map text_in values) t f).among)

extreme_is_found : (level : ℕ) (extreme : Extreme) (values : List Value) → IsExtreme level (test_of extreme) values (extreme_of level extreme values)
unfolding extreme_of
extreme_is_found level extreme values = found level extreme values (reduce (first_of (number_order extreme)) (filter_map number_in values)) (reduce (first_of (tied_order level extreme)) (filter_map text_in values)) refl refl

told_value : (o : Option Fault) (v w : Value) → unless_told o (Ok v) ≡ Ok w → v ≡ w
told_value None v w e = cc
told_value (Some fault) v w e = absurd (cc)

over_extreme : (level : ℕ) (extreme : Extreme) (part : Image → Result Value Fault) (rows : List Image) (v : Value) → over (λ values. Ok (extreme_of level extreme values)) part rows ≡ Ok v → IsExtreme level (test_of extreme) (members part rows) v
over_extreme level extreme part rows v e =
    let P : Value → Type 0 = λ w. IsExtreme level (test_of extreme) (members part rows) w in
    subst P (told_value (told (any_fault part rows)) (extreme_of level extreme (members part rows)) v e) (extreme_is_found level extreme (members part rows))

pub min_is_least : MinIsLeast
min_is_least level binds part rows v e = over_extreme level Least (part_in level binds part) rows v e

pub max_is_greatest : MaxIsGreatest
max_is_greatest level binds part rows v e = over_extreme level Greatest (part_in level binds part) rows v e
