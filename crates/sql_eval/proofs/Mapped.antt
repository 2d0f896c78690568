-- Tests of mapped lists.
use Rattle.std.proofs.Common.{◌≡◌, ◌<◌, ℕ, List, [], ◌∷◌, length, drop, get_or, refl, sym, ap, ◌∙◌, arith}
use Rattle.std.proofs.Math.Bool.{or-false}
use Rattle.std.specs.Prelude.{Bool, ◌||◌, ◌&&◌, map, nat_eq, Option, None, Some}
use Rattle.std.specs.List.{cons_option, filter_map, list_any, list_all}
use Rattle.sql_tree.specs.Naming.{Naming, map_change, map_plan}
use Rattle.sql_tree.specs.Plain.{Change, Plan}
use Rattle.sql_tree.specs.Plain as tree
use Rattle.sql_eval.specs.Check.{given_columns}
use Rattle.sql_eval.specs.SchemaNames.{has_twice}

pub any_mapped : {X Y : Type 0} (test : Y → Bool) (f : X → Y) (xs : List X) → list_any test (map f xs) ≡ list_any (λ x. test (f x)) xs
any_mapped test f [] = refl
any_mapped test f (x ∷ xs) = ap (λ b. test (f x) || b) (any_mapped test f xs)

pub twice_mapped : {X Y : Type 0} (number : Y → ℕ) (f : X → Y) (xs : List X) → has_twice number (map f xs) ≡ has_twice (λ x. number (f x)) xs
twice_mapped number f [] = refl
twice_mapped number f (x ∷ xs) = rw (any_mapped (λ other. nat_eq (number other) (number (f x))) f xs) (ap (λ b. list_any (λ other. nat_eq (number (f other)) (number (f x))) xs || b) (twice_mapped number f xs))

pub twice_step : {X : Type 0} (number : X → ℕ) (xs : List X) (x : X) → 0 < length xs → x ≡ get_or xs 0 x → has_twice number xs ≡ (list_any (λ other. nat_eq (number other) (number x)) (drop 1 xs) || has_twice number (drop 1 xs))
twice_step number [] x h e = absurd (omega (arith, h))
twice_step number (first ∷ others) x h e = rw e refl

pub all_mapped : {X Y : Type 0} (test : Y → Bool) (f : X → Y) (xs : List X) → list_all test (map f xs) ≡ list_all (λ x. test (f x)) xs
all_mapped test f [] = refl
all_mapped test f (x ∷ xs) = ap (λ b. test (f x) && b) (all_mapped test f xs)

any_put : {Y : Type 0} (test : Y → Bool) (o : Option Y) (ys : List Y) → list_any test (cons_option o ys) ≡ (list_any test (cons_option o []) || list_any test ys)
any_put test None ys = refl
any_put test (Some y) ys = rw (or-false (test y)) refl

-- a test of what is chosen of mapped items
pub any_chosen : {X Y Z : Type 0} (test : Z → Bool) (choose : Y → Option Z) (f : X → Y) (xs : List X) → list_any test (filter_map choose (map f xs)) ≡ list_any (λ x. list_any test (cons_option (choose (f x)) [])) xs
any_chosen test choose f [] = refl
any_chosen test choose f (x ∷ xs) = any_put test (choose (f x)) (filter_map choose (map f xs)) ∙ ap (λ b. list_any test (cons_option (choose (f x)) []) || b) (any_chosen test choose f xs)

-- columns that get a value are named twice where their names stand for one number
pub given_twice : {N : Type 0} (by : Naming N ℕ) (plan : Plan N) → has_twice (λ column. column) (given_columns (map_plan by plan)) ≡ has_twice by.column (given_columns plan)
given_twice by (tree.select table asked condition keys held) = refl
given_twice by (tree.next sequence) = refl
given_twice by (tree.insert table None entries) = refl
given_twice by (tree.insert table (Some names) entries) = twice_mapped (λ column. column) by.column names
given_twice by (tree.update table changes condition) =
    twice_mapped (λ column. column) (λ (c : Change ℕ). c.column) (map (map_change by.column) changes)
    ∙ twice_mapped (λ (c : Change ℕ). c.column) (map_change by.column) changes
    ∙ sym (twice_mapped by.column (λ (c : Change _). c.column) changes)
given_twice by (tree.delete table condition) = refl
given_twice by tree.commit = refl
given_twice by tree.rollback = refl
given_twice by tree.set_read_only = refl
given_twice by (tree.savepoint name) = refl
given_twice by (tree.rollback_to name) = refl
