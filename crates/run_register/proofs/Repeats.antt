-- Registrations one after another.
use Rattle.std.proofs.Common.{◌≡◌, ℕ, Bool, true, false, cond, List, [], ◌∷◌, ◌++◌, refl, sym, ap, ◌∙◌, Option, None, Some, rules}
use Rattle.std.specs.Prelude.{is_some}
use Rattle.std.specs.List.{fold}
use Rattle.std.specs.Ordering.{eq_by_cmp, is_eq}
use Rattle.std.specs.declared.cmp.Ordering.{Ordering}
use Rattle.std.specs.declared.cmp.Ordering.TheVariants.{Less, Equal, Greater}
use Rattle.std.specs.Cmp.Lexicographic.{nat_list_cmp_total}
use Rattle.std.specs.FinMap.{contains_key, empty, find, get, get-empty, get-insert, get_tied, insert, same_map}
use Rattle.std.proofs.lemmas.Map.Lookups.{exact_bytes}
use Rattle.run_register.specs.Register.{RunMap, name_cmp, register_of, registered}

abbrev Pair : Type 0
Pair = List ℕ × List ℕ

-- what stood stays
abbrev first_of : Option (List ℕ) → Option (List ℕ) → Option (List ℕ)
first_of (Some report) later = Some report
first_of None later = later

first_of-none : (x : Option (List ℕ)) → x ≡ first_of x None
first_of-none (Some report) = refl
first_of-none None = refl

first_of-later : (x : Option (List ℕ)) (b : Bool) (report : List ℕ) (later : Option (List ℕ)) → first_of (first_of x (cond b (Some report) None)) later ≡ first_of x (cond b (Some report) later)
first_of-later (Some kept) b report later = refl
first_of-later None true report later = refl
first_of-later None false report later = refl

-- ---- one registration

-- x is kept at the name that is asked, y at the name that is registered
one_more : (x y : Option (List ℕ)) (b : Bool) (report : List ℕ) → (b ≡ true → x ≡ y) → cond (is_some y) x (cond b (Some report) x) ≡ first_of x (cond b (Some report) None)
one_more None None true report same = refl
one_more None (Some kept) true report same = let e = same refl in search rules
one_more (Some other) None true report same = let e = same refl in search rules
one_more (Some other) (Some kept) true report same = refl
one_more None None false report same = refl
one_more None (Some kept) false report same = refl
one_more (Some other) None false report same = refl
one_more (Some other) (Some kept) false report same = refl

get-cond : (b : Bool) (m n : RunMap) (name : List ℕ) → get (cond b m n) name ≡ cond b (get m name) (get n name)
get-cond true m n name = refl
get-cond false m n name = refl

tied : (r : Ordering) → is_eq r ≡ true → r ≡ Equal
tied Less e = search rules
tied Equal e = refl
tied Greater e = search rules

get-registered : (runs : RunMap) (pair : Pair) (name : List ℕ) → get (registered runs pair) name ≡ first_of (get runs name) (cond (eq_by_cmp name_cmp name pair.0) (Some pair.1) None)
get-registered runs pair name =
    get-cond (contains_key runs pair.0) runs (insert runs pair.0 pair.1) name
    ∙ ap (λ (x : Option (List ℕ)). cond (contains_key runs pair.0) (get runs name) x) (get-insert nat_list_cmp_total runs pair.0 pair.1 name)
    ∙ one_more (get runs name) (get runs pair.0) (eq_by_cmp name_cmp name pair.0) pair.1 (λ e. sym (get_tied nat_list_cmp_total runs name pair.0 (tied (name_cmp name pair.0) e)))

-- ---- all of them

get-fold : (pairs : List Pair) (runs : RunMap) (name : List ℕ) → get (fold registered runs pairs) name ≡ first_of (get runs name) (find name_cmp name pairs)
get-fold [] runs name = first_of-none (get runs name)
get-fold (pair ∷ pairs) runs name =
    get-fold pairs (registered runs pair) name
    ∙ ap (λ (x : Option (List ℕ)). first_of x (find name_cmp name pairs)) (get-registered runs pair name)
    ∙ first_of-later (get runs name) (eq_by_cmp name_cmp name pair.0) pair.1 (find name_cmp name pairs)

pub first_stands : (pairs : List Pair) (name : List ℕ) → get (register_of pairs) name ≡ find name_cmp name pairs
first_stands pairs name = get-fold pairs empty name ∙ ap (λ (x : Option (List ℕ)). first_of x (find name_cmp name pairs)) (get-empty name_cmp name)

-- ---- repeats

find-later : (middle rest : List Pair) (pair : Pair) (name : List ℕ) → eq_by_cmp name_cmp name pair.0 ≡ false → find name_cmp name (middle ++ pair ∷ rest) ≡ find name_cmp name (middle ++ rest)
find-later [] rest pair name other = ap (λ b. cond b (Some pair.1) (find name_cmp name rest)) other
find-later (first ∷ middle) rest pair name other = ap (cond (eq_by_cmp name_cmp name first.0) (Some first.1)) (find-later middle rest pair name other)

find-again : (b : Bool) (report : List ℕ) (x y : Option (List ℕ)) → (b ≡ false → x ≡ y) → cond b (Some report) x ≡ cond b (Some report) y
find-again true report x y same = refl
find-again false report x y same = same refl

find-repeat : (front middle rest : List Pair) (pair : Pair) (name : List ℕ) → find name_cmp name (front ++ pair ∷ (middle ++ pair ∷ rest)) ≡ find name_cmp name (front ++ pair ∷ (middle ++ rest))
find-repeat [] middle rest pair name = find-again (eq_by_cmp name_cmp name pair.0) pair.1 _ _ (find-later middle rest pair name)
find-repeat (first ∷ front) middle rest pair name = ap (cond (eq_by_cmp name_cmp name first.0) (Some first.1)) (find-repeat front middle rest pair name)

pub repeats_once : (front middle rest : List Pair) (pair : Pair) → register_of (front ++ pair ∷ (middle ++ pair ∷ rest)) ≡ register_of (front ++ pair ∷ (middle ++ rest))
repeats_once front middle rest pair = same_map nat_list_cmp_total exact_bytes _ _ (λ name.
    first_stands (front ++ pair ∷ (middle ++ pair ∷ rest)) name
    ∙ find-repeat front middle rest pair name
    ∙ sym (first_stands (front ++ pair ∷ (middle ++ rest)) name))
