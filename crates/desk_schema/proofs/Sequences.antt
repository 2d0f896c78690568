-- Names by their places.
use Rattle.std.proofs.Common.{◌≡◌, ℕ, ◌+◌, Bool, true, false, List, [], ◌∷◌, Option, None, Some, refl, sym, ◌∙◌, ap, cond, add-one, ◌⊎◌, inl, inr}
use Rattle.std.specs.Bool.{Decides}
use Rattle.std.specs.Option.{option_map, unwrap_or, IfSome, IfNone}
use Rattle.std.specs.Str.{bytes_eq}
use Rattle.std.specs.List.{Contains}
use Rattle.std.proofs.lemmas.Bool.{false≢true}
use Rattle.std.proofs.lemmas.Slice.Eq.{bytes_eq-Decides}
use Rattle.desk_schema.specs.Schema.{place_of}
use Rattle.desk_schema.specs.declared.line.ColumnKind.{ColumnKind}
use Rattle.desk_schema.specs.declared.line.ColumnKind.TheVariants.{Int, Text, Seq}
use Rattle.desk_schema.specs.Line.{name_of, with_name, with_number}
use Rattle.desk_schema.specs.Rules.{IsKind}
use Rattle.desk_schema.proofs.Members.{Contains-none, Contains-cases}

-- a name that stands in a list has a place there
pub place_named : (names : List (List ℕ)) (name : List ℕ) → Contains names name → (p : ℕ) × (place_of names name ≡ Some p) × (name_of names p ≡ name)
place_named [] name there = absurd (Contains-none name there)
place_named (x ∷ xs) name there = at (bytes_eq x name) (bytes_eq-Decides x name) (Contains-cases x xs name there) (place_named xs name)
  where
    later : (p : ℕ) → place_of xs name ≡ Some p → name_of xs p ≡ name
        → (q : ℕ) × (cond false (Some 0) (option_map (λ p. p + 1) (place_of xs name)) ≡ Some q) × (name_of (x ∷ xs) q ≡ name)
    later p found is = (p + 1, ap (option_map (λ p. p + 1)) found, ap (name_of (x ∷ xs)) (add-one p) ∙ is)

    at : (b : Bool) → Decides b (x ≡ name) → (x ≡ name) ⊎ Contains xs name → (Contains xs name → (p : ℕ) × (place_of xs name ≡ Some p) × (name_of xs p ≡ name))
        → (q : ℕ) × (cond b (Some 0) (option_map (λ p. p + 1) (place_of xs name)) ≡ Some q) × (name_of (x ∷ xs) q ≡ name)
    at true decides cases rest = (0, refl, decides.0 refl)
    at false decides (inl e) rest = absurd (false≢true (decides.1 e))
    at false decides (inr c) rest = let r = rest c in later r.0 r.1 r.2

-- a kind comes back by the number of its sequence
pub with_name-with_number : (names : List (List ℕ)) (kind : ColumnKind) → IsKind names kind → with_name names (with_number names kind) ≡ kind
with_name-with_number names (Int low high) is = refl
with_name-with_number names (Text most) is = refl
with_name-with_number names (Seq sequence) is =
    let r = place_named names sequence is in
    ap (λ o. Seq (name_of names (unwrap_or o 0))) r.1 ∙ ap Seq r.2

found_later : (x : List ℕ) (xs : List (List ℕ)) (name : List ℕ) (p : ℕ) (o : Option ℕ) → ((q : ℕ) → o ≡ Some q → name_of xs q ≡ name)
    → option_map (λ q. q + 1) o ≡ Some p → name_of (x ∷ xs) p ≡ name
found_later x xs name p None later found = absurd cc
found_later x xs name p (Some q) later found = let e : p ≡ q + 1 = cc in ap (name_of (x ∷ xs)) (e ∙ add-one q) ∙ later q refl

found_at : (x : List ℕ) (xs : List (List ℕ)) (name : List ℕ) (p : ℕ) (same : Bool) → Decides same (x ≡ name) → ((q : ℕ) → place_of xs name ≡ Some q → name_of xs q ≡ name)
    → cond same (Some 0) (option_map (λ q. q + 1) (place_of xs name)) ≡ Some p → name_of (x ∷ xs) p ≡ name
found_at x xs name p true decides later found = let e : p ≡ 0 = cc in ap (name_of (x ∷ xs)) e ∙ decides.0 refl
found_at x xs name p false decides later found = found_later x xs name p (place_of xs name) later found

-- at its place stands the name
pub found_named : (names : List (List ℕ)) (name : List ℕ) (p : ℕ) → place_of names name ≡ Some p → name_of names p ≡ name
found_named [] name p found = absurd cc
found_named (x ∷ xs) name p found = found_at x xs name p (bytes_eq x name) (bytes_eq-Decides x name) (found_named xs name) found

-- a name without a place does not stand there
pub none_named : (names : List (List ℕ)) (name : List ℕ) → place_of names name ≡ None → Contains names name → ⊥
none_named names name none there = let found : place_of names name ≡ Some (place_named names name there).0 = (place_named names name there).1 in absurd cc

pub found_some : (names : List (List ℕ)) (name : List ℕ) (found : Option ℕ) → found ≡ place_of names name → IfSome found (λ number. name_of names number ≡ name)
found_some names name None is = tt
found_some names name (Some p) is = found_named names name p (sym is)

pub found_none : (names : List (List ℕ)) (name : List ℕ) (found : Option ℕ) → found ≡ place_of names name → IfNone found (¬ Contains names name)
found_none names name None is = none_named names name (sym is)
found_none names name (Some p) is = tt
