-- Places of names in lists.
use Rattle.std.proofs.Common.{◌≡◌, ℕ, ◌+◌, ◌<◌, Bool, true, false, List, [], ◌∷◌, length, map, get_or, drop, Option, None, Some, refl, sym, ◌∙◌, ap, cond, arith, ◌↔◌, ◌≤◌}
use Rattle.std.specs.Option.{option_map, is_some}
use Rattle.std.specs.Bool.{Decides}
use Rattle.std.proofs.lemmas.Slice.Eq.{bytes_eq-Decides}
use Rattle.std.proofs.lemmas.List.{drop_more, drop_all}
use Rattle.std.proofs.lemmas.Bool.{false≢true}
use Rattle.std.specs.Str.{str_to_ascii_lowercase, str_eq_ignore_ascii_case}
use Rattle.desk_schema.specs.Schema.{place_where, place_ignoring_case, IsNoName}

-- a test that decides what does not hold is false
pub refuted : (P : Type 0) (b : Bool) → Decides b P → (P → ⊥) → b ≡ false
refuted P true d fails = absurd (fails (d.0 refl))
refuted P false d fails = refl

lifted : (o : Option ℕ) (i : ℕ) → option_map (λ p. p + i) (option_map (λ p. p + 1) o) ≡ option_map (λ p. p + (i + 1)) o
lifted None i = refl
lifted (Some p) i = let e : p + 1 + i ≡ p + (i + 1) = omega arith in ap Some e

lowest : (o : Option ℕ) → option_map (λ p. p + 0) o ≡ o
lowest None = refl
lowest (Some p) = let e : p + 0 ≡ p = omega arith in ap Some e

module _ {N : Type 0} (name_in : N → List ℕ) (test : List ℕ → Bool) where
  -- the place in all of them, where the first i are passed
  abbrev pub Passed : List N → ℕ → Option ℕ → Type 0
  Passed items i found = found ≡ option_map (λ place. place + i) (place_where test (map name_in (drop i items)))

  pub one_passed : (items : List N) (i : ℕ) (item : N) (found : Option ℕ) → i < length items → item ≡ get_or items i item
      → test (name_in item) ≡ false → Passed items i found → Passed items (i + 1) found
  one_passed items i item found here is fails passed =
      passed ∙ ap (λ rest. option_map (λ place. place + i) (place_where test (map name_in rest))) (drop_more items i item here)
      ∙ ap (λ x. option_map (λ place. place + i) (place_where test (name_in x ∷ map name_in (drop (i + 1) items)))) (sym is)
      ∙ ap (λ b. option_map (λ place. place + i) (cond b (Some 0) (option_map (λ p. p + 1) (place_where test (map name_in (drop (i + 1) items)))))) fails
      ∙ lifted _ i

  pub one_found : (items : List N) (i : ℕ) (item : N) (found : Option ℕ) → i < length items → item ≡ get_or items i item
      → test (name_in item) ≡ true → Passed items i found → found ≡ Some i
  one_found items i item found here is holds passed =
      passed ∙ ap (λ rest. option_map (λ place. place + i) (place_where test (map name_in rest))) (drop_more items i item here)
      ∙ ap (λ x. option_map (λ place. place + i) (place_where test (name_in x ∷ map name_in (drop (i + 1) items)))) (sym is)
      ∙ ap (λ b. option_map (λ place. place + i) (cond b (Some 0) (option_map (λ p. p + 1) (place_where test (map name_in (drop (i + 1) items)))))) holds
      ∙ (let e : 0 + i ≡ i = omega arith in ap Some e)

  pub all_passed : (items : List N) (i : ℕ) (found : Option ℕ) → length items ≤ i → Passed items i found → found ≡ None
  all_passed items i found end passed = passed ∙ ap (λ rest. option_map (λ place. place + i) (place_where test (map name_in rest))) (drop_all i items end)

is_some-lifted : (o : Option ℕ) → is_some (option_map (λ p. p + 1) o) ≡ is_some o
is_some-lifted None = refl
is_some-lifted (Some p) = refl

pub same_name : (a b : List ℕ) → Decides (str_eq_ignore_ascii_case a b) (str_to_ascii_lowercase a ≡ str_to_ascii_lowercase b)
same_name a b = bytes_eq-Decides (str_to_ascii_lowercase a) (str_to_ascii_lowercase b)

none_first : (b : Bool) (P : Type 0) → Decides b P → (o : Option ℕ) (Q : Type 0) → (is_some o ≡ false) ↔ Q
    → (is_some (cond b (Some 0) (option_map (λ p. p + 1) o)) ≡ false) ↔ ((P → ⊥) × Q)
none_first true P d o Q rest = (λ e. absurd (false≢true (sym e)), λ absent. absurd (absent.0 (d.0 refl)))
none_first false P d o Q rest = (λ e. (λ p. false≢true (d.1 p), rest.0 (sym (is_some-lifted o) ∙ e)), λ absent. is_some-lifted o ∙ rest.1 absent.1)

pub none_named : (names : List (List ℕ)) (name : List ℕ) → (is_some (place_ignoring_case names name) ≡ false) ↔ IsNoName names name
none_named [] name = (λ _. tt, λ _. refl)
none_named (first ∷ others) name = none_first _ _ (same_name first name) (place_ignoring_case others name) _ (none_named others name)

pub none_found : (names : List (List ℕ)) (name : List ℕ) (found : Option ℕ) → found ≡ place_ignoring_case names name → (is_some found ≡ false) ↔ IsNoName names name
none_found names name found is = (λ e. (none_named names name).0 (ap is_some (sym is) ∙ e), λ absent. ap is_some is ∙ (none_named names name).1 absent)
