-- What is given by the ids of the start's rows and by what is given out next.
use Rattle.std.proofs.Common.{◌≡◌, ◌∙◌, ℕ, Bool, true, false, ◌||◌, List, [], ◌∷◌, ◌++◌, refl, sym, ap, subst}
use Rattle.std.specs.Prelude.{not, Some, slice_get}
use Rattle.std.specs.List.{flat_map, list_any}
use Rattle.std.proofs.Math.Bool.{or-true}
use Rattle.std.proofs.lemmas.List.{append-nil}
use Rattle.std.proofs.lemmas.List.Folds.{list_any-append}
use Rattle.desk_values.specs.Comparison.{same_key}
use Rattle.desk_values.specs.Ids.{ids_of_image, is_id}
use Rattle.desk_values.specs.declared.value.Value.{Value}
use Rattle.desk_values.specs.declared.value.Value.TheVariants.{Null, Int, Text, Row, Draw}
use Rattle.desk_values.specs.declared.value.Image.{Image}
use Rattle.desk_schema.specs.Start.{StartView}
use Rattle.server_words.specs.State.{State, is_between, is_given, stands_in}
use Rattle.captured_calls.specs.Same.{same_value}
use Rattle.known_ids.specs.Knowing.{KnowsCalls, knows}
use Rattle.known_ids.specs.declared.known.KnownIds.{KnownIds}
use Rattle.capture_recorder.specs.Inside.Given.{is_later}

-- ---- ids among rows

any_flat : (p : Value → Bool) (rows : List Image) → list_any p (flat_map ids_of_image rows) ≡ list_any (λ (image : Image). list_any p (ids_of_image image)) rows
any_flat p [] = refl
any_flat p (row ∷ rows) = list_any-append p (ids_of_image row) (flat_map ids_of_image rows) ∙ ap (λ (b : Bool). list_any p (ids_of_image row) || b) (any_flat p rows)

row_key : (n : ℕ) (other : Value) → same_value (Row n) other ≡ same_key 1 (Row n) other
row_key n Null = refl
row_key n (Int m) = refl
row_key n (Text m) = refl
row_key n (Row m) = refl
row_key n (Draw q m) = refl

draw_key : (q n : ℕ) (other : Value) → same_value (Draw q n) other ≡ same_key 1 (Draw q n) other
draw_key q n Null = refl
draw_key q n (Int m) = refl
draw_key q n (Text m) = refl
draw_key q n (Row m) = refl
draw_key q n (Draw p m) = refl

stand_there : (id : Value) → ((other : Value) → same_value id other ≡ same_key 1 id other) → (rows : List Image) → list_any (same_value id) (flat_map ids_of_image rows ++ []) ≡ stands_in rows id
stand_there id each rows = ap (list_any (same_value id)) (append-nil (flat_map ids_of_image rows)) ∙ ap (λ (p : Value → Bool). list_any p (flat_map ids_of_image rows)) (λ i other. each other i) ∙ any_flat (same_key 1 id) rows

-- ---- given

module _ (state : State) (known : KnownIds) (is : KnowsCalls known state.start.rows []) where
  pub given_here : (value : Value) → (not (is_id value) || (knows known 0 value || is_later state.start state.next_row state.next_values value)) ≡ is_given state value
  given_here (Row n) = ap (λ (b : Bool). b || is_between (Some state.start.next_row) (Some state.next_row) n) (is 0 (Row n) refl ∙ stand_there (Row n) (row_key n) state.start.rows)
  given_here (Draw q n) = ap (λ (b : Bool). b || is_between (slice_get state.start.next_values q) (slice_get state.next_values q) n) (is 0 (Draw q n) refl ∙ stand_there (Draw q n) (draw_key q n) state.start.rows)
  given_here Null = refl
  given_here (Int n) = refl
  given_here (Text n) = refl

-- as the tests go, one after the other
module _ (state : State) (start : StartView) (same : state.start ≡ start) (known : KnownIds) (ids : KnowsCalls known start.rows []) (row : ℕ) (values : List ℕ) (row_is : row ≡ state.next_row) (values_are : values ≡ state.next_values) (value : Value) where
  abbrev later : Bool
  later = is_later start row values value

  abbrev strange : Bool
  strange = not (is_id value)

  tests : (strange || (knows known 0 value || later)) ≡ is_given state value
  tests =
      ap (λ (s : StartView). strange || (knows known 0 value || is_later s row values value)) (sym same)
      ∙ ap (λ (n : ℕ). strange || (knows known 0 value || is_later state.start n values value)) row_is
      ∙ ap (λ (ns : List ℕ). strange || (knows known 0 value || is_later state.start state.next_row ns value)) values_are
      ∙ given_here state known (subst (λ (s : StartView). KnowsCalls known s.rows []) (sym same) ids) value

  pub no_id_given : is_id value ≡ false → true ≡ is_given state value
  no_id_given is = sym (ap (λ (b : Bool). not b || (knows known 0 value || later)) is) ∙ tests

  pub known_given : knows known 0 value ≡ true → true ≡ is_given state value
  known_given is = sym (ap (λ (b : Bool). strange || (b || later)) is ∙ or-true strange) ∙ tests

  pub else_given : is_id value ≡ true → knows known 0 value ≡ false → later ≡ is_given state value
  else_given is unknown = sym (ap (λ (b : Bool). not b || (knows known 0 value || later)) is ∙ ap (λ (b : Bool). b || later) unknown) ∙ tests
