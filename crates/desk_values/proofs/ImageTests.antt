-- What the tests of images and draws tell.
use Rattle.std.proofs.Common.{◌≡◌, true, ltb, List, [], ◌∷◌, refl}
use Rattle.std.specs.Prelude.{◌↔◌}
use Rattle.std.specs.List.{AllByRecursion}
use Rattle.std.proofs.lemmas.Bool.{ltb-true, lt-ltb, and_parts, and_from}
use Rattle.desk_values.specs.declared.value.Value.{Value}
use Rattle.desk_values.specs.declared.value.Value.TheVariants.{Null, Int, Text, Row, Draw}
use Rattle.desk_values.specs.declared.value.Image.{Image}
use Rattle.desk_values.specs.Good.{IsValue, IsValues, IsGoodDraw, Ascend}
use Rattle.desk_values.specs.Good.{ascend_above, rows_ascend, is_draw, all_draws}

ascend_above_is : (first : Image) (others : List Image) → (ascend_above first.row others ≡ true) ↔ Ascend (first ∷ others)
ascend_above_is first [] = (λ e. tt, λ h. refl)
ascend_above_is first (second ∷ others) = (
  λ e. (ltb-true first.row second.row (and_parts _ _ e).0, (ascend_above_is second others).0 (and_parts (ltb first.row second.row) _ e).1),
  λ h. and_from _ _ (lt-ltb first.row second.row h.0) ((ascend_above_is second others).1 h.1),
)

pub rows_ascend_is : (images : List Image) → (rows_ascend images ≡ true) ↔ Ascend images
rows_ascend_is [] = (λ e. tt, λ h. refl)
rows_ascend_is (first ∷ others) = ascend_above_is first others

is_draw_is : (value : Value) → IsValue value → (is_draw value ≡ true) ↔ IsGoodDraw value
is_draw_is Null fits = (λ e. absurd cc, λ h. absurd h)
is_draw_is (Int n) fits = (λ e. absurd cc, λ h. absurd h)
is_draw_is (Text text) fits = (λ e. absurd cc, λ h. absurd h)
is_draw_is (Row n) fits = (λ e. absurd cc, λ h. absurd h)
is_draw_is (Draw sequence n) fits = (λ e. fits, λ h. refl)

pub all_draws_is : (values : List Value) → IsValues values → (all_draws values ≡ true) ↔ AllByRecursion IsGoodDraw values
all_draws_is [] fits = (λ e. tt, λ h. refl)
all_draws_is (first ∷ others) fits = (
  λ e. ((is_draw_is first fits.0).0 (and_parts (is_draw first) _ e).0, (all_draws_is others fits.1).0 (and_parts (is_draw first) _ e).1),
  λ h. and_from _ _ ((is_draw_is first fits.0).1 h.0) ((all_draws_is others fits.1).1 h.1),
)
