-- What is found behind the first causes of an UPDATE.
use Rattle.std.proofs.Common.{◌≡◌, ℕ, Bool, ◌||◌, List, map, Option, refl, ap, ◌∙◌}
use Rattle.std.specs.List.{filter}
use Rattle.desk_values.specs.declared.value.Image.{Image}
use Rattle.desk_schema.specs.declared.schema.Column.{Column}
use Rattle.sql_tree.specs.Plain.{Term, Change}
use Rattle.server_words.specs.declared.causes.Causes.{Causes}
use Rattle.server_words.specs.declared.session.Session.{Session}
use Rattle.server_words.specs.Found.{Environment, matches, matching}
use Rattle.server_words.specs.Rows.{IsRising, lay, row_key}
use Rattle.server_words.specs.View.{View, is_held}
use Rattle.server_words.specs.Writes.{any_value, exceeds, leaves, repeats_key, updated, violates_not_null}
use Rattle.server_words.specs.Answer.{rows_after, update_causes}
use Rattle.statement_acts.specs.Inside.FirstCauses.{meets_hold, update_first}
use Rattle.found_rows.proofs.Adding.{any_filtered}
use Rattle.machine_stores.proofs.Numbers.{made_laid}
use Rattle.statement_acts.proofs.Refusing.{first_of}

module _ (env : Environment) (columns : List Column) (view : View) (changes : List (Change ℕ)) (condition : Option (Term ℕ)) (found : List Image) (found_is : found ≡ matching env condition view.rows) (first : Causes) (first_is : first ≡ update_first env view changes condition found) where
  pub first_is_first : first ≡ first_of (update_causes env columns view changes condition)
  first_is_first = rw (← found_is) first_is

  module _ (sessions : List Session) (locked_is : view.locked ≡ filter (is_held sessions) view.rows) (images : List Image) (images_are : images ≡ map (updated env changes) found) (locked duplicate : Bool)
      (held : locked ≡ meets_hold sessions env view changes found)
      (up : IsRising view.rows) (twice : duplicate ≡ repeats_key env.level (map row_key (lay view.rows images))) where
    -- the new images stand in the place of those that match
    laid_images : lay view.rows images ≡ rows_after env changes condition view.rows
    laid_images = ap (lay view.rows) (images_are ∙ ap (map (updated env changes)) found_is) ∙ made_laid (matches env condition) (updated env changes) (λ x. refl) (λ x. refl) 0 view.rows up

    pub update_rest : record first { locked = locked; duplicate = duplicate; null = first.null || any_value violates_not_null columns images; too_long = first.too_long || any_value exceeds columns images; out_of_range = first.out_of_range || any_value leaves columns images } ≡ update_causes env columns view changes condition
    update_rest = rw (first_is_first, held, twice ∙ ap (λ (l : List Image). repeats_key env.level (map row_key l)) laid_images, images_are, found_is, locked_is, any_filtered (is_held sessions) (matches env condition) view.rows) refl
