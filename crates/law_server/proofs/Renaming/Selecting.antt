-- SELECT at renamed rows.
use Rattle.std.proofs.Common.{◌≡◌, ℕ, Bool, true, false, ◌||◌, ◌&&◌, not, List, [], ◌∷◌, length, if◌then◌else◌, Option, None, Some, Result, Ok, refl, subst}
use Rattle.std.specs.Prelude.{ℤ, pos, ◌+ℤ◌}
use Rattle.std.specs.List.{filter_map, list_any, reduce}
use Rattle.std.specs.Ordering.{is_lt}
use Rattle.desk_values.specs.declared.value.Value.{Value}
use Rattle.desk_values.specs.declared.value.Value.TheVariants.{Null}
use Rattle.desk_values.specs.declared.value.Image.{Image}
use Rattle.desk_values.specs.declared.fault.Fault.{Fault}
use Rattle.sql_tree.specs.declared.tree.Key.{Key}
use Rattle.sql_tree.specs.Plain.{Term, Asked, columns, values, totals, Total}
use Rattle.sql_tree.specs.Plain as total
use Rattle.sql_eval.specs.Faults.{any_fault, joined, unless_told}
use Rattle.sql_eval.specs.Moved.{Moved, none, more, swapped, along}
use Rattle.sql_eval.specs.Totals.{extreme_of, first_value, members, number_in, part_in, sum_of, sum_value, total_over, values_in}
use Rattle.server_words.specs.Found.{Environment, insert_ordered, matches, matching, ordered, row_order, values_for}
use Rattle.server_words.specs.Causes.{no_cause}
use Rattle.server_words.specs.View.{View}
use Rattle.server_words.specs.Answer.{are_totals, asked_faults, is_over, select_causes, select_rows, totals_in, with_faults}
use Rattle.id_pairs.specs.Pairs.{HasNoIdTwice, IdPair}
use Rattle.id_pairs.specs.Renaming.{AreRenamed}
use Rattle.law_server.specs.Rows.Bags.{AreBags}
use Rattle.law_server.specs.Rows.Images.{IsRenamedImage}
use Rattle.law_server.proofs.Rows.Bags.{bags_length, bags_map, bags_turned, moved_same}
use Rattle.law_server.proofs.Rows.Expressions.{number_twins, Twin, null, int, text, TwinPart, part, part_fault, image_values, renamed_of}
use Rattle.law_server.proofs.Rows.Totals.{same_total}
use Rattle.law_server.proofs.Renaming.Matched.{AreMatched}
use Rattle.law_server.proofs.Renaming.Sets.{sets_any}
use Rattle.law_server.proofs.Renaming.Found.{found_bags, renamed_items, same_match, same_row_faults, same_where, sound_twin}

-- ---- an order only moves rows

insert_moved : (level : ℕ) (keys : List (Key ℕ)) (image : Image) (rows : List Image) → Moved (insert_ordered level keys image rows) (image ∷ rows)
insert_moved level keys image [] = moved_same (image ∷ [])
insert_moved level keys image (first ∷ rest) = elim (is_lt (row_order level keys first image)) as (λ b. Moved (if b then first ∷ insert_ordered level keys image rest else image ∷ first ∷ rest) (image ∷ first ∷ rest)) [
  | true ↦ along _ _ _ (more first _ _ (insert_moved level keys image rest)) (swapped first image rest)
  | false ↦ moved_same (image ∷ first ∷ rest)
]

pub ordered_moved : (level : ℕ) (keys : List (Key ℕ)) (rows : List Image) → Moved (ordered level keys rows) rows
unfolding ordered
ordered_moved level keys [] = none
ordered_moved level keys (image ∷ rest) = along _ _ _ (insert_moved level keys image (ordered level keys rest)) (more image _ _ (ordered_moved level keys rest))

-- ---- totals are no ids

module _ (pairs : List IdPair) where
  plain_unless : (o : Option Fault) (r : Result Value Fault) → TwinPart pairs r r → TwinPart pairs (unless_told o r) (unless_told o r)
  plain_unless None r t = t
  plain_unless (Some f) r t = part_fault f

  plain_sum_value : (o : Option ℤ) → TwinPart pairs (sum_value o) (sum_value o)
  plain_sum_value None = part Null Null null
  plain_sum_value (Some n) = number_twins pairs n

  plain_sum : (vs : List Value) → TwinPart pairs (sum_of vs) (sum_of vs)
  unfolding sum_of
  plain_sum vs = plain_sum_value (reduce ◌+ℤ◌ (filter_map number_in vs))

  plain_first : (n : Option ℤ) (t : Option (List ℕ)) → Twin pairs (first_value n t) (first_value n t)
  plain_first (Some n) None = int n
  plain_first None (Some t) = text t
  plain_first None None = null
  plain_first (Some n) (Some t) = null

  plain_extreme : (level : ℕ) (extreme : _) (vs : List Value) → TwinPart pairs (Ok (extreme_of level extreme vs)) (Ok (extreme_of level extreme vs))
  unfolding extreme_of
  plain_extreme level extreme vs = part _ _ (plain_first _ _)

  plain_total : (level : ℕ) (binds : List Value) (t : Total ℕ) (rows : List Image) → TwinPart pairs (total_over level binds t rows) (total_over level binds t rows)
  plain_total level binds total.count rows = part _ _ (int (pos (length rows)))
  plain_total level binds (total.total e) rows = plain_unless _ _ (plain_sum (members (part_in level binds e) rows))
  plain_total level binds (total.least e) rows = plain_unless _ _ (plain_extreme level _ (members (part_in level binds e) rows))
  plain_total level binds (total.greatest e) rows = plain_unless _ _ (plain_extreme level _ (members (part_in level binds e) rows))

-- ---- the statement

module _ (pairs : List IdPair) (once : HasNoIdTwice pairs) (level : ℕ) (binds sent : List Value) (given : AreRenamed pairs binds sent) where
  abbrev one : Environment
  one = record { level = level; binds = binds }

  abbrev two : Environment
  two = record { level = level; binds = sent }

  module _ (found others : List Image) (bags : AreBags (IsRenamedImage pairs) found others) where
    same_totals : (ts : List (Total ℕ)) → AreRenamed pairs (totals_in one found ts) (totals_in two others ts)
    same_totals [] = tt
    same_totals (t ∷ ts) =
        let P : Result Value Fault → Type 0 = λ r. TwinPart pairs (total_over level binds t found) r in
        (renamed_of (sound_twin (subst P (same_total pairs level binds sent given t found others bags) (plain_total pairs level binds t found))), same_totals ts)

    same_asked : (asked : Asked ℕ) → asked_faults one asked found ≡ asked_faults two asked others
    same_asked columns = refl
    same_asked (values es) = same_row_faults pairs once level binds sent given es bags
    same_asked (totals ts) = λ i. any_fault (λ t. same_total pairs level binds sent given t found others bags i) ts

    pub renamed_rows : (asked : Asked ℕ) (keys : List (Key ℕ)) → AreBags (AreRenamed pairs) (select_rows one asked keys found) (select_rows two asked keys others)
    renamed_rows columns keys = bags_map (IsRenamedImage pairs) (AreRenamed pairs) values_in values_in (image_values pairs) (bags_turned (IsRenamedImage pairs) (ordered_moved level keys found) (ordered_moved level keys others) bags)
    renamed_rows (values es) keys = bags_map (IsRenamedImage pairs) (AreRenamed pairs) (values_for one es) (values_for two es) (renamed_items pairs once level binds sent given es) (bags_turned (IsRenamedImage pairs) (ordered_moved level keys found) (ordered_moved level keys others) bags)
    renamed_rows (totals ts) keys = record { turned = totals_in two others ts ∷ []; related = (same_totals ts, tt); moved = moved_same (totals_in two others ts ∷ []) }

  module _ (view other : View) (twins : AreMatched pairs view other) where
    pub same_locked : (condition : Option (Term ℕ)) → list_any (matches one condition) view.locked ≡ list_any (matches two condition) other.locked
    same_locked condition = sets_any (IsRenamedImage pairs) (matches one condition) (matches two condition) (same_match pairs once level binds sent given condition) view.locked other.locked twins.locked

    pub same_select : (asked : Asked ℕ) (condition : Option (Term ℕ)) (for_update : Bool) → select_causes one view asked condition for_update ≡ select_causes two other asked condition for_update
    same_select asked condition for_update =
        let bags = found_bags pairs once level binds sent given condition twins.rows in
        let w = same_where pairs once level binds sent given condition twins.rows in
        let a = same_asked (matching one condition view.rows) (matching two condition other.rows) bags asked in
        let n = bags_length (IsRenamedImage pairs) bags in
        let m = bags_length (IsRenamedImage pairs) twins.changes in
        let l = same_locked condition in
        λ i. with_faults (joined (w i) (a i)) (record no_cause { too_many = (not (are_totals asked) && is_over (n i)) || is_over (m i); locked = for_update && l i })
