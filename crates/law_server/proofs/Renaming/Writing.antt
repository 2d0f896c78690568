-- UPDATE and DELETE at renamed rows, and what new images are tested for.
use Rattle.std.proofs.Common.{◌≡◌, ℕ, zero, suc, ◌+◌, Bool, true, false, ◌||◌, ◌&&◌, not, List, [], ◌∷◌, length, map, if◌then◌else◌, slice_set, Option, refl, ap}
use Rattle.std.specs.Prelude.{◌==◌, nat_eq}
use Rattle.desk_values.specs.declared.value.Value.{Value}
use Rattle.desk_values.specs.declared.value.Value.TheVariants.{Null}
use Rattle.desk_values.specs.declared.value.Image.{Image}
use Rattle.desk_schema.specs.declared.schema.Column.{Column}
use Rattle.desk_schema.specs.declared.schema.Kind.{Kind}
use Rattle.desk_schema.specs.declared.schema.Kind.TheVariants as kind
use Rattle.sql_tree.specs.Plain.{Term, Change}
use Rattle.sql_eval.specs.Faults.{joined}
use Rattle.sql_eval.specs.Totals.{values_in}
use Rattle.server_words.specs.Rows.{row_key}
use Rattle.server_words.specs.Found.{Environment, matches, matching}
use Rattle.server_words.specs.Causes.{no_cause}
use Rattle.server_words.specs.View.{View}
use Rattle.server_words.specs.Writes.{any_column, any_value, assigned, changed_rows, exceeds, exceeds_length, is_among, is_empty_text, leaves, leaves_range, moves_key, sources, stored, targets, updated, violates_not_null}
use Rattle.server_words.specs.Answer.{delete_causes, is_over, meets_lock, rows_after, update_causes, with_faults}
use Rattle.id_pairs.specs.declared.Id.TheVariants.{Row}
use Rattle.id_pairs.specs.Pairs.{HasNoIdTwice, IdPair}
use Rattle.id_pairs.specs.Renaming.{AreRenamed, IsRenamed}
use Rattle.law_server.specs.Rows.Bags.{AreBags}
use Rattle.law_server.specs.Rows.Images.{IsRenamedImage}
use Rattle.law_server.proofs.Rows.Members.{same_ids}
use Rattle.law_server.proofs.Rows.Bags.{bags_any, bags_filter, bags_length, bags_map}
use Rattle.law_server.proofs.Rows.Expressions.{Twin, text, int, image_values, null_twins, twin_of}
use Rattle.law_server.proofs.Renaming.Matched.{AreMatched}
use Rattle.law_server.proofs.Renaming.Keys.{key_of_image, same_keys, same_lock, same_repeats}
use Rattle.law_server.proofs.Renaming.Found.{found_bags, renamed_items, same_match, same_row_faults, same_where}
use Rattle.law_server.proofs.Renaming.Selecting.{same_locked}

-- ---- tests of new values

module _ (pairs : List IdPair) where
  pub same_null : (column : Column) (v w : Value) → IsRenamed pairs v w → violates_not_null column v ≡ violates_not_null column w
  same_null column v w t = ap (λ b. column.not_null && b) (null_twins (twin_of pairs v w t))

  twin_length : (k : Kind) {v w : Value} → Twin pairs v w → exceeds_length k v ≡ exceeds_length k w
  twin_length (kind.Text most) (text t) = refl
  twin_length k t = refl

  twin_range : (k : Kind) {v w : Value} → Twin pairs v w → leaves_range k v ≡ leaves_range k w
  twin_range (kind.Int low high) (int n) = refl
  twin_range k t = refl

  pub same_length : (column : Column) (v w : Value) → IsRenamed pairs v w → exceeds column v ≡ exceeds column w
  same_length column v w t = twin_length column.kind (twin_of pairs v w t)

  pub same_range : (column : Column) (v w : Value) → IsRenamed pairs v w → leaves column v ≡ leaves column w
  same_range column v w t = twin_range column.kind (twin_of pairs v w t)

  module _ (fails : Column → Value → Bool) (same : (column : Column) (v w : Value) → IsRenamed pairs v w → fails column v ≡ fails column w) where
    pub same_column : (cs : List Column) (values others : List Value) → AreRenamed pairs values others → any_column fails cs values ≡ any_column fails cs others
    same_column [] values others t = refl
    same_column (c ∷ cs) [] [] t = refl
    same_column (c ∷ cs) (v ∷ vs) (w ∷ ws) t = λ i. same c v w t.0 i || same_column cs vs ws t.1 i
    same_column (c ∷ cs) [] (w ∷ ws) t = absurd t
    same_column (c ∷ cs) (v ∷ vs) [] t = absurd t

    same_any_value : (cs : List Column) {images others : List Image} → AreBags (IsRenamedImage pairs) images others → any_value fails cs images ≡ any_value fails cs others
    same_any_value cs bags = bags_any (IsRenamedImage pairs) (λ image. any_column fails cs (values_in image)) (λ image. any_column fails cs (values_in image)) (λ x y t. same_column cs (values_in x) (values_in y) (image_values pairs x y t)) bags

  twin_empty : {v w : Value} → Twin pairs v w → is_empty_text v ≡ is_empty_text w
  twin_empty (text t) = refl
  twin_empty t = refl

  -- what a row keeps of two values
  pub stored_renamed : (level : ℕ) (v w : Value) → IsRenamed pairs v w → IsRenamed pairs (stored level v) (stored level w)
  stored_renamed level v w t = kept (is_empty_text v && level == 2) (is_empty_text w && level == 2) (ap (λ b. b && level == 2) (twin_empty (twin_of pairs v w t)))
    where
      kept : (b c : Bool) → b ≡ c → IsRenamed pairs (if b then Null else v) (if c then Null else w)
      kept true true e = tt
      kept false false e = t
      kept true false e = absurd (cc)
      kept false true e = absurd (cc)

  pub all_stored : (level : ℕ) (values others : List Value) → AreRenamed pairs values others → AreRenamed pairs (map (stored level) values) (map (stored level) others)
  all_stored level [] [] t = tt
  all_stored level (v ∷ vs) (w ∷ ws) t = (stored_renamed level v w t.0, all_stored level vs ws t.1)
  all_stored level [] (w ∷ ws) t = absurd t
  all_stored level (v ∷ vs) [] t = absurd t

  -- ---- new images

  set_renamed : (values others : List Value) (n : ℕ) (v w : Value) → AreRenamed pairs values others → IsRenamed pairs v w → AreRenamed pairs (slice_set values n v) (slice_set others n w)
  set_renamed [] [] n v w t s = tt
  set_renamed (a ∷ as_) (b ∷ bs) zero v w t s = (s, t.1)
  set_renamed (a ∷ as_) (b ∷ bs) (suc n) v w t s = (t.0, set_renamed as_ bs n v w t.1 s)
  set_renamed [] (b ∷ bs) n v w t s = absurd t
  set_renamed (a ∷ as_) [] n v w t s = absurd t

  assigned_renamed : (columns : List ℕ) (olds others news more : List Value) → AreRenamed pairs olds others → AreRenamed pairs news more → AreRenamed pairs (assigned olds columns news) (assigned others columns more)
  assigned_renamed [] olds others news more t s = t
  assigned_renamed (c ∷ cs) olds others [] [] t s = t
  assigned_renamed (c ∷ cs) olds others (v ∷ vs) (w ∷ ws) t s = assigned_renamed cs (slice_set olds c v) (slice_set others c w) vs ws (set_renamed olds others c v w t s.0) s.1
  assigned_renamed (c ∷ cs) olds others [] (w ∷ ws) t s = absurd s
  assigned_renamed (c ∷ cs) olds others (v ∷ vs) [] t s = absurd s

  -- ---- the number of changed rows

  module _ (once : HasNoIdTwice pairs) where
    same_among : {changes others : List Image} → AreBags (IsRenamedImage pairs) changes others → (image other : Image) → IsRenamedImage pairs image other → is_among changes image ≡ is_among others other
    same_among bags image other t = bags_any (IsRenamedImage pairs) (λ (x : Image). nat_eq x.row image.row) (λ (y : Image). nat_eq y.row other.row) (λ x y s. same_ids pairs once (Row x.row) (Row image.row) (Row y.row) (Row other.row) s.row t.row) bags

    same_changed : {changes others found more : List Image} → AreBags (IsRenamedImage pairs) changes others → AreBags (IsRenamedImage pairs) found more → changed_rows changes found ≡ changed_rows others more
    same_changed {changes} {others} {found} {more} bags taken =
        let m = bags_length (IsRenamedImage pairs) bags in
        let n = bags_length (IsRenamedImage pairs) (bags_filter (IsRenamedImage pairs) (λ image. not (is_among changes image)) (λ image. not (is_among others image)) (λ x y t. ap not (same_among bags x y t)) taken) in
        λ i. m i + n i

-- ---- the statements

module _ (pairs : List IdPair) (once : HasNoIdTwice pairs) (level : ℕ) where
  module _ (binds sent : List Value) (given : AreRenamed pairs binds sent) where
    abbrev one : Environment
    one = record { level = level; binds = binds }

    abbrev two : Environment
    two = record { level = level; binds = sent }

    pub updated_renamed : (changes : List (Change ℕ)) (image other : Image) → IsRenamedImage pairs image other → IsRenamedImage pairs (updated one changes image) (updated two changes other)
    updated_renamed changes image other t = record { row = t.row; table = t.table; left = assigned_renamed pairs (targets changes) (values_in image) (values_in other) _ _ (image_values pairs image other t) (all_stored pairs level _ _ (renamed_items pairs once level binds sent given (sources changes) image other t)) }

    same_moves : (changes : List (Change ℕ)) (image other : Image) → IsRenamedImage pairs image other → moves_key one changes image ≡ moves_key two changes other
    same_moves changes image other t = ap not (same_keys pairs once level (row_key image) (row_key (updated one changes image)) (row_key other) (row_key (updated two changes other)) (key_of_image pairs image other t) (key_of_image pairs _ _ (updated_renamed changes image other t)))

    renamed_either : (changes : List (Change ℕ)) (image other : Image) → IsRenamedImage pairs image other → (b c : Bool) → b ≡ c → IsRenamedImage pairs (if b then updated one changes image else image) (if c then updated two changes other else other)
    renamed_either changes image other t true true e = updated_renamed changes image other t
    renamed_either changes image other t false false e = t
    renamed_either changes image other t true false e = absurd (cc)
    renamed_either changes image other t false true e = absurd (cc)

    module _ (view other : View) (twins : AreMatched pairs view other) (condition : Option (Term ℕ)) where
      found : AreBags (IsRenamedImage pairs) (matching one condition view.rows) (matching two condition other.rows)
      found = found_bags pairs once level binds sent given condition twins.rows

      pub same_count : length (matching one condition view.rows) ≡ length (matching two condition other.rows)
      same_count = bags_length (IsRenamedImage pairs) found

      same_many : changed_rows view.own.changes (matching one condition view.rows) ≡ changed_rows other.own.changes (matching two condition other.rows)
      same_many = same_changed pairs once twins.changes found

      pub same_delete : delete_causes one view condition ≡ delete_causes two other condition
      same_delete =
          let w = same_where pairs once level binds sent given condition twins.rows in
          let l = same_locked pairs once level binds sent given view other twins condition in
          λ i. with_faults (w i) (record no_cause { too_many = is_over (same_count i) || is_over (same_many i); locked = l i })

      module _ (changes : List (Change ℕ)) where
        after : AreBags (IsRenamedImage pairs) (rows_after one changes condition view.rows) (rows_after two changes condition other.rows)
        after = bags_map (IsRenamedImage pairs) (IsRenamedImage pairs) (λ image. if matches one condition image then updated one changes image else image) (λ image. if matches two condition image then updated two changes image else image) (λ x y t. renamed_either changes x y t _ _ (same_match pairs once level binds sent given condition x y t)) twins.rows

        same_meets : (image image2 : Image) → IsRenamedImage pairs image image2 → meets_lock one view changes image ≡ meets_lock two other changes image2
        same_meets image image2 t =
            let m = same_moves changes image image2 t in
            let l = same_lock pairs once level view.locked_keys other.locked_keys twins.locked_keys (row_key (updated one changes image)) (row_key (updated two changes image2)) (key_of_image pairs _ _ (updated_renamed changes image image2 t)) in
            λ i. m i && l i

        pub same_update : (cs : List Column) → update_causes one cs view changes condition ≡ update_causes two cs other changes condition
        same_update cs =
            let w = same_where pairs once level binds sent given condition twins.rows in
            let f = same_row_faults pairs once level binds sent given (sources changes) found in
            let l = same_locked pairs once level binds sent given view other twins condition in
            let k = bags_any (IsRenamedImage pairs) (meets_lock one view changes) (meets_lock two other changes) same_meets found in
            let new = bags_map (IsRenamedImage pairs) (IsRenamedImage pairs) (updated one changes) (updated two changes) (updated_renamed changes) found in
            let n = same_any_value pairs violates_not_null (same_null pairs) cs new in
            let e = same_any_value pairs exceeds (same_length pairs) cs new in
            let r = same_any_value pairs leaves (same_range pairs) cs new in
            let d = same_repeats pairs once level (bags_map (IsRenamedImage pairs) (IsRenamed pairs) row_key row_key (key_of_image pairs) after) in
            λ i. record (with_faults (joined (w i) (f i)) (record no_cause { too_many = is_over (same_count i) || is_over (same_many i); locked = l i || k i })) { null = n i; too_long = e i; out_of_range = r i; duplicate = d i }
