-- A transaction goes on where an UPDATE writes.
use Rattle.std.proofs.Common.{◌≡◌, ◌∙◌, ◌⊎◌, ℕ, Bool, true, false, not, List, [], ◌∷◌, map, refl, sym, ap, subst, inl, inr, arith, if◌then◌else◌}
use Rattle.std.specs.Prelude.{Option}
use Rattle.std.specs.List.{list_any}
use Rattle.std.proofs.lemmas.Bool.{and_from, cases_eq, false≢true}
use Rattle.desk_values.specs.declared.value.Value.{Value}
use Rattle.desk_values.specs.declared.value.Image.{Image}
use Rattle.desk_values.specs.Comparison.{same_key}
use Rattle.sql_tree.specs.Plain.{Term, Change}
use Rattle.server_words.specs.declared.session.HeldKey.{HeldKey}
use Rattle.server_words.specs.declared.session.Transaction.{Transaction}
use Rattle.server_words.specs.Answer.{meets_lock, rows_after}
use Rattle.server_words.specs.Found.{Environment, matches, matching}
use Rattle.server_words.specs.Rows.{lay, lay_all, noted, row_key, row_numbers}
use Rattle.server_words.specs.View.{View}
use Rattle.server_words.specs.Writes.{holding, is_locked_key, keys_moved, moved_keys, moves_key, repeats_key, updated, with_keys}
use Rattle.server_words.proofs.Laying.{rising_lay_all}
use Rattle.law_keys.proofs.Members.{In, filtered_in, in_filtered, flat_in, in_flat, in_mapped, mapped_in, none_in}
use Rattle.law_keys.proofs.Rows.{HasRow, in_laid, noted_all}
use Rattle.law_keys.proofs.Same.{Same, HasKey, back, key_in, not_twice, on}
use Rattle.law_keys.proofs.Holding.{key_here, keys_stay, keys_there}
use Rattle.law_keys.proofs.Keeping.{HasCommittedKey, IsKeptBySteps, IsKnown}
use Rattle.law_keys.proofs.Writing.{Sees, Writes, found_free, found_held, found_stood, image_numbers, image_row, key_of, old_key_free, old_key_kept, seen_after, unchanged_seen}

not_not : (b : Bool) → not b ≡ false → b ≡ true
not_not true is = refl
not_not false is = absurd (false≢true (sym is))

module _ (env : Environment) (start : List Image) (commits : List (List Image)) (next_row : ℕ) (own : ℕ → Transaction) (is : IsKeptBySteps env.level start commits next_row own) (s table : ℕ) (view : View) (sees : Sees env.level start commits own s table view) (changes : List (Change ℕ)) (condition : Option (Term ℕ)) where
  abbrev found : List Image
  found = matching env condition view.rows

  abbrev change : Image → Image
  change image = updated env changes image

  abbrev images : List Image
  images = map change found

  abbrev rows_left : List Image
  rows_left = rows_after env changes condition view.rows

  abbrev latest : List Image
  latest = lay_all start commits

  module _ (free : (x : Image) (t : ℕ) → (t ≡ s → ⊥) → In x found → In x.row (own t).rows → ⊥)
      (unlocked : list_any (meets_lock env view changes) found ≡ false)
      (once : repeats_key env.level (map row_key rows_left) ≡ false) where
    among : (x : Image) → In x found → In x view.rows
    among x there = (in_filtered (matches env condition) x view.rows there).0

    -- ---- the rows afterwards

    after_changed : (z : Image) → In z found → In (change z) rows_left
    after_changed z there =
        let row = in_filtered (matches env condition) z view.rows there in
        subst (λ (b : Bool). In (if b then updated env changes z else z) rows_left) row.1 (mapped_in (λ (image : Image). if matches env condition image then updated env changes image else image) z view.rows row.0)

    after_same : (x : Image) → In x view.rows → matches env condition x ≡ false → In x rows_left
    after_same x there fails = subst (λ (b : Bool). In (if b then updated env changes x else x) rows_left) fails (mapped_in (λ (image : Image). if matches env condition image then updated env changes image else image) x view.rows there)

    changed_row : (z : Image) → In z found → HasRow z.row images
    changed_row z there = image_row env.level start commits next_row own is s table view sees found among free change (λ i. refl) z there

    -- what is seen and not changed
    after_seen : (x : Image) → In x (lay latest (own s).changes) → x.table ≡ table → (HasRow x.row images → ⊥) → In x rows_left
    after_seen x there of none =
        let row = sees.in_rows x there of in
        after_same x row (elim (matches env condition x) as (λ b. matches env condition x ≡ b → b ≡ false) [
          | true ↦ λ passes. absurd (none (changed_row x (filtered_in (matches env condition) x view.rows row passes)))
          | false ↦ λ fails. refl
        ] refl)

    of_images : (x : Image) → In x images → (x.table ≡ table) × In x rows_left
    of_images x there =
        let from = in_mapped change x found there in
        (ap (λ (i : Image). i.table) from.2 ∙ (sees.rows_in from.0 (among from.0 from.1)).1, subst (λ (i : Image). In i rows_left) (sym from.2) (after_changed from.0 from.1))

    after_of : (x : Image) → x.table ≡ table → In x (lay latest (noted (own s).changes images)) → In x rows_left
    after_of x of there = elim (seen_after env.level start commits next_row own is s table images x there) [
      | inl new ↦ (of_images x new.0).1
      | inr old ↦ after_seen x old.0 of old.1
    ]

    before_of : (x : Image) → (x.table ≡ table → ⊥) → In x (lay latest (noted (own s).changes images)) → In x (lay latest (own s).changes)
    before_of x other there = elim (seen_after env.level start commits next_row own is s table images x there) [
      | inl new ↦ absurd (other (of_images x new.0).0)
      | inr old ↦ old.0
    ]

    -- ---- keys that are held afterwards

    -- the old key of a row, or the new one of a row that moves
    moved_in : (v : Value) → In v (moved_keys env changes found) → (z : Image) × In z found × ((v ≡ row_key z) ⊎ ((v ≡ row_key (change z)) × (moves_key env changes z ≡ true)))
    moved_in v there =
        let from = in_flat (keys_moved env changes) v found there in (
          from.0,
          from.1,
          elim (moves_key env changes from.0) as (λ b. moves_key env changes from.0 ≡ b → In v (if b then row_key from.0 ∷ row_key (updated env changes from.0) ∷ [] else []) → (v ≡ row_key from.0) ⊎ ((v ≡ row_key (updated env changes from.0)) × (moves_key env changes from.0 ≡ true))) [
            | true ↦ λ moves found. elim found [
              | inl old ↦ inl old
              | inr later ↦ (elim later [ inl new ↦ inr (new, moves) | inr never ↦ absurd never ])
            ]
            | false ↦ λ stays found. absurd found
          ] refl from.2,
        )

    in_moved : (z : Image) → In z found → moves_key env changes z ≡ true → In (row_key (change z)) (moved_keys env changes found)
    in_moved z there moves = flat_in (keys_moved env changes) (row_key (change z)) z found there (subst (λ (b : Bool). In (row_key (change z)) (if b then row_key z ∷ row_key (change z) ∷ [] else [])) (sym moves) (inr (inl refl)))

    -- no other session holds a key that a row moves to
    new_key_free : (t : ℕ) (z : Image) (l : HeldKey) → (t ≡ s → ⊥) → In z found → moves_key env changes z ≡ true → In l (own t).keys → Same env.level (key_here table (row_key (change z))) l → ⊥
    new_key_free t z l other there moves theirs same =
        let none = none_in (meets_lock env view changes) z found unlocked there in
        let locked = sees.locked_key t l (row_key (change z)) other theirs same in
        false≢true (sym none ∙ and_from (moves_key env changes z) (is_locked_key env.level view.locked_keys (row_key (change z))) moves locked)

    -- and no committed row has it that is not changed
    new_key_kept : (z y : Image) → In z found → In y latest → (HasRow y.row (noted (own s).changes images) → ⊥) → Same env.level (key_here table (row_key (change z))) (key_in y) → ⊥
    new_key_kept z y there stood none same =
        let unchanged : HasRow y.row images → ⊥ = λ has. none (noted_all y.row (own s).changes images has) in
        let seen = after_seen y (unchanged_seen env.level start commits next_row own is s table images y stood none) (sym same.0) unchanged in
        let one = not_twice env.level rows_left once (change z) y (after_changed z there) seen same.1 in
        unchanged (subst (λ (r : ℕ). HasRow r images) one (changed_row z there))

    stays_known : (z : Image) → In z found → same_key env.level (row_key z) (row_key (change z)) ≡ true → HasKey env.level (own s).keys (key_in (change z)) ⊎ HasCommittedKey env.level latest (change z)
    stays_known z there stays =
        let same : Same env.level (key_in z) (key_in (change z)) = (refl, stays) in
        elim (in_laid z latest (own s).changes (rising_lay_all start commits is.first) (sees.rows_in z (among z there)).0) [
          | inl changed ↦ (elim (is.known s z changed.0 changed.1 (on env.level (key_in z) (key_in (change z)) (key_in z) same (back env.level (key_in z) (key_in (change z)) same))) [
            | inl held ↦ inl (held.0, held.1, on env.level held.0 (key_in z) (key_in (change z)) held.2 same)
            | inr old ↦ inr (old.0, old.1, old.2, on env.level (key_in old.0) (key_in z) (key_in (change z)) old.3 same)
          ])
          | inr old ↦ inr (z, old.0, refl, same)
        ]

    changed_known : (z : Image) → In z found → IsKnown env.level latest (holding table (own s) (record { images = images; rows = row_numbers found; keys = moved_keys env changes found })).keys (change z)
    changed_known z there stands key = elim (moves_key env changes z) as (λ b. moves_key env changes z ≡ b → HasKey env.level (with_keys table (own s).keys (moved_keys env changes found)) (key_in (change z)) ⊎ HasCommittedKey env.level latest (change z)) [
      | true ↦ λ moves. inl (key_here table (row_key (change z)), keys_there table (own s).keys (moved_keys env changes found) (row_key (change z)) (in_moved z there moves), (sym (sees.rows_in z (among z there)).1, key.1))
      | false ↦ λ stays. elim (stays_known z there (not_not (same_key env.level (row_key z) (row_key (change z))) stays)) [
        | inl held ↦ inl (held.0, keys_stay table (own s).keys (moved_keys env changes found) held.0 held.1, held.2)
        | inr old ↦ inr old
      ]
    ] refl

    pub updates : Writes env.level start commits next_row own is s table (record { images = images; rows = row_numbers found; keys = moved_keys env changes found }) next_row
    updates =
        record {
          most = omega arith;
          images = image_numbers env.level start commits next_row own is s table view sees found among free change (λ z. refl);
          stood = λ x there. inl (found_stood env.level start commits next_row own is s table view sees found among free change (λ z. refl) (λ z. refl) x there);
          held = found_held env.level start commits next_row own is s table view sees found among free;
          rows = found_free env.level start commits next_row own is s table view sees found among free;
          keys = λ t v l other there theirs same.
              let from = moved_in v there in
              elim from.2 [
                | inl old ↦ old_key_free env.level start commits next_row own is s table view sees found among free t from.0 l other from.1 theirs (key_of env.level start commits next_row own is s table view sees found among free from.0 v l from.1 old same)
                | inr new ↦ new_key_free t from.0 l other from.1 new.1 theirs (subst (λ (k : Value). Same env.level (key_here table k) l) new.0 same)
              ];
          known = λ x there. let from = in_mapped change x found there in subst (IsKnown env.level latest (with_keys table (own s).keys (moved_keys env changes found))) (sym from.2) (changed_known from.0 from.1);
          kept = λ v y there stood none same.
              let from = moved_in v there in
              absurd (elim from.2 [
                | inl old ↦ old_key_kept env.level start commits next_row own is s table view sees found among free images from.0 y from.1 (changed_row from.0 from.1) stood none (key_of env.level start commits next_row own is s table view sees found among free from.0 v (key_in y) from.1 old same)
                | inr new ↦ new_key_kept from.0 y from.1 stood none (subst (λ (k : Value). Same env.level (key_here table k) (key_in y)) new.0 same)
              ]);
          seen = λ x y there also same. elim (cases_eq x.table table) [
            | inl of ↦ not_twice env.level rows_left once x y (after_of x of there) (after_of y (sym same.0 ∙ of) also) same.1
            | inr other ↦ is.seen s x y (before_of x other there) (before_of y (λ of. other (same.0 ∙ of)) also) same
          ];
        }
