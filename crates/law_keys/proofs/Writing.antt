-- A transaction goes on where a statement writes: an INSERT, an UPDATE, a DELETE or a SELECT that holds rows.
use Rattle.std.proofs.Common.{◌≡◌, ◌∙◌, ◌⊎◌, ◌<◌, ◌≤◌, ℕ, ◌+◌, true, false, List, [], ◌∷◌, map, refl, sym, ap, subst, inl, inr, arith}
use Rattle.std.proofs.lemmas.Bool.{false≢true}
use Rattle.desk_values.specs.declared.value.Value.{Value}
use Rattle.desk_values.specs.declared.value.Image.{Image}
use Rattle.desk_values.specs.Comparison.{same_key}
use Rattle.server_words.specs.declared.effect.Writing.{Writing}
use Rattle.server_words.specs.declared.session.HeldKey.{HeldKey}
use Rattle.server_words.specs.declared.session.Transaction.{Transaction}
use Rattle.server_words.specs.Rows.{IsRising, is_there, lay, lay_all, noted, row_key, row_numbers}
use Rattle.server_words.specs.View.{View}
use Rattle.server_words.specs.Writes.{gone, holding, is_locked_key, repeats_key}
use Rattle.server_words.proofs.Laying.{rising_lay_all}
use Rattle.law_keys.proofs.Members.{In, in_mapped, mapped_in}
use Rattle.law_keys.proofs.Rows.{HasRow, has_row, in_laid, in_laid_all, in_noted, laid_new, laid_old, noted_all, noted_has, rising_noted}
use Rattle.law_keys.proofs.Same.{Apart, Same, back, key_in, not_twice}
use Rattle.law_keys.proofs.Holding.{key_here, keys_in, keys_stay, keys_there, rows_in, rows_stay, rows_there}
use Rattle.law_keys.proofs.Keeping.{StaysOpenAs, IsKeptBySteps, IsKnown, Stands, Stood, foreign}

-- the view of a session that reads the last commit, and sees this table
pub record Sees (level : ℕ) (start : List Image) (commits : List (List Image)) (own : ℕ → Transaction) (s table : ℕ) (view : View) : Type 0 where
  pub rows_in : (x : Image) → In x view.rows → In x (lay (lay_all start commits) (own s).changes) × (x.table ≡ table)
  pub in_rows : (x : Image) → In x (lay (lay_all start commits) (own s).changes) → x.table ≡ table → In x view.rows
  pub locked : (x : Image) (t : ℕ) → (t ≡ s → ⊥) → In x view.rows → In x.row (own t).rows → In x view.locked
  pub locked_key : (t : ℕ) (l : HeldKey) (v : Value) → (t ≡ s → ⊥) → In l (own t).keys → Same level (key_here table v) l → is_locked_key level view.locked_keys v ≡ true
  pub transaction : view.own ≡ own s

module _ (level : ℕ) (start : List Image) (commits : List (List Image)) (next_row : ℕ) (own : ℕ → Transaction) (is : IsKeptBySteps level start commits next_row own) (s table : ℕ) where
  abbrev latest : List Image
  latest = lay_all start commits

  abbrev changes : List Image
  changes = (own s).changes

  abbrev held_rows : List ℕ
  held_rows = (own s).rows

  abbrev held_keys : List HeldKey
  held_keys = (own s).keys

  abbrev seen : List Image
  seen = lay latest changes

  up : IsRising latest
  up = rising_lay_all start commits is.first

  -- what the session sees stood before
  seen_stood : (x : Image) → In x seen → Stands start commits own x
  seen_stood x there = elim (in_laid x latest changes up there) [
    | inl changed ↦ inr (inr (s, changed.0))
    | inr old ↦ (elim (in_laid_all x start commits is.first old.0) [ inl first ↦ inl first | inr later ↦ inr (inl later) ])
  ]

  module _ (writing : Writing) (more : ℕ) where
    abbrev left : Transaction
    left = holding table (own s) writing

    -- what has to be known of a writing
    pub record Writes : Type 0 where
      pub most : next_row ≤ more
      pub images : (x : Image) → In x writing.images → In x.row writing.rows
      pub stood : (x : Image) → In x writing.images → Stood start commits next_row own table more x
      pub held : (row : ℕ) → In row writing.rows → row < more
      pub rows : (t row : ℕ) → (t ≡ s → ⊥) → In row writing.rows → In row (own t).rows → ⊥
      pub keys : (t : ℕ) (v : Value) (l : HeldKey) → (t ≡ s → ⊥) → In v writing.keys → In l (own t).keys → Same level (key_here table v) l → ⊥
      pub known : (x : Image) → In x writing.images → IsKnown level latest left.keys x
      -- a committed row with a key that comes to be held, unless it is changed
      pub kept : (v : Value) (y : Image) → In v writing.keys → In y latest → (HasRow y.row left.changes → ⊥) → Same level (key_here table v) (key_in y) → In y.row left.rows
      pub seen : Apart level (lay latest left.changes)

    module _ (w : Writes) (after : ℕ → Transaction) (others : (t : ℕ) → (t ≡ s → ⊥) → after t ≡ own t) (at : after s ≡ holding table (own s) writing) where
      changed_held : (x : Image) → In x left.changes → In x.row left.rows
      changed_held x there = elim (in_noted x changes writing.images (is.rising s) there) [
        | inl new ↦ rows_there held_rows writing.rows x.row (w.images x new)
        | inr old ↦ rows_stay held_rows writing.rows x.row (is.changed s x old.0)
      ]

      pub writes_on : StaysOpenAs level start commits next_row own is s left after others at table more
      writes_on = record {
        rising = rising_noted changes writing.images (is.rising s);
        most = w.most;
        stood = λ x there. elim (in_noted x changes writing.images (is.rising s) there) [
          | inl new ↦ w.stood x new
          | inr old ↦ inl (x, inr (inr (s, old.0)), refl, refl)
        ];
        held = λ row there. elim (rows_in held_rows writing.rows row there) [
          | inl old ↦ omega (arith, is.held s row old, w.most)
          | inr new ↦ w.held row new
        ];
        changed = changed_held;
        rows = λ t row other there theirs. elim (rows_in held_rows writing.rows row there) [
          | inl old ↦ other (is.rows t s row theirs old)
          | inr new ↦ w.rows t row other new theirs
        ];
        keys = λ t k l other there theirs same. elim (keys_in table held_keys writing.keys k there) [
          | inl old ↦ other (sym (is.keys s t k l old theirs same))
          | inr new ↦ w.keys t new.0 l other new.1 theirs (subst (λ (h : HeldKey). Same level h l) new.2 same)
        ];
        known = λ x there stands key. elim (in_noted x changes writing.images (is.rising s) there) [
          | inl new ↦ w.known x new stands key
          | inr old ↦ (elim (is.known s x old.0 stands key) [
            | inl held ↦ inl (held.0, keys_stay table held_keys writing.keys held.0 held.1, held.2)
            | inr committed ↦ inr committed
          ])
        ];
        kept = λ k y there stood same. elim (keys_in table held_keys writing.keys k there) [
          | inl old ↦ rows_stay held_rows writing.rows y.row (is.kept s k y old stood same)
          | inr new ↦ (elim (has_row y left.changes) [
            | inl has ↦ subst (λ (r : ℕ). In r left.rows) has.2 (changed_held has.0 has.1)
            | inr none ↦ w.kept new.0 y new.1 stood none (subst (λ (h : HeldKey). Same level h (key_in y)) new.2 same)
          ])
        ];
        seen = w.seen;
      }

  -- ---- what is seen once images are written

  -- an image that is there, or what was seen of a number that no image has
  pub seen_after : (images : List Image) (x : Image) → In x (lay latest (noted changes images)) → (In x images × (is_there x ≡ true)) ⊎ (In x seen × (HasRow x.row images → ⊥))
  seen_after images x there = elim (in_laid x latest (noted changes images) up there) [
    | inl changed ↦ (elim (in_noted x changes images (is.rising s) changed.0) [
      | inl new ↦ inl (new, changed.1)
      | inr old ↦ inr (laid_new 0 x latest changes (is.rising s) old.0 changed.1, old.1)
    ])
    | inr old ↦ inr (laid_old x latest changes old.0 (λ has. old.1 (noted_has x.row changes images has)), λ has. old.1 (noted_all x.row changes images has))
  ]

  -- a committed row that is not changed afterwards is seen
  pub unchanged_seen : (images : List Image) (y : Image) → In y latest → (HasRow y.row (noted changes images) → ⊥) → In y seen
  unchanged_seen images y there none = laid_old y latest changes there (λ has. none (noted_has y.row changes images has))

  -- ---- rows that nobody else holds

  module _ (view : View) (sees : Sees level start commits own s table view) (found : List Image) (among : (x : Image) → In x found → In x view.rows) (free : (x : Image) (t : ℕ) → (t ≡ s → ⊥) → In x found → In x.row (own t).rows → ⊥) where
    seen_found : (z : Image) → In z found → In z seen
    seen_found z there = (sees.rows_in z (among z there)).0

    of_found : (z : Image) → In z found → z.table ≡ table
    of_found z there = (sees.rows_in z (among z there)).1

    pub found_held : (row : ℕ) → In row (row_numbers found) → row < next_row
    found_held row there = let from = in_mapped (λ (image : Image). image.row) row found there in omega (arith, from.2, is.below from.0 (seen_stood from.0 (seen_found from.0 from.1)))

    pub found_free : (t row : ℕ) → (t ≡ s → ⊥) → In row (row_numbers found) → In row (own t).rows → ⊥
    found_free t row other there theirs = let from = in_mapped (λ (image : Image). image.row) row found there in free from.0 t other from.1 (subst (λ (r : ℕ). In r (own t).rows) from.2 theirs)

    pub found_stood : (f : Image → Image) → ((z : Image) → (f z).row ≡ z.row) → ((z : Image) → (f z).table ≡ z.table) → (x : Image) → In x (map f found) → (y : Image) × Stands start commits own y × (y.row ≡ x.row) × (y.table ≡ x.table)
    found_stood f rows tables x there =
        let from = in_mapped f x found there in
        (from.0, seen_stood from.0 (seen_found from.0 from.1), sym (rows from.0) ∙ ap (λ (i : Image). i.row) (sym from.2), sym (tables from.0) ∙ ap (λ (i : Image). i.table) (sym from.2))

    -- the key of a row that is found is no key that another session holds
    pub old_key_free : (t : ℕ) (z : Image) (l : HeldKey) → (t ≡ s → ⊥) → In z found → In l (own t).keys → Same level (key_in z) l → ⊥
    old_key_free t z l other there theirs same = elim (in_laid z latest changes up (seen_found z there)) [
      | inl changed ↦ foreign level start commits next_row own is s t l z other theirs changed.0 changed.1 (back level (key_in z) l same)
      | inr old ↦ free z t other there (is.kept t l z theirs old.0 (back level (key_in z) l same))
    ]

    -- and no committed row has it that is not changed
    pub old_key_kept : (images : List Image) (z y : Image) → In z found → HasRow z.row images → In y latest → (HasRow y.row (noted changes images) → ⊥) → Same level (key_in z) (key_in y) → ⊥
    old_key_kept images z y there image stood none same =
        let one = is.seen s z y (seen_found z there) (unchanged_seen images y stood none) same in
        none (noted_all y.row changes images (subst (λ (r : ℕ). HasRow r images) one image))

    -- ---- rows that are held

    pub holds_rows : (rows : List ℕ) → ((row : ℕ) → In row rows → In row (row_numbers found)) → Writes (record { images = []; rows = rows; keys = [] }) next_row
    holds_rows rows of = record {
      most = omega arith;
      images = λ x there. absurd there;
      stood = λ x there. absurd there;
      held = λ row there. found_held row (of row there);
      rows = λ t row other there. found_free t row other (of row there);
      keys = λ t v l other there. absurd there;
      known = λ x there. absurd there;
      kept = λ v y there. absurd there;
      seen = is.seen s;
    }

    -- ---- a DELETE

    pub image_row : (f : Image → Image) → ((z : Image) → (f z).row ≡ z.row) → (z : Image) → In z found → HasRow z.row (map f found)
    image_row f rows z there = (f z, mapped_in f z found there, rows z)

    pub image_numbers : (f : Image → Image) → ((z : Image) → (f z).row ≡ z.row) → (x : Image) → In x (map f found) → In x.row (row_numbers found)
    image_numbers f rows x there =
        let from = in_mapped f x found there in
        subst (λ (r : ℕ). In r (row_numbers found)) (sym (rows from.0) ∙ ap (λ (i : Image). i.row) (sym from.2)) (mapped_in (λ (image : Image). image.row) from.0 found from.1)

    gone_not : (x : Image) → In x (map gone found) → is_there x ≡ true → ⊥
    gone_not x there stands = let from = in_mapped gone x found there in let never : false ≡ true = sym (ap is_there from.2) ∙ stands in false≢true never

    -- the key of a row of the table, held as it is
    pub key_of : (z : Image) (v : Value) (l : HeldKey) → In z found → v ≡ row_key z → Same level (key_here table v) l → Same level (key_in z) l
    key_of z v l there is_key same = (of_found z there ∙ same.0, ap (λ k. same_key level k l.key) (sym is_key) ∙ same.1)

    pub deletes : Writes (record { images = map gone found; rows = row_numbers found; keys = map row_key found }) next_row
    deletes = record {
      most = omega arith;
      images = image_numbers gone (λ z. refl);
      stood = λ x there. inl (found_stood gone (λ z. refl) (λ z. refl) x there);
      held = found_held;
      rows = found_free;
      keys = λ t v l other there theirs same. let from = in_mapped row_key v found there in old_key_free t from.0 l other from.1 theirs (key_of from.0 v l from.1 from.2 same);
      known = λ x there stands. absurd (gone_not x there stands);
      kept = λ v y there stood none same. let from = in_mapped row_key v found there in absurd (old_key_kept (map gone found) from.0 y from.1 (image_row gone (λ z. refl) from.0 from.1) stood none (key_of from.0 v (key_in y) from.1 from.2 same));
      seen = λ x y there also same. elim (seen_after (map gone found) x there) [
        | inl new ↦ absurd (gone_not x new.0 new.1)
        | inr old ↦ (elim (seen_after (map gone found) y also) [
          | inl new ↦ absurd (gone_not y new.0 new.1)
          | inr other ↦ is.seen s x y old.0 other.0 same
        ])
      ];
    }

  -- ---- an INSERT

  module _ (view : View) (sees : Sees level start commits own s table view) (new : Image) (at : new.row ≡ next_row) (of : new.table ≡ table) (free : is_locked_key level view.locked_keys (row_key new) ≡ false) (once : repeats_key level (map row_key (new ∷ view.rows)) ≡ false) where
    new_only : (x : Image) → In x (new ∷ []) → x ≡ new
    new_only x (inl same) = same
    new_only x (inr never) = absurd never

    one_new : (y : Image) → In y seen → Same level (key_in new) (key_in y) → new.row ≡ y.row
    one_new y there same = not_twice level (new ∷ view.rows) once new y (inl refl) (inr (sees.in_rows y there (sym same.0 ∙ of))) same.1

    pub inserts : Writes (record { images = new ∷ []; rows = new.row ∷ []; keys = row_key new ∷ [] }) (next_row + 1)
    inserts = record {
      most = omega arith;
      images = λ x there. inl (ap (λ (i : Image). i.row) (new_only x there));
      stood = λ x there. let same = new_only x there in inr (ap (λ (i : Image). i.row) same ∙ at, omega arith, ap (λ (i : Image). i.table) same ∙ of);
      held = λ row there. elim there [ inl same ↦ omega (arith, same, at) | inr never ↦ absurd never ];
      rows = λ t row other there theirs. elim there [ inl same ↦ omega (arith, same, at, is.held t row theirs) | inr never ↦ absurd never ];
      keys = λ t v l other there theirs same. elim there [
        | inl key ↦ (let never : false ≡ true = sym free ∙ sees.locked_key t l (row_key new) other theirs (subst (λ (k : Value). Same level (key_here table k) l) key same) in false≢true never)
        | inr never ↦ absurd never
      ];
      known = λ x there stands key.
          let same = new_only x there in
          let held = keys_there table held_keys (row_key new ∷ []) (row_key new) (inl refl) in
          inl (key_here table (row_key new), held, (sym of ∙ ap (λ (i : Image). i.table) (sym same), ap (λ (i : Image). same_key level (row_key i) (row_key x)) (sym same) ∙ key.1));
      kept = λ v y there stood none same. elim there [
        | inl key ↦ absurd (none (noted_all y.row changes (new ∷ []) (new, inl refl, one_new y (unchanged_seen (new ∷ []) y stood none) (of ∙ same.0, ap (λ k. same_key level k (row_key y)) (sym key) ∙ same.1))))
        | inr never ↦ absurd never
      ];
      seen = λ x y there also same. elim (seen_after (new ∷ []) x there) [
        | inl first ↦ (elim (seen_after (new ∷ []) y also) [
          | inl second ↦ ap (λ (i : Image). i.row) (new_only x first.0 ∙ sym (new_only y second.0))
          | inr second ↦ (let is_new = new_only x first.0 in ap (λ (i : Image). i.row) is_new ∙ one_new y second.0 (subst (λ (i : Image). Same level (key_in i) (key_in y)) is_new same))
        ])
        | inr first ↦ (elim (seen_after (new ∷ []) y also) [
          | inl second ↦ (let is_new = new_only y second.0 in sym (ap (λ (i : Image). i.row) is_new ∙ one_new x first.0 (subst (λ (i : Image). Same level (key_in i) (key_in x)) is_new (back level (key_in x) (key_in y) same))))
          | inr second ↦ is.seen s x y first.0 second.0 same
        ])
      ];
    }
