-- What reads from a number on find, where versions are let go that they do not need.
use Rattle.std.proofs.Common.{◌≡◌, ◌∙◌, ℕ, ◌≤◌, ◌<◌, Bool, true, false, ◌&&◌, not, if◌then◌else◌, List, [], ◌∷◌, Option, None, Some, refl, sym, ap, subst, inl, inr, arith}
use Rattle.std.specs.Prelude.{is_some, nat_eq, nat_le}
use Rattle.std.specs.Option.{option_map}
use Rattle.desk_values.specs.declared.value.Value.{Value}
use Rattle.desk_values.specs.declared.value.Image.{Image}
use Rattle.row_versions.specs.declared.versions.Version.{Version}
use Rattle.row_versions.specs.History.{IsPartOf, ReadsStay, Written, is_of_row, is_up_to, left_of, or_else, row_at, seen_of, written_of}
use Rattle.row_versions.specs.Inside.Links.{Ascends, has_row, is_needed, needed}

-- what the first says of a row
abbrev own_image : Version → ℕ → ℕ → Option Image
own_image version row m = if is_of_row row (written_of version) && is_up_to m (written_of version) then Some version.image else None

-- a row that stands is read
has_read : (n m row : ℕ) (list : List Version) → n ≤ m → has_row row n list ≡ true → is_some (row_at (seen_of list) row m) ≡ true
has_read n m row [] le has = absurd (grind (arith, has))
has_read n m row (v ∷ list) le has = by (nat_eq v.image.row row && nat_le v.number n) refl (row_at (seen_of list) row m) refl (has_read n m row list le)
  where
    by : (b : Bool) → (nat_eq v.image.row row && nat_le v.number n) ≡ b → (o : Option Image) → row_at (seen_of list) row m ≡ o → (has_row row n list ≡ true → is_some (row_at (seen_of list) row m) ≡ true) → is_some (row_at (seen_of (v ∷ list)) row m) ≡ true
    by b e (Some x) f rest = ap (λ (o : Option Image). is_some (or_else o (own_image v row m))) f
    by true e None f rest =
        let here : (is_of_row row (written_of v) && is_up_to m (written_of v)) ≡ true = grind (arith, e, le) in
        ap (λ (o : Option Image). is_some (or_else o (own_image v row m))) f ∙ ap (λ (b : Bool). is_some (if b then Some v.image else None)) here
    by false e None f rest = absurd (let later : has_row row n list ≡ true = grind (arith, e, has) in let there = rest later in grind (arith, there, f))

or_none : {X : Type 0} (o : Option X) → or_else o None ≡ o
or_none None = refl
or_none (Some x) = refl

-- what the first says of another row
own_none : (v : Version) (row m : ℕ) → nat_eq v.image.row row ≡ false → own_image v row m ≡ None
own_none v row m apart = ap (λ (b : Bool). if b && is_up_to m (written_of v) then Some v.image else None) apart

-- ---- a row of which no version may go

needed_exact : (n m row : ℕ) (list : List Version) → has_row row n list ≡ false → row_at (seen_of (needed n list)) row m ≡ row_at (seen_of list) row m
needed_exact n m row [] none = refl
needed_exact n m row (v ∷ list) none =
    let here : (nat_eq v.image.row row && nat_le v.number n) ≡ false = grind (arith, none) in
    let later : has_row row n list ≡ false = grind (arith, none) in
    by (nat_eq v.image.row row) refl (nat_le v.number n) refl (is_needed n v list) refl here (needed_exact n m row list later)
  where
    by : (r : Bool) → nat_eq v.image.row row ≡ r → (u : Bool) → nat_le v.number n ≡ u → (k : Bool) → is_needed n v list ≡ k → (nat_eq v.image.row row && nat_le v.number n) ≡ false
        → row_at (seen_of (needed n list)) row m ≡ row_at (seen_of list) row m → row_at (seen_of (if k then v ∷ needed n list else needed n list)) row m ≡ row_at (seen_of (v ∷ list)) row m
    by r e u f true g here rest = ap (λ (o : Option Image). or_else o (own_image v row m)) rest
    by false e u f false g here rest = rest ∙ sym (ap (or_else (row_at (seen_of list) row m)) (own_none v row m e) ∙ or_none (row_at (seen_of list) row m))
    by true e true f false g here rest = absurd (grind (arith, e, f, here))
    by true e false f false g here rest = absurd (let kept : is_needed n v list ≡ true = ap (λ (b : Bool). if b then is_some v.image.left && not (has_row v.image.row n list) else true) f in grind (arith, g, kept))

-- ---- behind a version over the number all are

none_below : (n low row : ℕ) (list : List Version) → Ascends low (seen_of list) → n < low → has_row row n list ≡ false
none_below n low row [] up over = refl
none_below n low row (v ∷ list) up over =
    let beyond : n < v.number = omega (arith, up.0, over) in
    let unlike : nat_le v.number n ≡ false = grind (arith, beyond) in
    let rest = none_below n v.number row list up.1 beyond in
    grind (arith, unlike, rest)

-- ---- reads

left_gone : (image : Image) → is_some image.left ≡ false → left_of (Some image) ≡ None
left_gone image gone = by image.left refl gone
  where
    by : (left : Option (List Value)) → image.left ≡ left → is_some left ≡ false → left_of (Some image) ≡ None
    by None e g = ap (λ (o : Option (List Value)). option_map (λ _. image) o) e
    by (Some x) e g = absurd (grind (arith, g))

-- where the last of a row up to the number is gone, what is read of it is gone, or was written later
gone_read : (o : Option Image) (v : Version) → is_some v.image.left ≡ false → left_of o ≡ left_of (or_else o (Some v.image))
gone_read None v gone = sym (left_gone v.image gone)
gone_read (Some x) v gone = refl

-- what is read stands over the first
read_over : (o own : Option Image) → is_some o ≡ true → left_of (or_else o own) ≡ left_of o
read_over None own some = absurd (grind (arith, some))
read_over (Some x) own some = refl

module _ (n m row : ℕ) (le : n ≤ m) where
  abbrev read : List Version → Option Image
  read list = row_at (seen_of list) row m

  pub needed_reads : (low : ℕ) (list : List Version) → Ascends low (seen_of list) → left_of (read (needed n list)) ≡ left_of (read list)
  needed_reads low [] up = refl
  needed_reads low (v ∷ list) up = by (nat_le v.number n) refl (nat_eq v.image.row row) refl (is_some v.image.left) refl (has_row v.image.row n list) refl (needed_reads v.number list up.1)
    where
      -- it stays
      kept : is_needed n v list ≡ true → left_of (or_else (read (needed n list)) (own_image v row m)) ≡ left_of (read (v ∷ list)) → left_of (read (needed n (v ∷ list))) ≡ left_of (read (v ∷ list))
      kept e rest = ap (λ (b : Bool). left_of (read (if b then v ∷ needed n list else needed n list))) e ∙ rest

      -- it goes
      gone : is_needed n v list ≡ false → left_of (read (needed n list)) ≡ left_of (read (v ∷ list)) → left_of (read (needed n (v ∷ list))) ≡ left_of (read (v ∷ list))
      gone e rest = ap (λ (b : Bool). left_of (read (if b then v ∷ needed n list else needed n list))) e ∙ rest

      -- where its row is not in question
      beside : nat_eq v.image.row row ≡ false → left_of (read (needed n list)) ≡ left_of (read list) → left_of (or_else (read (needed n list)) (own_image v row m)) ≡ left_of (read (v ∷ list))
      beside e rest =
          ap (λ (o : Option Image). left_of (or_else (read (needed n list)) o)) (own_none v row m e) ∙ ap left_of (or_none (read (needed n list))) ∙ rest
          ∙ sym (ap (λ (o : Option Image). left_of (or_else (read list) o)) (own_none v row m e) ∙ ap left_of (or_none (read list)))

      beside_gone : nat_eq v.image.row row ≡ false → left_of (read (needed n list)) ≡ left_of (read list) → left_of (read (needed n list)) ≡ left_of (read (v ∷ list))
      beside_gone e rest = rest ∙ sym (ap (λ (o : Option Image). left_of (or_else (read list) o)) (own_none v row m e) ∙ ap left_of (or_none (read list)))

      exactly : has_row row n list ≡ false → left_of (or_else (read (needed n list)) (own_image v row m)) ≡ left_of (read (v ∷ list))
      exactly none = ap (λ (o : Option Image). left_of (or_else o (own_image v row m))) (needed_exact n m row list none)

      by : (u : Bool) → nat_le v.number n ≡ u → (r : Bool) → nat_eq v.image.row row ≡ r → (s : Bool) → is_some v.image.left ≡ s → (h : Bool) → has_row v.image.row n list ≡ h
          → left_of (read (needed n list)) ≡ left_of (read list) → left_of (read (needed n (v ∷ list))) ≡ left_of (read (v ∷ list))
      by false u r e s f h g rest =
          kept (ap (λ (b : Bool). if b then is_some v.image.left && not (has_row v.image.row n list) else true) u) (exactly (none_below n v.number row list up.1 (let over : n < v.number = grind (arith, u) in over)))
      by true u false e true f false g rest = kept (grind (arith, u, f, g)) (beside e rest)
      by true u false e true f true g rest = gone (grind (arith, u, f, g)) (beside_gone e rest)
      by true u false e false f h g rest = gone (grind (arith, u, f)) (beside_gone e rest)
      by true u true e true f false g rest =
          let same : v.image.row ≡ row = grind (arith, e) in
          kept (grind (arith, u, f, g)) (exactly (subst (λ (r : ℕ). has_row r n list ≡ false) same g))
      by true u true e s f true g rest =
          let same : v.image.row ≡ row = grind (arith, e) in
          let there : is_some (read list) ≡ true = has_read n m row list le (subst (λ (r : ℕ). has_row r n list ≡ true) same g) in
          gone (grind (arith, u, g)) (rest ∙ sym (read_over (read list) (own_image v row m) there))
      by true u true e false f false g rest =
          let same : v.image.row ≡ row = grind (arith, e) in
          let own : own_image v row m ≡ Some v.image = (let up_to : nat_le v.number m ≡ true = grind (arith, u, le) in ap (λ (b : Bool). if b && nat_le v.number m then Some v.image else None) e ∙ ap (λ (b : Bool). if b then Some v.image else None) up_to) in
          gone (grind (arith, u, f)) (ap left_of (needed_exact n m row list (subst (λ (r : ℕ). has_row r n list ≡ false) same g)) ∙ gone_read (read list) v f ∙ ap (λ (o : Option Image). left_of (or_else (read list) o)) (sym own))

-- one more is left out
left_out : (y : Written) (xs ys : List Written) → IsPartOf xs ys → IsPartOf xs (y ∷ ys)
left_out y [] ys part = tt
left_out y (x ∷ xs) ys part = inr part

pub whole_part : (xs : List Written) → IsPartOf xs xs
whole_part [] = tt
whole_part (x ∷ xs) = inl (refl, whole_part xs)

-- what stays was there
needed_part : (n : ℕ) (list : List Version) → IsPartOf (seen_of (needed n list)) (seen_of list)
needed_part n [] = tt
needed_part n (v ∷ list) = by (is_needed n v list) (needed_part n list)
  where
    by : (k : Bool) → IsPartOf (seen_of (needed n list)) (seen_of list) → IsPartOf (seen_of (if k then v ∷ needed n list else needed n list)) (seen_of (v ∷ list))
    by true part = inl (refl, part)
    by false part = left_out (written_of v) (seen_of (needed n list)) (seen_of list) part

-- ---- those that stay are in order

ascends_weaker : (low high : ℕ) (list : List Written) → low ≤ high → Ascends high list → Ascends low list
ascends_weaker low high [] le up = tt
ascends_weaker low high (w ∷ list) le up = (omega (arith, up.0), up.1)

pub needed_ascends : (n low : ℕ) (list : List Version) → Ascends low (seen_of list) → Ascends low (seen_of (needed n list))
needed_ascends n low [] up = tt
needed_ascends n low (v ∷ list) up = by (is_needed n v list) (needed_ascends n v.number list up.1)
  where
    by : (k : Bool) → Ascends v.number (seen_of (needed n list)) → Ascends low (seen_of (if k then v ∷ needed n list else needed n list))
    by true rest = (up.0, rest)
    by false rest = ascends_weaker low v.number (seen_of (needed n list)) up.0 rest

-- what the pruned versions are read as
pub pruned_reads : (n : ℕ) (list : List Version) (new : List Written) → Ascends 0 (seen_of list) → new ≡ seen_of (needed n list) → ReadsStay n (seen_of list) new
pruned_reads n list new up is row later le = ap (λ (l : List Written). left_of (row_at l row later)) is ∙ needed_reads n later row le 0 list up

pub pruned_out : (n : ℕ) (list : List Version) (new : List Written) → new ≡ seen_of (needed n list) → IsPartOf new (seen_of list)
pruned_out n list new is = subst (λ (l : List Written). IsPartOf l (seen_of list)) (sym is) (needed_part n list)
