-- Walking from a version to the one before it.
use Rattle.std.proofs.Common.{◌≡◌, ◌⊎◌, inl, inr, ℕ, zero, suc, ◌+◌, ◌<◌, ◌≤◌, Bool, true, false, cond, nat_eq, nat_lt, if◌then◌else◌, List, [], ◌∷◌, ◌++◌, take, length, slice_get, get_or, Option, None, Some, refl, sym, ap, subst, ◌∙◌, zero-add, length-append, arith, rules, ◌&&◌}
use Rattle.std.proofs.Math.Seq.{take-append_seam}
use Rattle.std.specs.List.{AllByRecursion, list_any}
use Rattle.desk_values.specs.declared.value.Image.{Image}
use Rattle.row_versions.specs.declared.versions.Version.{Version}
use Rattle.row_versions.specs.History.{IsNextRow, Written, is_of_row, is_up_to, or_else, row_at, seen_of, up_to, written_of}
use Rattle.row_versions.specs.Inside.Links.{AreLinked, Ascends, IsKept, last_from, last_place}
use Rattle.std.specs.BTreeMap.{BTreeMap, get, is_at}
use Rattle.std.specs.Ordering.{nat_cmp, is_eq, is_gt}
use Rattle.std.specs.declared.cmp.Ordering.TheVariants.{Less, Equal, Greater}
use Rattle.std.specs.Cmp.{nat_cmp_is}
use Rattle.std.specs.Option.{IsSome}

-- one more than the place
abbrev pub end_of : Option ℕ → ℕ
end_of None = 0
end_of (Some at) = at + 1

or_if : {X : Type 0} (b : Bool) (v : X) (rest other : Option X) → or_else (if b then Some v else rest) other ≡ (if b then Some v else or_else rest other)
or_if true v rest other = refl
or_if false v rest other = refl

-- ---- reading

-- a row without a last place is not there
pub no_place : (k row n : ℕ) (xs : List Version) → last_from k row xs ≡ None → row_at (seen_of xs) row n ≡ None
no_place k row n [] h = refl
no_place k row n (x ∷ xs) h = by (last_from (k + 1) row xs) refl (nat_eq x.image.row row) refl (no_place (k + 1) row n xs)
  where
    by : (o : Option ℕ) → last_from (k + 1) row xs ≡ o → (b : Bool) → nat_eq x.image.row row ≡ b → (last_from (k + 1) row xs ≡ None → row_at (seen_of xs) row n ≡ None) → row_at (seen_of (x ∷ xs)) row n ≡ None
    by (Some p) e b f rest = grind (arith, h, e)
    by None e true f rest = grind (arith, h, e, f)
    by None e false f rest = let none = rest e in grind (arith, none, f)

-- what a read finds at the row's last place, or before it
pub record Found (k row n : ℕ) (xs : List Version) (p : ℕ) : Type 0 where
  pub i : ℕ
  pub at : p ≡ k + i
  pub version : Version
  pub is : slice_get xs i ≡ Some version
  pub row_is : version.image.row ≡ row
  pub reads : row_at (seen_of xs) row n ≡ (if is_up_to n (written_of version) then Some version.image else row_at (seen_of (take i xs)) row n)

pub found : (k row n : ℕ) (xs : List Version) (p : ℕ) → last_from k row xs ≡ Some p → Found k row n xs p
found k row n [] p h = absurd (grind (arith, h))
found k row n (x ∷ xs) p h = by (last_from (k + 1) row xs) refl (nat_eq x.image.row row) refl (found (k + 1) row n xs)
  where
    by : (o : Option ℕ) → last_from (k + 1) row xs ≡ o → (b : Bool) → nat_eq x.image.row row ≡ b → ((q : ℕ) → last_from (k + 1) row xs ≡ Some q → Found (k + 1) row n xs q) → Found k row n (x ∷ xs) p
    by (Some q) e b f rest =
        let r = rest q e in
        let same : p ≡ q = grind (arith, h, e) in
        record {
          i = suc r.i;
          at = omega (arith, same, r.at);
          version = r.version;
          is = r.is;
          row_is = r.row_is;
          reads =
              let own : Option Image = if nat_eq x.image.row row && is_up_to n (written_of x) then Some x.image else None in
              ap (λ (o : Option Image). or_else o own) r.reads ∙ or_if (is_up_to n (written_of r.version)) r.version.image (row_at (seen_of (take r.i xs)) row n) own;
        }
    by None e true f rest =
        let none = no_place (k + 1) row n xs e in
        record { i = 0; at = grind (arith, h, e, f); version = x; is = refl; row_is = grind (arith, f); reads = grind (arith, none, f) }
    by None e false f rest = absurd (grind (arith, h, e, f))

-- a walk that has come to this place has still to read what stands before it
pub record Walks (row n : ℕ) (list : List Version) (next : Option ℕ) : Type 0 where
  pub end : ℕ
  pub place : next ≡ last_place row (take end list)
  pub reads : row_at (seen_of (take end list)) row n ≡ row_at (seen_of list) row n

take_all : {X : Type 0} (xs : List X) → take (length xs) xs ≡ xs
take_all [] = refl
take_all (x ∷ xs) = ap (λ (rest : List _). x ∷ rest) (take_all xs)

pub walk_begins : (row n : ℕ) (list : List Version) (next : Option ℕ) → next ≡ last_place row list → Walks row n list next
walk_begins row n list next h = record {
  end = length list;
  place = h ∙ ap (last_place row) (sym (take_all list));
  reads = ap (λ (xs : List Version). row_at (seen_of xs) row n) (take_all list);
}

pub walk_ends : (row n : ℕ) (list : List Version) → Walks row n list None → row_at (seen_of list) row n ≡ None
walk_ends row n list w = sym w.reads ∙ no_place 0 row n (take w.end list) (sym w.place)

-- what stands in the first of a list stands in the list
within : {X : Type 0} (xs : List X) (end i : ℕ) (x : X) → slice_get (take end xs) i ≡ Some x → (slice_get xs i ≡ Some x) × (i < end) × (i < length xs) × (take i (take end xs) ≡ take i xs)
within [] zero i x h = absurd (grind (arith, h))
within [] (suc end) i x h = absurd (grind (arith, h))
within (y ∷ xs) zero i x h = absurd (grind (arith, h))
within (y ∷ xs) (suc end) zero x h = (h, omega arith, omega arith, refl)
within (y ∷ xs) (suc end) (suc i) x h = let rest = within xs end i x h in (rest.0, omega (arith, rest.1), omega (arith, rest.2), ap (λ (zs : List _). y ∷ zs) rest.3)

pub same_row : (row : ℕ) → nat_eq row row ≡ true
same_row row = grind arith

-- of versions that are all over the number none is read
over_all : (low row n : ℕ) (list : List Version) → Ascends low (seen_of list) → n < low → row_at (seen_of list) row n ≡ None
over_all low row n [] up over = refl
over_all low row n (x ∷ xs) up over =
    let beyond : n < x.number = omega (arith, up.0, over) in
    let past : is_up_to n (written_of x) ≡ false = grind (arith, beyond) in
    let rest = over_all x.number row n xs up.1 beyond in
    grind (arith, past, rest)

ascends_taken : (low end : ℕ) (list : List Version) → Ascends low (seen_of list) → Ascends low (seen_of (take end list))
ascends_taken low zero list up = tt
ascends_taken low (suc end) [] up = tt
ascends_taken low (suc end) (x ∷ xs) up = (up.0, ascends_taken x.number end xs up.1)

taken_there : {X : Type 0} (xs : List X) (at : ℕ) (x : X) → slice_get xs at ≡ Some x → (slice_get (take (suc at) xs) at ≡ Some x) × (take at (take (suc at) xs) ≡ take at xs)
taken_there [] at x is = absurd (grind (arith, is))
taken_there (y ∷ xs) zero x is = (is, refl)
taken_there (y ∷ xs) (suc at) x is = let rest = taken_there xs at x is in (rest.0, ap (λ (zs : List _). y ∷ zs) rest.1)

-- where a walk stands
pub record Stands (row n : ℕ) (list : List Version) (at : ℕ) : Type 0 where
  pub version : Version
  pub is : slice_get list at ≡ Some version
  pub inside : at < length list
  pub row_is : version.image.row ≡ row
  pub reads : row_at (seen_of list) row n ≡ (if is_up_to n (written_of version) then Some version.image else row_at (seen_of (take at list)) row n)

pub walk_stands : (row n : ℕ) (list : List Version) (at : ℕ) → Walks row n list (Some at) → Stands row n list at
walk_stands row n list at w =
    let f = found 0 row n (take w.end list) at (sym w.place) in
    let here : at ≡ f.i = omega (arith, f.at) in
    let r = within list w.end f.i f.version f.is in
    record {
      version = f.version;
      is = ap (slice_get list) here ∙ r.0;
      inside = omega (arith, here, r.2);
      row_is = f.row_is;
      reads = sym w.reads ∙ f.reads ∙ ap (λ (xs : List Version). if is_up_to n (written_of f.version) then Some f.version.image else row_at (seen_of xs) row n) (r.3 ∙ ap (λ (i : ℕ). take i list) (sym here));
    }

pub walk_on : (row n : ℕ) (list : List Version) (at : ℕ) (s : Stands row n list at) → AreLinked list → is_up_to n (written_of s.version) ≡ false → Walks row n list s.version.before
walk_on row n list at s linked after = record {
  end = at;
  place = linked at s.version s.is ∙ ap (λ (r : ℕ). last_place r (take at list)) s.row_is;
  reads = sym (s.reads ∙ ap (λ (b : Bool). if b then Some s.version.image else row_at (seen_of (take at list)) row n) after);
}

-- nothing from a version over the number on is read
over_skipped : (low row n : ℕ) (list : List Version) (at : ℕ) (version : Version) → Ascends low (seen_of list) → slice_get list at ≡ Some version → n < version.number → row_at (seen_of list) row n ≡ row_at (seen_of (take at list)) row n
over_skipped low row n [] at version up is over = absurd (grind (arith, is))
over_skipped low row n (x ∷ xs) zero version up is over = let same : x ≡ version = grind (arith, is) in over_all x.number row n (x ∷ xs) (omega arith, up.1) (let number = ap (λ (v : Version). v.number) same in omega (arith, over, number))
over_skipped low row n (x ∷ xs) (suc at) version up is over = ap (λ (o : Option Image). or_else o (if is_of_row row (written_of x) && is_up_to n (written_of x) then Some x.image else None)) (over_skipped x.number row n xs at version up.1 is over)

last_there : (k row : ℕ) (xs : List Version) (at : ℕ) (version : Version) → slice_get xs at ≡ Some version → version.image.row ≡ row → last_from k row (take (suc at) xs) ≡ Some (k + at)
last_there k row [] at version is same = absurd (grind (arith, is))
last_there k row (x ∷ xs) zero version is same =
    let here : x ≡ version = grind (arith, is) in
    let own : x.image.row ≡ row = ap (λ (v : Version). v.image.row) here ∙ same in
    ap (λ (b : Bool). or_else None (if b then Some k else None)) (ap (λ (r : ℕ). nat_eq r row) own ∙ same_row row) ∙ ap Some (omega arith)
last_there k row (x ∷ xs) (suc at) version is same =
    ap (λ (o : Option ℕ). or_else o (if nat_eq x.image.row row then Some k else None)) (last_there (k + 1) row xs at version is same) ∙ ap Some (omega arith)

pub walk_jumps : (row n : ℕ) (list : List Version) (at : ℕ) (version : Version) → Ascends 0 (seen_of list) → slice_get list at ≡ Some version → version.image.row ≡ row → n < version.number → Walks row n list (Some at)
walk_jumps row n list at version up is same over = record {
  end = suc at;
  place = (let here : at ≡ 0 + at = omega arith in ap Some here) ∙ sym (last_there 0 row list at version is same);
  reads =
      let there = taken_there list at version is in
      over_skipped 0 row n (take (suc at) list) at version (ascends_taken 0 (suc at) list up) there.0 over ∙ ap (λ (xs : List Version). row_at (seen_of xs) row n) there.1
      ∙ sym (over_skipped 0 row n list at version up is over);
}

pub walk_falls : (row n : ℕ) (list : List Version) (at : ℕ) (before : Option ℕ) → before ≡ last_place row (take at list) → end_of before < at + 1
walk_falls row n list at None h = omega arith
walk_falls row n list at (Some p) h =
    let f = found 0 row n (take at list) p (sym h) in
    let r = within list at f.i f.version f.is in
    omega (arith, f.at, r.1)

-- ---- one more at the end

pub last_push : (k row : ℕ) (xs : List Version) (x : Version) → last_from k row (xs ++ x ∷ []) ≡ (if nat_eq x.image.row row then Some (k + length xs) else last_from k row xs)
last_push k row [] x = grind arith
last_push k row (y ∷ xs) x =
    let far : k + 1 + length xs ≡ k + suc (length xs) = omega arith in
    let own : Option ℕ = if nat_eq y.image.row row then Some k else None in
    ap (λ (o : Option ℕ). or_else o own) (last_push (k + 1) row xs x) ∙ or_if (nat_eq x.image.row row) (k + 1 + length xs) (last_from (k + 1) row xs) own ∙ ap (λ (m : ℕ). if nat_eq x.image.row row then Some m else last_from k row (y ∷ xs)) far

at_push : {X : Type 0} (xs : List X) (x : X) (at : ℕ) (v : X) → slice_get (xs ++ x ∷ []) at ≡ Some v → ((slice_get xs at ≡ Some v) × (take at (xs ++ x ∷ []) ≡ take at xs)) ⊎ ((x ≡ v) × (take at (xs ++ x ∷ []) ≡ xs))
at_push [] x zero v h = inr (grind (arith, h), refl)
at_push [] x (suc at) v h = absurd (grind (arith, h))
at_push (y ∷ xs) x zero v h = inl (h, refl)
at_push (y ∷ xs) x (suc at) v h = elim (at_push xs x at v h) [
  | inl l ↦ inl (l.0, ap (λ (zs : List _). y ∷ zs) l.1)
  | inr r ↦ inr (r.0, ap (λ (zs : List _). y ∷ zs) r.1)
]

in_push : {X : Type 0} (xs : List X) (x : X) (at : ℕ) (v : X) → slice_get xs at ≡ Some v → (slice_get (xs ++ x ∷ []) at ≡ Some v) × (take at (xs ++ x ∷ []) ≡ take at xs)
in_push [] x at v h = absurd (grind (arith, h))
in_push (y ∷ xs) x zero v h = (h, refl)
in_push (y ∷ xs) x (suc at) v h = let rest = in_push xs x at v h in (rest.0, ap (λ (zs : List _). y ∷ zs) rest.1)

last_at : {X : Type 0} (xs : List X) (x : X) → slice_get (xs ++ x ∷ []) (length xs) ≡ Some x
last_at [] x = refl
last_at (y ∷ xs) x = last_at xs x

pub linked_push : (xs : List Version) (x : Version) → AreLinked xs → x.before ≡ last_place x.image.row xs → AreLinked (xs ++ x ∷ [])
linked_push xs x linked here at version is = elim (at_push xs x at version is) [
  | inl l ↦ linked at version l.0 ∙ ap (last_place version.image.row) (sym l.1)
  | inr r ↦ subst (λ (v : Version). v.before ≡ last_place v.image.row (take at (xs ++ x ∷ []))) r.0 (here ∙ ap (last_place x.image.row) (sym r.1))
]

pub linked_front : (xs : List Version) (x : Version) → AreLinked (xs ++ x ∷ []) → AreLinked xs
linked_front xs x linked at version is = let r = in_push xs x at version is in linked at version r.0 ∙ ap (last_place version.image.row) r.1

pub linked_last : (xs : List Version) (x : Version) → AreLinked (xs ++ x ∷ []) → x.before ≡ last_place x.image.row xs
linked_last xs x linked = linked (length xs) x (last_at xs x) ∙ ap (last_place x.image.row) (take-append_seam xs (x ∷ []))

pub ascends_push : (low : ℕ) (xs : List Version) (x : Version) → Ascends low (seen_of xs) → low ≤ x.number → AllByRecursion (λ (w : Written). w.number ≤ x.number) (seen_of xs) → Ascends low (seen_of (xs ++ x ∷ []))
ascends_push low [] x h l all = (l, tt)
ascends_push low (y ∷ xs) x h l all = (h.0, ascends_push y.number xs x h.1 all.0 all.1)

pub ascends_front : (low : ℕ) (xs : List Version) (x : Version) → Ascends low (seen_of (xs ++ x ∷ [])) → Ascends low (seen_of xs)
ascends_front low [] x h = tt
ascends_front low (y ∷ xs) x h = (h.0, ascends_front y.number xs x h.1)

pub ascends_to_last : (low : ℕ) (xs : List Version) (x : Version) → Ascends low (seen_of (xs ++ x ∷ [])) → low ≤ x.number
ascends_to_last low [] x h = h.0
ascends_to_last low (y ∷ xs) x h = let rest = ascends_to_last y.number xs x h.1 in omega (arith, h.0, rest)

-- ---- what stands up to a number

pub up_to_front : (n : ℕ) (xs : List Version) (x : Version) → n < x.number → up_to n (seen_of (xs ++ x ∷ [])) ≡ up_to n (seen_of xs)
up_to_front n [] x h = grind (arith, h)
up_to_front n (y ∷ xs) x h = ap (λ (zs : List Written). if is_up_to n (written_of y) then written_of y ∷ zs else zs) (up_to_front n xs x h)

pub up_to_all : (low n : ℕ) (xs : List Version) (x : Version) → Ascends low (seen_of (xs ++ x ∷ [])) → x.number ≤ n → up_to n (seen_of (xs ++ x ∷ [])) ≡ seen_of (xs ++ x ∷ [])
up_to_all low n [] x a h = grind (arith, h)
up_to_all low n (y ∷ xs) x a h =
    let first = ascends_to_last y.number xs x a.1 in
    let rest = up_to_all y.number n xs x a.1 h in
    let before : is_up_to n (written_of y) ≡ true = grind (arith, first, h) in
    ap (λ (zs : List Written). if is_up_to n (written_of y) then written_of y ∷ zs else zs) rest ∙ ap (λ (b : Bool). if b then written_of y ∷ seen_of (xs ++ x ∷ []) else seen_of (xs ++ x ∷ [])) before

-- ---- what is kept

pub is_at_nat : (a b : ℕ) → is_at (nat_cmp a) b ≡ nat_eq a b
is_at_nat a b = by (nat_eq a b) refl (nat_lt a b) refl
  where
    by : (e : Bool) → nat_eq a b ≡ e → (l : Bool) → nat_lt a b ≡ l → is_at (nat_cmp a) b ≡ nat_eq a b
    by true e l f = let same : a ≡ b = grind (arith, e) in ap is_eq (sym (nat_cmp_is a b Equal same)) ∙ sym e
    by false e true f = let less : a < b = grind (arith, f) in ap is_eq (sym (nat_cmp_is a b Less less)) ∙ sym e
    by false e false f = let more : b < a = grind (arith, e, f) in ap is_eq (sym (nat_cmp_is a b Greater more)) ∙ sym e

-- a version that comes last
pub kept_push : (xs : List Version) (x : Version) (last last' : BTreeMap ℕ ℕ) → IsKept xs last → x.before ≡ get nat_cmp last x.image.row → AllByRecursion (λ (w : Written). w.number ≤ x.number) (seen_of xs)
    → ((row : ℕ) → get nat_cmp last' row ≡ cond (is_at (nat_cmp x.image.row) row) (Some (length xs)) (get nat_cmp last row)) → IsKept (xs ++ x ∷ []) last'
kept_push xs x last last' kept before all updates = record {
  ascends = ascends_push 0 xs x kept.ascends (omega arith) all;
  linked = linked_push xs x kept.linked (before ∙ kept.lasts x.image.row);
  lasts = λ row. updates row ∙ ap (λ (b : Bool). cond b (Some (length xs)) (get nat_cmp last row)) (is_at_nat x.image.row row) ∙ ap (λ (o : Option ℕ). if nat_eq x.image.row row then Some (length xs) else o) (kept.lasts row) ∙ sym (last_push 0 row xs x ∙ ap (λ (m : ℕ). if nat_eq x.image.row row then Some m else last_from 0 row xs) (zero-add (length xs)));
}

-- and one that no longer does
pub kept_pop : (ys xs : List Version) (x : Version) (last last' : BTreeMap ℕ ℕ) → ys ≡ xs ++ x ∷ [] → IsKept ys last
    → ((row : ℕ) → get nat_cmp last' row ≡ cond (is_at (nat_cmp x.image.row) row) x.before (get nat_cmp last row)) → IsKept xs last'
kept_pop ys xs x last last' is kept updates =
    let linked : AreLinked (xs ++ x ∷ []) = subst AreLinked is kept.linked in
    record {
      ascends = ascends_front 0 xs x (subst (λ (zs : List Version). Ascends 0 (seen_of zs)) is kept.ascends);
      linked = linked_front xs x linked;
      lasts = λ row.
          let was : get nat_cmp last row ≡ (if nat_eq x.image.row row then Some (0 + length xs) else last_from 0 row xs) = kept.lasts row ∙ ap (last_place row) is ∙ last_push 0 row xs x in
          updates row ∙ ap (λ (b : Bool). cond b x.before (get nat_cmp last row)) (is_at_nat x.image.row row) ∙ by row (nat_eq x.image.row row) refl was (linked_last xs x linked);
    }
  where
    by : (row : ℕ) (b : Bool) → nat_eq x.image.row row ≡ b → get nat_cmp last row ≡ (if nat_eq x.image.row row then Some (0 + length xs) else last_from 0 row xs) → x.before ≡ last_place x.image.row xs → cond (nat_eq x.image.row row) x.before (get nat_cmp last row) ≡ last_place row xs
    by row true e was before =
        let same : x.image.row ≡ row = grind (arith, e) in
        ap (λ (b : Bool). cond b x.before (get nat_cmp last row)) e ∙ before ∙ ap (λ (r : ℕ). last_place r xs) same
    by row false e was before = ap (λ (b : Bool). cond b x.before (get nat_cmp last row)) e ∙ was ∙ ap (λ (b : Bool). if b then Some (0 + length xs) else last_from 0 row xs) e

-- the row of the last version stands in the map
pub has_last : (ys xs : List Version) (x : Version) (last : BTreeMap ℕ ℕ) → ys ≡ xs ++ x ∷ [] → IsKept ys last → get nat_cmp last x.image.row ≡ Some (0 + length xs)
has_last ys xs x last is kept = kept.lasts x.image.row ∙ ap (last_place x.image.row) is ∙ last_push 0 x.image.row xs x ∙ ap (λ (b : Bool). if b then Some (0 + length xs) else last_from 0 x.image.row xs) (same_row x.image.row)

-- a list with a last one
pub ends_in : {X : Type 0} (xs : List X) (i : ℕ) (v : X) → i + 1 ≡ length xs → slice_get xs i ≡ Some v → (front : List X) × (xs ≡ front ++ v ∷ [])
ends_in [] i v n h = absurd (grind (arith, h))
ends_in (x ∷ []) zero v n h = ([], grind (arith, h))
ends_in (x ∷ []) (suc i) v n h = absurd (grind (arith, h))
ends_in (x ∷ y ∷ zs) zero v n h = absurd (omega (arith, n))
ends_in (x ∷ y ∷ zs) (suc i) v n h = let rest = ends_in (y ∷ zs) i v (omega (arith, n)) h in (x ∷ rest.0, ap (λ (ws : List _). x ∷ ws) rest.1)

-- which is one
pub one_end : {X : Type 0} (front back : List X) (v w : X) → front ++ v ∷ [] ≡ back ++ w ∷ [] → v ≡ w
one_end front back v w h = let a = last_at front v in let b = last_at back w in let l : length front ≡ length back = omega (arith, ap length h, length-append front (v ∷ []), length-append back (w ∷ [])) in grind (arith, a, b, l, h)

-- what stands at a place, by index and by `get`
pub found_here : {X : Type 0} (xs : List X) (at : ℕ) (v w : X) → slice_get xs at ≡ Some v → w ≡ get_or xs at w → v ≡ w
found_here [] at v w h e = absurd (grind (arith, h))
found_here (x ∷ xs) zero v w h e = grind (arith, h, e)
found_here (x ∷ xs) (suc at) v w h e = found_here xs at v w h e

-- ---- the next row

less : (a b : ℕ) → a < b → nat_cmp a b ≡ Less
less a b h = sym (nat_cmp_is a b Less h)

pub is_less : (a b : ℕ) → nat_cmp a b ≡ Less → a < b
is_less a b h = by (nat_lt a b) refl
  where
    by : (l : Bool) → nat_lt a b ≡ l → a < b
    by true e = grind (arith, e)
    by false e = grind (arith, h, e)

not_greater : (a b : ℕ) → is_gt (nat_cmp a b) ≡ false → a ≤ b
not_greater a b h = by (nat_lt b a) refl
  where
    by : (l : Bool) → nat_lt b a ≡ l → a ≤ b
    by false e = grind (arith, e)
    by true e =
        let more : b < a = grind (arith, e) in
        let is : nat_cmp a b ≡ Greater = sym (nat_cmp_is a b Greater more) in
        absurd (grind (arith, h, is))

pub nowhere : (k row : ℕ) (xs : List Version) → last_from k row xs ≡ None → list_any (is_of_row row) (seen_of xs) ≡ false
nowhere k row [] h = refl
nowhere k row (x ∷ xs) h = by (last_from (k + 1) row xs) refl (nat_eq x.image.row row) refl (nowhere (k + 1) row xs)
  where
    by : (o : Option ℕ) → last_from (k + 1) row xs ≡ o → (b : Bool) → nat_eq x.image.row row ≡ b → (last_from (k + 1) row xs ≡ None → list_any (is_of_row row) (seen_of xs) ≡ false) → list_any (is_of_row row) (seen_of (x ∷ xs)) ≡ false
    by (Some p) e b f rest = absurd (grind (arith, h, e))
    by None e true f rest = absurd (grind (arith, h, e, f))
    by None e false f rest = let none = rest e in grind (arith, none, f)

pub somewhere : (k row p : ℕ) (xs : List Version) → last_from k row xs ≡ Some p → list_any (is_of_row row) (seen_of xs) ≡ true
somewhere k row p [] h = absurd (grind (arith, h))
somewhere k row p (x ∷ xs) h = by (last_from (k + 1) row xs) refl (nat_eq x.image.row row) refl (λ q. somewhere (k + 1) row q xs)
  where
    by : (o : Option ℕ) → last_from (k + 1) row xs ≡ o → (b : Bool) → nat_eq x.image.row row ≡ b → ((q : ℕ) → last_from (k + 1) row xs ≡ Some q → list_any (is_of_row row) (seen_of xs) ≡ true) → list_any (is_of_row row) (seen_of (x ∷ xs)) ≡ true
    by (Some q) e b f rest = let there = rest q e in grind (arith, there)
    by None e true f rest = grind (arith, f)
    by None e false f rest = absurd (grind (arith, h, e, f))

pub none_after : (list : List Version) (last : BTreeMap ℕ ℕ) (row : ℕ) → IsKept list last → ((other : ℕ) → nat_cmp row other ≡ Less → get nat_cmp last other ≡ None) → IsNextRow (seen_of list) row None
none_after list last row kept none other there = by (nat_lt row other) refl
  where
    by : (l : Bool) → nat_lt row other ≡ l → other ≤ row
    by false e = grind (arith, e)
    by true e =
        let beyond : row < other = grind (arith, e) in
        let gone = nowhere 0 other list (sym (kept.lasts other) ∙ none other (less row other beyond)) in
        absurd (grind (arith, gone, there))

pub some_after : (list : List Version) (last : BTreeMap ℕ ℕ) (row next at : ℕ) → IsKept list last → nat_cmp row next ≡ Less → get nat_cmp last next ≡ Some at
    → ((other : ℕ) → nat_cmp row other ≡ Less → IsSome (get nat_cmp last other) → is_gt (nat_cmp next other) ≡ false) → IsNextRow (seen_of list) row (Some next)
some_after list last row next at kept after here least = (
  (let l = is_less row next after in omega (arith, l)),
  somewhere 0 next at list (sym (kept.lasts next) ∙ here),
  (λ other there beyond. by other there beyond (last_place other list) refl),
)
  where
    by : (other : ℕ) → list_any (is_of_row other) (seen_of list) ≡ true → row + 1 ≤ other → (o : Option ℕ) → last_place other list ≡ o → next ≤ other
    by other there beyond None e = let gone = nowhere 0 other list e in absurd (grind (arith, gone, there))
    by other there beyond (Some p) e = not_greater next other (least other (less row other (omega (arith, beyond))) (rw (kept.lasts other ∙ e) (search rules)))
