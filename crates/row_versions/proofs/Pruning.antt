-- Versions that are marked, let go and linked anew.
use Rattle.std.proofs.Common.{◌≡◌, ◌∙◌, ℕ, zero, suc, ◌+◌, ◌<◌, ◌≤◌, Bool, true, false, ◌&&◌, ◌||◌, not, cond, nat_eq, nat_lt, if◌then◌else◌, List, [], ◌∷◌, ◌++◌, take, drop, set, length, get_or, Option, None, Some, length-take-le, refl, sym, ap, subst, true≢false, arith}
use Rattle.std.specs.Prelude.{is_some, nat_le}
use Rattle.std.specs.BTreeMap.{BTreeMap, get, is_at}
use Rattle.std.specs.List.{filter, list_any}
use Rattle.std.specs.Option.{option_map, unwrap_or}
use Rattle.std.specs.Ordering.{nat_cmp}
use Rattle.std.proofs.lemmas.List.{get_or_default, take_all, take_more}
use Rattle.row_versions.specs.declared.versions.Version.{Version}
use Rattle.row_versions.specs.History.{Written, is_of_row, seen_of, written_of}
use Rattle.row_versions.specs.Inside.Links.{ArePlacedBehind, AreLinked, Ascends, IsKept, IsLinkedAt, has_row, is_marked, is_needed, is_unplaced, last_place, marked, needed, places_below}
use Rattle.row_versions.proofs.Chains.{is_at_nat, last_push, linked_push, nowhere, same_row, somewhere, walk_falls}
use Rattle.row_versions.proofs.Needing.{needed_ascends}

-- ---- marks

-- those that are marked are those that are needed
pub marked_seen : (n : ℕ) (list : List Version) → seen_of (filter is_marked (marked n list)) ≡ seen_of (needed n list)
marked_seen n [] = refl
marked_seen n (v ∷ list) = by (is_needed n v list) (marked_seen n list)
  where
    by : (b : Bool) → seen_of (filter is_marked (marked n list)) ≡ seen_of (needed n list)
        → seen_of (if b then record v { is_needed = b } ∷ filter is_marked (marked n list) else filter is_marked (marked n list)) ≡ seen_of (if b then v ∷ needed n list else needed n list)
    by true rest = ap (λ (l : List Written). written_of v ∷ l) rest
    by false rest = rest

-- a mark is not seen
pub seen_marked : (n : ℕ) (list : List Version) → seen_of (marked n list) ≡ seen_of list
seen_marked n [] = refl
seen_marked n (v ∷ list) = ap (λ (l : List Written). written_of v ∷ l) (seen_marked n list)

pub length_marked : (n : ℕ) (list : List Version) → length (marked n list) ≡ length list
length_marked n [] = refl
length_marked n (v ∷ list) = ap suc (length_marked n list)

-- a turn of the loop, the last first
pub mark_more : (n : ℕ) (list : List Version) (at : ℕ) (v : Version) → at < length list → v ≡ get_or list at v
    → set (take (suc at) list ++ marked n (drop (suc at) list)) at (record v { is_needed = is_needed n v (drop (suc at) list) }) ≡ take at list ++ marked n (drop at list)
mark_more n [] at v within read = absurd (omega arith)
mark_more n (x ∷ xs) zero v within read = ap (λ (w : Version). record w { is_needed = is_needed n w xs } ∷ marked n xs) read
mark_more n (x ∷ xs) (suc at) v within read = ap (λ (l : List Version). x ∷ l) (mark_more n xs at v (omega arith) read)

-- what is read at that place there
pub mark_reads : (n : ℕ) (list : List Version) (at : ℕ) (d : Version) → at < length list → get_or (take (suc at) list ++ marked n (drop (suc at) list)) at d ≡ get_or list at d
mark_reads n [] at d within = absurd (omega arith)
mark_reads n (x ∷ xs) zero d within = refl
mark_reads n (x ∷ xs) (suc at) d within = mark_reads n xs at d (omega arith)

pub drop_next : (list : List Version) (at : ℕ) (v : Version) → at < length list → v ≡ get_or list at v → drop at list ≡ v ∷ drop (suc at) list
drop_next [] at v within read = absurd (omega arith)
drop_next (x ∷ xs) zero v within read = ap (λ (w : Version). w ∷ xs) (sym read)
drop_next (x ∷ xs) (suc at) v within read = drop_next xs at v (omega arith) read

-- the row of one of them stands among them
pub stands_in : (list : List Version) (at : ℕ) (v : Version) → at < length list → v ≡ get_or list at v → list_any (is_of_row v.image.row) (seen_of list) ≡ true
stands_in [] at v within read = absurd (omega arith)
stands_in (x ∷ xs) zero v within read = ap (λ (w : Version). nat_eq w.image.row v.image.row || list_any (is_of_row v.image.row) (seen_of xs)) (sym read) ∙ ap (λ (b : Bool). b || list_any (is_of_row v.image.row) (seen_of xs)) (same_row v.image.row)
stands_in (x ∷ xs) (suc at) v within read = let rest = stands_in xs at v (omega arith) read in grind (arith, rest)

-- a row of which a version up to the number was met is placed
module _ (behind n at : ℕ) (v : Version) (later : List Version) (last next : BTreeMap ℕ ℕ) (front : at < behind)
    (places : (row : ℕ) → get nat_cmp next row ≡ (if nat_le v.number n then cond (is_at (nat_cmp v.image.row) row) (option_map (λ _. at) (get nat_cmp last row)) (get nat_cmp last row) else get nat_cmp last row)) where
  unplaced : (o : Option ℕ) → is_unplaced behind (option_map (λ _. at) o) ≡ false
  unplaced None = refl
  unplaced (Some p) = grind (arith, front)

  pub met_more : (row : ℕ) → is_unplaced behind (get nat_cmp last row) ≡ not (has_row row n later) → is_unplaced behind (get nat_cmp next row) ≡ not (has_row row n (v ∷ later))
  met_more row met = ap (is_unplaced behind) (places row) ∙ by (nat_le v.number n) refl (nat_eq v.image.row row) refl
    where
      by : (u : Bool) → nat_le v.number n ≡ u → (r : Bool) → nat_eq v.image.row row ≡ r
          → is_unplaced behind (if nat_le v.number n then cond (is_at (nat_cmp v.image.row) row) (option_map (λ _. at) (get nat_cmp last row)) (get nat_cmp last row) else get nat_cmp last row) ≡ not (has_row row n (v ∷ later))
      by false u r e = ap (λ (b : Bool). is_unplaced behind (if b then cond (is_at (nat_cmp v.image.row) row) (option_map (λ _. at) (get nat_cmp last row)) (get nat_cmp last row) else get nat_cmp last row)) u ∙ met ∙ grind (arith, u)
      by true u true e =
          let here : is_at (nat_cmp v.image.row) row ≡ true = is_at_nat v.image.row row ∙ e in
          let none = unplaced (get nat_cmp last row) in
          ap (λ (b : Bool). is_unplaced behind (if b then cond (is_at (nat_cmp v.image.row) row) (option_map (λ _. at) (get nat_cmp last row)) (get nat_cmp last row) else get nat_cmp last row)) u
          ∙ ap (λ (b : Bool). is_unplaced behind (cond b (option_map (λ _. at) (get nat_cmp last row)) (get nat_cmp last row))) here ∙ none ∙ grind (arith, u, e)
      by true u false e =
          let apart : is_at (nat_cmp v.image.row) row ≡ false = is_at_nat v.image.row row ∙ e in
          ap (λ (b : Bool). is_unplaced behind (if b then cond (is_at (nat_cmp v.image.row) row) (option_map (λ _. at) (get nat_cmp last row)) (get nat_cmp last row) else get nat_cmp last row)) u
          ∙ ap (λ (b : Bool). is_unplaced behind (cond b (option_map (λ _. at) (get nat_cmp last row)) (get nat_cmp last row))) apart ∙ met ∙ grind (arith, u, e)

  -- no row comes or goes
  pub rows_more : (row : ℕ) → is_some (get nat_cmp next row) ≡ is_some (get nat_cmp last row)
  rows_more row = ap is_some (places row) ∙ by (nat_le v.number n) (is_at (nat_cmp v.image.row) row) (get nat_cmp last row)
    where
      by : (u b : Bool) (o : Option ℕ) → is_some (if u then cond b (option_map (λ _. at) o) o else o) ≡ is_some o
      by false b o = refl
      by true false o = refl
      by true true None = refl
      by true true (Some p) = refl

-- ---- rows placed behind all

-- one more row
pub place_more : (behind row : ℕ) (front : List Version) (v : Version) (first last next : BTreeMap ℕ ℕ)
    → get nat_cmp last row ≡ (if list_any (is_of_row row) (seen_of front) then option_map (λ _. behind) (get nat_cmp first row) else get nat_cmp first row)
    → get nat_cmp next row ≡ cond (is_at (nat_cmp v.image.row) row) (option_map (λ _. behind) (get nat_cmp last row)) (get nat_cmp last row)
    → get nat_cmp next row ≡ (if list_any (is_of_row row) (seen_of (front ++ v ∷ [])) then option_map (λ _. behind) (get nat_cmp first row) else get nat_cmp first row)
place_more behind row front v first last next was now =
    now ∙ ap (λ (b : Bool). cond b (option_map (λ _. behind) (get nat_cmp last row)) (get nat_cmp last row)) (is_at_nat v.image.row row)
    ∙ ap (λ (o : Option ℕ). cond (nat_eq v.image.row row) (option_map (λ _. behind) o) o) was ∙ by (list_any (is_of_row row) (seen_of front)) (nat_eq v.image.row row) (get nat_cmp first row) ∙ ap (λ (b : Bool). if b then option_map (λ _. behind) (get nat_cmp first row) else get nat_cmp first row) (sym (any_last front))
  where
    any_last : (xs : List Version) → list_any (is_of_row row) (seen_of (xs ++ v ∷ [])) ≡ (list_any (is_of_row row) (seen_of xs) || nat_eq v.image.row row)
    any_last [] = grind arith
    any_last (x ∷ xs) = let rest = any_last xs in grind (arith, rest)

    twice : (o : Option ℕ) → option_map (λ _. behind) (option_map (λ _. behind) o) ≡ option_map (λ _. behind) o
    twice None = refl
    twice (Some p) = refl

    by : (a b : Bool) (o : Option ℕ) → cond b (option_map (λ _. behind) (if a then option_map (λ _. behind) o else o)) (if a then option_map (λ _. behind) o else o) ≡ (if a || b then option_map (λ _. behind) o else o)
    by true true o = twice o
    by true false o = refl
    by false true o = refl
    by false false o = refl

-- rows that have versions have a place, so they are placed behind all
pub kept_behind : (behind : ℕ) (list : List Version) (last next : BTreeMap ℕ ℕ) → IsKept list last
    → ((row : ℕ) → get nat_cmp next row ≡ (if list_any (is_of_row row) (seen_of list) then option_map (λ _. behind) (get nat_cmp last row) else get nat_cmp last row)) → ArePlacedBehind behind list next
kept_behind behind list last next kept places row there = places row ∙ ap (λ (b : Bool). if b then option_map (λ _. behind) (get nat_cmp last row) else get nat_cmp last row) there ∙ by (last_place row list) refl
  where
    by : (o : Option ℕ) → last_place row list ≡ o → option_map (λ _. behind) (get nat_cmp last row) ≡ Some behind
    by (Some p) e = ap (option_map (λ _. behind)) (kept.lasts row ∙ e)
    by None e = absurd (let gone = nowhere 0 row list e in grind (arith, gone, there))

pub some_behind : (behind : ℕ) (list : List Version) (last next : BTreeMap ℕ ℕ) → ((row : ℕ) → list_any (is_of_row row) (seen_of list) ≡ true → is_some (get nat_cmp last row) ≡ true)
    → ((row : ℕ) → get nat_cmp next row ≡ (if list_any (is_of_row row) (seen_of list) then option_map (λ _. behind) (get nat_cmp last row) else get nat_cmp last row)) → ArePlacedBehind behind list next
some_behind behind list last next some places row there = places row ∙ ap (λ (b : Bool). if b then option_map (λ _. behind) (get nat_cmp last row) else get nat_cmp last row) there ∙ by (get nat_cmp last row) refl
  where
    by : (o : Option ℕ) → get nat_cmp last row ≡ o → option_map (λ _. behind) (get nat_cmp last row) ≡ Some behind
    by (Some p) e = ap (option_map (λ _. behind)) e
    by None e = absurd (let there_is = some row there in grind (arith, there_is, e))

-- ---- links

pub before_is : (behind row : ℕ) (list : List Version) (at : ℕ) (o : Option ℕ) → at ≤ behind → o ≡ Some (unwrap_or (last_place row (take at list)) behind) → places_below behind o ≡ last_place row (take at list)
before_is behind row list at o le is = ap (places_below behind) is ∙ by (last_place row (take at list)) refl
  where
    by : (p : Option ℕ) → last_place row (take at list) ≡ p → places_below behind (Some (unwrap_or p behind)) ≡ p
    by None e = grind arith
    by (Some p) e =
        let falls : p + 1 < at + 1 = walk_falls row 0 list at (Some p) (sym e) in
        let front : p < behind = omega (arith, falls, le) in
        grind (arith, front)

-- one more version is linked
module _ (behind at : ℕ) (old new : List Version) (before : Option ℕ) (v : Version) (within : at < length old) (linked_at : IsLinkedAt at before v old new) where
  abbrev here : Version
  here = get_or new at v

  grown : take (at + 1) new ≡ take at old ++ here ∷ []
  grown = take_more new at v (omega (arith, linked_at.len, within)) ∙ ap (λ (l : List Version). l ++ here ∷ []) linked_at.front

  pub linked_more : here.image.row ≡ v.image.row → before ≡ last_place v.image.row (take at old) → AreLinked (take at old) → AreLinked (take (at + 1) new)
  linked_more same is linked = subst AreLinked (sym grown) (linked_push (take at old) here linked (linked_at.linked ∙ is ∙ ap (λ (row : ℕ). last_place row (take at old)) (sym same)))

  pub placed_more : (row : ℕ) (last next : Option ℕ) → here.image.row ≡ v.image.row → last ≡ Some (unwrap_or (last_place row (take at old)) behind) → next ≡ cond (is_at (nat_cmp v.image.row) row) (option_map (λ _. at) last) last
      → next ≡ Some (unwrap_or (last_place row (take (at + 1) new)) behind)
  placed_more row last next same was now =
      now ∙ ap (λ (b : Bool). cond b (option_map (λ _. at) last) last) (is_at_nat v.image.row row) ∙ ap (λ (o : Option ℕ). cond (nat_eq v.image.row row) (option_map (λ _. at) o) o) was
      ∙ by (nat_eq v.image.row row) (last_place row (take at old))
      ∙ ap (λ (o : Option ℕ). Some (unwrap_or o behind)) (sym (ap (last_place row) grown ∙ last_push 0 row (take at old) here ∙ ap (λ (r : ℕ). if nat_eq r row then Some (0 + length (take at old)) else last_place row (take at old)) same ∙ ap (λ (k : ℕ). if nat_eq v.image.row row then Some k else last_place row (take at old)) (let taken = length-take-le at old (omega arith) in omega (arith, taken))))
    where
      by : (b : Bool) (o : Option ℕ) → cond b (option_map (λ _. at) (Some (unwrap_or o behind))) (Some (unwrap_or o behind)) ≡ Some (unwrap_or (if b then Some at else o) behind)
      by true o = refl
      by false o = refl

-- at the end each row that has versions has the place of its last
pub placed_last : (behind row : ℕ) (list : List Version) (o : Option ℕ) → list_any (is_of_row row) (seen_of list) ≡ true → o ≡ Some (unwrap_or (last_place row list) behind) → o ≡ last_place row list
placed_last behind row list o there is = is ∙ by (last_place row list) refl
  where
    by : (p : Option ℕ) → last_place row list ≡ p → Some (unwrap_or p behind) ≡ p
    by (Some p) e = refl
    by None e = absurd (let gone = nowhere 0 row list e in grind (arith, gone, there))

-- a row without versions has no last place
pub no_last : (row : ℕ) (list : List Version) → list_any (is_of_row row) (seen_of list) ≡ false → last_place row list ≡ None
no_last row list none = by (last_place row list) refl
  where
    by : (o : Option ℕ) → last_place row list ≡ o → last_place row list ≡ None
    by None e = e
    by (Some p) e = absurd (let there = somewhere 0 row p list e in grind (arith, there, none))

-- ---- all of it

or_kept : (r a b : Bool) → (a ≡ true → b ≡ true) → (r || a) ≡ true → (r || b) ≡ true
or_kept true a b kept is = refl
or_kept false a b kept is = kept is

or_second : (r b : Bool) → b ≡ true → (r || b) ≡ true
or_second true b is = refl
or_second false b is = is

any_kept : (row : ℕ) (list : List Version) → list_any (is_of_row row) (seen_of (filter is_marked list)) ≡ true → list_any (is_of_row row) (seen_of list) ≡ true
any_kept row [] there = there
any_kept row (v ∷ list) there = by v.is_needed (any_kept row list) there
  where
    by : (b : Bool) → (list_any (is_of_row row) (seen_of (filter is_marked list)) ≡ true → list_any (is_of_row row) (seen_of list) ≡ true)
        → list_any (is_of_row row) (seen_of (cond b (v ∷ filter is_marked list) (filter is_marked list))) ≡ true → (nat_eq v.image.row row || list_any (is_of_row row) (seen_of list)) ≡ true
    by true kept is = or_kept (nat_eq v.image.row row) (list_any (is_of_row row) (seen_of (filter is_marked list))) (list_any (is_of_row row) (seen_of list)) kept is
    by false kept is = or_second (nat_eq v.image.row row) (list_any (is_of_row row) (seen_of list)) (kept is)

pub behind_kept : (behind : ℕ) (list : List Version) (last : BTreeMap ℕ ℕ) → ArePlacedBehind behind list last → ArePlacedBehind behind (filter is_marked list) last
behind_kept behind list last placed row there = placed row (any_kept row list there)

-- what is left is kept as it is to be
pub kept_pruned : (n behind : ℕ) (list : List Version) (first : BTreeMap ℕ ℕ) (new : List Version) (second last next : BTreeMap ℕ ℕ) → IsKept list first
    → seen_of new ≡ seen_of (needed n list) → AreLinked new → length new ≤ behind
    → ((row : ℕ) → list_any (is_of_row row) (seen_of list) ≡ true → get nat_cmp second row ≡ Some behind)
    → ((row : ℕ) → list_any (is_of_row row) (seen_of list) ≡ false → is_some (get nat_cmp second row) ≡ false)
    → ((row : ℕ) → list_any (is_of_row row) (seen_of new) ≡ true → get nat_cmp last row ≡ last_place row new)
    → ((row : ℕ) → list_any (is_of_row row) (seen_of new) ≡ false → get nat_cmp last row ≡ get nat_cmp second row)
    → ((row : ℕ) → get nat_cmp next row ≡ places_below behind (get nat_cmp last row)) → IsKept new next
kept_pruned n behind list first new second last next kept seen linked short placed others here elsewhere ends = record {
  ascends = subst (Ascends 0) (sym seen) (needed_ascends n 0 list kept.ascends);
  linked = linked;
  lasts = λ row. ends row ∙ by row (list_any (is_of_row row) (seen_of new)) refl;
}
  where
    below : (row : ℕ) (o : Option ℕ) → last_place row new ≡ o → places_below behind o ≡ o
    below row None e = refl
    below row (Some p) e =
        let falls : p + 1 < length new + 1 = walk_falls row 0 new (length new) (Some p) ((sym e ∙ ap (last_place row) (sym (take_all (length new) new (omega arith))))) in
        let front : p < behind = omega (arith, falls, short) in
        grind (arith, front)

    by : (row : ℕ) (b : Bool) → list_any (is_of_row row) (seen_of new) ≡ b → places_below behind (get nat_cmp last row) ≡ last_place row new
    by row true is = ap (places_below behind) (here row is) ∙ below row (last_place row new) refl
    by row false is = ap (places_below behind) (elsewhere row is) ∙ by_row (list_any (is_of_row row) (seen_of list)) refl ∙ sym (no_last row new is)
      where
        by_row : (b : Bool) → list_any (is_of_row row) (seen_of list) ≡ b → places_below behind (get nat_cmp second row) ≡ None
        by_row true there = ap (places_below behind) (placed row there) ∙ grind arith
        by_row false none = by_some (get nat_cmp second row) (others row none)
          where
            by_some : (o : Option ℕ) → is_some o ≡ false → places_below behind o ≡ None
            by_some None e = refl
            by_some (Some p) e = absurd (true≢false e)

-- ---- a version that is written

seen_set : (list : List Version) (at : ℕ) (v : Version) → at < length list → written_of v ≡ written_of (get_or list at v) → seen_of (set list at v) ≡ seen_of list
seen_set [] at v within same = absurd (omega arith)
seen_set (x ∷ xs) zero v within same = ap (λ (w : Written). w ∷ seen_of xs) same
seen_set (x ∷ xs) (suc at) v within same = ap (λ (l : List Written). written_of x ∷ l) (seen_set xs at v (omega arith) same)

set_read : (list : List Version) (at : ℕ) (v d : Version) → at < length list → get_or (set list at v) at d ≡ v
set_read [] at v d within = absurd (omega arith)
set_read (x ∷ xs) zero v d within = refl
set_read (x ∷ xs) (suc at) v d within = set_read xs at v d (omega arith)

set_front : (list : List Version) (at : ℕ) (v : Version) → take at (set list at v) ≡ take at list
set_front [] at v = refl
set_front (x ∷ xs) zero v = refl
set_front (x ∷ xs) (suc at) v = ap (λ (l : List Version). x ∷ l) (set_front xs at v)

set_len : (list : List Version) (at : ℕ) (v : Version) → length (set list at v) ≡ length list
set_len [] at v = refl
set_len (x ∷ xs) zero v = refl
set_len (x ∷ xs) (suc at) v = ap suc (set_len xs at v)

-- the one at a place names another before it
pub link_at : (list : List Version) (at : ℕ) (before : Option ℕ) (d v : Version) (jump depth : ℕ) → at < length list → v ≡ get_or list at v
    → IsLinkedAt at before d list (set list at (record v { before = before; jump = jump; depth = depth }))
link_at list at before d v jump depth within read =
    let new : Version = record v { before = before; jump = jump; depth = depth } in
    record {
      linked = ap (λ (w : Version). w.before) (set_read list at new d within);
      seen = seen_set list at new within (ap written_of (read ∙ default_same));
      front = set_front list at new;
      len = set_len list at new;
    }
  where
    default_same : get_or list at v ≡ get_or list at (record v { before = before; jump = jump; depth = depth })
    default_same = get_or_default list at v (record v { before = before; jump = jump; depth = depth }) within

-- what stands at a place is of the row that it was of
pub same_row_at : (old new : List Version) (at : ℕ) (v : Version) → at < length old → v ≡ get_or old at v → seen_of new ≡ seen_of old → (get_or new at v).image.row ≡ v.image.row
same_row_at old new at v within read seen = row_read new at v ∙ ap (λ (l : List Written). (get_or l at (written_of v)).image.row) seen ∙ sym (row_read old at v) ∙ ap (λ (w : Version). w.image.row) (sym read)
  where
    row_read : (list : List Version) (at : ℕ) (d : Version) → (get_or list at d).image.row ≡ (get_or (seen_of list) at (written_of d)).image.row
    row_read [] at d = refl
    row_read (x ∷ xs) zero d = refl
    row_read (x ∷ xs) (suc at) d = row_read xs at d

-- a row that has no version keeps its place
pub row_apart : (row other at : ℕ) (last next : Option ℕ) (list : List Written) → list_any (is_of_row row) list ≡ true → list_any (is_of_row other) list ≡ false → next ≡ cond (is_at (nat_cmp row) other) (option_map (λ _. at) last) last → next ≡ last
row_apart row other at last next list there none is = is ∙ ap (λ (b : Bool). cond b (option_map (λ _. at) last) last) (is_at_nat row other) ∙ by (nat_eq row other) refl
  where
    by : (b : Bool) → nat_eq row other ≡ b → cond b (option_map (λ _. at) last) last ≡ last
    by false e = refl
    by true e = absurd (let same : row ≡ other = grind (arith, e) in true≢false (sym there ∙ ap (λ (r : ℕ). list_any (is_of_row r) list) same ∙ none))
