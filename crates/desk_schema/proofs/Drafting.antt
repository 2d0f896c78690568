-- A draft with one more line.
use Rattle.std.proofs.Common.{◌≡◌, ℕ, zero, suc, ◌<◌, ◌≤◌, Bool, List, [], ◌∷◌, ◌++◌, length, map, Some, None, cond, eqb, true, false, refl, sym, ◌∙◌, ap, subst, arith, ◌↔◌, ◌⊎◌, inl, inr, ⊎_elim, IfSome}
use Rattle.std.specs.Bool.{Decides}
use Rattle.std.specs.Cmp.{Equal-is}
use Rattle.std.specs.Cmp.Lexicographic.{slice_cmp}
use Rattle.std.specs.Option.{unwrap_or}
use Rattle.std.specs.Prelude.{◌==◌, if◌then◌else◌}
use Rattle.std.specs.List.{AllByRecursion, AllZip, Contains, cons_option, filter_map, slice_get}
use Rattle.std.specs.Ordering.{nat_cmp, int_cmp, is_eq}
use Rattle.std.proofs.lemmas.Bool.{eqb-true, eq-eqb, false≢true, and_parts, and_from, false_from_ne_true}
use Rattle.std.proofs.lemmas.Cmp.{tied_itself, int_cmp_total, nat_list_cmp_total}
use Rattle.std.proofs.lemmas.List.{append-nil, map-append}
use Rattle.std.proofs.lemmas.List.Elements.{filter_map-append, Contains-push, Contains-push_cases, Contains-append_left}
use Rattle.std.proofs.lemmas.Map.Lookups.{exact_signed, exact_bytes}
use Rattle.desk_values.specs.Comparison.{text_order, same_key, without_trailing_spaces}
use Rattle.desk_values.specs.declared.value.Value.{Value}
use Rattle.desk_values.specs.declared.value.Value.TheVariants as value
use Rattle.desk_values.specs.declared.value.Image.{Image}
use Rattle.desk_schema.specs.declared.line.StartLine.{StartLine}
use Rattle.desk_schema.specs.declared.line.StartLine.TheVariants.{Head, Level as LevelLine, Row as RowLine, NextRow}
use Rattle.desk_schema.specs.declared.schema.Kind.{Kind}
use Rattle.desk_schema.specs.declared.schema.Kind.TheVariants.{Int, Text, Seq}
use Rattle.desk_schema.specs.declared.schema.Table.{Table}
use Rattle.desk_schema.specs.declared.schema.Column.{Column}
use Rattle.desk_schema.specs.Schema.{columns_of, IsVersion}
use Rattle.desk_schema.specs.Line.{with_name, with_number}
use Rattle.desk_schema.specs.Start.{StartView}
use Rattle.desk_schema.specs.State.{State, nothing, added}
use Rattle.desk_schema.specs.Rules.{MayFollow, IsLevel, IsKind, IsAllowed, IsNewKey, counted, key_of, key_in, keys_of, RowFits}
use Rattle.desk_schema.specs.Inside.Keys.{IsWith}
use Rattle.desk_schema.specs.Sound.{IsSoundTable}
use Rattle.desk_schema.specs.Inside.Sound.{IsSoundState}
use Rattle.desk_schema.specs.Draft.{IsReached, place_of_last, with_version}
use Rattle.desk_schema.specs.declared.rules.Last.{Last}
use Rattle.desk_schema.specs.declared.rules.Last.TheVariants.{Level}
use Rattle.desk_schema.specs.Inside.Draft.{AreKeys, IsDraft}
use Rattle.desk_schema.specs.File.{IsStart}
use Rattle.desk_schema.proofs.Files.{reached_more, reached_with, sound_reached, start_at}
use Rattle.desk_schema.proofs.Members.{Contains-none, Contains-here, Contains-there, Contains-cases}
use Rattle.desk_schema.proofs.Steps.{known_kind, sound_nothing, sound_added}

-- ---- keys at a level

-- keys that are the same count as one
pub same_counts : (level : ℕ) (a b : Value) → same_key level a b ≡ true → counted level a ≡ counted level b
unfolding text_order
same_counts level (value.Int m) (value.Int n) same = ap value.Int (exact_signed m n ((Equal-is (int_cmp m n)).0 same))
same_counts level (value.Text xs) (value.Text ys) same = elim (level == 2) as (λ b. is_eq (if b then slice_cmp nat_cmp (without_trailing_spaces xs) (without_trailing_spaces ys) else slice_cmp nat_cmp xs ys) ≡ true
    → value.Text (if b then without_trailing_spaces xs else xs) ≡ value.Text (if b then without_trailing_spaces ys else ys)) [
      | true ↦ λ tie. ap value.Text (exact_bytes (without_trailing_spaces xs) (without_trailing_spaces ys) ((Equal-is (slice_cmp nat_cmp (without_trailing_spaces xs) (without_trailing_spaces ys))).0 tie))
      | false ↦ λ tie. ap value.Text (exact_bytes xs ys ((Equal-is (slice_cmp nat_cmp xs ys)).0 tie))
    ] same
same_counts level (value.Row m) (value.Row n) same = ap value.Row (eqb-true m n same)
same_counts level (value.Draw p m) (value.Draw q n) same =
    let both = and_parts (eqb p q) (eqb m n) same in
    let first : p ≡ q = eqb-true p q both.0 in
    let second : m ≡ n = eqb-true m n both.1 in cc
same_counts level a b same = absurd (false≢true same)

text_in : Value → List ℕ
text_in (value.Text xs) = xs
text_in other = []

text_ties : (xs ys : List ℕ) → xs ≡ ys → is_eq (slice_cmp nat_cmp xs ys) ≡ true
text_ties xs ys is = subst (λ (zs : List ℕ). is_eq (slice_cmp nat_cmp xs zs) ≡ true) is ((Equal-is (slice_cmp nat_cmp xs xs)).1 (tied_itself nat_list_cmp_total xs))

-- a key that is there and counts as another is the same
pub counts_same : (level : ℕ) (a b : Value) → (b ≡ value.Null → ⊥) → counted level a ≡ counted level b → same_key level a b ≡ true
unfolding text_order text_in
counts_same level value.Null value.Null there is = absurd (there refl)
counts_same level (value.Int m) (value.Int n) there is = let same : m ≡ n = cc in subst (λ k. is_eq (int_cmp m k) ≡ true) same ((Equal-is (int_cmp m m)).1 (tied_itself int_cmp_total m))
counts_same level (value.Text xs) (value.Text ys) there is = elim (level == 2) as (λ b. value.Text (if b then without_trailing_spaces xs else xs) ≡ value.Text (if b then without_trailing_spaces ys else ys)
    → is_eq (if b then slice_cmp nat_cmp (without_trailing_spaces xs) (without_trailing_spaces ys) else slice_cmp nat_cmp xs ys) ≡ true) [
      | true ↦ λ same. text_ties (without_trailing_spaces xs) (without_trailing_spaces ys) (ap text_in same)
      | false ↦ λ same. text_ties xs ys (ap text_in same)
    ] is
counts_same level (value.Row m) (value.Row n) there is = let same : m ≡ n = cc in eq-eqb m n same
counts_same level (value.Draw p m) (value.Draw q n) there is =
    let first : p ≡ q = cc in
    let second : m ≡ n = cc in
    and_from (eqb p q) (eqb m n) (eq-eqb p q first) (eq-eqb m n second)
counts_same level a b there is = absurd cc

-- at level 1 all of a key counts
pub counted_as_is : (key : Value) → counted 1 key ≡ key
counted_as_is value.Null = refl
counted_as_is (value.Int n) = refl
counted_as_is (value.Text text) = refl
counted_as_is (value.Row n) = refl
counted_as_is (value.Draw sequence n) = refl

key_new : (level : ℕ) (keys : List Value) (key : Value) → (Contains (map (counted level) keys) (counted level key) → ⊥) → IsNewKey level keys key
key_new level [] key fresh = tt
key_new level (first ∷ keys) key fresh = (
  false_from_ne_true (same_key level first key) (λ same. let P : Value → Type 0 = λ v. Contains (map (counted level) (first ∷ keys)) v in
      fresh (subst P (same_counts level first key same) (Contains-here (counted level first) (map (counted level) keys)))),
  key_new level keys key (λ there. fresh (Contains-there (counted level first) (map (counted level) keys) (counted level key) there)),
)

key_taken : (level : ℕ) (keys : List Value) (key : Value) → (key ≡ value.Null → ⊥) → Contains (map (counted level) keys) (counted level key) → IsNewKey level keys key → ⊥
key_taken level [] key some there new = Contains-none (counted level key) there
key_taken level (first ∷ keys) key some there new = ⊎_elim
    (λ is. false≢true (sym new.0 ∙ counts_same level first key some is))
    (λ later. key_taken level keys key some later new.1)
    (Contains-cases (counted level first) (map (counted level) keys) (counted level key) there)

-- the first value of a row is there, since the first column is not null
key_there : (nexts : List ℕ) (columns : List Column) (values : List Value) → 1 ≤ length columns → IfSome (slice_get columns 0) (λ column. column.not_null ≡ true)
    → AllZip (IsAllowed nexts) columns values → key_of values ≡ value.Null → ⊥
key_there nexts [] values some key allowed none = omega arith
key_there nexts (column ∷ columns) [] some key allowed none = absurd allowed
key_there nexts (column ∷ columns) (first ∷ values) some key allowed none =
    let P : Value → Type 0 = IsAllowed nexts column in
    let nulls : column.not_null ≡ false = subst P none allowed.0 in
    false≢true (sym nulls ∙ key)

row_has_key : (sequences : ℕ) (nexts : List ℕ) (tables : List Table) (table : ℕ) (values : List Value) → AllByRecursion (IsSoundTable sequences) tables
    → AllByRecursion (λ table. 1 ≤ length table.columns) tables → table < length tables → AllZip (IsAllowed nexts) (columns_of tables table) values → key_of values ≡ value.Null → ⊥
row_has_key sequences nexts [] table values sound whole there allowed = absurd (omega arith)
row_has_key sequences nexts (first ∷ tables) zero values sound whole there allowed = key_there nexts first.columns values whole.0 sound.0.key allowed
row_has_key sequences nexts (first ∷ tables) (suc table) values sound whole there allowed = row_has_key sequences nexts tables table values sound.1 whole.1 (omega arith) allowed

-- ---- the keys of a draft

module _ {view state : State} {keys : List (ℕ × Value)} (shown : view ≡ state) (draft : IsDraft view keys) where
  now : IsDraft state keys
  now = let P : State → Type 0 = λ s. IsDraft s keys in subst P shown draft

  -- a row that fits may follow just where what counts of its key is not in the set
  pub row_may : (row table : ℕ) (values : List Value) → RowFits state.last state.start.schema.tables state.start.next_values state.start.rows row table values
      → (Contains keys (table, counted state.start.schema.level (key_of values)) → ⊥) → MayFollow state (RowLine row table values)
  row_may row table values fits fresh =
      let level = state.start.schema.level in
      record { fits = fits; key = key_new level (keys_of table state.start.rows) (key_of values) (λ there. fresh ((now.are_keys table (counted level (key_of values))).1 there)) }

  pub row_may_not : (row table : ℕ) (values : List Value) → Contains keys (table, counted state.start.schema.level (key_of values)) → MayFollow state (RowLine row table values) → ⊥
  row_may_not row table values there rule =
      let fits = rule.fits in
      let low = fits.order.from in
      let sound = now.sound in
      let start = state.start in
      let level = start.schema.level in
      key_taken level (keys_of table start.rows) (key_of values)
      (row_has_key (length start.schema.sequences) start.next_values start.schema.tables table values sound.sound.is_schema.tables_sound (sound.order.whole (λ five. omega arith)) fits.is_table fits.allowed)
      ((now.are_keys table (counted level (key_of values))).0 there) rule.key

  -- a draft with one more line that may follow
  pub grown : {more : State} {new_keys : List (ℕ × Value)} (line : StartLine) → MayFollow state line → more ≡ added state line → AreKeys more.start.schema.level new_keys more.start.rows → IsDraft more new_keys
  grown {more} {new_keys} line rule is are_keys =
      let P : State → Type 0 = IsReached in
      let Q : State → Type 0 = IsSoundState in
      record { reached = subst P (sym is) (reached_more state line now.reached rule); sound = subst Q (sym is) (sound_added state line now.sound rule); are_keys = are_keys }

  -- a draft with another version
  pub versioned : {more : State} (version : ℕ) → IsVersion version → 1 ≤ state.last → more ≡ with_version version state → IsDraft more keys
  versioned {more} version is late same =
      let reached = reached_with version state is late now.reached in
      let P : State → Type 0 = λ s. IsDraft s keys in
      subst P (sym same) (record { reached = reached; sound = sound_reached (with_version version state) reached; are_keys = now.are_keys })

  -- the start that a draft ends with
  pub finished : {start : StartView} (next : ℕ) → MayFollow state (NextRow next) → start ≡ (added state (NextRow next)).start → IsStart start
  finished next rule is =
      let P : StartView → Type 0 = IsStart in
      subst P (sym is) (start_at (added state (NextRow next)) (reached_more state (NextRow next) now.reached rule) refl)

  -- a kind that may be declared comes back by the name of its sequence
  pub kind_back : (kind : Kind) → IsKind state.start.schema.sequences (with_name state.start.schema.sequences kind)
      → with_number state.start.schema.sequences (with_name state.start.schema.sequences kind) ≡ kind
  kind_back (Int low high) is = refl
  kind_back (Text most) is = refl
  kind_back (Seq sequence) is =
      let sound = now.sound.sound.sequences in
      ap (λ o. Seq (unwrap_or o 0)) (sound.distinct sequence (known_kind state.start.schema.sequences (Seq sequence) sound.are_names is))

-- a draft has its first two lines
pub draft_begun : (last : Last) → 1 ≤ place_of_last last
draft_begun Level = omega arith
draft_begun _ = omega arith

-- before the first line
nothing_drafted : IsDraft nothing []
nothing_drafted = record {
  reached = record { lines = []; are_lines = tt; leads = refl };
  sound = sound_nothing;
  are_keys = λ table value. (λ there. absurd (Contains-none (table, value) there), λ there. absurd (Contains-none value there));
}

pub opened : {more : State} {keys : List (ℕ × Value)} (level : ℕ) → IsLevel level → more ≡ added (added nothing (Head 1)) (LevelLine level) → keys ≡ [] → IsDraft more keys
opened {more} {keys} level is same none =
    let P : List (ℕ × Value) → Type 0 = λ ks. IsDraft more ks in
    let headed : IsDraft (added nothing (Head 1)) [] = grown refl nothing_drafted (Head 1) (refl, record { least = omega arith; most = omega arith }) refl nothing_drafted.are_keys in
    subst P (sym none) (let Q : State → Type 0 = λ s. IsDraft s [] in subst Q (sym same) (grown refl headed (LevelLine level) (refl, is) refl nothing_drafted.are_keys))

-- what counts of the keys of the rows with one more
key_with : (level : ℕ) (rows : List Image) (table other : ℕ) (values : List Value) (value : Value) (same : Bool) → Decides same (table ≡ other)
    → Contains (map (counted level) (keys_of other rows) ++ map (counted level) (cons_option (cond same (Some (key_of values)) None) [])) value
    ↔ (((other ≡ table) × (value ≡ counted level (key_of values))) ⊎ Contains (map (counted level) (keys_of other rows)) value)
key_with level rows table other values value true decides =
    let keys = map (counted level) (keys_of other rows) in
    let key = counted level (key_of values) in (
      λ there. ⊎_elim (λ front. inr front) (λ is. inl (sym (decides.0 refl), sym is)) (Contains-push_cases keys key value there),
      λ is. ⊎_elim (λ both. let P : Value → Type 0 = λ v. Contains (keys ++ key ∷ []) v in subst P (sym both.1) (Contains-push keys key))
          (λ front. Contains-append_left keys (key ∷ []) value front) is,
    )
key_with level rows table other values value false decides =
    let keys = map (counted level) (keys_of other rows) in
    let P : List Value → Type 0 = λ vs. Contains vs value in (
      λ there. inr (subst P (append-nil keys) there),
      λ is. subst P (sym (append-nil keys)) (⊎_elim (λ both. absurd (false≢true (decides.1 (sym both.0)))) (λ front. front) is),
    )

pub keys_with : (level : ℕ) (keys new_keys : List (ℕ × Value)) (rows : List Image) (row table : ℕ) (values : List Value) → AreKeys level keys rows → IsWith keys new_keys (table, counted level (key_of values))
    → AreKeys level new_keys (rows ++ record { row = row; table = table; left = Some values } ∷ [])
keys_with level keys new_keys rows row table values are is_with other value =
    let image : Image = record { row = row; table = table; left = Some values } in
    let key = counted level (key_of values) in
    let P : List Value → Type 0 = λ vs. Contains new_keys (other, value) ↔ Contains vs value in
    let cases = key_with level rows table other values value (eqb table other) (eqb-true table other, eq-eqb table other) in
    let apart : (other, value) ≡ (table, key) → (other ≡ table) × (value ≡ key) = λ e. (ap (λ (p : ℕ × Value). p.0) e, ap (λ (p : ℕ × Value). p.1) e) in
    let joined : (other ≡ table) × (value ≡ key) → (other, value) ≡ (table, key) = λ (e, f). cc in
    subst P (sym (ap (map (counted level)) (filter_map-append (key_in other) rows (image ∷ [])) ∙ map-append (counted level) (keys_of other rows) (filter_map (key_in other) (image ∷ [])))) (
      λ there. cases.1 (⊎_elim (λ is. inl (apart is)) (λ old. inr ((are other value).0 old)) ((is_with (other, value)).0 there)),
      λ there. (is_with (other, value)).1 (⊎_elim (λ is. inl (joined is)) (λ old. inr ((are other value).1 old)) (cases.0 there)),
    )
