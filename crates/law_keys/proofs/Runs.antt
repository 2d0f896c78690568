-- Rows and keys are apart at first, and so in each state of a run.
use Rattle.std.proofs.Common.{◌≡◌, ◌∙◌, ◌<◌, ℕ, zero, suc, true, false, List, [], ◌∷◌, map, get_or, take, refl, sym, ap, subst, inl, inr}
use Rattle.std.specs.Prelude.{nat_eq, replicate, Option, None, Some, is_some, IsSomeAnd}
use Rattle.std.specs.Option.{option_map}
use Rattle.std.specs.List.{AllByRecursion, AllZip, Contains, cons_option}
use Rattle.std.proofs.lemmas.Bool.{eq-eqb, false≢true}
use Rattle.desk_values.specs.declared.value.Value.{Value}
use Rattle.desk_values.specs.declared.value.Image.{Image}
use Rattle.desk_values.specs.declared.call.Call.{Call}
use Rattle.desk_values.specs.Comparison.{same_key}
use Rattle.desk_schema.specs.File.{IsStart}
use Rattle.desk_schema.specs.Rules.{IsAllowed, key_of, key_in as key_of_row, keys_of}
use Rattle.desk_schema.specs.Schema.{columns_of}
use Rattle.desk_schema.specs.Sound.{AreApart, IsSoundRow, IsSoundStart}
use Rattle.desk_schema.specs.Start.{StartView}
use Rattle.desk_schema.proofs.Files.{sound_start}
use Rattle.server_words.specs.declared.session.HeldKey.{HeldKey}
use Rattle.server_words.specs.declared.session.Savepoint.{Savepoint}
use Rattle.server_words.specs.declared.session.Session.{Session}
use Rattle.server_words.specs.declared.session.Transaction.{Transaction}
use Rattle.server_words.specs.Rows.{IsRising, lay, lay_all, of_table, row_key}
use Rattle.server_words.specs.State.{State, disconnected, nothing, opening, session_at, tables}
use Rattle.server_words.specs.Step.{run, step}
use Rattle.server_words.specs.View.{commits_seen}
use Rattle.server_words.proofs.Laying.{rising_lay, rising_lay_all}
use Rattle.server_words.proofs.Looks.{rising_of_table}
use Rattle.server_words.proofs.SoundRows.{ascending_rises}
use Rattle.law_steps.specs.Held.{HoldsKey, HoldsRow}
use Rattle.law_steps.specs.Reading.{rows_in}
use Rattle.law_keys.specs.Keys.{CommittedKeysDiffer, HaveOwnKeys, HoldKeysAlone, HoldRowsAlone, HoldWhatTheyChange, ReadersHaveNothing, ReadersSeeTables, SavepointsHoldNoMore, SeenKeysDiffer, SeesTables}
use Rattle.law_keys.proofs.Members.{In, at_place, each_in, in_each, in_filtered, in_place, in_taken, place_of}
use Rattle.law_keys.proofs.Rows.{one_row}
use Rattle.law_keys.proofs.Same.{Apart, Same, back, key_in, on, own_keys}
use Rattle.law_keys.proofs.Keeping.{IsKeptBySteps, Stands}
use Rattle.law_keys.proofs.Tables.{all_laid_of}
use Rattle.law_keys.proofs.Seeing.{own_in, seen_of}
use Rattle.law_keys.proofs.Steps.{IsTidy, own_kept}
use Rattle.law_keys.proofs.Choices.{HasNothing, MayHave, Nested, nested_less}
use Rattle.law_keys.proofs.Answers.{step_tidy}

-- ---- the start

take_none : (n : ℕ) → take {A = List Image} n [] ≡ []
take_none zero = refl
take_none (suc n) = refl

nobody_yet : (n t : ℕ) → get_or (replicate n disconnected) t disconnected ≡ disconnected
nobody_yet zero t = refl
nobody_yet (suc n) zero = refl
nobody_yet (suc n) (suc t) = nobody_yet n t

module _ (level table : ℕ) where
  left_key : (left : Option (List Value)) (image : Image) → image.left ≡ left → is_some left ≡ true → option_map key_of image.left ≡ Some (row_key image)
  left_key None image is some = absurd (false≢true some)
  left_key (Some values) image is some = rw is refl

  has_key : (image : Image) → is_some image.left ≡ true → image.table ≡ table → key_of_row table image ≡ Some (row_key image)
  has_key image some is = rw (eq-eqb image.table table is) (left_key image.left image refl some)

  apart_rest : (first : Option Value) (keys : List Value) → AreApart level (cons_option first keys) → AreApart level keys
  apart_rest None keys apart = apart
  apart_rest (Some key) keys apart = apart.1

  key_stands : (x : Image) (rows : List Image) → AllByRecursion (λ (image : Image). is_some image.left ≡ true) rows → In x rows → x.table ≡ table → In (row_key x) (keys_of table rows)
  key_stands x [] there at is = absurd at
  key_stands x (z ∷ rows) there (inl same) is = subst (λ o. In (row_key x) (cons_option o (keys_of table rows))) (sym (has_key z there.0 (ap (λ (i : Image). i.table) (sym same) ∙ is))) (inl (ap row_key same))
  key_stands x (z ∷ rows) there (inr at) is = elim (key_of_row table z) as (λ o. In (row_key x) (cons_option o (keys_of table rows))) [
    | None ↦ key_stands x rows there.1 at is
    | Some key ↦ inr (key_stands x rows there.1 at is)
  ]

  first_apart : (z y : Image) (rows : List Image) → is_some z.left ≡ true → AllByRecursion (λ (image : Image). is_some image.left ≡ true) rows → AreApart level (keys_of table (z ∷ rows)) → z.table ≡ table → In y rows → y.table ≡ table → same_key level (row_key z) (row_key y) ≡ false
  first_apart z y rows stands there apart is at also =
      let whole : AreApart level (row_key z ∷ keys_of table rows) = subst (λ o. AreApart level (cons_option o (keys_of table rows))) (has_key z stands is) apart in
      each_in (λ other. same_key level (row_key z) other ≡ false) (row_key y) (keys_of table rows) whole.0 (key_stands y rows there at also)

  start_apart : (rows : List Image) → AllByRecursion (λ (image : Image). is_some image.left ≡ true) rows → AreApart level (keys_of table rows) → (x y : Image) → In x rows → In y rows → x.table ≡ table → Same level (key_in x) (key_in y) → x.row ≡ y.row
  start_apart [] there apart x y at also is same = absurd at
  start_apart (z ∷ rows) there apart x y (inl here) (inl too) is same = ap (λ (i : Image). i.row) (here ∙ sym too)
  start_apart (z ∷ rows) there apart x y (inl here) (inr later) is same =
      let other = first_apart z y rows there.0 there.1 apart (ap (λ (i : Image). i.table) (sym here) ∙ is) later (sym same.0 ∙ is) in
      absurd (false≢true (sym other ∙ ap (λ (i : Image). same_key level (row_key i) (row_key y)) (sym here) ∙ same.1))
  start_apart (z ∷ rows) there apart x y (inr later) (inl here) is same =
      let turned = back level (key_in x) (key_in y) same in
      let other = first_apart z x rows there.0 there.1 apart (ap (λ (i : Image). i.table) (sym here) ∙ sym same.0 ∙ is) later is in
      absurd (false≢true (sym other ∙ ap (λ (i : Image). same_key level (row_key i) (row_key x)) (sym here) ∙ turned.1))
  start_apart (z ∷ rows) there apart x y (inr later) (inr other) is same = start_apart rows there.1 (apart_rest (key_of_row table z) (keys_of table rows) apart) x y later other is same

left_there : (P : List Value → Type 0) (left : Option (List Value)) → IsSomeAnd left P → is_some left ≡ true
left_there P None is = absurd is
left_there P (Some values) is = refl

module _ (start : StartView) (is : IsSoundStart start) where
  all_left : (rows : List Image) → AllByRecursion (IsSoundRow start.schema.tables start.next_values) rows → AllByRecursion (λ (image : Image). is_some image.left ≡ true) rows
  all_left [] each = tt
  all_left (row ∷ rows) each = (left_there (λ values. AllZip (IsAllowed start.next_values) (columns_of start.schema.tables row.table) values) row.left each.0.allowed, all_left rows each.1)

  first_rows : Apart start.schema.level start.rows
  first_rows x y there other same = start_apart start.schema.level x.table start.rows (all_left start.rows is.sound.sound_rows.each) (is.sound.sound_rows.apart x.table) x y there other refl same

  up : IsRising start.rows
  up = ascending_rises start.rows is.sound.sound_rows.rising

  only_rows : (x : Image) → Stands start.rows [] (λ t. nothing) x → In x start.rows
  only_rows x (inl there) = there
  only_rows x (inr (inl there)) = absurd there.1
  only_rows x (inr (inr there)) = absurd there.1

  empty_kept : IsKeptBySteps start.schema.level start.rows [] start.next_row (λ t. nothing)
  empty_kept = record {
    first = up;
    rising = λ t. tt;
    below = λ x stands. each_in (λ (row : Image). row.row < start.next_row) x start.rows is.next_row.above (only_rows x stands);
    held = λ t row there. absurd there;
    one_table = λ x y sx sy same. ap (λ (i : Image). i.table) (one_row 0 x y start.rows up (only_rows x sx) (only_rows y sy) same);
    changed = λ t x there. absurd there;
    rows = λ s t row there. absurd there;
    keys = λ s t k l there. absurd there;
    known = λ t x there. absurd there;
    kept = λ t k y there. absurd there;
    apart = λ n. subst (λ commits. Apart start.schema.level (lay_all start.rows commits)) (sym (take_none n)) first_rows;
    seen = λ t. first_rows;
  }

  no_choice : (t : ℕ) (own : Transaction) → MayHave (session_at (opening start) t) own → own ≡ nothing
  no_choice t own (inl same) = same ∙ ap (λ (s : Session). s.own) (nobody_yet 64 t)
  no_choice t own (inr kept) = absurd (subst (λ (s : Session). In kept.0 s.savepoints) (nobody_yet 64 t) kept.1)

  opening_tidy : IsTidy (opening start)
  opening_tidy = record {
    kept = λ choice is_one. subst (IsKeptBySteps start.schema.level start.rows [] start.next_row) (λ i t. sym (no_choice t (choice t) (is_one t)) i) empty_kept;
    nested = λ t. subst (λ (s : Session). Nested s.savepoints s.own) (sym (nobody_yet 64 t)) tt;
    reads = λ t reads. subst HasNothing (sym (nobody_yet 64 t)) (record { own = refl; kept = tt });
  }

-- ---- runs

run_tidy : (state : State) (calls : List (ℕ × Call)) → IsTidy state → IsTidy (run state calls)
run_tidy state [] is = is
run_tidy state (call ∷ calls) is = run_tidy (step state call.0 call.1) calls (step_tidy state is call.0 call.1)

pub reached : (start : StartView) (calls : List (ℕ × Call)) → IsStart start → IsTidy (run (opening start) calls)
reached start calls is = run_tidy (opening start) calls (opening_tidy start (sound_start start is))

-- ---- what follows

module _ (state : State) (is : IsTidy state) where
  pub rows_alone : HoldRowsAlone state
  rows_alone one other row first second = (own_kept state is).rows one other row (at_place (own_in state one).rows row first) (at_place (own_in state other).rows row second)

  -- the key is one with one that the session holds
  held : (session table : ℕ) (key : Value) → HoldsKey state session table key → (k : HeldKey) × In k (own_in state session).keys × Same state.start.schema.level (record { table = table; key = key }) k
  held session table key holds = (holds.1, subst (λ (k : HeldKey). In k (own_in state session).keys) holds.3 (in_place (own_in state session).keys holds.0 holds.1 holds.2), (sym holds.4.0, holds.4.1))

  pub keys_alone : HoldKeysAlone state
  keys_alone one other table key first second =
      let level = state.start.schema.level in
      let this : HeldKey = record { table = table; key = key } in
      let mine = held one table key first in
      let theirs = held other table key second in
      (own_kept state is).keys one other mine.0 theirs.0 mine.1 theirs.1 (on level mine.0 this theirs.0 (back level this mine.0 mine.2) theirs.2)

  pub holds_changes : HoldWhatTheyChange state
  holds_changes session = in_each (λ (image : Image). HoldsRow state session image.row) (own_in state session).changes (λ image there. place_of image.row (own_in state session).rows ((own_kept state is).changed session image there))

  pub savepoints_less : SavepointsHoldNoMore state
  savepoints_less session =
      let mine = session_at state session in
      in_each (λ (kept : Savepoint). ((row : ℕ) → Contains kept.own.rows row → Contains mine.own.rows row) × ((held : HeldKey) → Contains kept.own.keys held → Contains mine.own.keys held)) mine.savepoints (λ kept among.
      let less = nested_less mine.savepoints mine.own kept (is.nested session) among in (
        λ row there. place_of row mine.own.rows (less.rows row (at_place kept.own.rows row there)),
        λ held there. place_of held mine.own.keys (less.keys held (at_place kept.own.keys held there)),
      ))

  pub readers : ReadersHaveNothing state
  readers session reads = (is.reads session reads).own

  -- ---- what a session sees

  pub readers_see : ReadersSeeTables state
  readers_see session n table reads =
      let empty = (is.reads session (ap (λ snapshot. is_some snapshot) reads)).own in
      ap (λ snapshot. lay (lay_all (of_table table state.start.rows) (map (of_table table) (commits_seen snapshot state.commits))) (of_table table (own_in state session).changes)) reads
      ∙ ap (λ (own : Transaction). lay (lay_all (of_table table state.start.rows) (map (of_table table) (take n state.commits))) (of_table table own.changes)) empty
      ∙ sym (all_laid_of table (Stands state.start.rows state.commits (own_in state)) (own_kept state is).one_table state.start.rows (take n state.commits) (own_kept state is).first (λ x there. inl there) (λ c among x there. inr (inl (c, in_taken c n state.commits among, there))))

  sees_as : (snapshot : Option ℕ) (session table : ℕ) → (session_at state session).snapshot ≡ snapshot → rows_in state session table ≡ of_table table (lay (lay_all state.start.rows (commits_seen snapshot state.commits)) (own_in state session).changes)
  sees_as None session table reads = seen_of state (own_kept state is) session table reads
  sees_as (Some n) session table reads =
      let empty = (is.reads session (ap (λ snapshot. is_some snapshot) reads)).own in
      readers_see session n table reads ∙ ap (λ (own : Transaction). of_table table (lay (tables state n) own.changes)) (sym empty)

  pub sees_tables : SeesTables state
  sees_tables session table = sees_as (session_at state session).snapshot session table refl

  -- ---- keys

  pub committed_differ : CommittedKeysDiffer state
  committed_differ commits table = own_keys table state.start.schema.level 0 (tables state commits) (rising_lay_all state.start.rows (take commits state.commits) (own_kept state is).first) ((own_kept state is).apart commits)

  -- the rows of one table, of those of which no two have one key
  of_table_apart : (table : ℕ) (rows : List Image) → IsRising rows → Apart state.start.schema.level rows → HaveOwnKeys state.start.schema.level table (of_table table rows)
  of_table_apart table rows rising apart = own_keys table state.start.schema.level 0 (of_table table rows) (rising_of_table table rows rising) (λ x y there other.
      apart x y (in_filtered (λ (image : Image). nat_eq image.table table) x rows there).0 (in_filtered (λ (image : Image). nat_eq image.table table) y rows other).0)

  seen_as : (snapshot : Option ℕ) (session table : ℕ) → (session_at state session).snapshot ≡ snapshot → HaveOwnKeys state.start.schema.level table (rows_in state session table)
  seen_as None session table reads = subst (HaveOwnKeys state.start.schema.level table) (sym (seen_of state (own_kept state is) session table reads))
      (of_table_apart table (lay (lay_all state.start.rows state.commits) (own_in state session).changes) (rising_lay (lay_all state.start.rows state.commits) (own_in state session).changes (rising_lay_all state.start.rows state.commits (own_kept state is).first)) ((own_kept state is).seen session))
  seen_as (Some n) session table reads = subst (HaveOwnKeys state.start.schema.level table) (sym (readers_see session n table reads))
      (of_table_apart table (tables state n) (rising_lay_all state.start.rows (take n state.commits) (own_kept state is).first) ((own_kept state is).apart n))

  pub seen_differ : SeenKeysDiffer state
  seen_differ session table = seen_as (session_at state session).snapshot session table refl
