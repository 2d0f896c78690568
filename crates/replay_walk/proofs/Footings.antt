-- What two calls meet is one but for ids just where what they stand on is, and the rows of their table.
use Rattle.std.proofs.Common.{◌≡◌, ◌∙◌, ℕ, Bool, true, false, ◌||◌, eqb, if◌then◌else◌, List, [], ◌∷◌, Option, None, Some, refl, sym, ap, subst, ⊎_elim}
use Rattle.std.specs.Prelude.{is_some, nat_eq}
use Rattle.std.specs.List.{Contains, filter, list_any}
use Rattle.std.specs.Ordering.{nat_cmp}
use Rattle.std.proofs.lemmas.Bool.{eq-eqb, eqb-true, or_cases, or_left, or_right}
use Rattle.std.proofs.lemmas.List.Folds.{list_any-append}
use Rattle.desk_schema.proofs.Members.{Contains-cases, Contains-here, Contains-none, Contains-there}
use Rattle.desk_values.specs.declared.value.Image.{Image}
use Rattle.machine_model.specs.declared.footing.Footing.{Footing}
use Rattle.server_words.specs.declared.session.Session.{Session}
use Rattle.machine_model.specs.Footing.{IsFootingOf, keys_held_in, rows_held}
use Rattle.server_words.specs.Rows.{IsRising, row_numbers}
use Rattle.server_words.specs.State.{State, session_at}
use Rattle.server_words.specs.View.{View, is_held, others, rows_seen, view_of}
use Rattle.server_words.specs.Views.{AreOnce}
use Rattle.server_words.specs.Rows.{row_at}
use Rattle.machine_stores.proofs.Indexing.{row_at_is}
use Rattle.id_pairs.specs.declared.Id.TheVariants.{Row}
use Rattle.id_pairs.specs.Pairs.{IdPair, IsIdMap}
use Rattle.id_pairs.specs.Renaming.{IsRenamed}
use Rattle.law_server.specs.Rows.Images.{IsRenamedImage}
use Rattle.law_server.specs.Renaming.Twins.{AreSets, AreTwinViews, IsRenamedRow}
use Rattle.law_server.proofs.Rows.Members.{same_ids}
use Rattle.twin_tables.proofs.Handed.{HaveSame, images_of, mapped, numbers_of, preimage, sets_same}
use Rattle.replay_walk.specs.Inside.Standing.{HaveTwinFootings}
use Rattle.replay_walk.proofs.Seen.{at_row, in_rows}
use Rattle.replay_walk.proofs.Told.{AreTwinOwn, from_once, own_by, own_from, own_to, to_once}

-- ---- what passes a test

module _ {A : Type 0} (p : A → Bool) where
  filter_in : (xs : List A) (x : A) → Contains (filter p xs) x → Contains xs x × (p x ≡ true)
  filter_in [] x c = absurd (Contains-none x c)
  filter_in (y ∷ ys) x c = elim (p y) as (λ b. p y ≡ b → Contains (if b then y ∷ filter p ys else filter p ys) x → Contains (y ∷ ys) x × (p x ≡ true)) [
    | true ↦ λ is here. ⊎_elim
        (λ same. (subst (Contains (y ∷ ys)) same (Contains-here y ys), subst (λ (z : A). p z ≡ true) same is))
        (λ later. let t = filter_in ys x later in (Contains-there y ys x t.0, t.1))
        (Contains-cases y (filter p ys) x here)
    | false ↦ λ isnt there. let t = filter_in ys x there in (Contains-there y ys x t.0, t.1)
  ] refl c

  filter_has : (xs : List A) (x : A) → Contains xs x → p x ≡ true → Contains (filter p xs) x
  filter_has [] x c is = absurd (Contains-none x c)
  filter_has (y ∷ ys) x c is = elim (p y) as (λ b. p y ≡ b → Contains (if b then y ∷ filter p ys else filter p ys) x) [
    | true ↦ λ here. ⊎_elim
        (λ same. subst (Contains (y ∷ filter p ys)) same (Contains-here y (filter p ys)))
        (λ later. Contains-there y (filter p ys) x (filter_has ys x later is))
        (Contains-cases y ys x c)
    | false ↦ λ apart. ⊎_elim
        (λ same. absurd (let two : true ≡ false = sym is ∙ ap p (sym same) ∙ apart in cc))
        (λ later. filter_has ys x later is)
        (Contains-cases y ys x c)
  ] refl

-- ---- numbers among numbers

any_contained : (n : ℕ) (ns : List ℕ) → Contains ns n → list_any (nat_eq n) ns ≡ true
any_contained n [] c = absurd (Contains-none n c)
any_contained n (m ∷ ns) c = ⊎_elim
    (λ same. or_left (nat_eq n m) (list_any (nat_eq n) ns) (eq-eqb n m (sym same)))
    (λ later. or_right (nat_eq n m) (list_any (nat_eq n) ns) (any_contained n ns later))
    (Contains-cases m ns n c)

contained_any : (n : ℕ) (ns : List ℕ) → list_any (nat_eq n) ns ≡ true → Contains ns n
contained_any n [] e = absurd cc
contained_any n (m ∷ ns) e = ⊎_elim
    (λ here. subst (Contains (m ∷ ns)) (sym (eqb-true n m here)) (Contains-here m ns))
    (λ later. Contains-there m ns n (contained_any n ns later))
    (or_cases (nat_eq n m) (list_any (nat_eq n) ns) e)

held_among : (row : ℕ) (sessions : List Session) → list_any (nat_eq row) (rows_held sessions) ≡ list_any (λ (s : Session). list_any (nat_eq row) s.own.rows) sessions
held_among row [] = refl
held_among row (session ∷ sessions) =
    list_any-append (nat_eq row) session.own.rows (rows_held sessions) ∙ ap (λ b. list_any (nat_eq row) session.own.rows || b) (held_among row sessions)

some_row : (o : Option Image) → is_some o ≡ true → (x : Image) × (o ≡ Some x)
some_row None e = absurd cc
some_row (Some x) e = (x, refl)

-- ---- which of the rows that are seen others hold

module _ (sessions : List Session) (held : List ℕ) (once : AreOnce nat_cmp (rows_held sessions) held) (rows : List Image) (up : IsRising rows) (seen : ℕ → Bool) (is : (row : ℕ) → seen row ≡ is_some (row_at row rows)) where
  pub held_same : HaveSame (filter seen held) (row_numbers (filter (is_held sessions) rows))
  held_same = record {
    forth = λ n c.
        let two = filter_in seen held n c in
        let x = some_row (row_at n rows) (sym (is n) ∙ two.1) in
        let here = row_at_is n rows x.0 x.1 in
        let among = any_contained n (rows_held sessions) (once.only n two.0) in
        let test : is_held sessions x.0 ≡ true = sym (held_among x.0.row sessions) ∙ ap (λ (m : ℕ). list_any (nat_eq m) (rows_held sessions)) here ∙ among in
        subst (Contains (row_numbers (filter (is_held sessions) rows))) here (mapped (λ (image : Image). image.row) (filter (is_held sessions) rows) x.0 (filter_has (is_held sessions) rows x.0 (in_rows n rows x.0 x.1) test));
    back = λ n c.
        let z = preimage (λ (image : Image). image.row) (filter (is_held sessions) rows) n c in
        let two = filter_in (is_held sessions) rows z.0 z.1 in
        let among = contained_any z.0.row (rows_held sessions) (held_among z.0.row sessions ∙ two.1) in
        let stands : seen z.0.row ≡ true = is z.0.row ∙ ap (λ (o : Option Image). is_some o) (at_row rows up z.0 two.0) in
        subst (Contains (filter seen held)) z.2 (filter_has seen held z.0.row (once.all z.0.row among) stands);
  }

-- ---- two calls on one table, or on none

module _ (pairs : List IdPair) (is_map : IsIdMap pairs) (state other : State) (session : ℕ) (met meets : Footing) where
  one_to : (x y a b : Image) → IsRenamedRow pairs x.row a.row → IsRenamedRow pairs y.row b.row → x.row ≡ y.row → a.row ≡ b.row
  one_to x y a b c d e = eqb-true a.row b.row (sym (same_ids pairs is_map.once (Row x.row) (Row y.row) (Row a.row) (Row b.row) c d) ∙ eq-eqb x.row y.row e)

  to_one : (x y a b : Image) → IsRenamedRow pairs x.row a.row → IsRenamedRow pairs y.row b.row → a.row ≡ b.row → x.row ≡ y.row
  to_one x y a b c d e = eqb-true x.row y.row (same_ids pairs is_map.once (Row x.row) (Row y.row) (Row a.row) (Row b.row) c d ∙ eq-eqb a.row b.row e)

  module _ (table : Option ℕ) (one : IsFootingOf state session table met) (two : IsFootingOf other session table meets) where
    abbrev view : View
    view = view_of state session table

    abbrev sees : View
    sees = view_of other session table

    footings_keys : AreSets (IsRenamed pairs) (keys_held_in (others state.sessions session) table) (keys_held_in (others other.sessions session) table) → AreSets (IsRenamed pairs) met.held_keys meets.held_keys
    footings_keys keys = to_once (IsRenamed pairs) _ _ (keys_held_in (others state.sessions session) table) met.held_keys (keys_held_in (others other.sessions session) table) meets.held_keys one.held_keys two.held_keys keys

    own_twins : HaveTwinFootings pairs met meets → AreTwinOwn pairs view sees
    own_twins twins = own_to pairs view sees met.own meets.own (own_by state session table met.own one.own) (own_by other session table meets.own two.own) twins.own

    footings_by : AreSets (IsRenamed pairs) (keys_held_in (others state.sessions session) table) (keys_held_in (others other.sessions session) table) → AreTwinViews pairs view sees → HaveTwinFootings pairs met meets
    footings_by keys twins = record {
      own = own_from pairs view sees met.own meets.own (own_by state session table met.own one.own) (own_by other session table meets.own two.own) twins;
      held_keys = footings_keys keys;
    }

  pub footings_from : (table : Option ℕ) → IsFootingOf state session table met → IsFootingOf other session table meets → AreTwinViews pairs (view_of state session table) (view_of other session table) → HaveTwinFootings pairs met meets
  footings_from None one two twins = footings_by None one two (record { forth = λ x c. absurd (Contains-none x c); back = λ y c. absurd (Contains-none y c) }) twins
  footings_from (Some table) one two twins = footings_by (Some table) one two twins.locked_keys twins

  no_sets : {A B : Type 0} (R : A → B → Type 0) → AreSets R [] []
  no_sets R = record { forth = λ x c. absurd (Contains-none x c); back = λ y c. absurd (Contains-none y c) }

  pub views_alone : IsFootingOf state session None met → IsFootingOf other session None meets → HaveTwinFootings pairs met meets → AreTwinViews pairs (view_of state session None) (view_of other session None)
  views_alone one two twins =
      let own = own_twins None one two twins in
      record {
        rights = own.rights;
        reads_only = own.reads_only;
        changes = own.changes;
        own_rows = own.own_rows;
        own_keys = own.own_keys;
        savepoints = own.savepoints;
        rows = no_sets (IsRenamedImage pairs);
        locked = no_sets (IsRenamedImage pairs);
        locked_keys = no_sets (IsRenamed pairs);
      }

  module _ (table : ℕ) (one : IsFootingOf state session (Some table) met) (two : IsFootingOf other session (Some table) meets)
      (up : IsRising (view_of state session (Some table)).rows) (rise : IsRising (view_of other session (Some table)).rows)
      (seen sees_now : ℕ → Bool) (is : (row : ℕ) → seen row ≡ is_some (row_at row (view_of state session (Some table)).rows)) (also : (row : ℕ) → sees_now row ≡ is_some (row_at row (view_of other session (Some table)).rows)) where
    abbrev here : View
    here = view_of state session (Some table)

    abbrev there : View
    there = view_of other session (Some table)

    same_here : HaveSame (filter seen met.held_rows) (row_numbers here.locked)
    same_here = held_same (others state.sessions session) met.held_rows one.held_rows here.rows up seen is

    same_there : HaveSame (filter sees_now meets.held_rows) (row_numbers there.locked)
    same_there = held_same (others other.sessions session) meets.held_rows two.held_rows there.rows rise sees_now also

    turned : {A : Type 0} {xs ys : List A} → HaveSame xs ys → HaveSame ys xs
    turned same = record { forth = same.back; back = same.forth }

    pub held_from : AreTwinViews pairs here there → AreSets (IsRenamedRow pairs) (filter seen met.held_rows) (filter sees_now meets.held_rows)
    held_from twins =
        sets_same (IsRenamedRow pairs) (row_numbers here.locked) (filter seen met.held_rows) (row_numbers there.locked) (filter sees_now meets.held_rows) (turned same_here) (turned same_there)
        (numbers_of pairs here.locked there.locked twins.locked)

    pub views_on : HaveTwinFootings pairs met meets → AreSets (IsRenamedImage pairs) here.rows there.rows → AreSets (IsRenamedRow pairs) (filter seen met.held_rows) (filter sees_now meets.held_rows) → AreTwinViews pairs here there
    views_on twins rows held =
        let own = own_twins (Some table) one two twins in
        let numbers = sets_same (IsRenamedRow pairs) (filter seen met.held_rows) (row_numbers here.locked) (filter sees_now meets.held_rows) (row_numbers there.locked) same_here same_there held in
        record {
          rights = own.rights;
          reads_only = own.reads_only;
          changes = own.changes;
          own_rows = own.own_rows;
          own_keys = own.own_keys;
          savepoints = own.savepoints;
          rows = rows;
          locked = images_of pairs one_to to_one here.rows there.rows here.locked there.locked up rise
              (λ x c. (filter_in (is_held (others state.sessions session)) here.rows x c).0) (λ y c. (filter_in (is_held (others other.sessions session)) there.rows y c).0) rows numbers;
          locked_keys = from_once (IsRenamed pairs) _ _ here.locked_keys met.held_keys there.locked_keys meets.held_keys one.held_keys two.held_keys twins.held_keys;
        }
