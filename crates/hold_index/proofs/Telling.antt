-- What is told of holders, as they come to hold and are freed.
use Rattle.std.proofs.Common.{◌≡◌, ℕ, Bool, true, false, ◌||◌, ◌&&◌, eqb, List, [], ◌∷◌, ◌++◌, Option, None, Some, refl, sym, ap, subst, ◌∙◌, true≢false}
use Rattle.std.specs.Prelude.{nat_eq, if◌then◌else◌}
use Rattle.std.specs.List.{list_any}
use Rattle.std.proofs.Math.Bool.{or-false}
use Rattle.std.proofs.lemmas.Bool.{eqb-true, eq-eqb}
use Rattle.std.proofs.lemmas.List.Folds.{list_any-append}
use Rattle.hold_index.specs.Inside.Numbers.{is_free}
use Rattle.hold_index.specs.Told.{AreTold, PrintsMove, RowsMove, TellsEach, Told, is_told, own_or, session_in}

or_true : (b : Bool) → (b || true) ≡ true
or_true true = refl
or_true false = refl

left_of_and : (a b : Bool) → (a && b) ≡ true → a ≡ true
left_of_and true b both = refl
left_of_and false b both = both

right_of_and : (a b : Bool) → (a && b) ≡ true → b ≡ true
right_of_and true b both = both
right_of_and false b both = absurd (true≢false (sym both))

apart_back : (m n : ℕ) → eqb m n ≡ false → eqb n m ≡ false
apart_back m n apart = elim (eqb n m) as (λ b. eqb n m ≡ b → b ≡ false) [
  | true ↦ λ same. sym (eq-eqb m n (sym (eqb-true n m same))) ∙ apart
  | false ↦ λ other. refl
] refl

-- what stands at the session, and what at each other
pub at_own : (s : ℕ) (list : List ℕ) (rest : ℕ → List ℕ) → own_or s list rest s ≡ list
at_own s list rest = ap (λ (b : Bool). if b then list else rest s) (eq-eqb s s refl)

pub at_other : (s t : ℕ) (list : List ℕ) (rest : ℕ → List ℕ) → eqb t s ≡ false → own_or s list rest t ≡ rest t
at_other s t list rest apart = ap (λ (b : Bool). if b then list else rest t) apart

pub told_same : (told : ℕ → Option ℕ) (xs ys : ℕ → List ℕ) → ((t : ℕ) → xs t ≡ ys t) → TellsEach told xs → TellsEach told ys
told_same told xs ys same tells t n = ap (list_any (nat_eq n)) (sym (same t)) ∙ tells t n

pub all_same : (told : Told) (rows rows' prints prints' : ℕ → List ℕ) → ((t : ℕ) → rows t ≡ rows' t) → ((t : ℕ) → prints t ≡ prints' t) → AreTold told rows prints → AreTold told rows' prints'
all_same told rows rows' prints prints' same same' are = record {
  of_rows = λ kept. told_same (session_in told.rows) rows rows' same (are.of_rows kept);
  of_prints = λ kept. told_same (session_in told.prints) prints prints' same' (are.of_prints kept);
}

-- an empty table tells nobody
pub nobody_told : (told : ℕ → Option ℕ) → ((n : ℕ) → told n ≡ None) → TellsEach told (λ session. [])
nobody_told told none t n = sym (ap (is_told t) (none n))

-- another than the one who is told
free_of_other : (s t : ℕ) (told : Option ℕ) → is_free s told ≡ true → eqb t s ≡ false → is_told t told ≡ false
free_of_other s t None free apart = refl
free_of_other s t (Some other) free apart = subst (λ (x : ℕ). eqb t x ≡ false) (eqb-true s other free) apart

own_told : (s : ℕ) (told : Option ℕ) → is_told s told ≡ true → is_free s told ≡ true
own_told s None is = refl
own_told s (Some other) is = is

-- ---- one more

module _ (told after : ℕ → Option ℕ) (s m : ℕ) (list : List ℕ) (rest : ℕ → List ℕ) (tells : TellsEach told (own_or s list rest)) (free : is_free s (told m) ≡ true)
    (put : (n : ℕ) → after n ≡ (if nat_eq m n then Some s else told n)) where
  abbrev next : List ℕ
  next = list ++ m ∷ []

  -- what the session itself has
  own_next : (t n : ℕ) → eqb t s ≡ true → list_any (nat_eq n) (own_or s next rest t) ≡ (list_any (nat_eq n) list || (eqb n m || false))
  own_next t n mine = ap (λ (b : Bool). list_any (nat_eq n) (if b then next else rest t)) mine ∙ list_any-append (nat_eq n) list (m ∷ [])

  own_before : (t n : ℕ) → eqb t s ≡ true → list_any (nat_eq n) list ≡ is_told t (told n)
  own_before t n mine = sym (ap (λ (b : Bool). list_any (nat_eq n) (if b then list else rest t)) mine) ∙ tells t n

  -- what another has stays
  other_next : (t n : ℕ) → eqb t s ≡ false → list_any (nat_eq n) (own_or s next rest t) ≡ is_told t (told n)
  other_next t n apart = ap (list_any (nat_eq n)) (at_other s t next rest apart ∙ sym (at_other s t list rest apart)) ∙ tells t n

  more_here : (t n : ℕ) → eqb m n ≡ true → list_any (nat_eq n) (own_or s next rest t) ≡ is_told t (after n)
  more_here t n here =
      let same : m ≡ n = eqb-true m n here in
      let now : after n ≡ Some s = put n ∙ ap (λ (b : Bool). if b then Some s else told n) here in
      elim (eqb t s) as (λ b. eqb t s ≡ b → list_any (nat_eq n) (own_or s next rest t) ≡ is_told t (after n)) [
        | true ↦ λ mine.
            own_next t n mine ∙ ap (λ (b : Bool). list_any (nat_eq n) list || (b || false)) (eq-eqb n m (sym same)) ∙ or_true (list_any (nat_eq n) list)
            ∙ sym (ap (is_told t) now ∙ mine)
        | false ↦ λ apart.
            let none : is_told t (told n) ≡ false = subst (λ (k : ℕ). is_told t (told k) ≡ false) same (free_of_other s t (told m) free apart) in
            other_next t n apart ∙ none ∙ sym (ap (is_told t) now ∙ apart)
      ] refl

  more_other : (t n : ℕ) → eqb m n ≡ false → list_any (nat_eq n) (own_or s next rest t) ≡ is_told t (after n)
  more_other t n apart =
      let now : after n ≡ told n = put n ∙ ap (λ (b : Bool). if b then Some s else told n) apart in
      elim (eqb t s) as (λ b. eqb t s ≡ b → list_any (nat_eq n) (own_or s next rest t) ≡ is_told t (after n)) [
        | true ↦ λ mine.
            own_next t n mine ∙ ap (λ (b : Bool). list_any (nat_eq n) list || (b || false)) (apart_back m n apart) ∙ or-false (list_any (nat_eq n) list)
            ∙ own_before t n mine ∙ sym (ap (is_told t) now)
        | false ↦ λ other. other_next t n other ∙ sym (ap (is_told t) now)
      ] refl

  pub told_more : TellsEach after (own_or s (list ++ m ∷ []) rest)
  told_more t n = elim (eqb m n) as (λ b. eqb m n ≡ b → list_any (nat_eq n) (own_or s next rest t) ≡ is_told t (after n)) [
    | true ↦ λ here. more_here t n here
    | false ↦ λ apart. more_other t n apart
  ] refl

-- ---- none any more

module _ (told after : ℕ → Option ℕ) (s : ℕ) (list : List ℕ) (rest : ℕ → List ℕ) (tells : TellsEach told (own_or s list rest))
    (freed : (n : ℕ) → after n ≡ (if list_any (nat_eq n) list then None else told n)) where
  own_list : (n : ℕ) → list_any (nat_eq n) list ≡ is_told s (told n)
  own_list n = ap (list_any (nat_eq n)) (sym (at_own s list rest)) ∙ tells s n

  own_empty : (t n : ℕ) → eqb t s ≡ true → list_any (nat_eq n) (own_or s [] rest t) ≡ false
  own_empty t n mine = ap (λ (b : Bool). list_any (nat_eq n) (if b then [] else rest t)) mine

  other_stays : (t n : ℕ) → eqb t s ≡ false → list_any (nat_eq n) (own_or s [] rest t) ≡ is_told t (told n)
  other_stays t n apart = ap (list_any (nat_eq n)) (at_other s t [] rest apart ∙ sym (at_other s t list rest apart)) ∙ tells t n

  freed_here : (t n : ℕ) → list_any (nat_eq n) list ≡ true → list_any (nat_eq n) (own_or s [] rest t) ≡ is_told t (after n)
  freed_here t n here =
      let now : after n ≡ None = freed n ∙ ap (λ (b : Bool). if b then None else told n) here in
      let free : is_free s (told n) ≡ true = own_told s (told n) (sym (own_list n) ∙ here) in
      elim (eqb t s) as (λ b. eqb t s ≡ b → list_any (nat_eq n) (own_or s [] rest t) ≡ is_told t (after n)) [
        | true ↦ λ mine. own_empty t n mine ∙ sym (ap (is_told t) now)
        | false ↦ λ apart. other_stays t n apart ∙ free_of_other s t (told n) free apart ∙ sym (ap (is_told t) now)
      ] refl

  freed_not : (t n : ℕ) → list_any (nat_eq n) list ≡ false → list_any (nat_eq n) (own_or s [] rest t) ≡ is_told t (after n)
  freed_not t n not_here =
      let now : after n ≡ told n = freed n ∙ ap (λ (b : Bool). if b then None else told n) not_here in
      elim (eqb t s) as (λ b. eqb t s ≡ b → list_any (nat_eq n) (own_or s [] rest t) ≡ is_told t (after n)) [
        | true ↦ λ mine.
            let none : is_told t (told n) ≡ false = subst (λ (x : ℕ). is_told x (told n) ≡ false) (sym (eqb-true t s mine)) (sym (own_list n) ∙ not_here) in
            own_empty t n mine ∙ sym (ap (is_told t) now ∙ none)
        | false ↦ λ apart. other_stays t n apart ∙ sym (ap (is_told t) now)
      ] refl

  pub told_freed : TellsEach after (own_or s [] rest)
  told_freed t n = elim (list_any (nat_eq n) list) as (λ b. list_any (nat_eq n) list ≡ b → list_any (nat_eq n) (own_or s [] rest t) ≡ is_told t (after n)) [
    | true ↦ λ here. freed_here t n here
    | false ↦ λ not_here. freed_not t n not_here
  ] refl

-- ---- one out of several that are taken out

pub one_taken : (n m : ℕ) (done : List ℕ) (first mid after : ℕ → Option ℕ) → ((k : ℕ) → mid k ≡ (if list_any (nat_eq k) done then None else first k)) → ((k : ℕ) → after k ≡ (if nat_eq m k then None else mid k))
    → after n ≡ (if list_any (nat_eq n) (done ++ m ∷ []) then None else first n)
one_taken n m done first mid after was now =
    let joined : list_any (nat_eq n) (done ++ m ∷ []) ≡ (list_any (nat_eq n) done || (eqb n m || false)) = list_any-append (nat_eq n) done (m ∷ []) in
    elim (eqb m n) as (λ b. eqb m n ≡ b → after n ≡ (if list_any (nat_eq n) (done ++ m ∷ []) then None else first n)) [
      | true ↦ λ here.
          let all : list_any (nat_eq n) (done ++ m ∷ []) ≡ true = joined ∙ ap (λ (b : Bool). list_any (nat_eq n) done || (b || false)) (eq-eqb n m (sym (eqb-true m n here))) ∙ or_true (list_any (nat_eq n) done) in
          now n ∙ ap (λ (b : Bool). if b then None else mid n) here ∙ sym (ap (λ (b : Bool). if b then None else first n) all)
      | false ↦ λ apart.
          let all : list_any (nat_eq n) (done ++ m ∷ []) ≡ list_any (nat_eq n) done = joined ∙ ap (λ (b : Bool). list_any (nat_eq n) done || (b || false)) (apart_back m n apart) ∙ or-false (list_any (nat_eq n) done) in
          now n ∙ ap (λ (b : Bool). if b then None else mid n) apart ∙ was n ∙ sym (ap (λ (b : Bool). if b then None else first n) all)
    ] refl

-- ---- what moves

pub rows_held : (old new : Told) (session row : ℕ) → (new.is_kept ≡ true → old.is_kept ≡ true) → (new.is_kept ≡ true → is_free session (session_in old.rows row) ≡ true) → (new.is_kept ≡ true → (n : ℕ) → session_in new.rows n ≡ (if nat_eq row n then Some session else session_in old.rows n)) → new.prints ≡ old.prints
    → (list : List ℕ) → RowsMove old new session list (list ++ row ∷ [])
rows_held old new session row was free put same list rest prints are = record {
  of_rows = λ kept. told_more (session_in old.rows) (session_in new.rows) session row list rest (are.of_rows (was kept)) (free kept) (put kept);
  of_prints = λ kept. subst (λ (list : List (ℕ × ℕ)). TellsEach (session_in list) prints) (sym same) (are.of_prints (was kept));
}

pub prints_held : (old new : Told) (session print : ℕ) → (new.is_kept ≡ true → old.is_kept ≡ true) → (new.is_kept ≡ true → is_free session (session_in old.prints print) ≡ true) → (new.is_kept ≡ true → (n : ℕ) → session_in new.prints n ≡ (if nat_eq print n then Some session else session_in old.prints n)) → new.rows ≡ old.rows
    → (list : List ℕ) → PrintsMove old new session list (list ++ print ∷ [])
prints_held old new session print was free put same list rows rest are = record {
  of_rows = λ kept. subst (λ (list : List (ℕ × ℕ)). TellsEach (session_in list) rows) (sym same) (are.of_rows (was kept));
  of_prints = λ kept. told_more (session_in old.prints) (session_in new.prints) session print list rest (are.of_prints (was kept)) (free kept) (put kept);
}

pub rows_freed : (old new : Told) (list : List ℕ) → new.is_kept ≡ old.is_kept → ((n : ℕ) → session_in new.rows n ≡ (if list_any (nat_eq n) list then None else session_in old.rows n)) → new.prints ≡ old.prints
    → (session : ℕ) → RowsMove old new session list []
rows_freed old new list kept freed same session rest prints are = record {
  of_rows = λ is. told_freed (session_in old.rows) (session_in new.rows) session list rest (are.of_rows (sym kept ∙ is)) freed;
  of_prints = λ is. subst (λ (list : List (ℕ × ℕ)). TellsEach (session_in list) prints) (sym same) (are.of_prints (sym kept ∙ is));
}

pub prints_freed : (old new : Told) (list : List ℕ) → new.is_kept ≡ old.is_kept → ((n : ℕ) → session_in new.prints n ≡ (if list_any (nat_eq n) list then None else session_in old.prints n)) → new.rows ≡ old.rows
    → (session : ℕ) → PrintsMove old new session list []
prints_freed old new list kept freed same session rows rest are = record {
  of_rows = λ is. subst (λ (list : List (ℕ × ℕ)). TellsEach (session_in list) rows) (sym same) (are.of_rows (sym kept ∙ is));
  of_prints = λ is. told_freed (session_in old.prints) (session_in new.prints) session list rest (are.of_prints (sym kept ∙ is)) freed;
}

-- what is told of a session is what it has
pub has_row : (told : Told) (session row : ℕ) (list : List ℕ) → (rest : ℕ → List ℕ) × (prints : ℕ → List ℕ) × AreTold told (own_or session list rest) prints → told.is_kept ≡ true → list_any (nat_eq row) list ≡ is_told session (session_in told.rows row)
has_row told session row list has kept = ap (list_any (nat_eq row)) (sym (at_own session list has.0)) ∙ has.2.of_rows kept session row

pub has_print : (told : Told) (session print : ℕ) (list : List ℕ) → (rows : ℕ → List ℕ) × (rest : ℕ → List ℕ) × AreTold told rows (own_or session list rest) → told.is_kept ≡ true → list_any (nat_eq print) list ≡ is_told session (session_in told.prints print)
has_print told session print list has kept = ap (list_any (nat_eq print)) (sym (at_own session list has.1)) ∙ has.2.of_prints kept session print
