-- Each step keeps rows and keys apart.
use Rattle.std.proofs.Common.{◌≡◌, ◌∙◌, ◌⊎◌, ◌<◌, ◌≤◌, ℕ, Bool, true, false, List, [], ◌∷◌, ◌++◌, length, get_or, refl, sym, ap, subst, inl, inr, arith}
use Rattle.std.specs.Prelude.{if◌then◌else◌, nat_eq, Option, None, Some, is_some}
use Rattle.std.specs.List.{AllByRecursion}
use Rattle.std.proofs.lemmas.Bool.{cases_eq, cases_lt, eq-eqb, false≢true, ne_eqb}
use Rattle.std.proofs.lemmas.List.{get_or-set_other, get_or-set_same, get_or_past, set_past}
use Rattle.desk_values.specs.declared.value.Image.{Image}
use Rattle.server_words.specs.declared.effect.Writing.{Writing}
use Rattle.server_words.specs.declared.session.Savepoint.{Savepoint}
use Rattle.server_words.specs.declared.session.Session.{Session}
use Rattle.server_words.specs.declared.session.Transaction.{Transaction}
use Rattle.server_words.specs.Answer.{Answer}
use Rattle.server_words.specs.State.{State, disconnected, nothing, session_at}
use Rattle.server_words.specs.Step.{after, after_made, committed_in, session_after, snapshot_after, with_commit}
use Rattle.server_words.specs.Writes.{holding}
use Rattle.law_keys.proofs.Keeping.{IsKeptBySteps, committed, dropped, stays_open}
use Rattle.law_keys.proofs.Writing.{Writes, writes_on}
use Rattle.law_keys.proofs.Seeing.{IsKeptIn, own_in}
use Rattle.law_keys.proofs.Members.{In}
use Rattle.law_keys.proofs.Holding.{keys_stay, rows_stay}
use Rattle.law_keys.proofs.Choices.{HasNothing, IsChoice, MayHave, Nested, nested_more}

-- what is kept, whatever each session goes back to
abbrev pub IsKeptAs : State → (ℕ → Transaction) → Type 0
IsKeptAs state choice = IsKeptBySteps state.start.schema.level state.start.rows state.commits state.next_row choice

-- rows and keys are kept apart, whatever each session goes back to, savepoints hold no more than their sessions, and a
-- transaction that only reads has nothing
pub record IsTidy (state : State) : Type 0 where
  pub kept : (choice : ℕ → Transaction) → IsChoice state choice → IsKeptAs state choice
  pub nested : (session : ℕ) → Nested (session_at state session).savepoints (session_at state session).own
  pub reads : (session : ℕ) → is_some (session_at state session).snapshot ≡ true → HasNothing (session_at state session)

-- as things are
pub own_kept : (state : State) → IsTidy state → IsKeptIn state
own_kept state is = is.kept (own_in state) (λ t. inl refl)

-- ---- what a step leaves

reads_as : (reads : Bool) (before : Option ℕ) (commits : ℕ) → is_some (snapshot_after reads before commits) ≡ reads
reads_as false before commits = refl
reads_as true (Some n) commits = refl
reads_as true None commits = refl

raised : {level : ℕ} {start : List Image} {commits : List (List Image)} {next more : ℕ} {own : ℕ → Transaction} → next ≤ more → IsKeptBySteps level start commits next own → IsKeptBySteps level start commits more own
raised up is = record {
  first = is.first;
  rising = is.rising;
  below = λ x stands. omega (arith, up, is.below x stands);
  held = λ s row there. omega (arith, up, is.held s row there);
  one_table = is.one_table;
  changed = is.changed;
  rows = is.rows;
  keys = is.keys;
  known = is.known;
  kept = is.kept;
  apart = is.apart;
  seen = is.seen;
}

made_more : (made : Option ℕ) (row : ℕ) → (made ≡ None) ⊎ (made ≡ Some row) → row ≤ after_made made row
made_more made row (inl none) = subst (λ (m : Option ℕ). row ≤ after_made m row) (sym none) (omega arith)
made_more made row (inr some) = subst (λ (m : Option ℕ). row ≤ after_made m row) (sym some) (omega arith)

commit_cases : (commits : List (List Image)) (images : List Image) → ((images ≡ []) × (with_commit commits images ≡ commits)) ⊎ (with_commit commits images ≡ commits ++ images ∷ [])
commit_cases commits [] = inl (refl, refl)
commit_cases commits (image ∷ images) = inr refl

-- what one session may have, and what is chosen for the others
abbrev base : ℕ → Transaction → (ℕ → Transaction) → ℕ → Transaction
base session own choice t = if nat_eq t session then own else choice t

base_here : (session : ℕ) (own : Transaction) (choice : ℕ → Transaction) → base session own choice session ≡ own
base_here session own choice = ap (λ (b : Bool). if b then own else choice session) (eq-eqb session session refl)

base_there : (session : ℕ) (own : Transaction) (choice : ℕ → Transaction) (t : ℕ) → (t ≡ session → ⊥) → base session own choice t ≡ choice t
base_there session own choice t other = ap (λ (b : Bool). if b then own else choice t) (ne_eqb t session other)

module _ (state : State) (is : IsTidy state) (session : ℕ) (a : Answer) where
  abbrev before : Session
  before = session_at state session

  -- the session afterwards
  abbrev left : Session
  left = session_after before (length state.commits) a

  abbrev next : State
  next = after state session a

  left_nothing : (a.reads_only ≡ true → (a.own ≡ nothing) × AllByRecursion (λ (x : Savepoint). x.own ≡ nothing) a.savepoints) → is_some left.snapshot ≡ true → HasNothing left
  left_nothing only reads =
      let none = only (sym (reads_as a.reads_only before.snapshot (length state.commits)) ∙ reads) in
      record { own = none.0; kept = none.1 }

  -- ---- the session is one of those that there are

  module _ (within : session < length state.sessions) where
    others_stay : (t : ℕ) → (t ≡ session → ⊥) → session_at next t ≡ session_at state t
    others_stay t other = get_or-set_other state.sessions session t left disconnected other

    this_left : session_at next session ≡ left
    this_left = get_or-set_same state.sessions session left disconnected within

    each_session : (P : Session → Type 0) → P left → ((t : ℕ) → P (session_at state t)) → (t : ℕ) → P (session_at next t)
    each_session P here there t = elim (cases_eq t session) [
      | inl same ↦ subst P (sym (ap (session_at next) same ∙ this_left)) here
      | inr other ↦ subst P (sym (others_stay t other)) (there t)
    ]

    -- a choice of the new state, with one for this session that it had before
    base_choice : (own : Transaction) → MayHave before own → (choice : ℕ → Transaction) → IsChoice next choice → IsChoice state (base session own choice)
    base_choice own may choice is_one t = elim (cases_eq t session) [
      | inl same ↦ subst (λ (k : ℕ). MayHave (session_at state k) (base session own choice k)) (sym same) (subst (MayHave before) (sym (base_here session own choice)) may)
      | inr other ↦ subst (MayHave (session_at state t)) (sym (base_there session own choice t other)) (subst (λ (s : Session). MayHave s (choice t)) (others_stay t other) (is_one t))
    ]

    -- what is chosen for this session
    chosen : (choice : ℕ → Transaction) → IsChoice next choice → MayHave left (choice session)
    chosen choice is_one = subst (λ (s : Session). MayHave s (choice session)) this_left (is_one session)

    -- and one that it could choose before
    old_choice : (choice : ℕ → Transaction) → IsChoice next choice → MayHave before (choice session) → IsChoice state choice
    old_choice choice is_one may t = elim (cases_eq t session) [
      | inl same ↦ subst (λ (k : ℕ). MayHave (session_at state k) (choice k)) (sym same) may
      | inr other ↦ subst (λ (s : Session). MayHave s (choice t)) (others_stay t other) (is_one t)
    ]

    others_as : (own : Transaction) (choice : ℕ → Transaction) (t : ℕ) → (t ≡ session → ⊥) → choice t ≡ base session own choice t
    others_as own choice t other = sym (base_there session own choice t other)

    tidied : ((choice : ℕ → Transaction) → IsChoice next choice → IsKeptAs next choice) → Nested a.savepoints a.own
        → (a.reads_only ≡ true → (a.own ≡ nothing) × AllByRecursion (λ (x : Savepoint). x.own ≡ nothing) a.savepoints) → IsTidy next
    tidied kept nested only = record {
      kept = kept;
      nested = each_session (λ (s : Session). Nested s.savepoints s.own) nested is.nested;
      reads = each_session (λ (s : Session). is_some s.snapshot ≡ true → HasNothing s) (left_nothing only) is.reads;
    }

  -- ---- there is no such session

  module _ (past : length state.sessions ≤ session) where
    same_sessions : (t : ℕ) → session_at next t ≡ session_at state t
    same_sessions t = ap (λ (sessions : List Session). get_or sessions t disconnected) (set_past state.sessions session left past)

    nobody : before ≡ disconnected
    nobody = get_or_past state.sessions session disconnected past

    as_before : with_commit state.commits (committed_in a.reply.outcome) ≡ state.commits → state.next_row ≤ after_made a.reply.made state.next_row → IsTidy next
    as_before same up = record {
      kept = λ choice is_one. subst (λ commits. IsKeptBySteps state.start.schema.level state.start.rows commits (after_made a.reply.made state.next_row) choice) (sym same)
          (raised up (is.kept choice (λ t. subst (λ (s : Session). MayHave s (choice t)) (same_sessions t) (is_one t))));
      nested = λ t. subst (λ (s : Session). Nested s.savepoints s.own) (sym (same_sessions t)) (is.nested t);
      reads = λ t. subst (λ (s : Session). is_some s.snapshot ≡ true → HasNothing s) (sym (same_sessions t)) (is.reads t);
    }

  -- ---- the ways in which a transaction goes on

  -- it has what it had, or what it could go back to
  pub turns : MayHave before a.own → ((x : Savepoint) → In x a.savepoints → MayHave before x.own) → Nested a.savepoints a.own → committed_in a.reply.outcome ≡ [] → a.reply.made ≡ None
      → (a.reads_only ≡ true → (a.own ≡ nothing) × AllByRecursion (λ (x : Savepoint). x.own ≡ nothing) a.savepoints) → IsTidy next
  turns may kept nested none unmade only =
      let commits = ap (with_commit state.commits) none in
      let number = ap (λ made. after_made made state.next_row) unmade in
      elim (cases_lt session (length state.sessions)) [
        | inl within ↦ tidied within (λ choice is_one.
            agree commits number choice (is.kept choice (old_choice within choice is_one (elim (chosen within choice is_one) [
              | inl same ↦ subst (MayHave before) (sym same) may
              | inr old ↦ subst (MayHave before) (sym old.2) (kept old.0 old.1)
            ])))) nested only
        | inr past ↦ as_before past commits (made_more a.reply.made state.next_row (inl unmade))
      ]
    where
      agree : with_commit state.commits (committed_in a.reply.outcome) ≡ state.commits → after_made a.reply.made state.next_row ≡ state.next_row → (choice : ℕ → Transaction) → IsKeptAs state choice → IsKeptAs next choice
      agree commits number choice old = subst (λ cs. IsKeptBySteps state.start.schema.level state.start.rows cs (after_made a.reply.made state.next_row) choice) (sym commits)
          (subst (λ (n : ℕ). IsKeptBySteps state.start.schema.level state.start.rows state.commits n choice) (sym number) old)

  -- nothing happens to it
  pub stays : a.own ≡ before.own → a.savepoints ≡ before.savepoints → committed_in a.reply.outcome ≡ [] → a.reply.made ≡ None → (a.reads_only ≡ true → HasNothing before) → IsTidy next
  stays same marks none unmade only = turns (inl same) (λ x there. inr (x, subst (In x) marks there, refl))
      (subst (λ (l : List Savepoint). Nested l a.own) (sym marks) (subst (Nested before.savepoints) (sym same) (is.nested session))) none unmade
      (λ reads. let has = only reads in (same ∙ has.own, subst (AllByRecursion (λ (x : Savepoint). x.own ≡ nothing)) (sym marks) has.kept))

  -- it has nothing left
  module _ (empty : a.own ≡ nothing) (unmarked : a.savepoints ≡ []) where
    no_choice : (own : Transaction) → MayHave left own → own ≡ nothing
    no_choice own (inl same) = same ∙ empty
    no_choice own (inr kept) = absurd (subst (In kept.0) unmarked kept.1)

    all_gone : Nested a.savepoints a.own
    all_gone = subst (λ (l : List Savepoint). Nested l a.own) (sym unmarked) tt

    reads_none : a.reads_only ≡ true → (a.own ≡ nothing) × AllByRecursion (λ (x : Savepoint). x.own ≡ nothing) a.savepoints
    reads_none reads = (empty, subst (AllByRecursion (λ (x : Savepoint). x.own ≡ nothing)) (sym unmarked) tt)

    module _ (within : session < length state.sessions) (choice : ℕ → Transaction) (is_one : IsChoice next choice) where
      abbrev was : ℕ → Transaction
      was = base session before.own choice

      was_kept : IsKeptAs state was
      was_kept = is.kept was (base_choice within before.own (inl refl) choice is_one)

      drops : IsKeptBySteps state.start.schema.level state.start.rows state.commits state.next_row choice
      drops = dropped state.start.schema.level state.start.rows state.commits state.next_row was was_kept session (choice session) choice (others_as within before.own choice) refl (no_choice (choice session) (chosen within choice is_one))

      commits_them : IsKeptBySteps state.start.schema.level state.start.rows (state.commits ++ before.own.changes ∷ []) state.next_row choice
      commits_them = subst (λ (own : Transaction). IsKeptBySteps state.start.schema.level state.start.rows (state.commits ++ own.changes ∷ []) state.next_row choice) (base_here session before.own choice)
          (committed state.start.schema.level state.start.rows state.commits state.next_row was was_kept session (choice session) choice (others_as within before.own choice) refl (no_choice (choice session) (chosen within choice is_one)))

    -- it is dropped
    pub ends : committed_in a.reply.outcome ≡ [] → a.reply.made ≡ None → IsTidy next
    ends none unmade =
        let commits = ap (with_commit state.commits) none in
        let number = ap (λ made. after_made made state.next_row) unmade in
        elim (cases_lt session (length state.sessions)) [
          | inl within ↦ tidied within (λ choice is_one.
              subst (λ cs. IsKeptBySteps state.start.schema.level state.start.rows cs (after_made a.reply.made state.next_row) choice) (sym commits)
              (subst (λ (n : ℕ). IsKeptBySteps state.start.schema.level state.start.rows state.commits n choice) (sym number) (drops within choice is_one))) all_gone reads_none
          | inr past ↦ as_before past commits (made_more a.reply.made state.next_row (inl unmade))
        ]

    -- it is committed
    pub commits : committed_in a.reply.outcome ≡ before.own.changes → a.reply.made ≡ None → IsTidy next
    commits changes unmade =
        let number = ap (λ made. after_made made state.next_row) unmade in
        let level = state.start.schema.level in
        elim (cases_lt session (length state.sessions)) [
          | inl within ↦ tidied within (λ choice is_one.
              subst (λ cs. IsKeptBySteps level state.start.rows (with_commit state.commits cs) (after_made a.reply.made state.next_row) choice) (sym changes)
              (subst (λ (n : ℕ). IsKeptBySteps level state.start.rows (with_commit state.commits before.own.changes) n choice) (sym number)
              (elim (commit_cases state.commits before.own.changes) [
                | inl none ↦ subst (λ cs. IsKeptBySteps level state.start.rows cs state.next_row choice) (sym none.1) (drops within choice is_one)
                | inr some ↦ subst (λ cs. IsKeptBySteps level state.start.rows cs state.next_row choice) (sym some) (commits_them within choice is_one)
              ]))) all_gone reads_none
          | inr past ↦ as_before past (ap (with_commit state.commits) (changes ∙ ap (λ (s : Session). s.own.changes) (nobody past))) (made_more a.reply.made state.next_row (inl unmade))
        ]

  -- a statement writes
  pub writes : (table : ℕ) (writing : Writing) → a.own ≡ holding table before.own writing → a.savepoints ≡ before.savepoints → committed_in a.reply.outcome ≡ [] → (a.reply.made ≡ None) ⊎ (a.reply.made ≡ Some state.next_row) → a.reads_only ≡ false
      → ((choice : ℕ → Transaction) (kept : IsKeptAs state choice) → IsChoice state choice → choice session ≡ before.own
      → Writes state.start.schema.level state.start.rows state.commits state.next_row choice kept session table writing (after_made a.reply.made state.next_row)) → IsTidy next
  writes table writing own marks none made only w =
      let commits = ap (with_commit state.commits) none in
      let more = after_made a.reply.made state.next_row in
      let level = state.start.schema.level in
      let up = made_more a.reply.made state.next_row made in
      elim (cases_lt session (length state.sessions)) [
        | inl within ↦ tidied within (λ choice is_one.
            subst (λ cs. IsKeptBySteps level state.start.rows cs more choice) (sym commits) (elim (chosen within choice is_one) [
              | inl same ↦ (
                  let was = base session before.own choice in
                  let is_was = base_choice within before.own (inl refl) choice is_one in
                  let at = base_here session before.own choice in
                  let now : choice session ≡ holding table (was session) writing = same ∙ own ∙ ap (λ (o : Transaction). holding table o writing) (sym at) in
                  let goes = writes_on level state.start.rows state.commits state.next_row was (is.kept was is_was) session table writing more (w was (is.kept was is_was) is_was at) choice (others_as within before.own choice) now in
                  stays_open level state.start.rows state.commits state.next_row was (is.kept was is_was) session (holding table (was session) writing) choice (others_as within before.own choice) now table more goes)
              | inr old ↦ raised up (is.kept choice (old_choice within choice is_one (inr (old.0, subst (In old.0) marks old.1, old.2))))
            ]))
            (subst (λ (l : List Savepoint). Nested l a.own) (sym marks) (subst (Nested before.savepoints) (sym own) (nested_more before.savepoints before.own (holding table before.own writing) (record {
              rows = λ row there. rows_stay before.own.rows writing.rows row there;
              keys = λ k there. keys_stay table before.own.keys writing.keys k there;
            }) (is.nested session))))
            (λ reads. absurd (false≢true (sym only ∙ reads)))
        | inr past ↦ as_before past commits up
      ]
