-- What holds of the sessions' transactions and of the committed rows, and that it stays so as one transaction changes.
use Rattle.std.proofs.Common.{◌≡◌, ◌∙◌, ◌⊎◌, ◌<◌, ◌≤◌, ℕ, true, List, [], ◌∷◌, ◌++◌, length, take, refl, sym, ap, subst, inl, inr, arith, length-append}
use Rattle.std.proofs.lemmas.Bool.{cases_eq, cases_lt}
use Rattle.std.proofs.lemmas.List.{take_all, take-append-le}
use Rattle.desk_values.specs.declared.value.Image.{Image}
use Rattle.server_words.specs.declared.session.HeldKey.{HeldKey}
use Rattle.server_words.specs.declared.session.Transaction.{Transaction}
use Rattle.server_words.specs.Rows.{IsRising, is_there, lay, lay_all}
use Rattle.server_words.specs.State.{nothing}
use Rattle.server_words.proofs.Laying.{lay_all_push, rising_lay, rising_lay_all}
use Rattle.law_keys.proofs.Members.{In, in_joined}
use Rattle.law_keys.proofs.Rows.{HasRow, in_laid, laid_new, laid_old}
use Rattle.law_keys.proofs.Same.{Apart, HasKey, Same, back, key_in, on}

-- the image stands in the start, in a commit or in a session's changes
abbrev pub Stands : List Image → List (List Image) → (ℕ → Transaction) → Image → Type 0
Stands start commits own x = In x start ⊎ (((c : List Image) × In c commits × In x c) ⊎ ((s : ℕ) × In x (own s).changes))

-- the committed row of the image's number has its key
abbrev pub HasCommittedKey : ℕ → List Image → Image → Type 0
HasCommittedKey level rows x = (y : Image) × In y rows × (y.row ≡ x.row) × Same level (key_in y) (key_in x)

-- an image that a session changed: its key is held, or is that of the committed row
abbrev pub IsKnown : ℕ → List Image → List HeldKey → Image → Type 0
IsKnown level rows keys x = is_there x ≡ true → Same level (key_in x) (key_in x) → HasKey level keys (key_in x) ⊎ HasCommittedKey level rows x

-- an image of a row that stood before, or of the next row, in this table; the number of the next row rises to one
abbrev pub Stood : List Image → List (List Image) → ℕ → (ℕ → Transaction) → ℕ → ℕ → Image → Type 0
Stood start commits next_row own table more x = ((y : Image) × Stands start commits own y × (y.row ≡ x.row) × (y.table ≡ x.table)) ⊎ ((x.row ≡ next_row) × (next_row < more) × (x.table ≡ table))

pub record IsKeptBySteps (level : ℕ) (start : List Image) (commits : List (List Image)) (next_row : ℕ) (own : ℕ → Transaction) : Type 0 where
  pub first : IsRising start
  pub rising : (s : ℕ) → IsRising (own s).changes
  -- numbers of rows are given once, and a number is of one table
  pub below : (x : Image) → Stands start commits own x → x.row < next_row
  pub held : (s row : ℕ) → In row (own s).rows → row < next_row
  pub one_table : (x y : Image) → Stands start commits own x → Stands start commits own y → x.row ≡ y.row → x.table ≡ y.table
  -- a session holds what it changes, and nobody else does
  pub changed : (s : ℕ) (x : Image) → In x (own s).changes → In x.row (own s).rows
  pub rows : (s t row : ℕ) → In row (own s).rows → In row (own t).rows → s ≡ t
  pub keys : (s t : ℕ) (k l : HeldKey) → In k (own s).keys → In l (own t).keys → Same level k l → s ≡ t
  -- a changed image has a key that is held, or that of the committed row
  pub known : (s : ℕ) (x : Image) → In x (own s).changes → IsKnown level (lay_all start commits) (own s).keys x
  -- a committed row with a key that is held is held
  pub kept : (s : ℕ) (k : HeldKey) (y : Image) → In k (own s).keys → In y (lay_all start commits) → Same level k (key_in y) → In y.row (own s).rows
  -- no two rows have one key: of those that are committed, and of those that a session sees
  pub apart : (n : ℕ) → Apart level (lay_all start (take n commits))
  pub seen : (s : ℕ) → Apart level (lay (lay_all start commits) (own s).changes)

module _ (level : ℕ) (start : List Image) (commits : List (List Image)) (next_row : ℕ) (own : ℕ → Transaction) (is : IsKeptBySteps level start commits next_row own) where
  abbrev latest : List Image
  latest = lay_all start commits

  pub all_apart : Apart level latest
  all_apart = subst (λ cs. Apart level (lay_all start cs)) (take_all (length commits) commits (omega arith)) (is.apart (length commits))

  -- no other session holds the key of what a session changed
  pub foreign : (s t : ℕ) (k : HeldKey) (x : Image) → (t ≡ s → ⊥) → In k (own t).keys → In x (own s).changes → is_there x ≡ true → Same level k (key_in x) → ⊥
  foreign s t k x other there changed stands same =
      let again = back level k (key_in x) same in
      elim (is.known s x changed stands (on level (key_in x) k (key_in x) again same)) [
        | inl mine ↦ other (sym (is.keys s t mine.0 k mine.1 there (on level mine.0 (key_in x) k mine.2 again)))
        | inr old ↦ (
            let row = is.kept t k old.0 there old.1 (on level k (key_in x) (key_in old.0) same (back level (key_in old.0) (key_in x) old.3)) in
            other (is.rows t s x.row (subst (λ (r : ℕ). In r (own t).rows) old.2 row) (is.changed s x changed)))
      ]

  module _ (s : ℕ) (new : Transaction) (after : ℕ → Transaction) (others : (t : ℕ) → (t ≡ s → ⊥) → after t ≡ own t) (mine : after s ≡ new) where
    each : (P : ℕ → Transaction → Type 0) → P s new → ((t : ℕ) → (t ≡ s → ⊥) → P t (own t)) → (t : ℕ) → P t (after t)
    each P here there t = elim (cases_eq t s) [
      | inl same ↦ subst (λ (k : ℕ). P k (after k)) (sym same) (subst (P s) (sym mine) here)
      | inr other ↦ subst (P t) (sym (others t other)) (there t other)
    ]

    -- what two sessions do not share
    both : {X : Type 0} (has : Transaction → X → Type 0) (alike : X → X → Type 0) → ((x y : X) → alike x y → alike y x) → ((a b : ℕ) (x y : X) → has (own a) x → has (own b) y → alike x y → a ≡ b)
        → ((b : ℕ) (x y : X) → (b ≡ s → ⊥) → has new x → has (own b) y → alike x y → ⊥) → (a b : ℕ) (x y : X) → has (after a) x → has (after b) y → alike x y → a ≡ b
    both has alike turn old cross =
        each (λ a A. (b : ℕ) (x y : _) → has A x → has (after b) y → alike x y → a ≡ b)
        (each (λ b B. (x y : _) → has new x → has B y → alike x y → s ≡ b) (λ x y hx hy same. refl) (λ b other x y hx hy same. absurd (cross b x y other hx hy same)))
        (λ a other. each (λ b B. (x y : _) → has (own a) x → has B y → alike x y → a ≡ b) (λ x y hx hy same. absurd (cross a y x other hy hx (turn x y same))) (λ b also x y hx hy same. old a b x y hx hy same))

    -- ---- a transaction goes on

    module _ (table more : ℕ) where
      pub record StaysOpenAs : Type 0 where
        pub rising : IsRising new.changes
        pub most : next_row ≤ more
        pub stood : (x : Image) → In x new.changes → Stood start commits next_row own table more x
        pub held : (row : ℕ) → In row new.rows → row < more
        pub changed : (x : Image) → In x new.changes → In x.row new.rows
        pub rows : (t row : ℕ) → (t ≡ s → ⊥) → In row new.rows → In row (own t).rows → ⊥
        pub keys : (t : ℕ) (k l : HeldKey) → (t ≡ s → ⊥) → In k new.keys → In l (own t).keys → Same level k l → ⊥
        pub known : (x : Image) → In x new.changes → IsKnown level latest new.keys x
        pub kept : (k : HeldKey) (y : Image) → In k new.keys → In y latest → Same level k (key_in y) → In y.row new.rows
        pub seen : Apart level (lay latest new.changes)

      module _ (stays : StaysOpenAs) where
        was : (x : Image) → Stands start commits after x → Stood start commits next_row own table more x
        was x (inl there) = inl (x, inl there, refl, refl)
        was x (inr (inl there)) = inl (x, inr (inl there), refl, refl)
        was x (inr (inr there)) = each (λ t A. (y : Image) → In y A.changes → Stood start commits next_row own table more y) stays.stood (λ t other y old. inl (y, inr (inr (t, old)), refl, refl)) there.0 x there.1

        below_more : (x : Image) → Stood start commits next_row own table more x → x.row < more
        below_more x (inl old) = omega (arith, is.below old.0 old.1, old.2, stays.most)
        below_more x (inr next) = omega (arith, next.0, next.1)

        table_is : (x y : Image) → Stood start commits next_row own table more x → Stood start commits next_row own table more y → x.row ≡ y.row → x.table ≡ y.table
        table_is x y (inl a) (inl b) same = sym a.3 ∙ is.one_table a.0 b.0 a.1 b.1 (a.2 ∙ same ∙ sym b.2) ∙ b.3
        table_is x y (inl a) (inr b) same = absurd (omega (arith, is.below a.0 a.1, a.2, same, b.0))
        table_is x y (inr a) (inl b) same = absurd (omega (arith, is.below b.0 b.1, b.2, same, a.0))
        table_is x y (inr a) (inr b) same = a.2 ∙ sym b.2

        pub stays_open : IsKeptBySteps level start commits more after
        stays_open = record {
          first = is.first;
          rising = each (λ t A. IsRising A.changes) stays.rising (λ t other. is.rising t);
          below = λ x stands. below_more x (was x stands);
          held = each (λ t A. (row : ℕ) → In row A.rows → row < more) stays.held (λ t other row there. omega (arith, is.held t row there, stays.most));
          one_table = λ x y sx sy same. table_is x y (was x sx) (was y sy) same;
          changed = each (λ t A. (x : Image) → In x A.changes → In x.row A.rows) stays.changed (λ t other. is.changed t);
          rows = λ a b row hx hy. both (λ (A : Transaction) (r : ℕ). In r A.rows) (λ q r. q ≡ r) (λ q r e. sym e) (λ c d q r hq hr e. is.rows c d r (subst (λ (n : ℕ). In n (own c).rows) e hq) hr) (λ c q r other hq hr e. stays.rows c r other (subst (λ (n : ℕ). In n new.rows) e hq) hr) a b row row hx hy refl;
          keys = both (λ (A : Transaction) (k : HeldKey). In k A.keys) (Same level) (back level) is.keys (λ b k l. stays.keys b k l);
          known = each (λ t A. (x : Image) → In x A.changes → IsKnown level latest A.keys x) stays.known (λ t other. is.known t);
          kept = each (λ t A. (k : HeldKey) (y : Image) → In k A.keys → In y latest → Same level k (key_in y) → In y.row A.rows) stays.kept (λ t other. is.kept t);
          apart = is.apart;
          seen = each (λ t A. Apart level (lay latest A.changes)) stays.seen (λ t other. is.seen t);
        }

    -- ---- a transaction ends

    module _ (ends : new ≡ nothing) where
      none : {X : Type 0} (of : Transaction → List X) → of nothing ≡ [] → (x : X) → In x (of new) → ⊥
      none of empty x there = subst (In x) (ap of ends ∙ empty) there

      no_changes : new.changes ≡ []
      no_changes = ap (λ (A : Transaction). A.changes) ends

      -- its changes are dropped
      pub dropped : IsKeptBySteps level start commits next_row after
      dropped = stays_open 0 next_row (record {
        rising = subst IsRising (sym no_changes) tt;
        most = omega arith;
        stood = λ x there. absurd (none (λ A. A.changes) refl x there);
        held = λ row there. absurd (none (λ A. A.rows) refl row there);
        changed = λ x there. absurd (none (λ A. A.changes) refl x there);
        rows = λ t row other there. absurd (none (λ A. A.rows) refl row there);
        keys = λ t k l other there. absurd (none (λ A. A.keys) refl k there);
        known = λ x there. absurd (none (λ A. A.changes) refl x there);
        kept = λ k y there. absurd (none (λ A. A.keys) refl k there);
        seen = subst (λ cs. Apart level (lay latest cs)) (sym no_changes) all_apart;
      })

      -- its changes are committed
      abbrev more : List (List Image)
      more = commits ++ (own s).changes ∷ []

      laid : lay_all start more ≡ lay latest (own s).changes
      laid = lay_all_push start commits (own s).changes

      up : IsRising latest
      up = rising_lay_all start commits is.first

      stood_before : (x : Image) → Stands start more after x → Stands start commits own x
      stood_before x (inl there) = inl there
      stood_before x (inr (inl there)) = elim (in_joined there.0 commits ((own s).changes ∷ []) there.1) [
        | inl old ↦ inr (inl (there.0, old, there.2))
        | inr new ↦ (elim new [ inl same ↦ inr (inr (s, subst (In x) same there.2)) | inr never ↦ absurd never ])
      ]
      stood_before x (inr (inr there)) = each (λ t A. (y : Image) → In y A.changes → Stands start commits own y) (λ y new. absurd (none (λ A. A.changes) refl y new)) (λ t other y old. inr (inr (t, old))) there.0 x there.1

      -- what stands of the committed rows, where the session changed none of that number
      still : (y : Image) → In y latest → (HasRow y.row (own s).changes → ⊥) → In y (lay_all start more)
      still y there unchanged = subst (In y) (sym laid) (laid_old y latest (own s).changes there unchanged)

      -- a row that one session changed no other did
      others_change : (t : ℕ) (x : Image) → (t ≡ s → ⊥) → In x (own t).changes → HasRow x.row (own s).changes → ⊥
      others_change t x other there has = other (is.rows t s x.row (is.changed t x there) (subst (λ (r : ℕ). In r (own s).rows) has.2 (is.changed s has.0 has.1)))

      still_known : (t : ℕ) (x : Image) → (t ≡ s → ⊥) → In x (own t).changes → IsKnown level (lay_all start more) (own t).keys x
      still_known t x other there stands key = elim (is.known t x there stands key) [
        | inl held ↦ inl held
        | inr old ↦ inr (old.0, still old.0 old.1 (λ has. others_change t x other there (subst (λ (r : ℕ). HasRow r (own s).changes) old.2 has)), old.2, old.3)
      ]

      still_kept : (t : ℕ) (k : HeldKey) (y : Image) → (t ≡ s → ⊥) → In k (own t).keys → In y (lay_all start more) → Same level k (key_in y) → In y.row (own t).rows
      still_kept t k y other held there same = elim (in_laid y latest (own s).changes up (subst (In y) laid there)) [
        | inl new ↦ absurd (foreign s t k y other held new.0 new.1 same)
        | inr old ↦ is.kept t k y held old.0 same
      ]

      few_apart : (n : ℕ) → Apart level (lay_all start (take n more))
      few_apart n = elim (cases_lt (length commits) n) [
        | inl beyond ↦ (
            let whole : take n more ≡ more = take_all n more (omega (arith, beyond, length-append commits ((own s).changes ∷ []))) in
            subst (Apart level) (sym (ap (lay_all start) whole ∙ laid)) (is.seen s))
        | inr within ↦ subst (λ cs. Apart level (lay_all start cs)) (sym (take-append-le n commits ((own s).changes ∷ []) within)) (is.apart n)
      ]

      module _ (t : ℕ) (other : t ≡ s → ⊥) where
        -- a row that another session changed, and one that the first saw
        one_each : (x y : Image) → In x (own t).changes → is_there x ≡ true → In y (lay latest (own s).changes) → (HasRow y.row (own t).changes → ⊥) → Same level (key_in x) (key_in y) → x.row ≡ y.row
        one_each x y mine stands theirs unchanged same = elim (in_laid y latest (own s).changes up theirs) [
          | inr old ↦ is.seen t x y (laid_new 0 x latest (own t).changes (is.rising t) mine stands) (laid_old y latest (own t).changes old.0 unchanged) same
          | inl new ↦ (elim (is.known t x mine stands (on level (key_in x) (key_in y) (key_in x) same (back level (key_in x) (key_in y) same))) [
            | inl held ↦ absurd (foreign s t held.0 y other held.1 new.0 new.1 (on level held.0 (key_in x) (key_in y) held.2 same))
            | inr old ↦ (
                let unmoved : HasRow old.0.row (own s).changes → ⊥ = λ has. others_change t x other mine (subst (λ (r : ℕ). HasRow r (own s).changes) old.2 has) in
                sym old.2 ∙ is.seen s old.0 y (laid_old old.0 latest (own s).changes old.1 unmoved) theirs (on level (key_in old.0) (key_in x) (key_in y) old.3 same))
          ])
        ]

        still_apart : Apart level (lay (lay latest (own s).changes) (own t).changes)
        still_apart x y there also same =
            let seen = lay latest (own s).changes in
            let rising = rising_lay latest (own s).changes up in
            elim (in_laid x seen (own t).changes rising there) [
              | inl first ↦ (elim (in_laid y seen (own t).changes rising also) [
                | inl second ↦ is.seen t x y (laid_new 0 x latest (own t).changes (is.rising t) first.0 first.1) (laid_new 0 y latest (own t).changes (is.rising t) second.0 second.1) same
                | inr second ↦ one_each x y first.0 first.1 second.0 second.1 same
              ])
              | inr first ↦ (elim (in_laid y seen (own t).changes rising also) [
                | inl second ↦ sym (one_each y x second.0 second.1 first.0 first.1 (back level (key_in x) (key_in y) same))
                | inr second ↦ is.seen s x y first.0 second.0 same
              ])
            ]

      pub committed : IsKeptBySteps level start (commits ++ (own s).changes ∷ []) next_row after
      committed = record {
        first = is.first;
        rising = each (λ t A. IsRising A.changes) (subst IsRising (sym no_changes) tt) (λ t other. is.rising t);
        below = λ x stands. is.below x (stood_before x stands);
        held = each (λ t A. (row : ℕ) → In row A.rows → row < next_row) (λ row there. absurd (none (λ A. A.rows) refl row there)) (λ t other. is.held t);
        one_table = λ x y sx sy. is.one_table x y (stood_before x sx) (stood_before y sy);
        changed = each (λ t A. (x : Image) → In x A.changes → In x.row A.rows) (λ x there. absurd (none (λ A. A.changes) refl x there)) (λ t other. is.changed t);
        rows = dropped.rows;
        keys = dropped.keys;
        known = each (λ t A. (x : Image) → In x A.changes → IsKnown level (lay_all start more) A.keys x) (λ x there. absurd (none (λ A. A.changes) refl x there)) (λ t other x. still_known t x other);
        kept = each (λ t A. (k : HeldKey) (y : Image) → In k A.keys → In y (lay_all start more) → Same level k (key_in y) → In y.row A.rows) (λ k y there. absurd (none (λ A. A.keys) refl k there)) (λ t other k y. still_kept t k y other);
        apart = few_apart;
        seen = each (λ t A. Apart level (lay (lay_all start more) A.changes))
            (subst (λ cs. Apart level (lay (lay_all start more) cs)) (sym no_changes) (subst (Apart level) (sym laid) (is.seen s)))
            (λ t other. subst (λ rows. Apart level (lay rows (own t).changes)) (sym laid) (still_apart t other));
      }
