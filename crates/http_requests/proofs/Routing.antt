-- A router whose routes have no parameters finds just the texts of its routes.
use Rattle.std.proofs.Common.{◌≡◌, ◌≢◌, ℕ, zero, suc, ◌-◌, ◌<◌, ◌≤◌, List, [], ◌∷◌, length, Option, Some, None, Bool, true, false, cond, refl, sym, ap, ◌∙◌, arith, nat_eq, ◌==◌}
use Rattle.std.proofs.lemmas.Bool.Decides.{nat_tests}
use Rattle.std.specs.Prelude.{bytes_eq, codes, option_map}
use Rattle.matchit.specs.Rows.{RowsOf, param_token, catch_all_token}
use Rattle.matchit.specs.Seek.{own, step, or_else, seek, first, param_step, has_slash}
use Rattle.matchit.specs.Router.{RouteOf}
use Rattle.http_requests.specs.declared.routes.Place.{Place}
use Rattle.http_requests.specs.declared.routes.Place.TheVariants.{Call, Session}
use Rattle.http_requests.specs.Inside.Routing.{desk_rows, place_of, plain_row}

-- tokens that are bytes
abbrev pub ArePlain : List ℕ → Type 0
ArePlain [] = Unit {0}
ArePlain (b ∷ text) = (b < 256) × ArePlain text

abbrev pub HasPlain : {K : Type 0} → RowsOf K → Type 0
HasPlain [] = Unit {0}
HasPlain ((text, k) ∷ rows) = ArePlain text × HasPlain rows

-- the first row of this text
abbrev pub row_at : {K : Type 0} → RowsOf K → List ℕ → Option K
row_at [] path = None
row_at ((text, k) ∷ rows) path = cond (bytes_eq path text) (Some k) (row_at rows path)

own-row : {K : Type 0} (rows : RowsOf K) → own rows ≡ row_at rows []
own-row [] = refl
own-row (([], k) ∷ rows) = refl
own-row ((x ∷ text, k) ∷ rows) = own-row rows

step-row : {K : Type 0} (b : ℕ) (path : List ℕ) (rows : RowsOf K) → row_at (step b rows) path ≡ row_at rows (b ∷ path)
step-row b path [] = refl
step-row b path (([], k) ∷ rows) = step-row b path rows
step-row b path ((x ∷ text, k) ∷ rows) = by (x == b) refl (step-row b path rows) where
  by : (v : Bool) → (x == b) ≡ v → row_at (step b rows) path ≡ row_at rows (b ∷ path) → row_at (cond v ((text, k) ∷ step b rows) (step b rows)) path ≡ cond (bytes_eq (b ∷ path) (x ∷ text)) (Some k) (row_at rows (b ∷ path))
  by true e rest =
      let same : nat_eq b x ≡ true = grind (arith, nat_tests) in
      rw (same, rest) refl
  by false e rest =
      let other : nat_eq b x ≡ false = grind (arith, nat_tests) in
      rw other rest

step-plain : {K : Type 0} (b : ℕ) (rows : RowsOf K) → HasPlain rows → HasPlain (step b rows)
step-plain b [] plain = tt
step-plain b (([], k) ∷ rows) plain = step-plain b rows plain.1
step-plain b ((x ∷ text, k) ∷ rows) plain =
    elim (x == b) as (λ v. HasPlain (cond v ((text, k) ∷ step b rows) (step b rows))) [
      | true ↦ (plain.0.1, step-plain b rows plain.1)
      | false ↦ step-plain b rows plain.1
    ]

step-token : {K : Type 0} (token : ℕ) (rows : RowsOf K) → 256 ≤ token → HasPlain rows → step token rows ≡ []
step-token token [] past plain = refl
step-token token (([], k) ∷ rows) past plain = step-token token rows past plain.1
step-token token ((x ∷ text, k) ∷ rows) past plain =
    let low : x < 256 = plain.0.0 in
    let other : (x == token) ≡ false = grind (arith, nat_tests) in
    rw other (step-token token rows past plain.1)

param-none : {K : Type 0} (path : List ℕ) → (param_step {K = K} [] path).1 ≡ []
unfolding param_step
param-none {K} path =
    elim (has_slash path) as (λ v. (cond {A = ℕ × RowsOf K} v (0, []) (length path, [])).1 ≡ []) [
      | true ↦ refl
      | false ↦ refl
    ]

seek-none : {K : Type 0} (skip : ℕ) (path : List ℕ) → seek {K = K} skip [] path ≡ None
unfolding seek
seek-none skip [] = refl
seek-none (suc skip) (b ∷ path) = seek-none skip path
seek-none {K} zero (b ∷ path) = simp (seek-none {K = K} 0 path, param-none {K = K} (b ∷ path), seek-none {K = K} ((param_step {K = K} [] (b ∷ path)).0 - 1) path)

or_else-none : {K : Type 0} (found : Option K) → or_else found None ≡ found
or_else-none None = refl
or_else-none (Some k) = refl

pub seek-row : {K : Type 0} (rows : RowsOf K) (path : List ℕ) → HasPlain rows → seek 0 rows path ≡ row_at rows path
unfolding seek
seek-row rows [] plain = own-row rows
seek-row {K} rows (b ∷ path) plain =
    rw (step-token param_token rows (omega arith) plain, step-token catch_all_token rows (omega arith) plain, param-none {K = K} (b ∷ path), seek-none {K = K} ((param_step {K = K} [] (b ∷ path)).0 - 1) path, or_else-none (seek 0 (step b rows) path))
    (seek-row (step b rows) path (step-plain b rows plain) ∙ step-row b path rows)

pub places : (target : List ℕ) → option_map (λ (route : RouteOf Place). route.value) (first desk_rows target) ≡ place_of target
places target = ap (option_map (λ (route : RouteOf Place). route.value)) (seek-row desk_rows target plain) ∙ by (bytes_eq target (codes "/call")) (bytes_eq target (codes "/session")) where
  plain : HasPlain desk_rows
  plain = grind arith

  by : (call session : Bool) → option_map (λ (route : RouteOf Place). route.value) (cond call (Some (plain_row (codes "/call") Call).1) (cond session (Some (plain_row (codes "/session") Session).1) None)) ≡ cond call (Some Call) (cond session (Some Session) None)
  by true session = refl
  by false true = refl
  by false false = refl
