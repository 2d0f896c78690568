-- The generated capture: its accounts, one after the other, and its calls.
use Rattle.std.proofs.Common.{◌≡◌, ◌∙◌, ◌<◌, ◌≤◌, ℕ, suc, ◌+◌, ◌-◌, pos, List, [], ◌∷◌, ◌++◌, refl, sym, ap, append_assoc, arith, map}
use Rattle.std.proofs.lemmas.List.{append-nil}
use Rattle.std.specs.List.{range_with_len}
use Rattle.desk_values.specs.declared.value.Value.TheVariants.{Int}
use Rattle.desk_values.specs.declared.value.Image.{Image}
use Rattle.desk_schema.specs.declared.line.StartLine.TheVariants.{Row, NextRow}
use Rattle.desk_schema.specs.Rules.{IsWithin}
use Rattle.desk_schema.specs.Start.{StartView}
use Rattle.desk_schema.specs.Draft.{finished}
use Rattle.desk_schema.specs.Schema.{SchemaView}
use Rattle.desk_schema.specs.State.{State, added}
use Rattle.capture_recorder.specs.Generated.{account, accounts, generated_start, generated, generated_request, recorded_all, with_request}
use Rattle.capture_recorder.specs.Inside.Declaring.{declared}
use Rattle.capture_recorder.specs.Recording.{Recording, opened}

-- the start while it is declared: its service and its table, and the accounts below this one
pub record IsDeclaring (state : State) (k : ℕ) : Type 0 where
  pub order : IsWithin 6 7 state.last
  pub schema : state.start.schema ≡ declared.start.schema
  pub next_values : state.start.next_values ≡ []
  pub rows : state.start.rows ++ accounts k (101 - k) ≡ generated_start.rows

accounts_none : (k : ℕ) → accounts k 0 ≡ []
unfolding accounts
accounts_none k = refl

accounts_past : (k : ℕ) → 101 ≤ k → accounts k (101 - k) ≡ []
accounts_past k past =
    let none : 101 - k ≡ 0 = omega (arith, past) in
    ap (accounts k) none ∙ accounts_none k

accounts_next : (k n : ℕ) → accounts k (suc n) ≡ account k ∷ accounts (k + 1) n
unfolding accounts
accounts_next k n = refl

accounts_more : (k : ℕ) → k < 101 → accounts k (101 - k) ≡ account k ∷ accounts (k + 1) (101 - (k + 1))
accounts_more k below =
    let more : 101 - k ≡ suc (101 - (k + 1)) = omega (arith, below) in
    ap (accounts k) more ∙ accounts_next k (101 - (k + 1))

pub declaring_more : (state next : State) (k : ℕ) → k < 101 → IsDeclaring state k → next ≡ added state (Row k 0 (Int (pos k) ∷ Int (pos 1000) ∷ [])) → IsDeclaring next (k + 1)
declaring_more state next k below is to = record {
  order = (let last = ap (λ (s : State). s.last) to in record { from = omega (arith, last); to = omega (arith, last) });
  schema = ap (λ (s : State). s.start.schema) to ∙ is.schema;
  next_values = ap (λ (s : State). s.start.next_values) to ∙ is.next_values;
  rows = ap (λ (s : State). s.start.rows ++ accounts (k + 1) (101 - (k + 1))) to ∙ append_assoc state.start.rows (account k ∷ []) (accounts (k + 1) (101 - (k + 1))) ∙ ap (λ (images : List Image). state.start.rows ++ images) (sym (accounts_more k below)) ∙ is.rows;
}

abbrev with_parts : (schema : SchemaView) (rows : List Image) (next_values : List ℕ) → StartView
with_parts schema rows next_values = record { schema = schema; rows = rows; next_row = 101; next_values = next_values }

pub declared_whole : (state : State) (start : StartView) (k : ℕ) → 101 ≤ k → IsDeclaring state k → finished start ≡ added state (NextRow 101) → start ≡ generated_start
declared_whole state start k past is to =
    let rows : state.start.rows ≡ accounts 1 100 = sym (append-nil state.start.rows) ∙ ap (λ (images : List Image). state.start.rows ++ images) (sym (accounts_past k past)) ∙ is.rows in
    ap (λ (s : State). s.start) to ∙ ap (λ (schema : SchemaView). with_parts schema state.start.rows state.start.next_values) is.schema ∙ ap (λ (images : List Image). with_parts declared.start.schema images state.start.next_values) rows ∙ ap (λ (ns : List ℕ). with_parts declared.start.schema (accounts 1 100) ns) is.next_values

pub generated_none : (r : Recording) (n : ℕ) → r ≡ opened generated_start → recorded_all r (map generated_request (range_with_len 0 (n - 0))) ≡ generated n
unfolding generated
generated_none r n is =
    let all : n - 0 ≡ n = omega arith in
    ap (λ (x : Recording). recorded_all x (map generated_request (range_with_len 0 (n - 0)))) is ∙ ap (λ (k : ℕ). recorded_all (opened generated_start) (map generated_request (range_with_len 0 k))) all

pub generated_more : (r next : Recording) (i n : ℕ) → i < n → next ≡ with_request r (generated_request i) → recorded_all r (map generated_request (range_with_len i (n - i))) ≡ generated n → recorded_all next (map generated_request (range_with_len (i + 1) (n - (i + 1)))) ≡ generated n
unfolding generated
generated_more r next i n below to is =
    let more : n - i ≡ suc (n - (i + 1)) = omega (arith, below) in
    ap (λ (x : Recording). recorded_all x (map generated_request (range_with_len (i + 1) (n - (i + 1))))) to
    ∙ ap (λ (k : ℕ). recorded_all r (map generated_request (range_with_len i k))) (sym more) ∙ is

pub generated_whole : (r : Recording) (i n : ℕ) → n ≤ i → recorded_all r (map generated_request (range_with_len i (n - i))) ≡ generated n → r ≡ generated n
unfolding generated
generated_whole r i n past is =
    let none : n - i ≡ 0 = omega (arith, past) in
    ap (λ (k : ℕ). recorded_all r (map generated_request (range_with_len i k))) (sym none) ∙ is
