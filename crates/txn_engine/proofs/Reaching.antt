-- States that a server comes to, and that no session sees two rows with one key in them.
use Rattle.std.proofs.Common.{◌≡◌, ℕ, Bool, false, ◌||◌, List, [], ◌∷◌, ◌++◌, map, Option, None, Some, Result, Ok, Err, IfOk, OnErr, refl, sym, ap, subst, ◌∙◌}
use Rattle.std.specs.Prelude.{IsSomeAnd}
use Rattle.std.specs.List.{AllByRecursion, cons_option, list_any}
use Rattle.desk_values.specs.declared.call.Call.{Call}
use Rattle.desk_values.specs.declared.call.Reply.{Reply}
use Rattle.desk_values.specs.declared.memory.Memory.{Memory}
use Rattle.desk_values.specs.declared.value.Image.{Image}
use Rattle.desk_values.specs.declared.value.Value.{Value}
use Rattle.desk_values.specs.declared.value.Value.TheVariants.{Null}
use Rattle.desk_values.specs.Comparison.{same_key}
use Rattle.desk_schema.specs.Rules.{key_in, keys_of}
use Rattle.desk_schema.specs.Sound.{AreApart}
use Rattle.server_words.specs.Apart.{KeysAreApart}
use Rattle.server_words.specs.Machine.{Running}
use Rattle.server_words.specs.Rows.{row_key}
use Rattle.server_words.specs.State.{State, opening}
use Rattle.server_words.specs.Step.{Gives, run, step}
use Rattle.server_words.specs.Writes.{repeats_key}
use Rattle.law_steps.specs.Reading.{rows_in}
use Rattle.law_keys.specs.Keys.{AfterAnyCalls, HasNonNullKey, KeysAreThere, SeenKeysDiffer}
use Rattle.law_keys.proofs.Same.{key_is}
use Rattle.txn_engine.specs.Reached.{IsReached}

run_next : (state : State) (calls : List (ℕ × Call)) (call : ℕ × Call) → run state (calls ++ call ∷ []) ≡ step (run state calls) call.0 call.1
run_next state [] call = refl
run_next state (first ∷ calls) call = run_next (step state first.0 first.1) calls call

pub reached_next : (state next : State) (session : ℕ) (call : Call) → IsReached state → next ≡ step state session call → IsReached next
reached_next state next session call reached is = (
  reached.0,
  reached.1 ++ (session, call) ∷ [],
  reached.2,
  is ∙ ap (λ (s : State). step s session call) reached.3 ∙ sym (run_next (opening reached.0) reached.1 (session, call)),
)

pub reached_step : {A : Type 0} (result : Result A Memory) (reply_of : A → Reply) (old new : Running) (session : ℕ) (call : Call) → IfOk result (λ a. Gives old.state session call (reply_of a) new.state) → OnErr result (new ≡ old) → IsReached old.state → IsReached new.state
reached_step (Ok a) reply_of old new session call gives same reached = reached_next old.state new.state session call reached gives.1
reached_step (Err memory) reply_of old new session call gives same reached = subst (λ (r : Running). IsReached r.state) (sym same) reached

-- ---- keys that are apart as a start's are

module _ (table : ℕ) where
  key_there : (row : Image) → HasNonNullKey table row → key_in table row ≡ Some (row_key row)
  key_there row is = elim (key_in table row) as (λ o. key_in table row ≡ o → IsSomeAnd o (λ key. ¬ (key ≡ Null)) → key_in table row ≡ Some (row_key row)) [
    | None ↦ λ none some. absurd some
    | Some key ↦ λ found some. found ∙ ap (λ (k : Value). Some k) (sym (key_is table row key found).1)
  ] refl is

  keys_are : (rows : List Image) → AllByRecursion (HasNonNullKey table) rows → keys_of table rows ≡ map row_key rows
  keys_are [] all = refl
  keys_are (row ∷ rows) all = ap (λ (o : Option Value). cons_option o (keys_of table rows)) (key_there row all.0) ∙ ap (λ (keys : List Value). row_key row ∷ keys) (keys_are rows all.1)

none_same : (level : ℕ) (first : Value) (others : List Value) → AllByRecursion (λ other. same_key level first other ≡ false) others → list_any (same_key level first) others ≡ false
none_same level first [] all = refl
none_same level first (other ∷ others) all = ap (λ (b : Bool). b || list_any (same_key level first) others) all.0 ∙ none_same level first others all.1

none_twice : (level : ℕ) (keys : List Value) → AreApart level keys → repeats_key level keys ≡ false
unfolding repeats_key
none_twice level [] apart = refl
none_twice level (first ∷ others) apart = ap (λ (b : Bool). b || repeats_key level others) (none_same level first others apart.0) ∙ none_twice level others apart.1

pub reached_apart : AfterAnyCalls SeenKeysDiffer → AfterAnyCalls KeysAreThere → (state : State) → IsReached state → KeysAreApart state
reached_apart differ there state reached session table =
    let now : State = run (opening reached.0) reached.1 in
    let keys = keys_are table (rows_in now session table) ((there reached.0 reached.1 reached.2).seen session table) in
    let apart = none_twice now.start.schema.level (map row_key (rows_in now session table)) (subst (AreApart now.start.schema.level) keys (differ reached.0 reached.1 reached.2 session table)) in
    subst (λ (s : State). repeats_key s.start.schema.level (map row_key (rows_in s session table)) ≡ false) (sym reached.3) apart
