-- The checks tell the fault of lowest rank that applies.
use Rattle.std.proofs.Common.{◌≡◌, ◌<◌, ℕ, List, refl, sym, ◌∙◌, subst, arith}
use Rattle.std.specs.Prelude.{Bool, true, false, if◌then◌else◌, None, Some, Result, Ok, Err}
use Rattle.desk_values.specs.declared.value.Value.{Value}
use Rattle.desk_values.specs.declared.fault.Fault.{Fault}
use Rattle.desk_values.specs.declared.fault.Fault.TheVariants.{UnknownTable, UnknownColumn, UnknownSequence, BindMissing, Kinds}
use Rattle.desk_values.specs.Fault.{fault_rank}
use Rattle.desk_schema.specs.Schema.{SchemaView}
use Rattle.sql_tree.specs.Plain.{Name, Plan}
use Rattle.sql_eval.specs.Check.{applies, check_of, first_fault}
use Rattle.sql_eval.specs.CheckLaws.{LowestRankIsTold, NothingIsOverlooked}
use Rattle.sql_eval.specs.Faults.{unless_told}
use Rattle.sql_eval.specs.SchemaNames.{numbered}

-- which of the five faults applies
abbrev choice : Bool → Bool → Bool → Bool → Bool → Fault → Bool
choice t c s b k UnknownTable = t
choice t c s b k UnknownColumn = c
choice t c s b k UnknownSequence = s
choice t c s b k BindMissing = b
choice t c s b k Kinds = k
choice t c s b k other = false

abbrev decision : Bool → Bool → Bool → Bool → Bool → Plan ℕ → Result (Plan ℕ) Fault
decision t c s b k plan =
    unless_told (if t then Some UnknownTable else if c then Some UnknownColumn else if s then Some UnknownSequence else if b then Some BindMissing else if k then Some Kinds else None) (Ok plan)

record IsLowest (holds : Fault → Bool) (fault : Fault) : Type 0 where
  it : holds fault ≡ true
  none_below : (other : Fault) → fault_rank other < fault_rank fault → holds other ≡ false

below : (n : ℕ) (t c s b k : Bool) → (4 < n → t ≡ false) → (5 < n → c ≡ false) → (6 < n → s ≡ false) → (7 < n → b ≡ false) → (8 < n → k ≡ false) → (other : Fault) → fault_rank other < n → choice t c s b k other ≡ false
below n t c s b k on_t on_c on_s on_b on_k UnknownTable h = on_t h
below n t c s b k on_t on_c on_s on_b on_k UnknownColumn h = on_c h
below n t c s b k on_t on_c on_s on_b on_k UnknownSequence h = on_s h
below n t c s b k on_t on_c on_s on_b on_k BindMissing h = on_b h
below n t c s b k on_t on_c on_s on_b on_k Kinds h = on_k h
below n t c s b k on_t on_c on_s on_b on_k other h = refl

abbrev refused : Fault → Result (Plan ℕ) Fault
refused fault = Err fault

same_fault : (f g : Fault) → refused f ≡ Err g → f ≡ g
same_fault f g e = cc

lowest : (t c s b k : Bool) (plan : Plan ℕ) (fault : Fault) → decision t c s b k plan ≡ Err fault → IsLowest (choice t c s b k) fault
lowest true c s b k plan fault e = let P : Fault → Type 0 = λ f. IsLowest (choice true c s b k) f in subst P (same_fault UnknownTable fault e) (record { it = refl; none_below = below 4 true c s b k (λ h. absurd (omega arith)) (λ h. absurd (omega arith)) (λ h. absurd (omega arith)) (λ h. absurd (omega arith)) (λ h. absurd (omega arith)) })
lowest false true s b k plan fault e = let P : Fault → Type 0 = λ f. IsLowest (choice false true s b k) f in subst P (same_fault UnknownColumn fault e) (record { it = refl; none_below = below 5 false true s b k (λ h. refl) (λ h. absurd (omega arith)) (λ h. absurd (omega arith)) (λ h. absurd (omega arith)) (λ h. absurd (omega arith)) })
lowest false false true b k plan fault e = let P : Fault → Type 0 = λ f. IsLowest (choice false false true b k) f in subst P (same_fault UnknownSequence fault e) (record { it = refl; none_below = below 6 false false true b k (λ h. refl) (λ h. refl) (λ h. absurd (omega arith)) (λ h. absurd (omega arith)) (λ h. absurd (omega arith)) })
lowest false false false true k plan fault e = let P : Fault → Type 0 = λ f. IsLowest (choice false false false true k) f in subst P (same_fault BindMissing fault e) (record { it = refl; none_below = below 7 false false false true k (λ h. refl) (λ h. refl) (λ h. refl) (λ h. absurd (omega arith)) (λ h. absurd (omega arith)) })
lowest false false false false true plan fault e = let P : Fault → Type 0 = λ f. IsLowest (choice false false false false true) f in subst P (same_fault Kinds fault e) (record { it = refl; none_below = below 8 false false false false true (λ h. refl) (λ h. refl) (λ h. refl) (λ h. refl) (λ h. absurd (omega arith)) })
lowest false false false false false plan fault e = absurd (cc)

nothing_chosen : (fault : Fault) → choice false false false false false fault ≡ false
nothing_chosen UnknownTable = refl
nothing_chosen UnknownColumn = refl
nothing_chosen UnknownSequence = refl
nothing_chosen BindMissing = refl
nothing_chosen Kinds = refl
nothing_chosen other = refl

nothing : (t c s b k : Bool) (plan found : Plan ℕ) → decision t c s b k plan ≡ Ok found → (fault : Fault) → choice t c s b k fault ≡ false
nothing true c s b k plan found e fault = absurd (cc)
nothing false true s b k plan found e fault = absurd (cc)
nothing false false true b k plan found e fault = absurd (cc)
nothing false false false true k plan found e fault = absurd (cc)
nothing false false false false true plan found e fault = absurd (cc)
nothing false false false false false plan found e fault = nothing_chosen fault

module _ (schema : SchemaView) (binds : List Value) (st : Plan Name) where
  chosen_applies : (fault : Fault) → choice (applies schema binds st UnknownTable) (applies schema binds st UnknownColumn) (applies schema binds st UnknownSequence) (applies schema binds st BindMissing) (applies schema binds st Kinds) fault ≡ applies schema binds st fault
  chosen_applies UnknownTable = refl
  chosen_applies UnknownColumn = refl
  chosen_applies UnknownSequence = refl
  chosen_applies BindMissing = refl
  chosen_applies Kinds = refl
  chosen_applies other = refl

  as_decision : check_of schema binds st ≡ decision (applies schema binds st UnknownTable) (applies schema binds st UnknownColumn) (applies schema binds st UnknownSequence) (applies schema binds st BindMissing) (applies schema binds st Kinds) (numbered schema st)
  unfolding first_fault
  as_decision = refl

pub lowest_rank_is_told : LowestRankIsTold
lowest_rank_is_told schema binds st fault e =
    let low = lowest (applies schema binds st UnknownTable) (applies schema binds st UnknownColumn) (applies schema binds st UnknownSequence) (applies schema binds st BindMissing) (applies schema binds st Kinds) (numbered schema st) fault (sym (as_decision schema binds st) ∙ e) in
    (sym (chosen_applies schema binds st fault) ∙ low.it, λ other h. sym (chosen_applies schema binds st other) ∙ low.none_below other h)

pub nothing_is_overlooked : NothingIsOverlooked
nothing_is_overlooked schema binds st plan e fault =
    sym (chosen_applies schema binds st fault)
    ∙ nothing (applies schema binds st UnknownTable) (applies schema binds st UnknownColumn) (applies schema binds st UnknownSequence) (applies schema binds st BindMissing) (applies schema binds st Kinds) (numbered schema st) plan (sym (as_decision schema binds st) ∙ e) fault
