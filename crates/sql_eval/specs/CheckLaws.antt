-- Laws of the checks.
use Rattle.std.specs.Prelude.{◌≡◌, ◌<◌, ℕ, true, false, List, Err, Ok}
use Rattle.desk_values.specs.declared.value.Value.{Value}
use Rattle.desk_values.specs.declared.fault.Fault.{Fault}
use Rattle.desk_values.specs.Fault.{fault_rank}
use Rattle.desk_schema.specs.Schema.{SchemaView}
use Rattle.sql_tree.specs.Plain.{Name, Plan}
use Rattle.sql_eval.specs.Check.{applies, check_of}

-- the fault that the checks give applies, and none of lower rank does
abbrev pub LowestRankIsTold : Type 0
LowestRankIsTold = (schema : SchemaView) (binds : List Value) (statement : Plan Name) (fault : Fault)
    → check_of schema binds statement ≡ Err fault
    → (applies schema binds statement fault ≡ true)
    × ((other : Fault) → fault_rank other < fault_rank fault → applies schema binds statement other ≡ false)

-- where they give the statement with numbers, no fault applies
abbrev pub NothingIsOverlooked : Type 0
NothingIsOverlooked = (schema : SchemaView) (binds : List Value) (statement : Plan Name) (plan : Plan ℕ)
    → check_of schema binds statement ≡ Ok plan
    → (fault : Fault) → applies schema binds statement fault ≡ false
