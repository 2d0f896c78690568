use Rattle.std.proofs.Common.{ℕ, [], ◌++◌, Option, sym, subst}
use Rattle.desk_values.specs.declared.value.Value.{Value}
use Rattle.desk_values.specs.Sorting.{kind_then_value}
use Rattle.machine_model.specs.Footing.{keys_held_in}
use Rattle.server_words.specs.Views.{AreOnce}
use Rattle.machine_model.proofs.footing.keys_on.Goals as goal

none_once : AreOnce kind_then_value [] []
none_once = record { ascend = tt; only = λ x c. c; all = λ x c. c }

pub returns-in-None : goal.returns-in-None
returns-in-None c =
    let sessions = c.args.others.before.now ++ c.args.others.after.now in
    subst (λ (table : Option ℕ). AreOnce kind_then_value (keys_held_in sessions table) c.new.result) (sym c.in-None.is) (subst (AreOnce kind_then_value []) (sym c.new.ensures) none_once)
