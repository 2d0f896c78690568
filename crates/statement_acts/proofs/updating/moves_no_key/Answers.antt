use Rattle.std.proofs.Common.{◌≡◌, List, [], ◌∷◌, length, refl, sym, ◌∙◌, arith}
use Rattle.std.proofs.lemmas.Bool.{eqb-true}
use Rattle.desk_values.specs.declared.value.Value.{Value}
use Rattle.statement_acts.proofs.updating.moves_no_key.Goals as goal

no_keys : (keys : List Value) → length keys ≡ 0 → keys ≡ []
no_keys [] none = refl
no_keys (key ∷ keys) none = absurd (omega arith)

pub returns : goal.returns
returns c = λ is. no_keys c.args.changed.now.keys (eqb-true (length c.args.changed.now.keys) 0 (sym c.is_empty.ensures ∙ is))
