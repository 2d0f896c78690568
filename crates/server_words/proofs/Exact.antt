-- At level 1 keys are the same just where they are equal.
use Rattle.std.proofs.Common.{◌≡◌, true, refl, sym, ◌∙◌}
use Rattle.desk_values.specs.declared.value.Value.{Value}
use Rattle.desk_values.specs.declared.value.Value.TheVariants.{Null}
use Rattle.desk_values.specs.Comparison.{same_key}
use Rattle.desk_schema.proofs.Drafting.{counted_as_is, counts_same, same_counts}

pub same_is : (a b : Value) → same_key 1 a b ≡ true → a ≡ b
same_is a b same = sym (counted_as_is a) ∙ same_counts 1 a b same ∙ counted_as_is b

pub is_same : (a : Value) → (a ≡ Null → ⊥) → same_key 1 a a ≡ true
is_same a there = counts_same 1 a a there refl
