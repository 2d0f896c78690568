-- What is known of texts stays right.
use Rattle.std.proofs.Common.{◌≡◌, ℕ, true, false, nat_eq, List, [], None, Some, refl, sym, ap, subst, ◌∙◌}
use Rattle.std.proofs.lemmas.Bool.{eqb-true}
use Rattle.std.specs.HashMap.{HashMap, get}
use Rattle.std.specs.Map.{lookup}
use Rattle.desk_values.specs.declared.value.Value.{Value}
use Rattle.desk_schema.specs.Schema.{SchemaView}
use Rattle.statement_cache.specs.declared.statements.Known.{Known}
use Rattle.statement_cache.specs.Kept.{AreRight, IsRight, outcome_of, outcome_of_text}
use Rattle.statement_cache.specs.Kinds.{kinds_of}
use Rattle.statement_cache.proofs.Alike.{kinds_decide}

some_is : (a b : Known) → Some a ≡ Some b → a ≡ b
some_is a b same = cc

none_is : {A : Type 0} (x : Known) → None ≡ Some x → A
none_is x same = absurd (cc)

module _ {S : Type 0} (schema : SchemaView) where
  pub none_right : (all : HashMap ℕ Known S) → all.entries ≡ [] → AreRight schema all.entries
  none_right all empty q other at = none_is other (sym (ap (λ (entries : List (ℕ × Known)). lookup (nat_eq q) entries) empty) ∙ at)

  pub put_right : (before after : HashMap ℕ Known S) (print : ℕ) (known : Known) → get nat_eq after print ≡ Some known → ((q : ℕ) → nat_eq print q ≡ false → get nat_eq after q ≡ get nat_eq before q) → IsRight schema known → AreRight schema before.entries → AreRight schema after.entries
  put_right before after print known here others right has q other at = elim (nat_eq print q) as (λ b. nat_eq print q ≡ b → IsRight schema other) [
    | true ↦ λ same. subst (IsRight schema) (some_is known other (sym here ∙ ap (λ (k : ℕ). get nat_eq after k) (eqb-true print q same) ∙ at)) right
    | false ↦ λ apart. has q other (sym (others q apart) ∙ at)
  ] refl

  pub stay_right : (before after : HashMap ℕ Known S) → after.entries ≡ before.entries → AreRight schema before.entries → AreRight schema after.entries
  stay_right before after same has q other at = has q other (sym (ap (λ (entries : List (ℕ × Known)). lookup (nat_eq q) entries) same) ∙ at)

module _ (schema : SchemaView) where
  -- what was read for some binds is right for all of their kinds
  pub read_right : (text : List ℕ) (binds : List Value) (known : Known) → known.text ≡ text → known.kinds.items ≡ kinds_of binds → outcome_of_text schema text binds ≡ outcome_of known.kept → IsRight schema known
  read_right text binds known same kinds is others alike =
      ap (λ (t : List ℕ). outcome_of_text schema t others) same ∙ kinds_decide schema text others binds (alike ∙ kinds) ∙ is
