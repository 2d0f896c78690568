-- Of two stages, the first that tells a fault; and where what is told comes from.
use Rattle.std.proofs.Common.{◌≡◌, ◌≤◌, ◌<◌, ◌⊎◌, inl, inr, ℕ, Bool, true, false, ltb, Option, None, Some, refl, sym, ap, ◌∙◌, le_of_lt, le_trans, ltb-false, ltb-true, ⊎_elim}
use Rattle.std.specs.Prelude.{IfSome, nat_eq}
use Rattle.std.specs.List.{find}
use Rattle.std.specs.Option.{option_or}
use Rattle.desk_values.specs.declared.fault.Fault.{Fault}
use Rattle.desk_values.specs.declared.fault.Fault.TheVariants.{Syntax}
use Rattle.desk_values.specs.Fault.{all_faults, fault_rank}
use Rattle.law_server.specs.Ranks.{TellsLowest}
use Rattle.law_server.specs.Applies.{RanksDiffer}

-- ---- numbers

compared : (less : Bool) (a b : ℕ) → ltb b a ≡ less → (b < a → ⊥) → a ≤ b
compared true a b is never = absurd (never (ltb-true b a is))
compared false a b is never = ltb-false b a is

pub at_most : (a b : ℕ) → (b < a → ⊥) → a ≤ b
at_most a b never = compared (ltb b a) a b refl never

-- ---- stages

-- the fault applies in the one stage or in the other
abbrev pub InEither : (Fault → Type 0) → (Fault → Type 0) → Fault → Type 0
InEither First Second fault = First fault ⊎ Second fault

pub if_some_map : (First Second : Fault → Type 0) (said : Option Fault) → ((fault : Fault) → First fault → Second fault) → IfSome said First → IfSome said Second
if_some_map First Second None f is = tt
if_some_map First Second (Some fault) f is = f fault is

-- the same faults apply
pub tells_alike : (First Second : Fault → Type 0) (said : Option Fault) → ((fault : Fault) → First fault → Second fault) → ((fault : Fault) → Second fault → First fault) → TellsLowest First said → TellsLowest Second said
tells_alike First Second said to back tells = record {
  applies = if_some_map First Second said to tells.applies;
  lowest = λ other is. tells.lowest other (back other is);
}

-- the first stage's faults have the lower ranks: what it tells goes first
pub in_turn : (limit : ℕ) (First Second : Fault → Type 0) (one two : Option Fault) → TellsLowest First one → TellsLowest Second two
    → ((fault : Fault) → First fault → fault_rank fault ≤ limit) → ((fault : Fault) → Second fault → limit < fault_rank fault)
    → TellsLowest (InEither First Second) (option_or one two)
in_turn limit First Second (Some fault) two first second low high = record {
  applies = inl first.applies;
  lowest = λ other is. ⊎_elim (λ early. first.lowest other early) (λ late. le_trans (low fault first.applies) (le_of_lt (high other late))) is;
}
in_turn limit First Second None two first second low high = record {
  applies = if_some_map Second (InEither First Second) two (λ fault is. inr is) second.applies;
  lowest = λ other is. ⊎_elim (λ early. absurd (first.lowest other early)) (λ late. second.lowest other late) is;
}

-- ---- no two ranks are one

ranked_at : ℕ → Option Fault
ranked_at rank = find (λ fault. nat_eq (fault_rank fault) rank) all_faults

ranked_again : (fault : Fault) → ranked_at (fault_rank fault) ≡ Some fault
unfolding ranked_at
ranked_again Syntax = refl
ranked_again _ = refl

some_is : (fault other : Fault) → ◌≡◌ {A = Option Fault} (Some fault) (Some other) → fault ≡ other
some_is fault other e = cc

pub no_rank_twice : RanksDiffer
no_rank_twice some other same = some_is some other (sym (ranked_again some) ∙ ap ranked_at same ∙ ranked_again other)
