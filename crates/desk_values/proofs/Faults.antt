-- Faults by their numbers.
use Rattle.std.proofs.Common.{◌≡◌, ℕ, ◌<◌, eqb, Option, Some, None, refl, sym, lit<}
use Rattle.std.specs.Prelude.{IfSome}
use Rattle.std.proofs.lemmas.Bool.{eqb-true}
use Rattle.desk_values.specs.declared.fault.Fault.{Fault}
use Rattle.desk_values.specs.declared.fault.Fault.TheVariants.{Syntax}
use Rattle.desk_values.specs.Fault.{fault_number, all_faults, fault_numbered}
use Rattle.desk_values.proofs.Words.{find_passes}

pub numbered_taken : (n : ℕ) (fault : Fault) → fault_numbered n ≡ Some fault → fault_number fault ≡ n
unfolding fault_numbered
numbered_taken n fault e = eqb-true (fault_number fault) n (find_passes (λ other. eqb (fault_number other) n) all_faults fault e)

pub numbered_again : (fault : Fault) → fault_numbered (fault_number fault) ≡ Some fault
unfolding fault_numbered
numbered_again Syntax = refl
numbered_again _ = refl

-- no number of a fault is over 34
pub fault_number_small : (fault : Fault) → fault_number fault < 35
fault_number_small Syntax = lit< tt
fault_number_small _ = lit< tt

pub numbered_some : (n : ℕ) (result : Option Fault) → result ≡ fault_numbered n → IfSome result (λ fault. fault_number fault ≡ n)
numbered_some n None e = tt
numbered_some n (Some fault) e = numbered_taken n fault (sym e)
