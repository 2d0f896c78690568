-- What is refused, and by what.
use Rattle.std.proofs.Common.{◌≡◌, ℕ, Bool, true, false, List, None, Some, ◌||◌, refl, sym, ap, ◌∙◌}
use Rattle.desk_values.specs.declared.value.Value.{Value}
use Rattle.desk_values.specs.declared.fault.Fault.{Fault}
use Rattle.server_words.specs.declared.causes.Causes.{Causes}
use Rattle.server_words.specs.declared.effect.Effect.{Effect}
use Rattle.server_words.specs.declared.effect.Decision.{Decision}
use Rattle.server_words.specs.Causes.{no_cause, ranked}
use Rattle.server_words.specs.View.{View}
use Rattle.server_words.specs.Answer.{done, refused, ruled}
use Rattle.server_words.specs.Decision.{Decides}

-- ---- causes

first_cause : (divides overflows too_many locked null too_long out_of_range duplicate : Bool) (fault : Fault)
    → ranked (record { divides = divides; overflows = overflows; too_many = too_many; locked = false; null = false; too_long = false; out_of_range = false; duplicate = false }) ≡ Some fault
    → ranked (record { divides = divides; overflows = overflows; too_many = too_many; locked = locked; null = null; too_long = too_long; out_of_range = out_of_range; duplicate = duplicate }) ≡ Some fault
unfolding ranked
first_cause true overflows too_many locked null too_long out_of_range duplicate fault is = is
first_cause false true too_many locked null too_long out_of_range duplicate fault is = is
first_cause false false true locked null too_long out_of_range duplicate fault is = is
first_cause false false false locked null too_long out_of_range duplicate fault is = cc

-- those that are found first
abbrev pub first_of : Causes → Causes
first_of causes = record no_cause { divides = causes.divides; overflows = causes.overflows; too_many = causes.too_many }

-- what is found first is told, whatever is found behind it
pub first_told : (causes first : Causes) (fault : Fault) → Some fault ≡ ranked first → first ≡ first_of causes → Some fault ≡ ranked causes
first_told causes first fault told is = sym (first_cause causes.divides causes.overflows causes.too_many causes.locked causes.null causes.too_long causes.out_of_range causes.duplicate fault (sym (told ∙ ap ranked is)))

-- what is found behind it
pub rest_told : (causes first : Causes) (locked : Bool) → first ≡ first_of causes → locked ≡ causes.locked → record (first_of causes) { locked = causes.locked } ≡ causes → record first { locked = locked } ≡ causes
rest_told causes first locked first_is locked_is rest = rw (first_is, locked_is) rest

module _ (causes first : Causes) (locked duplicate : Bool) (first_is : first ≡ first_of causes) (locked_is : locked ≡ causes.locked) (duplicate_is : duplicate ≡ causes.duplicate) where
  -- and what new images bring
  pub all_told : record first { locked = locked; duplicate = duplicate; null = first.null || causes.null; too_long = first.too_long || causes.too_long; out_of_range = first.out_of_range || causes.out_of_range } ≡ causes
  all_told = rw (first_is, locked_is, duplicate_is) refl

module _ (view : View) (table : ℕ) (draws : List Value) (causes : Causes) (effect : Effect) (decision : Decision) where
  pub ruled_refused : (fault : Fault) → Some fault ≡ ranked causes → Decides view (refused view draws fault) decision → Decides view (ruled table view draws causes effect) decision
  ruled_refused fault told decides = rw (← told) decides

  pub ruled_done : None ≡ ranked causes → Decides view (done table view draws effect) decision → Decides view (ruled table view draws causes effect) decision
  ruled_done told decides = rw (← told) decides
