-- What holds of a gate that is played.
use Rattle.std.specs.Prelude.{◌≡◌, ℕ, true, false}
use Rattle.commit_gate.specs.Gates.{is_in}
use Rattle.case_parts.specs.declared.gates.play.Play.TheInside.{Inside}

-- the open calls are started and not answered
pub record IsPlay (a : Inside) : Type 0 where
  pub started : (k : ℕ) → is_in a.open.items k ≡ true → is_in a.gate.started k ≡ true
  pub unanswered : (k : ℕ) → is_in a.open.items k ≡ true → is_in a.gate.answered k ≡ false
