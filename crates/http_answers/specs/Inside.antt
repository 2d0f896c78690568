-- Words of private clauses. They need not be believed.
use Rattle.std.specs.Prelude.{ℕ, Option, None, Some}
use Rattle.http_answers.specs.declared.answer.Front.{Front}
use Rattle.http_answers.specs.declared.answer.Front.TheVariants.{Begun, Other}

-- where a head of this length and status was read
abbrev pub body_by : ℕ → ℕ → Option ℕ → Front
body_by head status None = Other
body_by head status (Some body) = Begun (record { head = head; body = body; status = status })
