use Rattle.std.proofs.Common.{sym, ap, ◌∙◌, ◌∷◌, [], ◌++◌, ℕ}
use Rattle.capture_format.specs.Inside.SessionReading.{before_space}
use Rattle.capture_format.proofs.Spaces.{before_space-joined, before_space-other}
use Rattle.capture_format.proofs.session_line.front_of.Goals as goal

pub returns-then-last-eq32 : goal.returns-then-last-eq32
returns-then-last-eq32 c =
    let ends = c.in_ok-last.ensures.cases.0 ∙ ap (λ (b : ℕ). c.in_ok-last.front.now ++ b ∷ []) c.if-last-eq32.true in
    sym (ap before_space ends ∙ before_space-joined c.in_ok-last.front.now)

pub returns-else-last-eq32 : goal.returns-else-last-eq32
returns-else-last-eq32 c = sym (ap before_space c.in_ok-last.ensures.cases.0 ∙ before_space-other c.in_ok-last.last.now c.in_ok-last.front.now c.if-last-eq32.false)
