use Rattle.std.proofs.Common.{◌≡◌, ℕ, false, List, subst, ◌∙◌}
use Rattle.sql_reader.specs.Words.{sign_text}
use Rattle.sql_reader.specs.Reading.{begins, all_signs}
use Rattle.sql_reader.proofs.Loops.{find_next}
use Rattle.sql_reader.proofs.scanner.sign.Goals as goal

pub loop-sign-preserved : goal.loop-sign-preserved
loop-sign-preserved c =
    let no = subst (λ (t : List ℕ). begins t c.args.bytes.now ≡ false) c.text.ensures c.in_default-strip_prefix.ensures.cases in
    find_next (λ s. begins (sign_text s) c.args.bytes.now) all_signs c.loop-sign.sign-index _ c.loop-sign-test.true no ∙ c.loop-sign.invariant
