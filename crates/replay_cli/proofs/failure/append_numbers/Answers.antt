use Rattle.std.proofs.Common.{◌≡◌, ◌++◌, ◌∙◌, ℕ, List, refl, ap, append_assoc}
use Rattle.std.specs.Prelude.{codes}
use Rattle.std.specs.Fmt.{decimal}
use Rattle.capture_format.specs.SessionFile.{number_text}
use Rattle.replay_cli.proofs.failure.append_numbers.Goals as goal

joined : (a b c d e f g : List ℕ) → ((((a ++ (b ++ c)) ++ d) ++ e) ++ f) ++ g ≡ a ++ (b ++ (c ++ (d ++ (e ++ (f ++ g)))))
joined a b c d e f g = simp append_assoc refl

pub returns : goal.returns
returns c =
    let written = number_text c.args.written in
    let right = number_text c.args.right in
    c.in_ok-append_number-2.ensures ∙ ap (λ (t : List ℕ). t ++ right) (c.in_ok-append-2.ensures.ok ∙ ap (λ (t : List ℕ). t ++ codes ", not ") (c.in_ok-append_number.ensures ∙ ap (λ (t : List ℕ). t ++ written) (c.in_ok-append.ensures.ok ∙ ap (λ (t : List ℕ). t ++ codes " has number ") c.in_ok-append_at.ensures)))
    ∙ joined c.args.to.now (codes "stamp ") (decimal c.args.stamp) (codes " has number ") written (codes ", not ") right
