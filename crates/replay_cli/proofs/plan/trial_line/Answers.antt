use Rattle.std.proofs.Common.{◌≡◌, ◌++◌, ◌∙◌, ℕ, List, refl, ap, append_assoc}
use Rattle.std.specs.Prelude.{codes}
use Rattle.replay_cli.specs.Lines.{counted}
use Rattle.replay_cli.proofs.plan.trial_line.Goals as goal

joined : (a b c d : List ℕ) → ((a ++ b) ++ c) ++ d ≡ a ++ (b ++ (c ++ d))
joined a b c d = simp append_assoc refl

pub returns : goal.returns
returns c =
    let first = counted c.args.n (codes ": ") in
    let second = counted c.args.calls (codes " calls, 0 divergent, ") in
    let third = counted c.args.commits (codes " commits\n") in
    c.in_ok-append_counted-3.ensures ∙ ap (λ (t : List ℕ). t ++ third) (c.in_ok-append_counted-2.ensures ∙ ap (λ (t : List ℕ). t ++ second) (c.in_ok-append_counted.ensures ∙ ap (λ (n : ℕ). c.append.new.self ++ counted n (codes ": ")) c.from.ensures ∙ ap (λ (t : List ℕ). t ++ first) (c.in_ok-append.ensures.ok ∙ ap (λ (t : List ℕ). t ++ codes "trial ") c.new-line.ensures)))
    ∙ joined (codes "trial ") first second third
