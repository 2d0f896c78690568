use Rattle.std.proofs.Common.{◌≡◌, ◌∙◌, ◌++◌, ℕ, List, length, ap, append_assoc}
use Rattle.std.specs.Prelude.{codes}
use Rattle.std.proofs.lemmas.Result.{on_ok_weaker}
use Rattle.register_work.specs.Lines.{counted}
use Rattle.register_work.proofs.lines.append_counts.Goals as goal

twice : (old mid new : List ℕ) (calls n m : ℕ) → mid ≡ old ++ counted calls (codes " calls, ") → n ≡ m → new ≡ mid ++ counted n (codes " divergent\n") → new ≡ old ++ (counted calls (codes " calls, ") ++ counted m (codes " divergent\n"))
twice old mid new calls n m first same second =
    second
    ∙ ap (λ (k : ℕ). mid ++ counted k (codes " divergent\n")) same
    ∙ ap (λ (t : List ℕ). t ++ counted m (codes " divergent\n")) first
    ∙ append_assoc old (counted calls (codes " calls, ")) (counted m (codes " divergent\n"))

pub returns : goal.returns
returns c =
    on_ok_weaker c.append_counted-2.result (twice c.args.to.now c.append_counted.new.to c.append_counted-2.new.to c.args.report.now.calls c.len.result (length c.args.report.now.lines) c.in_ok-append_counted.ensures c.len.ensures) c.append_counted-2.ensures
