use Rattle.std.proofs.Common.{◌≡◌, ◌∙◌, ◌++◌, List, ℕ, ap, append_assoc}
use Rattle.std.specs.Prelude.{codes}
use Rattle.std.proofs.lemmas.Bool.{ne_eqb}
use Rattle.replay_cli.specs.Lines.{counted, short_text}
use Rattle.replay_cli.proofs.serving.append_short.Goals as goal

appended : (short n : ℕ) (old mid new : List ℕ) → (short ≡ 0 → ⊥) → n ≡ short → mid ≡ old ++ codes ", " → new ≡ mid ++ counted n (codes " short of memory\n") → new ≡ old ++ short_text short
appended short n old mid new some same first second = rw (ne_eqb short 0 some) (second ∙ ap (λ (l : List ℕ). l ++ counted n (codes " short of memory\n")) first ∙ append_assoc old (codes ", ") (counted n (codes " short of memory\n")) ∙ ap (λ (k : ℕ). old ++ (codes ", " ++ counted k (codes " short of memory\n"))) same)

pub returns-in_ok-append_counted : goal.returns-in_ok-append_counted
returns-in_ok-append_counted c = appended c.args.short c.from.result c.args.to.now c.append-else-short-eq0.new.self c.append_counted.new.to c.if-short-eq0.false c.from.ensures c.in_ok-append-2.ensures.ok c.in_ok-append_counted.ensures
