use Rattle.std.proofs.Common.{◌≡◌, ℕ, map, false, subst, sym, true≢false, arith}
use Rattle.server_words.specs.Rows.{row_key}
use Rattle.server_words.specs.Writes.{repeats_key}
use Rattle.visited_rows.specs.Basis.{rows_of_basis}
use Rattle.visited_rows.proofs.basis.keys_differ.Goals as goal

pub returns-then-basis-with : goal.returns-then-basis-with
returns-then-basis-with c = λ is. absurd (true≢false (sym is))

pub returns : goal.returns
returns c = λ is.
    let same : c.args.basis.level ≡ c.args.with.level = omega (arith, c.if-basis-with.false) in
    subst (λ (level : ℕ). repeats_key level (map row_key (rows_of_basis c.args.basis)) ≡ false) same (c.requires.differ is)
