use Rattle.std.proofs.Common.{List, ap, ◌∙◌}
use Rattle.desk_values.specs.declared.value.Value.{Value}
use Rattle.statement_cache.specs.declared.statements.Known.{Known}
use Rattle.statement_cache.specs.Kinds.{kinds_of}
use Rattle.statement_cache.proofs.Right.{read_right}
use Rattle.statement_cache.proofs.statements.known_of.Goals as goal

-- the copy is the text, and the kinds are those of the binds
pub returns : goal.returns
returns c =
    let known : Known = record { text = c.in_ok-text.text; kinds = c.in_ok-kinds.kinds; kept = c.args.kept } in
    λ schema is. read_right schema c.args.text.now c.args.binds.now known c.in_ok-text.ensures (c.in_ok-kinds.ensures ∙ ap (λ (binds : List Value). kinds_of binds) c.as_slice.ensures.value) is
