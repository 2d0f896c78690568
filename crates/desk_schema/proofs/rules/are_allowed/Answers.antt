use Rattle.std.proofs.Common.{sym}
use Rattle.std.proofs.lemmas.Bool.{false≢true}
use Rattle.std.proofs.lemmas.Slice.Zip.{AllZip-long}
use Rattle.desk_schema.specs.Rules.{IsAllowed}
use Rattle.desk_schema.proofs.rules.are_allowed.Goals as goal

pub returns-then-columns-values : goal.returns-then-columns-values
returns-then-columns-values c =
    (λ e. absurd (false≢true e), λ all. absurd (c.if-columns-values.true (sym (AllZip-long (IsAllowed c.args.next_values.now) c.args.columns.now c.args.values.now all))))
