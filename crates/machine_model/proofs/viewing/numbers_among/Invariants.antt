use Rattle.std.proofs.Common.{◌≡◌, ◌++◌, drop}
use Rattle.std.specs.Prelude.{nat_eq}
use Rattle.std.specs.List.{filter, list_any}
use Rattle.sql_eval.specs.Totals.{looked_at}
use Rattle.server_words.specs.Rows.{row_numbers}
use Rattle.machine_model.proofs.viewing.numbers_among.Given as goal

abbrev pub invariant-loop-image : goal.invariant-loop-image
invariant-loop-image l =
    l.among ++ filter (λ number. list_any (nat_eq number) l.numbers) (row_numbers (looked_at (drop l.image-index l.rows)))
    ≡ filter (λ number. list_any (nat_eq number) l.numbers) (row_numbers (looked_at l.rows))
