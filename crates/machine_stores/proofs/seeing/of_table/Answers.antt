use Rattle.std.proofs.Common.{subst, sym}
use Rattle.server_words.specs.Rows.{IsRising}
use Rattle.server_words.proofs.Looks.{rising_of_table}
use Rattle.machine_stores.proofs.seeing.of_table.Goals as goal

pub returns-clause-rising : goal.returns-clause-rising
returns-clause-rising c = subst IsRising (sym c.in_ok-seen.ensures) (rising_of_table c.args.table c.args.images.now c.requires)
