use Rattle.std.proofs.Common.{List, ap, ◌∙◌}
use Rattle.desk_values.specs.declared.value.Image.{Image}
use Rattle.server_words.specs.Rows.{lay, lay_all}
use Rattle.found_rows.specs.Inside.ByRow.{all_in}
use Rattle.found_rows.proofs.Placing.{lay_standing}
use Rattle.found_rows.proofs.latest.all_laid.Goals as goal

pub loop-commit-init : goal.loop-commit-init
loop-commit-init c =
    let start = c.args.start.now in
    record {
      by_row = c.in_ok-lay_over.ensures.by_row;
      laid = ap (λ (rows : List Image). lay_all rows c.args.commits.now) (c.in_ok-lay_over.ensures.laid ∙ ap (λ es. lay (all_in es) start) c.new-rows.ensures.empty ∙ lay_standing 0 start c.requires.rising c.requires.there);
    }
