use Rattle.law_server.proofs.Rows.Expressions.{result_of, truth_twins, value_twins}
use Rattle.law_server.proofs.row_laws.expressions_under_renaming.Goals as goal

pub returns : goal.returns
returns c = record {
  values = λ pairs level row other values others binds sent e fits left given. result_of (value_twins pairs level row other values others left binds sent given e fits);
  truths = λ pairs level row other values others binds sent e once fits left given. truth_twins pairs level row other values others left binds sent given once e fits;
}
