use Rattle.statement_cache.proofs.Counting.{none_counted}
use Rattle.statement_cache.proofs.Right.{none_right}
use Rattle.statement_cache.proofs.statements.no_texts.Goals as goal

pub returns : goal.returns
returns c = record {
  right = λ schema. none_right schema c.new.result c.new.ensures.empty;
  none = none_counted c.new.result c.new.ensures.empty;
}
