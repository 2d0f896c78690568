use Rattle.visited_rows.proofs.Visits.{answers_alike}
use Rattle.visited_rows.proofs.visiting.visited_rows_answer.Goals as goal

pub returns : goal.returns
returns c = answers_alike
