use Rattle.id_pairs.proofs.New.{all_go_last}
use Rattle.id_pairs.proofs.laws.new_pairs_go_last.Goals as goal

pub returns : goal.returns
returns c = all_go_last
