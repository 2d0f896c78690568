use Rattle.capture_serve.proofs.Wholes.{are_whole}
use Rattle.capture_serve.proofs.laws.connections_are_whole.Goals as goal

pub returns : goal.returns
returns c = are_whole
