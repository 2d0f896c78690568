use Rattle.file_lines.proofs.Files.{once}
use Rattle.file_lines.proofs.laws.said_once.Goals as goal

pub returns : goal.returns
returns g c = let f = g.F.LineFile in λ one state bytes said other is also. once f.comes f.done one state 1 bytes said other is also
