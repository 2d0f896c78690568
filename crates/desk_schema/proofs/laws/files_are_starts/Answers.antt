use Rattle.desk_schema.proofs.Files.{read_back}
use Rattle.desk_schema.proofs.laws.files_are_starts.Goals as goal

pub returns : goal.returns
returns c = read_back
