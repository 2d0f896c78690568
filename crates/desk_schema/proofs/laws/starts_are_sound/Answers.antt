use Rattle.desk_schema.proofs.Files.{sound_start}
use Rattle.desk_schema.proofs.laws.starts_are_sound.Goals as goal

pub returns : goal.returns
returns c = sound_start
