use Rattle.desk_schema.specs.State.{nothing}
use Rattle.desk_schema.proofs.Files.{more_lines, front_lines}
use Rattle.desk_schema.proofs.laws.lines_grow.Goals as goal

pub returns-clause-grown : goal.returns-clause-grown
returns-clause-grown c = more_lines nothing

pub returns-clause-front : goal.returns-clause-front
returns-clause-front c = front_lines nothing
