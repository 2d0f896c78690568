use Rattle.desk_schema.proofs.Files.{written_lines, read_start, read_sessions}
use Rattle.desk_schema.proofs.laws.starts_are_files.Goals as goal

pub returns-clause-file : goal.returns-clause-file
returns-clause-file c = written_lines

pub returns-clause-start : goal.returns-clause-start
returns-clause-start c = read_start

pub returns-clause-sessions : goal.returns-clause-sessions
returns-clause-sessions c = read_sessions
