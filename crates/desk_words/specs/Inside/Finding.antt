-- What `clap` finds in words.
use Rattle.std.specs.Prelude.{if◌then◌else◌, List, Option, None, Some, Result}
use Rattle.clap.specs.Words.{Row, Text, found_of, rows_of, subcommand_of, subcommand_rows_of}
use Rattle.clap.specs.declared.parser.matches.ArgMatches.{ArgMatches}
use Rattle.desk_values.specs.Answers.{Answers}
use Rattle.desk_values.specs.Reading.{unread}
use Rattle.desk_values.specs.declared.read_err.ReadErr.{ReadErr}
use Rattle.desk_words.specs.Command.{is_taken}
use Rattle.desk_words.specs.Desk.{desk}

-- the values that were found, not those behind a first word
abbrev pub values_in : ArgMatches → List Row
values_in found = rows_of (found_of found)

-- the first word and the values behind it, where the words are taken
abbrev pub found_in : List Text → Option (Option (Text × List Row))
found_in words = if is_taken words then Some (subcommand_of desk words) else None

abbrev pub Finds : Result ArgMatches ReadErr → List Text → Type 0
Finds result words = Answers (λ found. Some (subcommand_rows_of found)) unread result (found_in words)
