use Rattle.std.proofs.Common.{◌≡◌, drop, map}
use Rattle.std.specs.List.{fold}
use Rattle.clap.specs.Words.{app_of, with_subcommand}
use Rattle.desk_words.specs.Desk.{desk, seen}
use Rattle.desk_words.proofs.desk.desk.Given as goal

abbrev pub invariant-loop-form : goal.invariant-loop-form
invariant-loop-form l = fold with_subcommand (app_of l.desk) (map seen (drop l.form-index l.all)) ≡ desk
