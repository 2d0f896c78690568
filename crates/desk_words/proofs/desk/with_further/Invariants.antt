use Rattle.std.proofs.Common.{◌≡◌, drop, false}
use Rattle.clap.specs.Words.{app_of}
use Rattle.clap.specs.declared.builder.command.Command.TheViews.{out-Command}
use Rattle.desk_words.specs.Desk.{further}
use Rattle.desk_words.specs.Inside.Building.{with_rules}
use Rattle.desk_words.proofs.desk.with_further.Given as goal

abbrev pub invariant-loop-name : goal.invariant-loop-name
invariant-loop-name l = record {
  app : with_rules further (drop l.name-index l.names) (app_of l.command) ≡ with_rules further l.names (app_of l.fn.command);
  local : (out-Command l.command).has_globals ≡ false;
}
