-- All that a command is handed, and how it ends by what that gives account of before and after.
use Rattle.std.specs.Prelude.{ℕ, List, Result, IsSomeAnd}
use Rattle.desk_files.specs.Hosts.{HostAccount}
use Rattle.desk_files.specs.Outside.{Account, FileMap, Told}
use Rattle.desk_words.specs.Command.{command_of}
use Rattle.run_register.specs.Register.{KeeperAccount}
use Rattle.remote_link.specs.Dials.{DialAccount}
use Rattle.replay_cli.specs.declared.failure.Failure.{Failure}
use Rattle.replay_cli.specs.Decision.{Task, Verdict}
use Rattle.replay_cli.specs.Ending.{Causes, Ends, EndsSo, MayAsk, Moves, PrintsLine, moves}
use Rattle.replay_cli.specs.Hosting.{Hosting, hosting}

-- the files, the host, the keeper, the dial and the output at a moment
pub record Outside : Type 0 where
  pub files : Account FileMap
  pub host : HostAccount
  pub keeper : KeeperAccount
  pub dial : DialAccount
  pub out : Account (List ℕ)

abbrev pub outside : Account FileMap → HostAccount → KeeperAccount → DialAccount → Account (List ℕ) → Outside
outside files host keeper dial out = record { files = files; host = host; keeper = keeper; dial = dial; out = out }

-- what becomes of the host, of the keeper and of the dial from one moment to another
abbrev pub between : Outside → Outside → Hosting
between o o' = hosting o.host o'.host o.keeper o'.keeper o.dial o'.dial

-- and how the counts of faults move
abbrev pub faults_between : Outside → Outside → Moves
faults_between o o' =
    moves o.files.faults o'.files.faults o.host.faults o'.host.faults o.keeper.faults o'.keeper.faults o.dial.faults o'.dial.faults o.out.faults o'.out.faults

-- of files that are told: the command ended as some verdict on them does, or outside of it
abbrev pub EndsAsSome : List (List ℕ) → Outside → Outside → ℕ → Type 0
EndsAsSome words o o' result = Told o.files.content (λ before. IsSomeAnd o'.files.content (λ after.
    EndsSo (Verdict words before) before after o.files.faults o'.files.faults (between o o') result o.out.content o'.out.content))

-- and as each verdict on them does
abbrev pub EndsAsEach : List (List ℕ) → Outside → Outside → ℕ → Type 0
EndsAsEach words o o' result = Told o.files.content (λ before. IsSomeAnd o'.files.content (λ after.
    (verdict : Result Task Failure) → Verdict words before verdict
    → Ends verdict before after o.files.faults o'.files.faults (between o o') result o.out.content o'.out.content))

-- also of files that are not: what was printed, and given back before that
abbrev pub TellsLine : List (List ℕ) → Outside → Outside → ℕ → Type 0
TellsLine words o o' result = PrintsLine words (between o o') o.keeper.closes o'.keeper.closes result o.out.content o'.out.content o.out.faults o'.out.faults

-- who was asked
abbrev pub AsksFew : List (List ℕ) → Outside → Outside → Type 0
AsksFew words o o' = MayAsk (command_of words) (between o o')

-- and what each status is caused by
abbrev pub HasCauses : List (List ℕ) → Outside → Outside → ℕ → Type 0
HasCauses words o o' result = Causes words result (faults_between o o')
