-- What `clap` says of the words.
use Rattle.std.proofs.Common.{◌≡◌, ◌∙◌, Bool, true, false, List, [], ◌∷◌, Option, Some, None, Ok, Err, ◌↔◌, refl, sym, ap, inl, inr, length, suc, arith, ne_eqb}
use Rattle.std.specs.Prelude.{if◌then◌else◌}
use Rattle.clap.specs.Words.{App, FailsBy, HasMatchesOf, IsAmong, Kinds, Row, Text, fault_of, is_simple, is_simple_and_free, kind_of, subcommand_of, subcommand_rows_of}
use Rattle.clap.specs.Walk.{is_empty}
use Rattle.clap.specs.declared.error.Error.{Error}
use Rattle.clap.specs.declared.error.kind.ErrorKind.{ErrorKind}
use Rattle.clap.specs.declared.error.kind.ErrorKind.TheVariants.{OutOfMemory}
use Rattle.clap.specs.declared.parser.matches.ArgMatches.{ArgMatches}
use Rattle.clap.proofs.OnLiterals.{clap_on_literals}
use Rattle.desk_values.specs.Reading.{◌>>=◌, Reads}
use Rattle.desk_values.specs.declared.read_err.ReadErr.{ReadErr}
use Rattle.desk_values.specs.declared.read_err.ReadErr.TheVariants.{Bad, Memory}
use Rattle.desk_words.specs.Command.{command_in, command_of, is_taken}
use Rattle.desk_words.specs.Desk.{desk}
use Rattle.desk_words.specs.Inside.Finding.{Finds, found_in}
use Rattle.desk_words.specs.declared.words.Command.{Command}

desk_is_free : is_simple_and_free desk ≡ true
unfolding desk clap_on_literals
desk_is_free = refl

desk_is_simple : is_simple desk ≡ true
unfolding desk clap_on_literals
desk_is_simple = refl

abbrev if_taken : Option (Text × List Row) → Bool → Option (Option (Text × List Row))
if_taken found taken = if taken then Some found else None

taken : (kinds : Kinds) (behind met : Option (Text × List Row)) → kinds ≡ [] → met ≡ behind → if_taken behind (is_empty kinds) ≡ Some met
taken kinds behind met none is = ap (λ ks. if_taken behind (is_empty ks)) none ∙ ap Some (sym is)

pub found : (app : App) (words : List Text) (m : ArgMatches) → app ≡ desk → (is_simple_and_free app ≡ true → FailsBy (fault_of app words) (Ok m)) → HasMatchesOf app words m → Finds (Ok m) words
found app words m is fails has =
    taken (fault_of desk words) (subcommand_of desk words) (subcommand_rows_of m) ((rw is at fails) desk_is_free) (((rw is at has) desk_is_simple).1)

some_kind : (k : ErrorKind) (kinds : Kinds) → IsAmong k kinds → is_empty kinds ≡ false
some_kind k [] among = absurd among
some_kind k (x ∷ xs) among = ne_eqb (suc (length xs)) 0 (λ e. omega arith)

pub refused : (app : App) (words : List Text) (e : Error) (r : ReadErr) → app ≡ desk → (is_simple_and_free app ≡ true → FailsBy {T = ArgMatches} (fault_of app words) (Err e)) → ((r ≡ Memory) ↔ (kind_of e ≡ OutOfMemory)) → Finds (Err r) words
refused app words e Memory is fails short = tt
refused app words e Bad is fails short = elim ((rw is at fails) desk_is_free) [
  | inl want ↦ absurd (let bad = short.1 want in cc bad)
  | inr among ↦ ap (if_taken (subcommand_of desk words)) (some_kind (kind_of e) (fault_of desk words) among)
]

-- the command by what was found
abbrev pub by_found : Option (Option (Text × List Row)) → Option Command
by_found found = found >>= λ behind. behind >>= command_in

pub command_found : (words : List Text) → by_found (found_in words) ≡ command_of words
unfolding command_of
command_found words = by_test (is_taken words) where
  by_test : (taken : Bool) → by_found (if_taken (subcommand_of desk words) taken) ≡ (if taken then subcommand_of desk words >>= command_in else None)
  by_test true = refl
  by_test false = refl

-- an error that comes of the words is one of the command
pub not_found : (words : List Text) (r : ReadErr) → Finds (Err r) words → Reads {T = Command} (Err r) (command_of words)
not_found words Memory told = tt
not_found words Bad told = sym (command_found words) ∙ ap by_found told

-- the command is the one of what was found
pub found_behind : (words : List Text) (m : ArgMatches) (behind : Option (Text × List Row)) → Finds (Ok m) words → behind ≡ subcommand_rows_of m → command_of words ≡ (behind >>= command_in)
found_behind words m behind told is = sym (command_found words) ∙ ap by_found told ∙ ap (λ o. o >>= command_in) (sym is)
