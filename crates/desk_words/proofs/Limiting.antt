-- A command is within its limits.
use Rattle.std.proofs.Common.{◌≡◌, ◌≢◌, ℕ, Bool, true, false, List, length, Option, Some, None, IfSome, refl, sym, ap, ◌∙◌, leb-true}
use Rattle.std.specs.Prelude.{◌&&◌, codes, if◌then◌else◌, is_some, nat_le, option_map}
use Rattle.std.specs.Option.{option_map_or}
use Rattle.std.specs.Str.{bytes_eq}
use Rattle.clap.specs.Words.{Row, Text, first_of, subcommand_of}
use Rattle.desk_values.specs.Reading.{◌>>=◌, number_of}
use Rattle.replay_history.specs.Limits.{percent_limit}
use Rattle.desk_values.specs.Word.{member_with_word}
use Rattle.replay_history.specs.Class.{all_classes, class_word}
use Rattle.replay_history.specs.declared.report.Class.{Class}
use Rattle.replay_history.specs.declared.report.Class.TheVariants.{Same}
use Rattle.desk_words.specs.Command.{accept_in, between, chosen, class_in, command_in, command_of, compare_in, differing, fitting, generate_in, is_run_name, is_taken, maybe, number_in, page_in, path_in, percent_in, placed, prepare_in, register_in, run_in, run_name_in, serve_in, show_in, trial_in, ways_in}
use Rattle.desk_words.specs.Desk.{desk}
use Rattle.desk_words.specs.Limits.{connection_limit, default_port, generated_limit, lane_limit, path_limit, port_limit, run_limit, whole}
use Rattle.desk_words.specs.Within.{HasWays, IsBetween, IsCallCount, IsLaneCount, IsPath, IsPort, IsRunName, IsWithinLimits}
use Rattle.desk_words.specs.declared.ways.Ways.{Ways}
use Rattle.desk_words.specs.declared.words.Command.TheVariants.{Show, Trial}

-- ---- what is found by steps

either : {X : Type 0} (P : X → Type 0) (test : Bool) (first second : Option X) → IfSome first P → IfSome second P → IfSome (if test then first else second) P
either P true first second h k = h
either P false first second h k = k

always : {X Y : Type 0} (P : Y → Type 0) (found : Option X) (next : X → Option Y) → ((x : X) → IfSome (next x) P) → IfSome (found >>= next) P
always P None next each = tt
always P (Some x) next each = each x

leads : {X Y : Type 0} (Q : X → Type 0) (P : Y → Type 0) (found : Option X) (next : X → Option Y) → IfSome found Q → ((x : X) → Q x → IfSome (next x) P) → IfSome (found >>= next) P
leads Q P None next has each = tt
leads Q P (Some x) next has each = each x has

mapped : {X Y : Type 0} (P : X → Type 0) (Q : Y → Type 0) (found : Option X) (f : X → Y) → IfSome found P → ((x : X) → P x → Q (f x)) → IfSome (option_map f found) Q
mapped P Q None f has each = tt
mapped P Q (Some x) f has each = each x has

-- ---- values

between_holds : {X : Type 0} (P : X → Type 0) (x : X) (least most n : ℕ) → (IsBetween least most n → P x) → IfSome (if nat_le least n && nat_le n most then Some x else None) P
between_holds P x least most n holds = by_tests (nat_le least n) (nat_le n most) refl refl where
  by_tests : (low high : Bool) → nat_le least n ≡ low → nat_le n most ≡ high → IfSome (if low && high then Some x else None) P
  by_tests true true low high = holds (leb-true least n low, leb-true n most high)
  by_tests true false low high = tt
  by_tests false true low high = tt
  by_tests false false low high = tt

path_holds : (text : Text) → IfSome (path_in text) IsPath
path_holds text = between_holds IsPath text 1 path_limit (length text) (λ is. is)

run_name_holds : (text : Text) → IfSome (run_name_in text) IsRunName
run_name_holds text = by_tests (nat_le (length text) run_limit) (is_run_name text) refl refl where
  by_tests : (short named : Bool) → nat_le (length text) run_limit ≡ short → is_run_name text ≡ named → IfSome (if short && named then Some text else None) IsRunName
  by_tests true true short named = (leb-true (length text) run_limit short, named)
  by_tests true false short named = tt
  by_tests false true short named = tt
  by_tests false false short named = tt

class_holds : (text : Text) → IfSome (class_in text) (λ class. class ≢ Same)
class_holds text = always (λ class. class ≢ Same) (member_with_word class_word all_classes text) differing differs where
  differs : (class : Class) → IfSome (differing class) (λ differs. differs ≢ Same)
  differs Same = tt
  differs _ = λ same. cc same

number_holds : (least most : ℕ) (text : Text) → IfSome (number_in least most text) (IsBetween least most)
number_holds least most text = always (IsBetween least most) (number_of text) (between least most) (λ n. between_holds (IsBetween least most) n least most n (λ is. is))

placed_holds : {X : Type 0} (P : X → Type 0) (name : Text) (good : Text → Option X) (values : List Row) → ((text : Text) → IfSome (good text) P) → IfSome (placed name good values) P
placed_holds P name good values each = always P (first_of name values) good each

chosen_holds : {X : Type 0} (P : X → Type 0) (name : Text) (good : Text → Option X) (unsaid : X) (values : List Row) → ((text : Text) → IfSome (good text) P) → P unsaid → IfSome (chosen name good unsaid values) P
chosen_holds {X} P name good unsaid values each otherwise = by_value (first_of name values) where
  by_value : (value : Option Text) → IfSome (option_map_or good value (Some unsaid)) P
  by_value None = otherwise
  by_value (Some text) = each text

maybe_holds : {X : Type 0} (P : X → Type 0) (name : Text) (good : Text → Option X) (values : List Row) → ((text : Text) → IfSome (good text) P) → IfSome (maybe name good values) (λ x. IfSome x P)
maybe_holds P name good values each =
    chosen_holds (λ x. IfSome x P) name (λ text. option_map Some (good text)) None values (λ text. mapped P (λ x. IfSome x P) (good text) Some (each text) (λ x is. is)) tt

-- ---- commands

path_placed : (name : Text) (values : List Row) → IfSome (placed name path_in values) IsPath
path_placed name values = placed_holds IsPath name path_in values path_holds

percent_chosen : (name : Text) (values : List Row) → IfSome (chosen name percent_in whole values) (IsBetween 0 percent_limit)
percent_chosen name values = chosen_holds (IsBetween 0 percent_limit) name percent_in whole values (number_holds 0 percent_limit) (leb-true 0 whole refl, leb-true whole percent_limit refl)

-- ways that fit: a target or a change file, or none of them
fits : (ways : Ways) → ((is_some ways.change ≡ true → ways.target ≡ None) → HasWays ways) → IfSome (fitting ways) HasWays
fits ways holds = by_both ways.change ways.target refl refl where
  by_both : (change : Option Text) (target : Option ℕ) → ways.change ≡ change → ways.target ≡ target → IfSome (if is_some change && is_some target then None else Some ways) HasWays
  by_both None target none also = holds (λ is. absurd (let never = ap is_some (sym none) ∙ is in cc))
  by_both (Some path) None is none = holds (λ has. none)
  by_both (Some path) (Some port) is also = tt

ways_hold : (values : List Row) → IfSome (ways_in values) HasWays
ways_hold values =
    always HasWays _ _ (λ mode. leads (IsBetween 0 percent_limit) HasWays _ _ (percent_chosen (codes "think") values)
    (λ think low. leads (IsBetween 0 percent_limit) HasWays _ _ (percent_chosen (codes "connect") values)
    (λ connect few. leads (λ x. IfSome x IsPath) HasWays _ _ (maybe_holds IsPath (codes "remap") path_in values path_holds)
    (λ remap path. leads (λ x. IfSome x IsPath) HasWays _ _ (maybe_holds IsPath (codes "change") path_in values path_holds)
    (λ change other. leads (λ x. IfSome x IsLaneCount) HasWays _ _ (maybe_holds IsLaneCount (codes "lanes") (number_in 1 lane_limit) values (number_holds 1 lane_limit))
    (λ lanes count. leads (λ x. IfSome x IsPort) HasWays _ _ (maybe_holds IsPort (codes "target") (number_in 1 port_limit) values (number_holds 1 port_limit))
    (λ target port. fits (record { mode = mode; think = think; connect = connect; remap = remap; change = change; lanes = lanes; target = target })
    (λ alone. record { think = low.1; connect = few.1; remap = path; change = other; lanes = count; target = port; alone = alone }))))))))

run_holds : (values : List Row) → IfSome (run_in values) IsWithinLimits
run_holds values =
    leads IsPath IsWithinLimits _ _ (path_placed (codes "capture") values) (λ capture first. leads IsPath IsWithinLimits _ _ (path_placed (codes "out") values)
    (λ out second. leads HasWays IsWithinLimits _ _ (ways_hold values) (λ ways third. (first, second, third))))

prepare_holds : (values : List Row) → IfSome (prepare_in values) IsWithinLimits
prepare_holds values =
    leads IsPath IsWithinLimits _ _ (path_placed (codes "capture") values) (λ capture first. leads IsPath IsWithinLimits _ _ (path_placed (codes "out") values) (λ out second. (first, second)))

serve_holds : (values : List Row) → IfSome (serve_in values) IsWithinLimits
serve_holds values =
    leads IsPath IsWithinLimits _ _ (path_placed (codes "capture") values) (λ capture first. leads IsPath IsWithinLimits _ _ (path_placed (codes "start") values)
    (λ start second. leads (IsBetween 1 connection_limit) IsWithinLimits _ _ (placed_holds (IsBetween 1 connection_limit) (codes "connections") (number_in 1 connection_limit) values (number_holds 1 connection_limit))
    (λ connections third. leads (IsBetween 1 port_limit) IsWithinLimits _ _ (chosen_holds (IsBetween 1 port_limit) (codes "port") (number_in 1 port_limit) default_port values (number_holds 1 port_limit) (leb-true 1 default_port refl, leb-true default_port port_limit refl))
    (λ port fourth. (first, second, third, fourth)))))

calls_placed : (values : List Row) → IfSome (placed (codes "calls") (number_in 1 generated_limit) values) IsCallCount
calls_placed values = placed_holds IsCallCount (codes "calls") (number_in 1 generated_limit) values (number_holds 1 generated_limit)

generate_holds : (values : List Row) → IfSome (generate_in values) IsWithinLimits
generate_holds values =
    leads IsCallCount IsWithinLimits _ _ (calls_placed values) (λ calls first. leads IsPath IsWithinLimits _ _ (path_placed (codes "out") values) (λ out second. (first, second)))

trial_holds : (values : List Row) → IfSome (trial_in values) IsWithinLimits
trial_holds values = mapped IsCallCount IsWithinLimits _ Trial (calls_placed values) (λ calls is. is)

run_placed : (name : Text) (values : List Row) → IfSome (placed name run_name_in values) IsRunName
run_placed name values = placed_holds IsRunName name run_name_in values run_name_holds

register_holds : (values : List Row) → IfSome (register_in values) IsWithinLimits
register_holds values =
    leads IsPath IsWithinLimits _ _ (path_placed (codes "out") values) (λ out first. leads IsRunName IsWithinLimits _ _ (run_placed (codes "run") values) (λ run second. (first, second)))

accept_holds : (values : List Row) → IfSome (accept_in values) IsWithinLimits
accept_holds values =
    leads IsRunName IsWithinLimits _ _ (run_placed (codes "run") values) (λ run first. always IsWithinLimits _ _
    (λ stamp. leads (λ class. class ≢ Same) IsWithinLimits _ _ (placed_holds (λ class. class ≢ Same) (codes "class") class_in values class_holds) (λ class second. (first, second))))

compare_holds : (values : List Row) → IfSome (compare_in values) IsWithinLimits
compare_holds values =
    leads IsRunName IsWithinLimits _ _ (run_placed (codes "base") values) (λ base first. leads IsRunName IsWithinLimits _ _ (run_placed (codes "other") values) (λ other second. (first, second)))

page_holds : (values : List Row) → IfSome (page_in values) IsWithinLimits
page_holds values =
    leads IsPath IsWithinLimits _ _ (path_placed (codes "capture") values) (λ capture first. leads IsPath IsWithinLimits _ _ (path_placed (codes "out") values) (λ out second. (first, second)))

show_holds : (values : List Row) → IfSome (show_in values) IsWithinLimits
show_holds values =
    leads IsPath IsWithinLimits _ _ (path_placed (codes "capture") values) (λ capture first. leads IsPath IsWithinLimits _ _ (path_placed (codes "out") values)
    (λ out second. always IsWithinLimits (maybe (codes "stamp") number_of values) (λ stamp. Some (Show capture out stamp)) (λ stamp. (first, second))))

command_holds : (found : Text × List Row) → IfSome (command_in found) IsWithinLimits
command_holds found =
    either IsWithinLimits (bytes_eq found.0 (codes "run")) _ _ (run_holds found.1)
    (either IsWithinLimits (bytes_eq found.0 (codes "prepare")) _ _ (prepare_holds found.1)
    (either IsWithinLimits (bytes_eq found.0 (codes "serve")) _ _ (serve_holds found.1)
    (either IsWithinLimits (bytes_eq found.0 (codes "generate")) _ _ (generate_holds found.1)
    (either IsWithinLimits (bytes_eq found.0 (codes "trial")) _ _ (trial_holds found.1)
    (either IsWithinLimits (bytes_eq found.0 (codes "register")) _ _ (register_holds found.1)
    (either IsWithinLimits (bytes_eq found.0 (codes "runs")) _ _ tt
    (either IsWithinLimits (bytes_eq found.0 (codes "accept")) _ _ (accept_holds found.1)
    (either IsWithinLimits (bytes_eq found.0 (codes "compare")) _ _ (compare_holds found.1)
    (either IsWithinLimits (bytes_eq found.0 (codes "page")) _ _ (page_holds found.1)
    (either IsWithinLimits (bytes_eq found.0 (codes "show")) _ _ (show_holds found.1) tt))))))))))

pub within_limits : (words : List Text) → IfSome (command_of words) IsWithinLimits
unfolding command_of
within_limits words = either IsWithinLimits (is_taken words) _ _ (always IsWithinLimits (subcommand_of desk words) command_in command_holds) tt
