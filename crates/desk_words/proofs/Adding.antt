-- Arguments and subcommands that are added one after the other.
use Rattle.std.proofs.Common.{◌≡◌, ◌∙◌, ℕ, suc, ◌+◌, ◌<◌, List, [], ◌∷◌, ◌++◌, length, map, drop, get_or, refl, sym, ap, ap₂, arith, append_assoc, append-nil}
use Rattle.std.specs.List.{fold}
use Rattle.std.specs.Borrow.{Bor}
use Rattle.std.proofs.Math.Seq.{drop-cons}
use Rattle.std.specs.Prelude.{codes, true}
use Rattle.clap.specs.Words.{App, Rule, Shape, Text, app_of, new_app, with_rule, with_subcommand}
use Rattle.clap.specs.Simple.{app_of_fields, on_top}
use Rattle.clap.specs.declared.builder.command.Command.{Command}
use Rattle.clap.specs.declared.builder.command.Command.TheOpen.{Command-F}
use Rattle.clap.specs.declared.builder.command.Command.TheViews.{out-Command}
use Rattle.desk_words.specs.Desk.{all_forms, choice, desk, further, place, texts}
use Rattle.desk_words.specs.Inside.Building.{form_app, with_rules}
use Rattle.desk_words.specs.declared.table.Form.{Form}

-- one more is added: what is left then gives what was left before
pub one_more : {A X Y : Type 0} (f : A → Y → A) (g : X → Y) (xs : List X) (i : ℕ) (d : X) (old new : A) (y : Y) → i < length xs → new ≡ f old y → y ≡ g (get_or xs i d)
    → fold f new (map g (drop (i + 1) xs)) ≡ fold f old (map g (drop i xs))
one_more f g xs i d old new y below added is =
    let next : i + 1 ≡ suc i = omega arith in
    ap₂ (λ k a. fold f a (map g (drop k xs))) next (added ∙ ap (f old) is) ∙ sym (ap (λ rest. fold f old (map g rest)) (drop-cons xs i d below))

-- a command line with these arguments more
with_more : App → List Rule → App
with_more a rules = record a { top = record a.top { rules = a.top.rules ++ rules } }

added : (a : App) (rules : List Rule) → fold with_rule a rules ≡ with_more a rules
unfolding with_more
added a [] = ap (λ rules. record a { top = record a.top { rules = rules } }) (sym (append-nil a.top.rules))
added a (rule ∷ rules) = added (with_rule a rule) rules ∙ ap (λ rules. record a { top = record a.top { rules = rules } }) (append_assoc a.top.rules (rule ∷ []) rules)

mapped : (rule : Text → Rule) (names : List (Bor Text)) → map (λ name. rule name.now) names ≡ map rule (texts names)
mapped rule [] = refl
mapped rule (name ∷ names) = ap (λ rules. rule name.now ∷ rules) (mapped rule names)

-- a form with its places, then those that may be missing and then its options is the one that is told
pub form_is : (form : Form) (places others options : App) → places ≡ with_rules place form.places.now (new_app form.name.now) → others ≡ with_rules further form.further.now places
    → options ≡ with_rules choice form.options.now others → options ≡ form_app form
unfolding with_more
form_is form places others options first second third =
    let base = first ∙ added (new_app form.name.now) _ in
    let more = second ∙ added places _ ∙ ap (λ (a : App). with_more a (map (λ name. further name.now) form.further.now)) base in
    third ∙ added others _ ∙ ap (λ (a : App). with_more a (map (λ name. choice name.now) form.options.now)) more
    ∙ ap₂ (λ ps os. with_more (with_more (with_more (new_app form.name.now) ps) (map (λ name. further name.now) form.further.now)) os) (mapped place form.places.now) (mapped choice form.options.now)
    ∙ ap (λ fs. with_more (with_more (with_more (new_app form.name.now) (map place (texts form.places.now))) fs) (map choice (texts form.options.now))) (mapped further form.further.now)

-- the command line with all forms is the desk's
pub desk_is : (new named required : Command) (forms : List Shape) → app_of new ≡ new_app (codes "replay") → out-Command named ≡ record (out-Command new) { no_binary_name = true }
    → out-Command required ≡ record (out-Command named) { subcommand_required = true } → forms ≡ all_forms → fold with_subcommand (app_of required) forms ≡ desk
unfolding desk
desk_is new named required forms first second third all =
    let fields = third ∙ ap (λ (fields : Command-F Command). record fields { subcommand_required = true }) second in
    ap₂ (fold with_subcommand) (ap app_of_fields fields ∙ ap (on_top (λ (s : Shape). record s { no_binary_name = true; subcommand_required = true })) first) all
