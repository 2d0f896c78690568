-- A command line with arguments added one after the other.
use Rattle.std.specs.Prelude.{List, [], map, fold}
use Rattle.std.specs.Borrow.{Bor}
use Rattle.clap.specs.Words.{App, Rule, Text, with_rule}
use Rattle.desk_words.specs.Desk.{seen}
use Rattle.desk_words.specs.declared.table.Form.{Form}

abbrev pub with_rules : (Text → Rule) → List (Bor Text) → App → App
with_rules rule names app = fold with_rule app (map (λ name. rule name.now) names)

abbrev pub form_app : Form → App
form_app form = record { top = seen form; subs = [] }
