-- The desk's command line, as `clap` is told it: what the first word may be, and the words behind it.
use Rattle.std.specs.Prelude.{true, false, List, [], ◌∷◌, ◌++◌, map, Some, codes}
use Rattle.clap.specs.Words.{App, Rule, Shape, Text, new_rule}
use Rattle.std.specs.Borrow.{Bor}
use Rattle.clap.specs.Simple.{new_shape}
use Rattle.clap.specs.declared.builder.action.ArgAction.TheVariants.{Set}
use Rattle.desk_words.specs.declared.table.Form.{Form}

-- a word that has to stand at the next place
abbrev pub place : Text → Rule
place name = record (new_rule name) { required = true; action = Some Set }

-- a word that may stand at the next place
abbrev pub further : Text → Rule
further name = record (new_rule name) { action = Some Set }

-- an option, `--NAME VALUE` or `--NAME=VALUE`, at most once
abbrev pub choice : Text → Rule
choice name = record (new_rule name) { long = Some name; action = Some Set }

-- the first word, what the words behind it tell in their order, those that may be missing last, and the options that may stand among these
abbrev pub form_of : Text → List Text → List Text → List Text → Shape
form_of name places others options = record (new_shape name) { rules = map place places ++ map further others ++ map choice options }

abbrev pub all_forms : List Shape
all_forms =
    form_of (codes "run") (codes "capture" ∷ codes "out" ∷ []) [] (codes "mode" ∷ codes "think" ∷ codes "connect" ∷ codes "remap" ∷ codes "change" ∷ codes "lanes" ∷ codes "target" ∷ [])
    ∷ form_of (codes "prepare") (codes "capture" ∷ codes "out" ∷ []) [] []
    ∷ form_of (codes "serve") (codes "capture" ∷ codes "start" ∷ codes "connections" ∷ []) [] (codes "port" ∷ [])
    ∷ form_of (codes "generate") (codes "calls" ∷ codes "out" ∷ []) [] []
    ∷ form_of (codes "trial") (codes "calls" ∷ []) [] []
    ∷ form_of (codes "register") (codes "out" ∷ codes "run" ∷ []) [] []
    ∷ form_of (codes "runs") [] [] []
    ∷ form_of (codes "accept") (codes "run" ∷ codes "stamp" ∷ codes "class" ∷ []) [] []
    ∷ form_of (codes "compare") (codes "base" ∷ codes "other" ∷ []) [] []
    ∷ form_of (codes "page") (codes "capture" ∷ codes "out" ∷ []) [] []
    ∷ form_of (codes "show") (codes "capture" ∷ codes "out" ∷ []) (codes "stamp" ∷ []) []
    ∷ []

-- one of the forms, which has to be there, with no program's name before it
unfoldable pub desk : App
desk = record {
  top = record (new_shape (codes "replay")) { is_leaf = false; no_binary_name = true; subcommand_required = true };
  subs = all_forms;
}

-- the texts behind references
abbrev pub texts : List (Bor Text) → List Text
texts = map (λ text. text.now)

-- a form as the code tells it
abbrev pub seen : Form → Shape
seen form = form_of form.name.now (texts form.places.now) (texts form.further.now) (texts form.options.now)
