-- Words of the scanner, of readers of parts and of writers of parts.
use Rattle.std.specs.Prelude.{ℕ, Bool, false, ◌==◌, List, [], ◌∷◌, ◌≡◌, Option, None, Some}
use Rattle.std.specs.List.{flat_map}
use Rattle.sql_reader.specs.declared.token.Token.{Token}
use Rattle.sql_reader.specs.Written.{token_text}

abbrev pub begins_quote : List ℕ → Bool
begins_quote [] = false
begins_quote (first ∷ others) = first == 39

-- what was returned, seen by view, is what was to be read, where either may be absent
abbrev pub Finds : {X Y : Type 0} → (X → Y) → Option X → Option Y → Type 0
Finds view None read = read ≡ None
Finds view (Some x) read = read ≡ Some (view x)

-- a token after a space
unfoldable pub spaced : Token → List ℕ
spaced t = 32 ∷ token_text t

-- tokens, each after a space
abbrev pub spaced_all : List Token → List ℕ
spaced_all ts = flat_map spaced ts
