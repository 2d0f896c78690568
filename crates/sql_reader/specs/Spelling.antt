-- Which text spells which statement.
use Rattle.std.specs.Prelude.{ℕ, List, Option, None, Some, Result}
use Rattle.desk_values.specs.Answers.{Answers}
use Rattle.sql_reader.specs.declared.error.SqlErr.{SqlErr}
use Rattle.sql_reader.specs.declared.error.SqlErr.TheVariants as error
use Rattle.desk_values.specs.declared.text.TxtErr.{TxtErr}
use Rattle.desk_values.specs.declared.text.TxtErr.TheVariants as text_error
use Rattle.sql_reader.specs.declared.token.Token.{Token}
use Rattle.sql_tree.specs.Plain.{Plan, Name}
use Rattle.sql_reader.specs.Lexical.{Tokens}
use Rattle.sql_reader.specs.Grammar.{IsStatementOf}

-- the text is tokens that are the statement
abbrev pub Spells : List ℕ → Plan Name → Type 0
Spells text statement = (tokens : List Token) × Tokens text tokens × IsStatementOf tokens statement

-- some text spells the statement
abbrev pub IsStatement : Plan Name → Type 0
IsStatement statement = (text : List ℕ) × Spells text statement

-- the error for bytes that are no text of the desk: it may be for want of memory
abbrev pub sql_err : TxtErr → SqlErr
sql_err text_error.TooLong = error.Syntax
sql_err text_error.NotUtf8 = error.Syntax
sql_err text_error.Memory = error.Memory

-- an error tells that nothing is spelled, or want of memory, which tells nothing
abbrev pub told : {Y : Type 0} → SqlErr → Option (Option Y)
told error.Syntax = Some None
told error.Memory = None

-- what was returned, seen by view, is what was to be read, unless memory ran out
abbrev pub Returns : {X Y : Type 0} → (X → Y) → Result X SqlErr → Option Y → Type 0
Returns view returned read = Answers (λ x. Some (view x)) told returned read
