-- The signs of the language, and the operators that words and signs are.
use Rattle.std.specs.Prelude.{ℕ, List, codes, Bool, Option, None, Some}
use Rattle.std.specs.Str.{bytes_eq}
use Rattle.sql_tree.specs.declared.tree.Op.{Op}
use Rattle.sql_tree.specs.declared.tree.Op.TheVariants as op
use Rattle.desk_values.specs.declared.keyword.Keyword.{Keyword}
use Rattle.desk_values.specs.declared.keyword.Keyword.TheVariants as word
use Rattle.sql_reader.specs.declared.token.Sign.{Sign}
use Rattle.sql_reader.specs.declared.token.Sign.TheVariants as sign

-- the text of each sign
abbrev pub sign_text : Sign → List ℕ
sign_text sign.Open = codes "("
sign_text sign.Close = codes ")"
sign_text sign.Comma = codes ","
sign_text sign.Dot = codes "."
sign_text sign.Star = codes "*"
sign_text sign.Plus = codes "+"
sign_text sign.Minus = codes "-"
sign_text sign.Slash = codes "/"
sign_text sign.Equal = codes "="
sign_text sign.NotEqual = codes "<>"
sign_text sign.Less = codes "<"
sign_text sign.LessOrEqual = codes "<="
sign_text sign.Greater = codes ">"
sign_text sign.GreaterOrEqual = codes ">="
sign_text sign.Semicolon = codes ";"

-- whether they are the same sign
abbrev pub same_sign : Sign → Sign → Bool
same_sign a b = bytes_eq (sign_text a) (sign_text b)

-- the operator that a word is
abbrev pub keyword_operator : Keyword → Option Op
keyword_operator word.And = Some op.And
keyword_operator word.Or = Some op.Or
keyword_operator other = None

-- the operator between two expressions that a sign is
abbrev pub sign_operator : Sign → Option Op
sign_operator sign.Plus = Some op.Add
sign_operator sign.Minus = Some op.Sub
sign_operator sign.Star = Some op.Mul
sign_operator sign.Slash = Some op.Div
sign_operator sign.Equal = Some op.Eq
sign_operator sign.NotEqual = Some op.Ne
sign_operator sign.Less = Some op.Lt
sign_operator sign.LessOrEqual = Some op.Le
sign_operator sign.Greater = Some op.Gt
sign_operator sign.GreaterOrEqual = Some op.Ge
sign_operator other = None
