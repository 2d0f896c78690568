-- The words of SQL that are no names.
use Rattle.std.specs.Prelude.{ℕ, Bool, List, [], ◌∷◌, codes, refl}
use Rattle.std.specs.Option.{is_some}
use Rattle.std.specs.Str.{bytes_eq}
use Rattle.desk_values.specs.Word.{HasOwnWords, member_with_word}
use Rattle.desk_values.specs.declared.keyword.Keyword.{Keyword}
use Rattle.desk_values.specs.declared.keyword.Keyword.TheVariants as word

-- each word of the language in lower case
abbrev pub keyword_word : Keyword → List ℕ
keyword_word word.And = codes "and"
keyword_word word.Asc = codes "asc"
keyword_word word.By = codes "by"
keyword_word word.Commit = codes "commit"
keyword_word word.Count = codes "count"
keyword_word word.Delete = codes "delete"
keyword_word word.Desc = codes "desc"
keyword_word word.Dual = codes "dual"
keyword_word word.For = codes "for"
keyword_word word.From = codes "from"
keyword_word word.Insert = codes "insert"
keyword_word word.Into = codes "into"
keyword_word word.Is = codes "is"
keyword_word word.Max = codes "max"
keyword_word word.Min = codes "min"
keyword_word word.Nextval = codes "nextval"
keyword_word word.Not = codes "not"
keyword_word word.Null = codes "null"
keyword_word word.Only = codes "only"
keyword_word word.Or = codes "or"
keyword_word word.Order = codes "order"
keyword_word word.Read = codes "read"
keyword_word word.Rollback = codes "rollback"
keyword_word word.Rowid = codes "rowid"
keyword_word word.Savepoint = codes "savepoint"
keyword_word word.Select = codes "select"
keyword_word word.Set = codes "set"
keyword_word word.Sum = codes "sum"
keyword_word word.To = codes "to"
keyword_word word.Transaction = codes "transaction"
keyword_word word.Update = codes "update"
keyword_word word.Values = codes "values"
keyword_word word.Where = codes "where"

-- whether they are the same word
abbrev pub same_keyword : Keyword → Keyword → Bool
same_keyword a b = bytes_eq (keyword_word a) (keyword_word b)

-- the words, in their order
abbrev pub all_keywords : List Keyword
all_keywords = word.And ∷ word.Asc ∷ word.By ∷ word.Commit ∷ word.Count ∷ word.Delete ∷ word.Desc ∷ word.Dual ∷ word.For ∷ word.From ∷ word.Insert ∷ word.Into ∷ word.Is ∷ word.Max ∷ word.Min ∷ word.Nextval ∷ word.Not ∷ word.Null ∷ word.Only ∷ word.Or ∷ word.Order ∷ word.Read ∷ word.Rollback ∷ word.Rowid ∷ word.Savepoint ∷ word.Select ∷ word.Set ∷ word.Sum ∷ word.To ∷ word.Transaction ∷ word.Update ∷ word.Values ∷ word.Where ∷ []

-- each is found by its word
pub keywords_have_own_words : HasOwnWords keyword_word all_keywords
unfolding member_with_word
keywords_have_own_words word.And = refl
keywords_have_own_words _ = refl

-- the bytes are one of the words in lower case
unfoldable pub is_keyword : List ℕ → Bool
is_keyword bytes = is_some (member_with_word keyword_word all_keywords bytes)
