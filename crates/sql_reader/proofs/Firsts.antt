-- Which token is first.
use Rattle.std.proofs.Common.{◌≡◌, ℕ, ◌<◌, Bool, true, false, eqb, List, [], ◌∷◌, get_or, Option, Some, None, refl, sym, ap, subst, ◌∙◌, arith, eq-eqb}
use Rattle.std.proofs.lemmas.Bool.{eqb-true}
use Rattle.std.proofs.lemmas.Bool.Decides.{nat_tests}
use Rattle.std.proofs.lemmas.Slice.Eq.{bytes_eq-Decides}
use Rattle.std.proofs.lemmas.Option.{cond_some, same_Some}
use Rattle.sql_tree.specs.declared.tree.Op.{Op}
use Rattle.sql_tree.specs.declared.tree.Op.TheVariants as op
use Rattle.sql_reader.specs.declared.part.Part.{Part}
use Rattle.sql_reader.specs.declared.part.Part.TheVariants.{Disjunction, Conjunction, Negation, Comparison, Sum, Product, Factor, Primary}
use Rattle.desk_values.specs.declared.keyword.Keyword.{Keyword}
use Rattle.desk_values.specs.declared.keyword.Keyword.TheVariants as word
use Rattle.sql_reader.specs.declared.token.Sign.{Sign}
use Rattle.sql_reader.specs.declared.token.Sign.TheVariants as sign
use Rattle.sql_reader.specs.declared.token.Token.{Token}
use Rattle.sql_reader.specs.declared.token.Token.TheVariants as token
use Rattle.desk_values.specs.Keyword.{same_keyword}
use Rattle.desk_values.specs.Word.{HasOwnWords, member_with_word}
use Rattle.desk_values.proofs.Keywords.{same_keyword_is, same_keyword_self}
use Rattle.desk_values.proofs.Words.{same_member}
use Rattle.sql_reader.specs.Words.{sign_text, same_sign, keyword_operator, sign_operator}
use Rattle.sql_reader.specs.Grammar.{looseness, line_of, operator_token}
use Rattle.desk_values.specs.Reading.{◌>>=◌}
use Rattle.sql_reader.specs.Reading.{after_word, after_sign, operator_of, operator_among, operator_at}
use Rattle.sql_reader.proofs.Options.{bind_then, nothing_is}

abbrev every_sign : List Sign
every_sign = sign.Open ∷ sign.Close ∷ sign.Comma ∷ sign.Dot ∷ sign.Star ∷ sign.Plus ∷ sign.Minus ∷ sign.Slash ∷ sign.Equal ∷ sign.NotEqual ∷ sign.Less ∷ sign.LessOrEqual ∷ sign.Greater ∷ sign.GreaterOrEqual ∷ sign.Semicolon ∷ []

signs_have_own_texts : HasOwnWords sign_text every_sign
unfolding member_with_word
signs_have_own_texts sign.Open = refl
signs_have_own_texts other = refl

same_sign_is : (a b : Sign) → same_sign a b ≡ true → a ≡ b
same_sign_is = same_member sign_text every_sign signs_have_own_texts

same_sign_self : (a : Sign) → same_sign a a ≡ true
same_sign_self a = (bytes_eq-Decides (sign_text a) (sign_text a)).1 refl

abbrev every_part : List Part
every_part = Primary ∷ Factor ∷ Product ∷ Sum ∷ Comparison ∷ Negation ∷ Conjunction ∷ Disjunction ∷ []

part_back : (p : Part) → get_or every_part (looseness p) Primary ≡ p
part_back Primary = refl
part_back other = refl

pub same_part : (a b : Part) → looseness a ≡ looseness b → a ≡ b
same_part a b h = sym (part_back a) ∙ ap (λ (n : ℕ). get_or every_part n Primary) h ∙ part_back b

pub after_word_is : (k : Keyword) (ts rest : List Token) → after_word k ts ≡ Some rest → ts ≡ token.Word k ∷ rest
unfolding after_word
after_word_is k (token.Word found ∷ more) rest e =
    let g = cond_some (same_keyword found k) more rest e in
    ap (λ (w : Keyword). token.Word w ∷ more) (same_keyword_is found k g.0) ∙ ap (λ (r : List Token). token.Word k ∷ r) g.1
after_word_is k other rest e = nothing_is rest e

pub after_word_self : (k : Keyword) (rest : List Token) → after_word k (token.Word k ∷ rest) ≡ Some rest
unfolding after_word
after_word_self k rest = rw (same_keyword_self k) refl

pub after_sign_is : (s : Sign) (ts rest : List Token) → after_sign s ts ≡ Some rest → ts ≡ token.Sign s ∷ rest
unfolding after_sign
after_sign_is s (token.Sign found ∷ more) rest e =
    let g = cond_some (same_sign found s) more rest e in
    ap (λ (w : Sign). token.Sign w ∷ more) (same_sign_is found s g.0) ∙ ap (λ (r : List Token). token.Sign s ∷ r) g.1
after_sign_is s other rest e = nothing_is rest e

pub after_sign_self : (s : Sign) (rest : List Token) → after_sign s (token.Sign s ∷ rest) ≡ Some rest
unfolding after_sign
after_sign_self s rest = rw (same_sign_self s) refl

keyword_operator_is : (k : Keyword) (o : Op) → keyword_operator k ≡ Some o → token.Word k ≡ operator_token o
keyword_operator_is word.And o e = ap operator_token (same_Some op.And o e)
keyword_operator_is word.Or o e = ap operator_token (same_Some op.Or o e)
keyword_operator_is other o e = nothing_is o e

sign_operator_is : (s : Sign) (o : Op) → sign_operator s ≡ Some o → token.Sign s ≡ operator_token o
sign_operator_is sign.Equal o e = ap operator_token (same_Some op.Eq o e)
sign_operator_is sign.NotEqual o e = ap operator_token (same_Some op.Ne o e)
sign_operator_is sign.Less o e = ap operator_token (same_Some op.Lt o e)
sign_operator_is sign.LessOrEqual o e = ap operator_token (same_Some op.Le o e)
sign_operator_is sign.Greater o e = ap operator_token (same_Some op.Gt o e)
sign_operator_is sign.GreaterOrEqual o e = ap operator_token (same_Some op.Ge o e)
sign_operator_is sign.Plus o e = ap operator_token (same_Some op.Add o e)
sign_operator_is sign.Minus o e = ap operator_token (same_Some op.Sub o e)
sign_operator_is sign.Star o e = ap operator_token (same_Some op.Mul o e)
sign_operator_is sign.Slash o e = ap operator_token (same_Some op.Div o e)
sign_operator_is other o e = nothing_is o e

operator_of_is : (t : Token) (o : Op) → operator_of t ≡ Some o → t ≡ operator_token o
operator_of_is (token.Word k) o e = keyword_operator_is k o e
operator_of_is (token.Sign s) o e = sign_operator_is s o e
operator_of_is other o e = nothing_is o e

-- what is read as an operator of the part
pub record IsOperator (p : Part) (o : Op) (ts rest : List Token) : Type 0 where
  pub line : line_of o ≡ p
  pub is : ts ≡ operator_token o ∷ rest

pub operator_sound : (p : Part) (ts : List Token) (o : Op) (rest : List Token) → operator_at p ts ≡ Some (o, rest) → IsOperator p o ts rest
unfolding operator_at
operator_sound p [] o rest e = nothing_is (o, rest) e
operator_sound p (t ∷ more) o rest e =
    bind_then (operator_of t) (λ x. operator_among p x more) (o, rest) e (λ x ex e1.
    let g = cond_some {A = Op × List Token} (eqb (looseness (line_of x)) (looseness p)) (x, more) (o, rest) e1 in
    subst (λ (q : Op × List Token). IsOperator p q.0 (t ∷ more) q.1) g.1 (record { line = same_part (line_of x) p (eqb-true _ _ g.0); is = ap (λ (u : Token). u ∷ more) (operator_of_is t x ex) }))

operator_again : (o : Op) → operator_of (operator_token o) ≡ Some o
operator_again op.Or = refl
operator_again other = refl

pub operator_complete : (p : Part) (o : Op) (rest : List Token) → line_of o ≡ p → operator_at p (operator_token o ∷ rest) ≡ Some (o, rest)
unfolding operator_at
operator_complete p o rest line = rw (operator_again o, eq-eqb (looseness (line_of o)) (looseness p) (ap looseness line)) refl

-- ---- how tightly what comes next binds: 8 where it is no part of an expression

abbrev pub unless_is : Token → ℕ
unless_is (token.Word word.Is) = 4
unless_is other = 8

abbrev pub rank_of : Option Op → Token → ℕ
rank_of None t = unless_is t
rank_of (Some o) t = looseness (line_of o)

abbrev pub rank : List Token → ℕ
rank [] = 8
rank (t ∷ rest) = rank_of (operator_of t) t

pub rank_operator : (o : Op) (rest : List Token) → rank (operator_token o ∷ rest) ≡ looseness (line_of o)
rank_operator op.Or rest = refl
rank_operator other rest = refl

less_differs : (a b : ℕ) → b < a → eqb a b ≡ false
less_differs a b h = grind (arith, nat_tests)

none_among : (p : Part) (x : Option Op) (t : Token) (rest : List Token) → looseness p < rank_of x t → (x >>= λ o. operator_among p o rest) ≡ None
none_among p None t rest h = refl
none_among p (Some o) t rest h = rw (less_differs (looseness (line_of o)) (looseness p) h) refl

pub operator_none : (p : Part) (ts : List Token) → looseness p < rank ts → operator_at p ts ≡ None
unfolding operator_at
operator_none p [] h = refl
operator_none p (t ∷ rest) h = none_among p (operator_of t) t rest h

pub no_is : (ts : List Token) → 4 < rank ts → after_word word.Is ts ≡ None
unfolding after_word
no_is [] h = refl
no_is (token.Word word.Is ∷ rest) h = absurd (omega arith)
no_is (token.Word k ∷ rest) h = refl
no_is (other ∷ rest) h = refl

-- ---- how expressions begin

abbrev pub primary_word : Keyword → Bool
primary_word word.Null = true
primary_word word.Rowid = true
primary_word other = false

abbrev pub primary_sign : Sign → Bool
primary_sign sign.Open = true
primary_sign other = false

abbrev pub begins_primary : Token → Bool
begins_primary (token.Word k) = primary_word k
begins_primary (token.Sign s) = primary_sign s
begins_primary other = true

abbrev pub begins_factor : Token → Bool
begins_factor (token.Sign sign.Minus) = true
begins_factor t = begins_primary t

abbrev pub begins_negation : Token → Bool
begins_negation (token.Word word.Not) = true
begins_negation t = begins_factor t

pub no_minus : (t : Token) (rest : List Token) → begins_primary t ≡ true → after_sign sign.Minus (t ∷ rest) ≡ None
unfolding after_sign
no_minus (token.Sign sign.Minus) rest h = absurd cc
no_minus (token.Sign s) rest h = refl
no_minus other rest h = refl

pub no_not : (t : Token) (rest : List Token) → begins_factor t ≡ true → after_word word.Not (t ∷ rest) ≡ None
unfolding after_word
no_not (token.Word word.Not) rest h = absurd cc
no_not (token.Word k) rest h = refl
no_not other rest h = refl

pub factor_from_primary : (t : Token) → begins_primary t ≡ true → begins_factor t ≡ true
factor_from_primary (token.Sign sign.Minus) h = refl
factor_from_primary (token.Sign s) h = h
factor_from_primary other h = h

pub negation_from_factor : (t : Token) → begins_factor t ≡ true → begins_negation t ≡ true
negation_from_factor (token.Word word.Not) h = refl
negation_from_factor (token.Word k) h = h
negation_from_factor other h = h
