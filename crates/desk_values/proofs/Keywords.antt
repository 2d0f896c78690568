-- Words by their places in their list, as the code holds them.
use Rattle.std.proofs.Common.{◌≡◌, ℕ, Bool, true, false, eqb, get_or, refl, sym, ap, ◌∙◌, eq-eqb}
use denote.Enum.Declared.{tag_of}
use Rattle.std.proofs.lemmas.Bool.{eqb-true}
use Rattle.std.proofs.lemmas.Slice.Eq.{bytes_eq-Decides}
use Rattle.desk_values.specs.declared.keyword.Keyword.{Keyword}
use Rattle.desk_values.specs.declared.keyword.Keyword.TheVariants as word
use Rattle.desk_values.specs.contracts.keyword.Keyword.{the_type}
use Rattle.desk_values.specs.Keyword.{all_keywords, keyword_word, keywords_have_own_words, same_keyword}
use Rattle.desk_values.proofs.Words.{same_member}

-- the place of each word in their list
abbrev pub place : Keyword → ℕ
place k = tag_of the_type k

keyword_back : (k : Keyword) → get_or all_keywords (place k) word.And ≡ k
keyword_back word.And = refl
keyword_back other = refl

same_by : (one other : Bool) → (one ≡ true → other ≡ true) → (other ≡ true → one ≡ true) → one ≡ other
same_by true other to from = sym (to refl)
same_by false true to from = from refl
same_by false false to from = refl

pub same_keyword_is : (a b : Keyword) → same_keyword a b ≡ true → a ≡ b
same_keyword_is = same_member keyword_word all_keywords keywords_have_own_words

pub same_keyword_self : (a : Keyword) → same_keyword a a ≡ true
same_keyword_self a = (bytes_eq-Decides (keyword_word a) (keyword_word a)).1 refl

-- two words are the same where their places are
pub same_by_number : (a b : Keyword) → (eqb (place a) (place b)) ≡ same_keyword a b
same_by_number a b = same_by (eqb (place a) (place b)) (same_keyword a b)
    (λ e. let same : a ≡ b = sym (keyword_back a) ∙ ap (λ (n : ℕ). get_or all_keywords n word.And) (eqb-true (place a) (place b) e) ∙ keyword_back b in (bytes_eq-Decides (keyword_word a) (keyword_word b)).1 (ap keyword_word same))
    (λ e. eq-eqb (place a) (place b) (ap place (same_keyword_is a b e)))
