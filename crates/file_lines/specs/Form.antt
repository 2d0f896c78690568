-- Lines that say something: what each needs of what those before it said, and what it adds.
use Rattle.std.specs.Prelude.{◌≡◌, ℕ, List, [], ◌∷◌, ◌++◌}
use Rattle.std.specs.List.{flat_map}

-- the lines of a format
pub record Form (S L : Type 0) : Type 1 where
  -- lines that have a text, and their texts
  pub Fits : L → Type 0
  pub text : L → List ℕ
  -- what a line needs, and what it leads to
  pub May : S → L → Type 0
  pub added : S → L → S

module _ {S L : Type 0} (form : Form S L) where
  -- the text is that of a line that may come in this state, and leads to that
  pub record Comes (s : S) (bytes : List ℕ) (t : S) : Type 0 where
    pub line : L
    pub fits : form.Fits line
    pub text : bytes ≡ form.text line
    pub may : form.May s line
    pub leads : t ≡ form.added s line

  -- the texts of the lines, each with its line feed
  abbrev pub text_of : List L → List ℕ
  text_of lines = flat_map (λ line. form.text line ++ 10 ∷ []) lines
