-- Finite words, and the member that has one.
use Rattle.std.proofs.Common.{◌≡◌, ℕ, Bool, true, List, [], ◌∷◌, Some, sym, ap, ◌∙◌, inl, inr}
use Rattle.std.specs.Prelude.{◌↔◌}
use Rattle.std.specs.List.{find}
use Rattle.std.specs.Str.{bytes_eq}
use Rattle.std.proofs.lemmas.Option.{same_Some, none-some}
use Rattle.std.proofs.lemmas.Slice.Eq.{bytes_eq-Decides}
use Rattle.desk_values.specs.Word.{member_with_word, HasOwnWords}
use Rattle.desk_values.proofs.Options.{chosen}

-- what is found passes the test
pub find_passes : {X : Type 0} (test : X → Bool) (xs : List X) (y : X) → find test xs ≡ Some y → test y ≡ true
find_passes test [] y e = absurd (none-some y e)
find_passes test (x ∷ xs) y e =
    elim (chosen (test x) (Some x) (find test xs) (Some y) e) [
      | inl hit ↦ sym (ap test (same_Some x y hit.1)) ∙ hit.0
      | inr miss ↦ find_passes test xs y miss.1
    ]

pub member_with_word_law : {W : Type 0} (word : W → List ℕ) (members : List W) → HasOwnWords word members → (bytes : List ℕ) (member : W) → (member_with_word word members bytes ≡ Some member) ↔ (word member ≡ bytes)
unfolding member_with_word
member_with_word_law {W} word members own bytes member = (
  λ e. (bytes_eq-Decides (word member) bytes).0 (find_passes (λ other. bytes_eq (word other) bytes) members member e),
  λ e. ap (member_with_word word members) (sym e) ∙ own member,
)

-- members with the same word are the same
pub same_member : {W : Type 0} (word : W → List ℕ) (members : List W) → HasOwnWords word members → (a b : W) → bytes_eq (word a) (word b) ≡ true → a ≡ b
same_member word members own a b e = same_Some a b (sym (own a) ∙ ap (member_with_word word members) ((bytes_eq-Decides (word a) (word b)).0 e) ∙ own b)
