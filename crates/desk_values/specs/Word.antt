-- Finite words: the members of a type, each with a word of its own.
use Rattle.std.specs.Prelude.{◌≡◌, ℕ, List, Option, Some}
use Rattle.std.specs.List.{find}
use Rattle.std.specs.Str.{bytes_eq}

-- the first of the members with this word
unfoldable pub member_with_word : {W : Type 0} → (W → List ℕ) → List W → List ℕ → Option W
member_with_word word members bytes = find (λ member. bytes_eq (word member) bytes) members

-- every value stands among the members, and no other one has its word
abbrev pub HasOwnWords : {W : Type 0} → (W → List ℕ) → List W → Type 0
HasOwnWords {W} word members = (member : W) → member_with_word word members (word member) ≡ Some member
