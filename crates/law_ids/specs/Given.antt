-- What one reply gives out.
use Rattle.std.specs.Prelude.{◌≡◌, ◌⊎◌, ℕ, Bool, List, None, Some}
use Rattle.desk_values.specs.declared.call.Reply.{Reply}
use Rattle.server_words.specs.Draws.{drawn_from}

-- no row or this one, and these next values of the sequences that pass some test: one of each, by ascending sequence
pub record GivesNext (next_values : List ℕ) (row : ℕ) (reply : Reply) : Type 0 where
  pub made : (reply.made ≡ None) ⊎ (reply.made ≡ Some row)
  pub test : ℕ → Bool
  pub draws : reply.draws ≡ drawn_from test 0 next_values
