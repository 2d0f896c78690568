-- The words of the modes.
use Rattle.std.specs.Prelude.{ℕ, List, [], ◌∷◌, Option, codes, refl}
use Rattle.desk_values.specs.Word.{HasOwnWords, member_with_word}
use Rattle.replay_history.specs.declared.mode.Mode.{Mode}
use Rattle.replay_history.specs.declared.mode.Mode.TheVariants.{Off, Scn, Object, Order, Fence}

abbrev pub mode_word : Mode → List ℕ
mode_word Off = codes "off"
mode_word Scn = codes "scn"
mode_word Object = codes "object"
mode_word Order = codes "order"
mode_word Fence = codes "fence"

-- the modes, in their order
abbrev pub all_modes : List Mode
all_modes = Off ∷ Scn ∷ Object ∷ Order ∷ Fence ∷ []

-- the mode whose word this is
abbrev pub mode_of : List ℕ → Option Mode
mode_of word = member_with_word mode_word all_modes word

-- each is found by its word
pub modes_have_own_words : HasOwnWords mode_word all_modes
unfolding member_with_word
modes_have_own_words Off = refl
modes_have_own_words _ = refl
