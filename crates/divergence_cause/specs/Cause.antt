-- The words of the causes.
use Rattle.std.specs.Prelude.{ℕ, List, [], ◌∷◌, codes, refl}
use Rattle.desk_values.specs.Word.{HasOwnWords, member_with_word}
use Rattle.divergence_cause.specs.declared.cause.Cause.{Cause}
use Rattle.divergence_cause.specs.declared.cause.Cause.TheVariants.{Timing, Upgrade}

abbrev pub cause_word : Cause → List ℕ
cause_word Timing = codes "timing"
cause_word Upgrade = codes "upgrade"

abbrev pub all_causes : List Cause
all_causes = Timing ∷ Upgrade ∷ []

-- each is found by its word
pub causes_have_own_words : HasOwnWords cause_word all_causes
unfolding member_with_word
causes_have_own_words Timing = refl
causes_have_own_words _ = refl
