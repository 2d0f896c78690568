-- The words of the classes, and their places.
use Rattle.std.specs.Prelude.{ℕ, List, [], ◌∷◌, codes, refl}
use Rattle.desk_values.specs.Word.{HasOwnWords, member_with_word}
use Rattle.replay_history.specs.declared.report.Class.{Class}
use Rattle.replay_history.specs.declared.report.Class.TheVariants.{Same, NewError, GoneError, MutatedError, RowsModified, RowsFetched, RowContents, Images, Shape}

abbrev pub class_word : Class → List ℕ
class_word Same = codes "same"
class_word NewError = codes "new-error"
class_word GoneError = codes "gone-error"
class_word MutatedError = codes "mutated-error"
class_word RowsModified = codes "rows-modified"
class_word RowsFetched = codes "rows-fetched"
class_word RowContents = codes "row-contents"
class_word Images = codes "images"
class_word Shape = codes "shape"

-- the place of each class in their list, from 0
abbrev pub class_number : Class → ℕ
class_number Same = 0
class_number NewError = 1
class_number GoneError = 2
class_number MutatedError = 3
class_number RowsModified = 4
class_number RowsFetched = 5
class_number RowContents = 6
class_number Images = 7
class_number Shape = 8

-- the classes, in their order
abbrev pub all_classes : List Class
all_classes = Same ∷ NewError ∷ GoneError ∷ MutatedError ∷ RowsModified ∷ RowsFetched ∷ RowContents ∷ Images ∷ Shape ∷ []

-- each is found by its word
pub classes_have_own_words : HasOwnWords class_word all_classes
unfolding member_with_word
classes_have_own_words Same = refl
classes_have_own_words _ = refl
