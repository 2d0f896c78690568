-- Lists of pairs of ids: one of a captured run, and the one that stands for it in a replayed run.
use Rattle.std.specs.Prelude.{◌≡◌, ℕ, Bool, ◌||◌, ◌==◌, if◌then◌else◌, List, [], ◌∷◌, ◌++◌, map, Option, Some}
use Rattle.std.specs.List.{AllByRecursion, IsDistinct, fold, list_any}
use Rattle.std.specs.Map.{lookup}
use Rattle.desk_values.specs.declared.value.Value.{Value}
use Rattle.desk_values.specs.declared.value.Value.TheVariants as value
use Rattle.desk_values.specs.declared.call.Reply.{Reply}
use Rattle.id_pairs.specs.declared.Id.{Id}
use Rattle.id_pairs.specs.declared.Id.TheVariants.{Row, Draw}
use Rattle.id_pairs.specs.Ids.{same_id}

-- the captured id, then the replayed one
abbrev pub IdPair : Type 0
IdPair = Id × Id

-- two rows, or two draws of one sequence
abbrev pub AreLike : Id → Id → Type 0
AreLike (Row a) (Row b) = Unit {0}
AreLike (Draw p a) (Draw q b) = p ≡ q
AreLike id other = ⊥

-- no id stands twice on one side
pub record HasNoIdTwice (pairs : List IdPair) : Type 0 where
  pub captured : IsDistinct same_id (map (λ pair. pair.0) pairs)
  pub replayed : IsDistinct same_id (map (λ pair. pair.1) pairs)

-- a map of ids: the pairs of a one-to-one map, each of two rows or of two draws of one sequence
pub record IsIdMap (pairs : List IdPair) : Type 0 where
  pub once : HasNoIdTwice pairs
  pub like : AllByRecursion (λ pair. AreLike pair.0 pair.1) pairs

-- the replayed id that stands for a captured one
abbrev pub image_in : List IdPair → Id → Option Id
image_in pairs id = lookup (same_id id) pairs

-- one of the two ids stands on its side already
abbrev pub is_known : List IdPair → IdPair → Bool
is_known pairs pair = list_any (same_id pair.0) (map (λ known. known.0) pairs) || list_any (same_id pair.1) (map (λ known. known.1) pairs)

-- a further pair goes last, unless it is known
abbrev pub with_new : List IdPair → IdPair → List IdPair
with_new pairs pair = if is_known pairs pair then pairs else pairs ++ pair ∷ []

-- the same with each of some pairs in turn
abbrev pub all_new : List IdPair → List IdPair → List IdPair
all_new pairs others = fold with_new pairs others

-- ---- what is learnt from two replies to one call

-- the two values, where they were drawn from one sequence
abbrev pub drawn_pair : Value → Value → List IdPair
drawn_pair (value.Draw p a) (value.Draw q b) = if p == q then (Draw p a, Draw q b) ∷ [] else []
drawn_pair other value = []

-- those of the draws at equal places
abbrev pub drawn_pairs : List Value → List Value → List IdPair
drawn_pairs (captured ∷ others) (replayed ∷ more) = drawn_pair captured replayed ++ drawn_pairs others more
drawn_pairs captured replayed = []

-- the two rows, where both were made
abbrev pub made_pair : Option ℕ → Option ℕ → List IdPair
made_pair (Some captured) (Some replayed) = (Row captured, Row replayed) ∷ []
made_pair captured replayed = []

-- the draws by place, then the made rows
abbrev pub learnt : Reply → Reply → List IdPair
learnt captured replayed = drawn_pairs captured.draws replayed.draws ++ made_pair captured.made replayed.made
