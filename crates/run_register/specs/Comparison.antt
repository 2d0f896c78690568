-- What differs between two runs, less what was accepted.
use Rattle.std.specs.Prelude.{ℕ, ◌+◌, ◌≤◌, Bool, ◌&&◌, ◌||◌, ◌==◌, if◌then◌else◌, List, [], ◌∷◌, ◌++◌, Option, None, Some}
use Rattle.std.specs.List.{find, flat_map, list_any}
use Rattle.std.specs.List.Sorted.{IsPermutation, IsNonDecreasingBy}
use Rattle.replay_history.specs.declared.report.Class.{Class}
use Rattle.replay_history.specs.declared.report.Line.{Line}
use Rattle.replay_history.specs.Class.{class_number}
use Rattle.run_register.specs.declared.kept.Accept.{Accept}
use Rattle.run_register.specs.declared.comparison.Difference.{Difference}
use Rattle.run_register.specs.declared.comparison.Difference.TheVariants.{New, Gone, Changed}

-- whether a divergence of the call with this stamp, of the class with this number, was accepted
abbrev pub is_accepted : List Accept → ℕ → ℕ → Bool
is_accepted accepted stamp class = list_any (λ a. (a.stamp == stamp) && (a.class == class)) accepted

-- a run's line of the call with this stamp
abbrev pub line_at : List Line → ℕ → Option Line
line_at lines stamp = find (λ l. l.stamp == stamp) lines

-- what a line of the first run gives, beside the second one's line of the same call
abbrev pub of_first : (ℕ → ℕ → Bool) → Line → Option Line → List Difference
of_first accepts l None = Gone l ∷ []
of_first accepts l (Some m) = if (class_number l.class == class_number m.class) || accepts l.stamp (class_number m.class) then [] else Changed l m.class ∷ []

-- what a line of the second run gives, beside the first one's
abbrev pub of_second : (ℕ → ℕ → Bool) → Line → Option Line → List Difference
of_second accepts l None = if accepts l.stamp (class_number l.class) then [] else New l ∷ []
of_second accepts l (Some m) = []

-- those of the first run's lines, beside the lines at their stamps in the second
abbrev pub of_all_first : (ℕ → ℕ → Bool) → List Line → (ℕ → Option Line) → List Difference
of_all_first accepts a at_stamp = flat_map (λ l. of_first accepts l (at_stamp l.stamp)) a

abbrev pub of_all_second : (ℕ → ℕ → Bool) → List Line → (ℕ → Option Line) → List Difference
of_all_second accepts b at_stamp = flat_map (λ l. of_second accepts l (at_stamp l.stamp)) b

abbrev pub all_differences : List Line → List Line → List Accept → List Difference
all_differences a b accepted = of_all_first (is_accepted accepted) a (line_at b) ++ of_all_second (is_accepted accepted) b (line_at a)

abbrev pub stamp_of : Difference → ℕ
stamp_of (New l) = l.stamp
stamp_of (Gone l) = l.stamp
stamp_of (Changed l class) = l.stamp

-- the stamps of these lines rise, from this one on
abbrev pub RiseFrom : ℕ → List Line → Type 0
RiseFrom least [] = Unit {0}
RiseFrom least (l ∷ lines) = (least ≤ l.stamp) × RiseFrom (l.stamp + 1) lines

-- these are all of them, by stamp
pub record AreDifferences (a b : List Line) (accepted : List Accept) (found : List Difference) : Type 0 where
  pub all : IsPermutation (all_differences a b accepted) found
  pub by_stamp : IsNonDecreasingBy stamp_of found
