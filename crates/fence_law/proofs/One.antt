-- There is one ascending list of plain reads.
use Rattle.std.proofs.Common.{ℕ, ◌+◌, List, [], ◌∷◌}
use Rattle.law_replays.proofs.End.Order.{AscendFrom, one_ascending}
use Rattle.fence_law.specs.Laws.{OneListOfPlainReads}
use Rattle.fence_law.specs.Plain.{StampsRiseFrom}

ascend : (n : ℕ) (stamps : List ℕ) → StampsRiseFrom n stamps → AscendFrom (λ (k : ℕ). k) n stamps
ascend n [] rise = tt
ascend n (stamp ∷ stamps) rise = (rise.0, ascend (stamp + 1) stamps rise.1)

pub one_list : OneListOfPlainReads
one_list job history stamps others one other =
    one_ascending (λ (k : ℕ). k) 0 0 stamps others (ascend 0 stamps one.rise) (ascend 0 others other.rise)
    (λ k c. (other.each k).1 ((one.each k).0 c))
    (λ k c. (one.each k).1 ((other.each k).0 c))
