-- Places that lines name are marked.
use Rattle.std.proofs.Common.{◌≡◌, ◌∙◌, ℕ, ◌<◌, Bool, true, false, List, [], ◌∷◌, length, replicate, set, refl, sym, subst, ⊎_elim}
use Rattle.std.specs.List.{Contains, fold}
use Rattle.std.proofs.lemmas.Bool.{cases_eq, cases_lt, false≢true}
use Rattle.std.proofs.lemmas.List.{get_or-set_other, get_or-set_same, get_or_past, length-replicate, length-set}
use Rattle.desk_schema.proofs.Members.{Contains-cases, Contains-none}
use Rattle.replay_history.specs.declared.report.Line.{Line}
use Rattle.replay_walk.specs.Walked.{marked_at}
use Rattle.divergence_cause.specs.Causes.{marked_by, with_mark}

abbrev unmarked : Bool
unmarked = false

fold_length : (marks : List Bool) (lines : List Line) → length (fold with_mark marks lines) ≡ length marks
fold_length marks [] = refl
fold_length marks (line ∷ lines) = fold_length (with_mark marks line) lines ∙ length-set marks line.stamp true

pub marked_length : (calls : ℕ) (lines : List Line) → length (marked_by calls lines) ≡ calls
marked_length calls lines = fold_length (replicate calls unmarked) lines ∙ length-replicate calls unmarked

stays_set : (marks : List Bool) (j k : ℕ) → marked_at marks k ≡ true → marked_at (set marks j true) k ≡ true
stays_set marks j k is = ⊎_elim
    (λ same. ⊎_elim
    (λ within. subst (λ (i : ℕ). marked_at (set marks i true) k ≡ true) same (get_or-set_same marks k true unmarked within))
    (λ past. absurd (false≢true (sym (get_or_past marks k unmarked past) ∙ is)))
    (cases_lt k (length marks)))
    (λ apart. get_or-set_other marks j k true unmarked apart ∙ is)
    (cases_eq k j)

stays_marked : (marks : List Bool) (lines : List Line) (k : ℕ) → marked_at marks k ≡ true → marked_at (fold with_mark marks lines) k ≡ true
stays_marked marks [] k is = is
stays_marked marks (line ∷ lines) k is = stays_marked (with_mark marks line) lines k (stays_set marks line.stamp k is)

each_marked : (marks : List Bool) (lines : List Line) (line : Line) → Contains lines line → line.stamp < length marks → marked_at (fold with_mark marks lines) line.stamp ≡ true
each_marked marks [] line there within = absurd (Contains-none line there)
each_marked marks (first ∷ lines) line there within = ⊎_elim
    (λ same. stays_marked (with_mark marks first) lines line.stamp (subst (λ (l : Line). marked_at (with_mark marks l) line.stamp ≡ true) (sym same) (get_or-set_same marks line.stamp true unmarked within)))
    (λ later. each_marked (with_mark marks first) lines line later (subst (λ (n : ℕ). line.stamp < n) (sym (length-set marks first.stamp true)) within))
    (Contains-cases first lines line there)

pub line_marked : (calls : ℕ) (lines : List Line) (line : Line) → Contains lines line → line.stamp < calls → marked_at (marked_by calls lines) line.stamp ≡ true
line_marked calls lines line there within = each_marked (replicate calls unmarked) lines line there (subst (λ (n : ℕ). line.stamp < n) (sym (length-replicate calls unmarked)) within)
