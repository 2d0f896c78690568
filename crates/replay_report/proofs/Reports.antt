-- Laws of the report.
use Rattle.std.proofs.Common.{◌≡◌, ◌≢◌, ◌⊎◌, inl, inr, ℕ, zero, suc, ◌+◌, ◌≤◌, Bool, true, false, cond, eqb, List, [], ◌∷◌, ◌++◌, map, length, take, Option, None, Some, refl, sym, ap, subst, ◌∙◌, append-nil, arith, ⊎_elim}
use Rattle.std.specs.Prelude.{◌↔◌, count_by, slice_get, sum}
use Rattle.std.specs.List.{Contains, flat_map}
use Rattle.std.specs.Option.{option_or}
use Rattle.std.proofs.lemmas.Bool.{eq-eqb, eqb-false, eqb-true, ne_eqb}
use Rattle.std.proofs.lemmas.List.{length-map}
use Rattle.std.proofs.lemmas.Option.{same_Some, slice_get_within}
use Rattle.desk_schema.proofs.Members.{Contains-cases, Contains-none}
use Rattle.std.proofs.lemmas.List.Sums.{sum_by-append}
use Rattle.std.proofs.lemmas.List.Elements.{Contains-append_cases, Contains-append_left, Contains-append_right}
use Rattle.desk_values.specs.declared.call.Reply.{Reply}
use Rattle.desk_values.specs.declared.capture.Captured.{Captured}
use Rattle.desk_values.specs.declared.capture.Event.{Event}
use Rattle.desk_values.specs.declared.capture.Event.TheVariants.{Start, Answer}
use Rattle.id_pairs.specs.Pairs.{IdPair}
use Rattle.remap_ids.specs.IdMap.{start_pairs}
use Rattle.replay_history.specs.declared.report.Class.{Class}
use Rattle.replay_history.specs.declared.report.Class.TheVariants.{Same, NewError, GoneError, MutatedError, RowsModified, RowsFetched, RowContents, Images, Shape}
use Rattle.replay_history.specs.declared.report.Line.{Line}
use Rattle.replay_history.specs.Class.{class_number}
use Rattle.replay_history.specs.Gap.{IsCallAt, IsStamped}
use Rattle.replay_history.specs.History.{AnswersAll, AnswersAt}
use Rattle.replay_job.specs.Job.{JobView}
use Rattle.replay_job.specs.Runs.{IsLegalFor, gained, learnt_in}
use Rattle.divergence.specs.Class.{class_between}
use Rattle.replay_report.specs.Last.{last_of}
use Rattle.replay_report.specs.Laws.{IsLineOf, StampsRise}
use Rattle.replay_report.specs.Report.{class_at, class_by, class_of, counts_of, difference, is_class, marked, pairs_after, report_in}
use Rattle.replay_report.proofs.Classes.{known_more}

-- ---- the class by the own answer

NoAnswer : ℕ → List Event → Type 0
NoAnswer k events = (j : ℕ) (reply : Reply) → slice_get events j ≡ Some (Answer k reply) → ⊥

not_by : (call : Captured) (first : Event) (xs : List Event) (pairs : List IdPair) → NoAnswer call.stamp (first ∷ xs) → class_by call first pairs ≡ None
unfolding NoAnswer
not_by call (Start k pause) xs pairs never = refl
not_by call (Answer k reply) xs pairs never = ap (λ (b : Bool). cond b (Some (class_between pairs call.reply reply)) None) (ne_eqb k call.stamp (λ same. never 0 reply (ap (λ (j : ℕ). Some (Answer j reply)) same)))

not_in : (calls : List Captured) (call : Captured) (pairs : List IdPair) (xs : List Event) → NoAnswer call.stamp xs → last_of (class_at call) (marked calls pairs xs) ≡ None
unfolding NoAnswer
not_in calls call pairs [] never = refl
not_in calls call pairs (first ∷ xs) never =
    let known = pairs ++ gained calls first in
    ap (λ o. option_or o (class_by call first known)) (not_in calls call known xs (λ j. never (suc j))) ∙ not_by call first xs known never

by_own : (call : Captured) (reply : Reply) (pairs : List IdPair) → class_by call (Answer call.stamp reply) pairs ≡ Some (class_between pairs call.reply reply)
by_own call reply pairs = ap (λ (b : Bool). cond b (Some (class_between pairs call.reply reply)) None) (eq-eqb call.stamp call.stamp refl)

own_in : (calls : List Captured) (call : Captured) (pairs : List IdPair) (xs : List Event) (i : ℕ) (reply : Reply) → ((j : ℕ) (other : Reply) → slice_get xs j ≡ Some (Answer call.stamp other) → j ≡ i) → slice_get xs i ≡ Some (Answer call.stamp reply) → last_of (class_at call) (marked calls pairs xs) ≡ Some (class_between (pairs ++ learnt_in calls (take (suc i) xs)) call.reply reply)
unfolding NoAnswer
own_in calls call pairs [] i reply once at = absurd cc
own_in calls call pairs (first ∷ xs) zero reply once at =
    let known = pairs ++ gained calls first in
    let none = not_in calls call known xs (λ j other later. let never = once (suc j) other later in absurd (omega arith)) in
    let whole : known ≡ pairs ++ learnt_in calls (first ∷ []) = sym (append-nil known) ∙ known_more calls pairs first [] in
    ap (λ o. option_or o (class_by call first known)) none ∙ ap (λ (e : Event). class_by call e known) (same_Some first (Answer call.stamp reply) at) ∙ by_own call reply known ∙ ap (λ (ps : List IdPair). Some (class_between ps call.reply reply)) whole
own_in calls call pairs (first ∷ xs) (suc i) reply once at =
    let known = pairs ++ gained calls first in
    let rest = own_in calls call known xs i reply (λ j other later. (let next = once (suc j) other later in omega arith)) at in
    ap (λ o. option_or o (class_by call first known)) rest ∙ ap (λ (ps : List IdPair). Some (class_between ps call.reply reply)) (known_more calls pairs first (take (suc i) xs))

pub by_own_answer : (job : JobView) (history : List Event) (i : ℕ) (call : Captured) (reply : Reply) → IsLegalFor job history → AnswersAt history i call.stamp reply → class_of job history call ≡ Some (class_between (pairs_after job (take (i + 1) history)) call.reply reply)
by_own_answer job history i call reply legal at =
    let next : suc i ≡ i + 1 = omega arith in
    own_in job.calls call (start_pairs job.start) history i reply (λ j other there. legal.answers_once j i call.stamp other reply there at) at ∙ ap (λ (n : ℕ). Some (class_between (pairs_after job (take n history)) call.reply reply)) next

-- ---- counts

abbrev is_unclassed : Option Class → Bool
is_unclassed None = true
is_unclassed (Some class) = false

count_cons : {X : Type 0} (test : X → Bool) (x : X) (xs : List X) → count_by test (x ∷ xs) ≡ count_by test (x ∷ []) + count_by test xs
count_cons test x xs = sum_by-append _ (x ∷ []) xs

sum_cons : (x : Option Class) (xs : List (Option Class)) → sum (counts_of (x ∷ xs)) ≡ sum (counts_of (x ∷ [])) + sum (counts_of xs)
sum_cons x xs = let more = λ (class : Class). count_cons (is_class class) x xs in omega (arith, more Same, more NewError, more GoneError, more MutatedError, more RowsModified, more RowsFetched, more RowContents, more Images, more Shape)

one_class : (x : Option Class) → sum (counts_of (x ∷ [])) + count_by is_unclassed (x ∷ []) ≡ 1
one_class None = refl
one_class (Some Same) = refl
one_class (Some NewError) = refl
one_class (Some GoneError) = refl
one_class (Some MutatedError) = refl
one_class (Some RowsModified) = refl
one_class (Some RowsFetched) = refl
one_class (Some RowContents) = refl
one_class (Some Images) = refl
one_class (Some Shape) = refl

counted : (classes : List (Option Class)) → sum (counts_of classes) + count_by is_unclassed classes ≡ length classes
counted [] = refl
counted (x ∷ xs) = omega (arith, sum_cons x xs, one_class x, count_cons is_unclassed x xs, counted xs)

all_classed : (f : Captured → Option Class) (calls : List Captured) → ((k : ℕ) (call : Captured) → IsCallAt calls k call → (class : Class) × (f call ≡ Some class)) → count_by is_unclassed (map f calls) ≡ 0
all_classed f [] each = refl
all_classed f (call ∷ calls) each = let rest = all_classed f calls (λ k. each (suc k)) in rw (each 0 call refl).1 rest

pub add_up : (job : JobView) (history : List Event) → IsStamped job.calls → IsLegalFor job history → AnswersAll job.calls history → sum (report_in job history).counts ≡ length job.calls
add_up job history stamps legal all =
    let classed = all_classed (class_of job history) job.calls (λ k call at.
    let answer = all k (slice_get_within job.calls k call at) in
    let own : AnswersAt history answer.0 call.stamp answer.1 = subst (λ (m : ℕ). AnswersAt history answer.0 m answer.1) (sym (stamps k call at)) answer.2 in
    (class_between (pairs_after job (take (answer.0 + 1) history)) call.reply answer.1, by_own_answer job history answer.0 call answer.1 legal own)) in
    let whole = counted (map (class_of job history) job.calls) in
    let count = length-map job.calls (class_of job history) in
    omega (arith, whole, classed, count)

-- ---- lines

abbrev line_for : Captured → Class → Line
line_for call class = record { stamp = call.stamp; session = call.session; place = call.place; class = class }

same_is : (class : Class) → class_number class ≡ 0 → class ≡ Same
same_is Same e = refl
same_is NewError e = absurd (omega arith)
same_is GoneError e = absurd (omega arith)
same_is MutatedError e = absurd (omega arith)
same_is RowsModified e = absurd (omega arith)
same_is RowsFetched e = absurd (omega arith)
same_is RowContents e = absurd (omega arith)
same_is Images e = absurd (omega arith)
same_is Shape e = absurd (omega arith)

-- the lines of a call: none, or one
cases_difference : (call : Captured) (class : Option Class) → (difference call class ≡ [] × ((other : Class) → class ≡ Some other → other ≡ Same)) ⊎ ((other : Class) × (class ≡ Some other) × (other ≢ Same) × (difference call class ≡ line_for call other ∷ []))
cases_difference call None = inl (refl, λ other e. absurd cc)
cases_difference call (Some class) = go (eqb (class_number class) 0) refl
  where
    go : (b : Bool) → eqb (class_number class) 0 ≡ b → (difference call (Some class) ≡ [] × ((other : Class) → ◌≡◌ {A = Option Class} (Some class) (Some other) → other ≡ Same)) ⊎ ((other : Class) × ◌≡◌ {A = Option Class} (Some class) (Some other) × (other ≢ Same) × (difference call (Some class) ≡ line_for call other ∷ []))
    go true e = inl (rw e refl, λ other is. (let here : class ≡ other = cc in sym here ∙ same_is class (eqb-true (class_number class) 0 e)))
    go false e = inr (class, refl, (λ same. eqb-false (class_number class) 0 e (ap class_number same)), rw e refl)

lines_from : JobView → List Event → List Captured → List Line
lines_from job history calls = flat_map (λ call. difference call (class_of job history call)) calls

rising : (job : JobView) (history : List Event) (calls : List Captured) (n least : ℕ) → ((k : ℕ) (call : Captured) → IsCallAt calls k call → call.stamp ≡ n + k) → least ≤ n → StampsRise least (lines_from job history calls)
unfolding lines_from
rising job history [] n least stamps le = tt
rising job history (call ∷ calls) n least stamps le =
    let here = stamps 0 call refl in
    let rest = lines_from job history calls in
    let later : (m : ℕ) → m ≤ suc n → StampsRise m rest = λ m small. rising job history calls (suc n) m (λ k other at. (let next = stamps (suc k) other at in omega arith)) small in
    elim (cases_difference call (class_of job history call)) [
      | inl none ↦ subst (λ (ls : List Line). StampsRise least (ls ++ rest)) (sym none.0) (later least (omega arith))
      | inr one ↦ subst (λ (ls : List Line). StampsRise least (ls ++ rest)) (sym one.3) (omega arith, later (call.stamp + 1) (omega arith))
    ]

pub by_stamp : (job : JobView) (history : List Event) → IsStamped job.calls → StampsRise 0 (report_in job history).lines
unfolding lines_from
by_stamp job history stamps = rising job history job.calls 0 0 (λ k call at. stamps k call at ∙ omega arith) (omega arith)

single : (l x : Line) → Contains (l ∷ []) x → l ≡ x
single l x h = ⊎_elim (λ is. is) (λ later. absurd (Contains-none x later)) (Contains-cases l [] x h)

line_is : (call : Captured) (l : Line) → l.stamp ≡ call.stamp → l.session ≡ call.session → l.place ≡ call.place → (class : Class) → class ≡ l.class → line_for call class ≡ l
line_is call l s t p class e = λ i. record { stamp = sym s i; session = sym t i; place = sym p i; class = e i }

module _ (job : JobView) (history : List Event) (l : Line) where
  line_here : (call : Captured) → IsCallAt job.calls call.stamp call → Contains (difference call (class_of job history call)) l → IsLineOf job history l
  line_here call at h = elim (cases_difference call (class_of job history call)) [
    | inl none ↦ absurd (let empty = subst (λ (ls : List Line). Contains ls l) none.0 h in omega (arith, empty.1))
    | inr one ↦
        let is = single (line_for call one.0) l (subst (λ (ls : List Line). Contains ls l) one.3 h) in
        subst (IsLineOf job history) is (record { call = call; at = at; session = refl; place = refl; class = one.1; differs = one.2 })
  ]

  found : (calls : List Captured) → ((k : ℕ) (call : Captured) → IsCallAt calls k call → IsCallAt job.calls call.stamp call) → Contains (lines_from job history calls) l → IsLineOf job history l
  unfolding lines_from
  found [] each h = absurd (omega (arith, h.1))
  found (call ∷ calls) each h = elim (Contains-append_cases (difference call (class_of job history call)) (lines_from job history calls) l h) [
    | inl here ↦ line_here call (each 0 call refl) here
    | inr later ↦ found calls (λ k. each (suc k)) later
  ]

  placed : (calls : List Captured) (k : ℕ) (call : Captured) → IsCallAt calls k call → Contains (difference call (class_of job history call)) l → Contains (lines_from job history calls) l
  unfolding lines_from
  placed [] k call at h = absurd cc
  placed (first ∷ calls) zero call at h = Contains-append_left (difference first (class_of job history first)) (lines_from job history calls) l (subst (λ (c : Captured). Contains (difference c (class_of job history c)) l) (same_Some call first (sym at)) h)
  placed (first ∷ calls) (suc k) call at h = Contains-append_right (difference first (class_of job history first)) (lines_from job history calls) l (placed calls k call at h)

  shown : IsStamped job.calls → (is : IsLineOf job history l) → Contains (difference is.call (class_of job history is.call)) l
  shown stamps is = elim (cases_difference is.call (class_of job history is.call)) [
    | inl none ↦ absurd (is.differs (none.1 l.class is.class))
    | inr one ↦
        let both : ◌≡◌ {A = Option Class} (Some one.0) (Some l.class) = sym one.1 ∙ is.class in
        let class_is : one.0 ≡ l.class = cc in
        subst (λ (ls : List Line). Contains ls l) (sym one.3) (0, omega arith, line_is is.call l (sym (stamps l.stamp is.call is.at)) is.session is.place one.0 class_is)
  ]

  pub stand_where : IsStamped job.calls → Contains (report_in job history).lines l ↔ IsLineOf job history l
  unfolding lines_from
  stand_where stamps = (
    found job.calls (λ k call at. subst (λ (m : ℕ). IsCallAt job.calls m call) (sym (stamps k call at)) at),
    λ is. placed job.calls l.stamp is.call is.at (shown stamps is),
  )
