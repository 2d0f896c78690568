-- The classes of calls and the pairs of ids, event by event.
use Rattle.std.proofs.Common.{◌≡◌, ◌≢◌, ℕ, suc, ◌+◌, ◌<◌, ◌≤◌, ◌∙◌, drop, get_or, arith, Bool, false, List, [], ◌∷◌, ◌++◌, map, length, replicate, Option, None, Some, refl, sym, ap, subst, append_assoc, append-nil, drop-cons}
use Rattle.std.specs.Prelude.{slice_get}
use Rattle.std.specs.List.{AllByRecursion, IsDistinct, flat_map}
use Rattle.std.specs.Option.{option_or}
use Rattle.std.proofs.lemmas.Bool.{eq-eqb, ne_eqb}
use Rattle.std.proofs.lemmas.List.{map-append}
use Rattle.std.proofs.lemmas.Option.{slice_get_past}
use Rattle.desk_values.specs.declared.call.Reply.{Reply}
use Rattle.desk_values.specs.declared.capture.Captured.{Captured}
use Rattle.desk_values.specs.declared.capture.Event.{Event}
use Rattle.desk_values.specs.declared.capture.Event.TheVariants.{Start, Answer}
use Rattle.id_pairs.specs.Pairs.{HasNoIdTwice, IdPair, all_new}
use Rattle.id_pairs.specs.Ids.{same_id}
use Rattle.id_pairs.proofs.New.{all_go_last}
use Rattle.remap_ids.specs.IdMap.{start_pairs}
use Rattle.replay_history.specs.declared.report.Class.{Class}
use Rattle.replay_history.specs.declared.report.Line.{Line}
use Rattle.replay_job.specs.Job.{JobView}
use Rattle.replay_job.specs.Runs.{gained, learnt_in}
use Rattle.divergence.specs.Class.{class_between}
use Rattle.replay_report.specs.Last.{last_of}
use Rattle.replay_report.specs.Report.{Marked, class_at, class_by, counts_of, difference, heard_class_of, heard_report_in, marked, marked_by, pairs_after, report_by, report_in}
use Rattle.replay_history.specs.Gap.{IsStamped}
use Rattle.replay_report.specs.Inside.Written.{differences, noted, noted_on, walked}
use Rattle.replay_report.proofs.Lasts.{map_same, map_set, or_assoc, or_none}

-- ---- the pairs

pub known_more : (calls : List Captured) (pairs : List IdPair) (first : Event) (xs : List Event) → (pairs ++ gained calls first) ++ learnt_in calls xs ≡ pairs ++ learnt_in calls (first ∷ xs)
known_more calls pairs first xs = append_assoc pairs (gained calls first) (learnt_in calls xs)

-- an answer to no call gives none
pub none_gained : (calls : List Captured) (pairs : List IdPair) (event : Event) (k : ℕ) (reply : Reply) → event ≡ Answer k reply → length calls ≤ k → pairs ≡ all_new pairs (gained calls event)
none_gained calls pairs event k reply is past = rw (is, slice_get_past calls k past) refl

distinct_front : {K : Type 0} (same : K → K → Bool) (xs ys : List K) → IsDistinct same (xs ++ ys) → IsDistinct same xs
unfolding IsDistinct
distinct_front same [] ys once = tt
distinct_front same (x ∷ xs) ys once = (all_front xs once.0, distinct_front same xs ys once.1)
  where
    all_front : (zs : List _) → AllByRecursion (λ y. same x y ≡ false) (zs ++ ys) → AllByRecursion (λ y. same x y ≡ false) zs
    all_front [] all = tt
    all_front (z ∷ zs) all = (all.0, all_front zs all.1)

-- the pairs so far, of pairs with no id twice
pub once_front : (ps qs : List IdPair) → HasNoIdTwice (ps ++ qs) → HasNoIdTwice ps
once_front ps qs once = record {
  captured = distinct_front same_id (map (λ (p : IdPair). p.0) ps) (map (λ (p : IdPair). p.0) qs) (subst (IsDistinct same_id) (map-append (λ (p : IdPair). p.0) ps qs) once.captured);
  replayed = distinct_front same_id (map (λ (p : IdPair). p.1) ps) (map (λ (p : IdPair). p.1) qs) (subst (IsDistinct same_id) (map-append (λ (p : IdPair). p.1) ps qs) once.replayed);
}

-- ---- the classes

module _ (calls : List Captured) (stamps : IsStamped calls) (pairs : List IdPair) (f : Captured → Option Class) where
  module _ (k : ℕ) (reply : Reply) where
    abbrev next : Captured → Option Class
    next call = option_or (class_by call (Answer k reply) pairs) (f call)

    elsewhere : (j : ℕ) (call : Captured) → j ≢ k → slice_get calls j ≡ Some call → next call ≡ f call
    elsewhere j call apart at = rw (ne_eqb k call.stamp (λ same. apart (sym (stamps j call at) ∙ sym same))) refl

    here : (call other : Captured) → slice_get calls k ≡ Some call → slice_get calls k ≡ Some other → next other ≡ Some (class_between pairs call.reply reply)
    here call other at there = let same : other ≡ call = cc in rw (eq-eqb k other.stamp (sym (stamps k other there)), same) refl

    by_answer : (o : Option Captured) → slice_get calls k ≡ o → noted_on o pairs k reply (map f calls) ≡ map next calls
    by_answer None none = map_same f next calls (λ j call at. elsewhere j call (λ same. (let there = subst (λ (i : ℕ). slice_get calls i ≡ Some call) same at in cc)) at)
    by_answer (Some call) at = map_set f next calls k (Some (class_between pairs call.reply reply)) (λ other there. here call other at there) elsewhere

  -- the classes with what the event says of each call
  by_event : (event : Event) → noted calls pairs event (map f calls) ≡ map (λ call. option_or (class_by call event pairs) (f call)) calls
  by_event (Start k pause) = refl
  by_event (Answer k reply) = by_answer k reply (slice_get calls k) refl

pub walk_is : (calls : List Captured) → IsStamped calls → (pairs : List IdPair) (events : List Event) (f : Captured → Option Class) → walked calls pairs events (map f calls) ≡ map (λ call. option_or (last_of (class_at call) (marked_by all_new calls pairs events)) (f call)) calls
walk_is calls stamps pairs [] f = refl
walk_is calls stamps pairs (event ∷ events) f =
    let known = all_new pairs (gained calls event) in
    let next : Captured → Option Class = λ call. option_or (class_by call event known) (f call) in
    ap (walked calls known events) (by_event calls stamps known f event) ∙ walk_is calls stamps known events next
    ∙ map_same _ _ calls (λ k call at. or_assoc (last_of (class_at call) (marked_by all_new calls known events)) (class_by call event known) (f call))

-- where no id stands twice on one side, each pair comes behind those before
pub marked_same : (calls : List Captured) (pairs : List IdPair) (events : List Event) → HasNoIdTwice (pairs ++ learnt_in calls events) → marked_by all_new calls pairs events ≡ marked calls pairs events
marked_same calls pairs [] once = refl
marked_same calls pairs (event ∷ events) once =
    let known = pairs ++ gained calls event in
    let whole = subst HasNoIdTwice (sym (known_more calls pairs event events)) once in
    let here : all_new pairs (gained calls event) ≡ known = all_go_last pairs (gained calls event) (once_front known (learnt_in calls events) whole) in
    ap (λ (ps : List IdPair). (event, ps) ∷ marked_by all_new calls ps events) here ∙ ap (λ (ms : List Marked). (event, known) ∷ ms) (marked_same calls known events whole)

-- the events from this one on
pub dropped : (events : List Event) (i : ℕ) (event : Event) → i < length events → event ≡ get_or events i event → drop i events ≡ event ∷ drop (i + 1) events
dropped events i event lt is =
    let next : suc i ≡ i + 1 = omega arith in
    drop-cons events i event lt ∙ ap (λ (e : Event). e ∷ drop (suc i) events) (sym is) ∙ ap (λ (n : ℕ). event ∷ drop n events) next

-- ---- the report of the classes

differences_map : (f : Captured → Option Class) (calls : List Captured) → differences calls (map f calls) ≡ flat_map (λ call. difference call (f call)) calls
differences_map f [] = refl
differences_map f (call ∷ calls) = ap (λ (ls : List Line). difference call (f call) ++ ls) (differences_map f calls)

abbrev no_class : Option Class
no_class = None

none_yet : (calls : List Captured) → replicate (length calls) no_class ≡ map (λ (call : Captured). no_class) calls
none_yet [] = refl
none_yet (call ∷ calls) = ap (λ (os : List (Option Class)). no_class ∷ os) (none_yet calls)

module _ (job : JobView) (history : List Event) (stamps : IsStamped job.calls) where
  classes_are : walked job.calls (start_pairs job.start) history (replicate (length job.calls) None) ≡ map (heard_class_of job history) job.calls
  classes_are =
      ap (walked job.calls (start_pairs job.start) history) (none_yet job.calls) ∙ walk_is job.calls stamps (start_pairs job.start) history (λ (call : Captured). no_class)
      ∙ map_same _ _ job.calls (λ k call at. sym (or_none (heard_class_of job history call)))

  pub report_is : (classes : List (Option Class)) → classes ≡ walked job.calls (start_pairs job.start) history (replicate (length job.calls) None) → (counts_of classes ≡ (heard_report_in job history).counts) × (differences job.calls classes ≡ (heard_report_in job history).lines)
  report_is classes are = (ap counts_of (are ∙ classes_are), ap (differences job.calls) (are ∙ classes_are) ∙ differences_map (heard_class_of job history) job.calls)

pub heard_is_report : (job : JobView) (history : List Event) → HasNoIdTwice (pairs_after job history) → heard_report_in job history ≡ report_in job history
heard_is_report job history once = ap (λ (ms : List Marked). report_by job (λ call. last_of (class_at call) ms)) (marked_same job.calls (start_pairs job.start) history once)
