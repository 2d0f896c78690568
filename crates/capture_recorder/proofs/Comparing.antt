-- The sessions that are compared, and the entries that are judged.
use Rattle.std.proofs.Common.{◌≡◌, ◌∙◌, ◌<◌, ◌≤◌, ℕ, zero, suc, ◌+◌, ◌-◌, Bool, List, [], ◌∷◌, map, take, refl, sym, ap, subst, cond, arith, inl, inr}
use Rattle.std.specs.Prelude.{Option, None, Some, Err, nat_eq, option_map, slice_get}
use Rattle.std.specs.Option.{option_or, unwrap_or}
use Rattle.std.specs.List.{range_with_len}
use Rattle.std.proofs.lemmas.Bool.{cases_Bool, cases_lt, eqb-true}
use Rattle.desk_values.specs.Answers.{IsTold}
use Rattle.desk_values.specs.Room.{Room}
use Rattle.desk_values.specs.declared.value.Image.{Image}
use Rattle.desk_values.specs.declared.capture.Captured.{Captured}
use Rattle.replay_history.specs.Gap.{IsCallAt}
use Rattle.captured_calls.specs.Sessions.{calls_of, session_lists}
use Rattle.capture_recorder.specs.Gathering.{Gathers, first_of, is_borne_out, kept_in, lists_of, mismatch_in, refusal, refusal_in, said_in}
use Rattle.capture_recorder.specs.Inside.Answered.{IsJudged, items_of, told}
use Rattle.capture_recorder.specs.Recording.{IsRecording, Recording}
use Rattle.capture_recorder.specs.declared.door.Said.{Said}
use Rattle.capture_recorder.specs.declared.door.Turned.{Turned}
use Rattle.capture_recorder.specs.declared.gathering.GatherErr.{GatherErr}
use Rattle.capture_recorder.specs.declared.gathering.GatherErr.TheVariants.{OtherStart, Mismatch, Refusal, Memory}

-- ---- the first that is told

pub stops : (e : GatherErr) (this whole rest : Option GatherErr) → IsTold (told e) this → option_or this rest ≡ whole → IsTold (told e) whole
stops Memory this whole rest is so_far = tt
stops (OtherStart kept) this whole rest is so_far = sym so_far ∙ ap (λ t. option_or t rest) is
stops (Mismatch session place kept said) this whole rest is so_far = sym so_far ∙ ap (λ t. option_or t rest) is
stops (Refusal session n entry) this whole rest is so_far = sym so_far ∙ ap (λ t. option_or t rest) is

module _ (tell : ℕ → Option GatherErr) (session count : ℕ) (below : session < count) where
  abbrev later : Option GatherErr
  later = first_of tell (range_with_len (session + 1) (count - (session + 1)))

  front : first_of tell (range_with_len session (count - session)) ≡ option_or (tell session) later
  front = ap (λ n. first_of tell (range_with_len session n)) more
    where
      more : count - session ≡ suc (count - (session + 1))
      more = omega (arith, below)

  pub told_on : (whole : Option GatherErr) → tell session ≡ None → first_of tell (range_with_len session (count - session)) ≡ whole → later ≡ whole
  told_on whole none so_far = sym (front ∙ ap (λ t. option_or t later) none) ∙ so_far

  pub told_here : (e : GatherErr) (whole : Option GatherErr) → IsTold (told e) (tell session) → first_of tell (range_with_len session (count - session)) ≡ whole → IsTold (told e) whole
  told_here e whole is so_far = stops e (tell session) whole later is (sym front ∙ so_far)

-- ---- the recorder's sessions

not_of : (session : ℕ) (calls : List Captured) → 64 ≤ session → ((k : ℕ) (call : Captured) → IsCallAt calls k call → call.session < 64) → calls_of session calls ≡ []
not_of session [] most each = refl
not_of session (call ∷ calls) most each = elim (cases_Bool (nat_eq call.session session)) [
  | inl is ↦ (let same = eqb-true call.session session is in let low = each zero call refl in absurd (omega (arith, same, low, most)))
  | inr is ↦ ap (λ (b : Bool). cond b (call ∷ calls_of session calls) (calls_of session calls)) is ∙ not_of session calls most (λ k other at. each (suc k) other at)
]

pub none_beyond : (r : Recording) → IsRecording r → (session : ℕ) → 64 ≤ session → calls_of session r.calls ≡ []
none_beyond r is session most = not_of session r.calls most (λ k call at. (is.legal.each k call at).session)

in_range : (f : ℕ → List Captured) (from count session : ℕ) → session < count → slice_get (map f (range_with_len from count)) session ≡ Some (f (from + session))
in_range f from zero session below = absurd (omega (arith, below))
in_range f from (suc count) zero below = ap (λ n. Some (f n)) (omega arith)
in_range f from (suc count) (suc session) below = in_range f (from + 1) count session (omega (arith, below)) ∙ ap (λ n. Some (f n)) (omega arith)

beyond_range : (f : ℕ → List Captured) (from count session : ℕ) → count ≤ session → slice_get (map f (range_with_len from count)) session ≡ None
beyond_range f from zero session most = refl
beyond_range f from (suc count) zero most = absurd (omega (arith, most))
beyond_range f from (suc count) (suc session) most = beyond_range f (from + 1) count session (omega (arith, most))

items_in : (lists : List (Room Captured)) (session : ℕ) → items_of (slice_get lists session) ≡ unwrap_or (slice_get (lists_of lists) session) []
items_in [] session = refl
items_in (list ∷ lists) zero = refl
items_in (list ∷ lists) (suc session) = items_in lists session

pub own_lists : (r : Recording) → IsRecording r → (sessions : List (Room Captured)) (count : ℕ) → 64 ≤ count → lists_of sessions ≡ session_lists count r.calls
    → (session : ℕ) → items_of (slice_get sessions session) ≡ calls_of session r.calls
own_lists r is sessions count most are session =
    let f : ℕ → List Captured = λ s. calls_of s r.calls in
    items_in sessions session ∙ ap (λ (ls : List (List Captured)). unwrap_or (slice_get ls session) []) are ∙ elim (cases_lt session count) [
      | inl below ↦ ap (λ (o : Option (List Captured)). unwrap_or o []) (in_range f 0 count session below) ∙ ap f (omega arith)
      | inr beyond ↦ ap (λ (o : Option (List Captured)). unwrap_or o []) (beyond_range f 0 count session beyond) ∙ sym (none_beyond r is session (omega (arith, most, beyond)))
    ]

-- the first lists are those of fewer sessions
pub fewer : (sessions : List (Room Captured)) (calls : List Captured) (count from n : ℕ) → n ≤ count → lists_of sessions ≡ map (λ s. calls_of s calls) (range_with_len from count) → lists_of (take n sessions) ≡ map (λ s. calls_of s calls) (range_with_len from n)
fewer sessions calls count from zero most are = refl
fewer sessions calls zero from (suc n) most are = absurd (omega (arith, most))
fewer [] calls (suc count) from (suc n) most are = cc
fewer (list ∷ sessions) calls (suc count) from (suc n) most are =
    let first : list.items ≡ calls_of from calls = ap (λ (ls : List (List Captured)). unwrap_or (slice_get ls 0) []) are in
    let rest = fewer sessions calls count (from + 1) n (omega (arith, most)) (ap (λ (ls : List (List Captured)). tail ls) are) in
    ap (λ (l : List Captured). l ∷ lists_of (take n sessions)) first ∙ ap (λ (ls : List (List Captured)). calls_of from calls ∷ ls) rest
  where
    tail : List (List Captured) → List (List Captured)
    tail [] = []
    tail (l ∷ ls) = ls

-- ---- a judgement is an answer

some_is : (a b : GatherErr) → ◌≡◌ {A = Option GatherErr} (Some a) (Some b) → a ≡ b
some_is a b e = cc

abbrev IsMismatch : GatherErr → Type 0
IsMismatch (Mismatch session place kept said) = Unit {0}
IsMismatch other = ⊥

abbrev IsRefusal : GatherErr → Type 0
IsRefusal (Refusal session n entry) = Unit {0}
IsRefusal other = ⊥

differs_so : (session : ℕ) (kept said : List Said) (place : Option ℕ) (e : GatherErr) → option_map (λ p. Mismatch session p (slice_get kept p) (slice_get said p)) place ≡ Some e → IsMismatch e
differs_so session kept said None e is = cc
differs_so session kept said (Some p) e is = subst IsMismatch (some_is _ e is) tt

one_told : (P : GatherErr → Type 0) (this rest : Option GatherErr) (e : GatherErr) → ((x : GatherErr) → this ≡ Some x → P x) → ((x : GatherErr) → rest ≡ Some x → P x) → option_or this rest ≡ Some e → P e
one_told P None rest e here there is = there e is
one_told P (Some x) rest e here there is = here e is

module _ (rows : List Image) (calls : List Captured) where
  is_mismatch : (lists : List (List Said)) (sessions : List ℕ) (e : GatherErr) → first_of (mismatch_in calls lists) sessions ≡ Some e → IsMismatch e
  is_mismatch lists [] e is = cc
  is_mismatch lists (session ∷ sessions) e is = one_told IsMismatch (mismatch_in calls lists session) _ e (λ x here. differs_so session (kept_in calls session) (said_in lists session) _ x here) (is_mismatch lists sessions) is

  is_refusal_in : (session n : ℕ) (entries : List Turned) (e : GatherErr) → refusal_in rows calls session n entries ≡ Some e → IsRefusal e
  is_refusal_in session n [] e is = cc
  is_refusal_in session n (entry ∷ entries) e is = elim (cases_Bool (is_borne_out rows calls session entry)) [
    | inl good ↦ is_refusal_in session (n + 1) entries e (sym (ap (λ (b : Bool). cond b (refusal_in rows calls session (n + 1) entries) (Some (Refusal session n entry))) good) ∙ is)
    | inr bad ↦ subst IsRefusal (some_is (Refusal session n entry) e (sym (ap (λ (b : Bool). cond b (refusal_in rows calls session (n + 1) entries) (Some (Refusal session n entry))) bad) ∙ is)) tt
  ]

  is_refusal : (session : ℕ) (turned : List (List Turned)) (e : GatherErr) → refusal rows calls session turned ≡ Some e → IsRefusal e
  is_refusal session [] e is = cc
  is_refusal session (entries ∷ turned) e is = one_told IsRefusal (refusal_in rows calls session 0 entries) _ e (is_refusal_in session 0 entries) (is_refusal (session + 1) turned) is

module _ (r : Recording) (lists : List (List Said)) (turned : List (List Turned)) where
  pub judged : (e : GatherErr) → IsJudged r lists turned (Err e) → Gathers r.start r lists turned (Err e)
  judged Memory is = tt
  judged (OtherStart kept) (inl is) = absurd (is_mismatch r.start.rows r.calls lists _ (OtherStart kept) is)
  judged (OtherStart kept) (inr is) = absurd (is_refusal r.start.rows r.calls 0 turned (OtherStart kept) is.1)
  judged (Mismatch session place kept said) (inl is) = (refl, is)
  judged (Mismatch session place kept said) (inr is) = absurd (is_refusal r.start.rows r.calls 0 turned (Mismatch session place kept said) is.1)
  judged (Refusal session n entry) (inl is) = absurd (is_mismatch r.start.rows r.calls lists _ (Refusal session n entry) is)
  judged (Refusal session n entry) (inr is) = (refl, is.0, is.1)
