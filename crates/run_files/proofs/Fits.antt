-- Files that go together with a capture are of its calls.
use Rattle.std.proofs.Common.{◌≡◌, ℕ, zero, suc, ◌+◌, ◌<◌, ◌≤◌, Bool, true, false, cond, List, [], ◌∷◌, length, refl, subst, arith}
use Rattle.std.specs.Prelude.{IsSomeAnd, Option, None, Some, nat_eq, not, slice_get}
use Rattle.std.specs.List.{AllByRecursion, find, range_with_len}
use Rattle.std.specs.Option.{option_or}
use Rattle.std.proofs.lemmas.Bool.{and_parts, eqb-false, eqb-true, not-false}
use Rattle.desk_values.specs.declared.capture.Captured.{Captured}
use Rattle.desk_values.specs.declared.capture.Event.{Event}
use Rattle.desk_values.proofs.Cuts.{unmapped}
use Rattle.replay_history.specs.declared.report.Line.{Line}
use Rattle.run_files.specs.declared.misfit.Kind.{Kind}
use Rattle.run_files.specs.declared.misfit.Kind.TheVariants.{Start, Answer}
use Rattle.run_files.specs.declared.misfit.Misfit.{Misfit}
use Rattle.run_files.specs.declared.misfit.Misfit.TheVariants as misfit
use Rattle.run_files.specs.Fitting.{RunView, count_in, journal_misfit, kind_misfit, misfit_of, misplaced, not_once, report_misfit, reads_misfit, stands, stands_so, times_in}

neither : (first second : Option Misfit) → option_or first second ≡ None → (first ≡ None) × (second ≡ None)
neither None second e = (refl, e)
neither (Some found) second e = absurd cc

passed : (test : Bool) (found : Option Misfit) (other : Misfit) → cond test found (Some other) ≡ None → (test ≡ true) × (found ≡ None)
passed true found other e = (refl, e)
passed false found other e = absurd cc

unless : {X : Type 0} (test : Bool) (x : X) (rest : Option X) → cond test (Some x) rest ≡ None → (test ≡ false) × (rest ≡ None)
unless true x rest e = absurd cc
unless false x rest e = (refl, e)

-- ---- the journal

none_there : (p : ℕ → Bool) (a n : ℕ) → find p (range_with_len a n) ≡ None → (k : ℕ) → a ≤ k → k < a + n → p k ≡ false
none_there p a zero e k from below = absurd (omega (arith, from, below))
none_there p a (suc n) e k from below =
    let here = unless (p a) a (find p (range_with_len (a + 1) n)) e in
    at (nat_eq a k) refl here.0 (λ further. none_there p (a + 1) n here.1 k further (omega (arith, below)))
  where
    at : (same : Bool) → nat_eq a k ≡ same → p a ≡ false → (a + 1 ≤ k → p k ≡ false) → p k ≡ false
    at true same fails rest = subst (λ (j : ℕ). p j ≡ false) (eqb-true a k same) fails
    at false apart fails rest = rest (let ne = eqb-false a k apart in omega (arith, ne, from))

once_of : (kind : Kind) (n : ℕ) (history : List Event) → kind_misfit kind n history ≡ None → (k : ℕ) → k < n → times_in kind history k ≡ 1
once_of kind n history e k below =
    let counted = passed (nat_eq (count_in kind history) n) _ _ e in
    let none = unmapped (λ (j : ℕ). misfit.Event kind j) (not_once kind history n) counted.1 in
    eqb-true (times_in kind history k) 1 (not-false (nat_eq (times_in kind history k) 1) (none_there (λ j. not (nat_eq (times_in kind history j) 1)) 0 n none k (omega arith) (omega (arith, below))))

pub events_fit : (calls : List Captured) (run : RunView) → misfit_of calls run ≡ None → (kind : Kind) (k : ℕ) → k < length calls → times_in kind run.history k ≡ 1
events_fit calls run e Start k below =
    let journal = neither (journal_misfit (length calls) run.history) _ e in
    once_of Start (length calls) run.history (neither (kind_misfit Start (length calls) run.history) _ journal.0).0 k below
events_fit calls run e Answer k below =
    let journal = neither (journal_misfit (length calls) run.history) _ e in
    once_of Answer (length calls) run.history (neither (kind_misfit Start (length calls) run.history) _ journal.0).1 k below

-- ---- the report

report_fits : (calls : List Captured) (run : RunView) → misfit_of calls run ≡ None → report_misfit calls run.report ≡ None
report_fits calls run e =
    let journal = neither (journal_misfit (length calls) run.history) _ e in
    (neither (report_misfit calls run.report) (reads_misfit run.mode (length calls) run.reads) journal.1).0

pub count_fits : (calls : List Captured) (run : RunView) → misfit_of calls run ≡ None → run.report.calls ≡ length calls
count_fits calls run e = eqb-true run.report.calls (length calls) (passed (nat_eq run.report.calls (length calls)) _ _ (report_fits calls run e)).0

-- the call stands where the line says
abbrev StandsThere : List Captured → Line → Type 0
StandsThere calls l = IsSomeAnd (slice_get calls l.stamp) (λ call. (call.session ≡ l.session) × (call.place ≡ l.place))

there : (l : Line) (found : Option Captured) → stands_so l found ≡ true → IsSomeAnd found (λ call. (call.session ≡ l.session) × (call.place ≡ l.place))
there l None e = absurd cc
there l (Some call) e =
    let both = and_parts (nat_eq call.session l.session) (nat_eq call.place l.place) e in
    (eqb-true call.session l.session both.0, eqb-true call.place l.place both.1)

all_stand : (calls : List Captured) (lines : List Line) → misplaced calls lines ≡ None → AllByRecursion (StandsThere calls) lines
all_stand calls [] e = tt
all_stand calls (l ∷ lines) e =
    let here = unless (not (stands calls l)) l (misplaced calls lines) e in
    (there l (slice_get calls l.stamp) (not-false (stands calls l) here.0), all_stand calls lines here.1)

pub places_fit : (calls : List Captured) (run : RunView) → misfit_of calls run ≡ None → AllByRecursion (StandsThere calls) run.report.lines
places_fit calls run e =
    all_stand calls run.report.lines (unmapped (λ (l : Line). misfit.Place l.stamp) (misplaced calls run.report.lines) (passed (nat_eq run.report.calls (length calls)) _ _ (report_fits calls run e)).1)
