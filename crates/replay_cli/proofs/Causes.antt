-- What a refusal that may be printed names.
use Rattle.std.proofs.Common.{◌≡◌, ◌≢◌, ℕ, ◌+◌, ◌≤◌, Bool, true, false, List, [], ◌∷◌, ◌++◌, length, length-append, Option, None, Some, Result, Ok, Err, inl, inr, refl, ap, subst, arith}
use Rattle.std.specs.Prelude.{codes, if◌then◌else◌, is_some, nat_eq, not}
use Rattle.std.specs.Fmt.{decimal}
use Rattle.std.specs.List.{find}
use Rattle.std.specs.Option.{option_map, option_or}
use Rattle.desk_values.specs.declared.capture.Captured.{Captured}
use Rattle.desk_schema.specs.Start.{StartView}
use Rattle.captured_calls.specs.Stamps.{all_calls, by_stamp, count_at, stamps_for}
use Rattle.captured_calls.specs.declared.refusal.Refusal.{Refusal as Illegal}
use Rattle.captured_calls.specs.declared.refusal.Refusal.TheVariants.{TooMany, Stamp}
use Rattle.captured_calls.specs.Tests.{bad_ids, bad_number, bad_reply, bad_seen, bad_stamp, bad_times, first_refused, too_many, unless}
use Rattle.captured_calls.specs.Verdict.{Preparation, fault_of, or_else, verdict}
use Rattle.remap_ids.specs.Services.{ServicePair, goes_on, sent_for, service_pair, services_of, with_pair, with_records}
use Rattle.remap_ids.specs.declared.remap.RemapErr.{RemapErr}
use Rattle.remap_ids.specs.declared.remap.RemapErr.TheVariants.{BadRow, TwiceFrom}
use Rattle.replay_cli.specs.declared.failure.Refusal.TheVariants.{BadChange, BadLine, BadRemap, BadReport, NotLegal, Unshown}
use Rattle.replay_cli.specs.declared.unshown.Unshown.{Unshown as NotShown}
use Rattle.replay_cli.specs.declared.unshown.Unshown.TheVariants as unshown
use Rattle.desk_words.specs.declared.words.Command.{Command}
use Rattle.desk_words.specs.declared.words.Command.TheVariants.{Run, Prepare, Serve, Generate, Trial, Register, Runs, Accept, Compare, Page, Show}
use Rattle.desk_schema.specs.Change.{IsFirstBad, records_in}
use Rattle.replay_cli.specs.Decision.{IsBadOfSome, MayBeRefused, MayRefuseChange, MayRefuseRemap, record_of, remap_of}
use Rattle.replay_cli.specs.Lines.{cause_text}

-- ---- lines

bad_line : (line : ℕ) → IsBadOfSome line → 1 ≤ line
bad_line line (bytes, inl bad) = let number = bad.number in omega (arith, number)
bad_line line (bytes, inr bad) = let number = bad.3.number in omega (arith, number)

no_remap_line : (named : Option (List ℕ)) (name : List ℕ) (line : ℕ) → MayRefuseRemap named (BadLine name line) → 1 ≤ line
no_remap_line None name line h = absurd h
no_remap_line (Some other) name line h = absurd h

no_change_line : (named : Option (List ℕ)) (name : List ℕ) (line : ℕ) → MayRefuseChange named (BadLine name line) → 1 ≤ line
no_change_line None name line h = absurd h
no_change_line (Some other) name line h = absurd h

pub lines_from_one : (command : Command) (name : List ℕ) (line : ℕ) → MayBeRefused command (BadLine name line) → 1 ≤ line
lines_from_one (Run capture out ways) name line (inl h) = bad_line line h.1
lines_from_one (Run capture out ways) name line (inr (inl h)) = no_remap_line ways.remap name line h
lines_from_one (Run capture out ways) name line (inr (inr h)) = no_change_line ways.change name line h
lines_from_one (Prepare capture out) name line h = bad_line line h.1
lines_from_one (Serve capture start connections port) name line h = let number = h.1.1.number in omega (arith, number)
lines_from_one (Generate n out) name line h = absurd h
lines_from_one (Trial n) name line h = absurd h
lines_from_one (Register out run) name line h = absurd h
lines_from_one Runs name line h = absurd h
lines_from_one (Accept run stamp class) name line h = absurd h
lines_from_one (Compare base other) name line h = absurd h
lines_from_one (Page capture out) name line (inl h) = bad_line line h.1
lines_from_one (Page capture out) name line (inr h) = absurd h
lines_from_one (Show capture out stamp) name line (inl h) = bad_line line h.1
lines_from_one (Show capture out stamp) name line (inr h) = absurd h

no_remap_report : (named : Option (List ℕ)) (name : List ℕ) (line : ℕ) → MayRefuseRemap named (BadReport name line) → 1 ≤ line
no_remap_report None name line h = absurd h
no_remap_report (Some other) name line h = absurd h

no_change_report : (named : Option (List ℕ)) (name : List ℕ) (line : ℕ) → MayRefuseChange named (BadReport name line) → 1 ≤ line
no_change_report None name line h = absurd h
no_change_report (Some other) name line h = absurd h

pub reports_from_one : (command : Command) (name : List ℕ) (line : ℕ) → MayBeRefused command (BadReport name line) → 1 ≤ line
reports_from_one (Run capture out ways) name line (inl h) = absurd h
reports_from_one (Run capture out ways) name line (inr (inl h)) = no_remap_report ways.remap name line h
reports_from_one (Run capture out ways) name line (inr (inr h)) = no_change_report ways.change name line h
reports_from_one (Prepare capture out) name line h = absurd h
reports_from_one (Serve capture start connections port) name line h = absurd h
reports_from_one (Generate n out) name line h = absurd h
reports_from_one (Trial n) name line h = absurd h
reports_from_one (Register out run) name line h = let number = h.1.1.number in omega (arith, number)
reports_from_one Runs name line h = absurd h
reports_from_one (Accept run stamp class) name line h = absurd h
reports_from_one (Compare base other) name line h = absurd h
reports_from_one (Page capture out) name line (inl h) = absurd h
reports_from_one (Page capture out) name line (inr h) = let number = h.1.1.number in omega (arith, number)
reports_from_one (Show capture out stamp) name line (inl h) = absurd h
reports_from_one (Show capture out stamp) name line (inr h) = let number = h.1.1.number in omega (arith, number)

-- ---- lines of what a run left

no_remap_shown : (named : Option (List ℕ)) (cause : NotShown) → MayRefuseRemap named (Unshown cause) → ⊥
no_remap_shown None cause h = h
no_remap_shown (Some name) cause h = h

no_change_shown : (named : Option (List ℕ)) (cause : NotShown) → MayRefuseChange named (Unshown cause) → ⊥
no_change_shown None cause h = h
no_change_shown (Some name) cause h = h

pub journals_from_one : (command : Command) (name : List ℕ) (line : ℕ) → MayBeRefused command (Unshown (unshown.BadJournal name line)) → 1 ≤ line
journals_from_one (Run capture out ways) name line (inl h) = absurd h
journals_from_one (Run capture out ways) name line (inr (inl h)) = absurd (no_remap_shown ways.remap (unshown.BadJournal name line) h)
journals_from_one (Run capture out ways) name line (inr (inr h)) = absurd (no_change_shown ways.change (unshown.BadJournal name line) h)
journals_from_one (Prepare capture out) name line h = absurd h
journals_from_one (Serve capture start connections port) name line h = absurd h
journals_from_one (Generate n out) name line h = absurd h
journals_from_one (Trial n) name line h = absurd h
journals_from_one (Register out run) name line h = absurd h
journals_from_one Runs name line h = absurd h
journals_from_one (Accept run stamp class) name line h = absurd h
journals_from_one (Compare base other) name line h = absurd h
journals_from_one (Page capture out) name line (inl h) = absurd h
journals_from_one (Page capture out) name line (inr h) = let number = h.1.1.number in omega (arith, number)
journals_from_one (Show capture out stamp) name line (inl h) = absurd h
journals_from_one (Show capture out stamp) name line (inr h) = let number = h.1.1.number in omega (arith, number)

pub reads_from_one : (command : Command) (name : List ℕ) (line : ℕ) → MayBeRefused command (Unshown (unshown.BadReads name line)) → 1 ≤ line
reads_from_one (Run capture out ways) name line (inl h) = absurd h
reads_from_one (Run capture out ways) name line (inr (inl h)) = absurd (no_remap_shown ways.remap (unshown.BadReads name line) h)
reads_from_one (Run capture out ways) name line (inr (inr h)) = absurd (no_change_shown ways.change (unshown.BadReads name line) h)
reads_from_one (Prepare capture out) name line h = absurd h
reads_from_one (Serve capture start connections port) name line h = absurd h
reads_from_one (Generate n out) name line h = absurd h
reads_from_one (Trial n) name line h = absurd h
reads_from_one (Register out run) name line h = absurd h
reads_from_one Runs name line h = absurd h
reads_from_one (Accept run stamp class) name line h = absurd h
reads_from_one (Compare base other) name line h = absurd h
reads_from_one (Page capture out) name line (inl h) = absurd h
reads_from_one (Page capture out) name line (inr h) = let number = h.1.1.number in omega (arith, number)
reads_from_one (Show capture out stamp) name line (inl h) = absurd h
reads_from_one (Show capture out stamp) name line (inr h) = let number = h.1.1.number in omega (arith, number)

-- ---- rows

told_row : (error other : RemapErr) → error ≡ other → 1 ≤ record_of error → 1 ≤ record_of other
told_row error other same h = let P : RemapErr → Type 0 = λ (r : RemapErr). 1 ≤ record_of r in subst P same h

pair_row : (services : List ServicePair) (pair : Option ServicePair) (error : RemapErr) → with_pair services pair ≡ Err error → 1 ≤ record_of error
pair_row services None error e = told_row (BadRow (length services + 1)) error (cc e) (omega arith)
pair_row services (Some pair) error e = twice (is_some (sent_for services pair.0)) e where
  twice : (test : Bool) → ◌≡◌ {A = Result (List ServicePair) RemapErr} (if test then Err (TwiceFrom (length services + 1)) else Ok (services ++ pair ∷ [])) (Err error) → 1 ≤ record_of error
  twice true e = told_row (TwiceFrom (length services + 1)) error (cc e) (omega arith)
  twice false e = absurd (cc e)

row_on : (next : List ServicePair → Result (List ServicePair) RemapErr) (found : Result (List ServicePair) RemapErr) (error : RemapErr) → (found ≡ Err error → 1 ≤ record_of error) → ((services : List ServicePair) → next services ≡ Err error → 1 ≤ record_of error) → goes_on next found ≡ Err error → 1 ≤ record_of error
row_on next (Ok services) error here later e = later services e
row_on next (Err other) error here later e = here e

rows_from : (services : List ServicePair) (records : List (List (List ℕ))) (error : RemapErr) → with_records services records ≡ Err error → 1 ≤ record_of error
rows_from services [] error e = absurd (cc e)
rows_from services (fields ∷ others) error e = row_on (λ all. with_records all others) (with_pair services (service_pair fields)) error (pair_row services (service_pair fields) error) (λ all. rows_from all others error) e

services_row : (bytes : List ℕ) (error : RemapErr) → services_of bytes ≡ Err error → 1 ≤ record_of error
unfolding services_of
services_row bytes error e = search (rows_from [])

remap_row : (answer : Result (List ServicePair) RemapErr) (row : ℕ) → ((error : RemapErr) → answer ≡ Err error → 1 ≤ record_of error) → remap_of answer ≡ Err (BadRemap row) → 1 ≤ row
remap_row (Ok services) row from e = absurd (cc e)
remap_row (Err error) row from e = let same : record_of error ≡ row = cc e in let one = from error refl in omega (arith, same, one)

named_row : (named : Option (List ℕ)) (row : ℕ) → MayRefuseRemap named (BadRemap row) → 1 ≤ row
named_row None row h = absurd h
named_row (Some name) row (bytes, is) = remap_row (services_of bytes) row (services_row bytes) is

no_change_row : (named : Option (List ℕ)) (row : ℕ) → MayRefuseChange named (BadRemap row) → 1 ≤ row
no_change_row None row h = absurd h
no_change_row (Some name) row h = absurd h

pub rows_from_one : (command : Command) (row : ℕ) → MayBeRefused command (BadRemap row) → 1 ≤ row
rows_from_one (Run capture out ways) row (inl h) = absurd h
rows_from_one (Run capture out ways) row (inr (inl h)) = named_row ways.remap row h
rows_from_one (Run capture out ways) row (inr (inr h)) = no_change_row ways.change row h
rows_from_one (Prepare capture out) row h = absurd h
rows_from_one (Serve capture start connections port) row h = absurd h
rows_from_one (Generate n out) row h = absurd h
rows_from_one (Trial n) row h = absurd h
rows_from_one (Register out run) row h = absurd h
rows_from_one Runs row h = absurd h
rows_from_one (Accept run stamp class) row h = absurd h
rows_from_one (Compare base other) row h = absurd h
rows_from_one (Page capture out) row (inl h) = absurd h
rows_from_one (Page capture out) row (inr h) = absurd h
rows_from_one (Show capture out stamp) row (inl h) = absurd h
rows_from_one (Show capture out stamp) row (inr h) = absurd h

first_bad_row : (start : StartView) (records : List (List (List ℕ))) (n : ℕ) → IsFirstBad start records n → 1 ≤ n
first_bad_row start [] n h = absurd h
first_bad_row start (fields ∷ others) n (inl (same, never)) = omega (arith, same)
first_bad_row start (fields ∷ others) n (inr (next, m, same, may, bad)) = omega (arith, same)

no_remap_change : (named : Option (List ℕ)) (row : ℕ) → MayRefuseRemap named (BadChange row) → 1 ≤ row
no_remap_change None row h = absurd h
no_remap_change (Some name) row h = absurd h

named_change : (named : Option (List ℕ)) (row : ℕ) → MayRefuseChange named (BadChange row) → 1 ≤ row
named_change None row h = absurd h
named_change (Some name) row (start, bytes, bad) = first_bad_row start (records_in bytes) row bad

pub changes_from_one : (command : Command) (row : ℕ) → MayBeRefused command (BadChange row) → 1 ≤ row
changes_from_one (Run capture out ways) row (inl h) = absurd h
changes_from_one (Run capture out ways) row (inr (inl h)) = no_remap_change ways.remap row h
changes_from_one (Run capture out ways) row (inr (inr h)) = named_change ways.change row h
changes_from_one (Prepare capture out) row h = absurd h
changes_from_one (Serve capture start connections port) row h = absurd h
changes_from_one (Generate n out) row h = absurd h
changes_from_one (Trial n) row h = absurd h
changes_from_one (Register out run) row h = absurd h
changes_from_one Runs row h = absurd h
changes_from_one (Accept run stamp class) row h = absurd h
changes_from_one (Compare base other) row h = absurd h
changes_from_one (Page capture out) row (inl h) = absurd h
changes_from_one (Page capture out) row (inr h) = absurd h
changes_from_one (Show capture out stamp) row (inl h) = absurd h
changes_from_one (Show capture out stamp) row (inr h) = absurd h

-- ---- causes

-- what a test says has a text
Speaks : Option Illegal → Type 0
Speaks None = Unit {0}
Speaks (Some cause) = cause_text cause ≢ []

speaks_unless : (test : Bool) (cause : Illegal) → cause_text cause ≢ [] → Speaks (unless test cause)
unfolding Speaks
speaks_unless true cause some = tt
speaks_unless false cause some = some

speaks_or : (first second : Option Illegal) → Speaks first → Speaks second → Speaks (option_or first second)
unfolding Speaks
speaks_or None second h k = k
speaks_or (Some cause) second h k = h

speaks_first : (test : List Captured → Captured → Option Illegal) → ((before : List Captured) (call : Captured) → Speaks (test before call)) → (before calls : List Captured) → Speaks (first_refused test before calls)
unfolding Speaks
speaks_first test each before [] = tt
speaks_first test each before (call ∷ calls) = speaks_or (test before call) (first_refused test (before ++ call ∷ []) calls) (each before call) (speaks_first test each (before ++ call ∷ []) calls)

speaks_many : (calls : List Captured) → Speaks (too_many calls)
speaks_many calls = speaks_unless _ (TooMany (length calls)) (λ none. let long = length-append (decimal (length calls)) (codes " calls") in let short : length (decimal (length calls) ++ codes " calls") ≡ 0 = ap (λ (bytes : List ℕ). length bytes) none in let six : length (codes " calls") ≡ 6 = refl in omega (arith, long, short, six))

speaks_stamp : (found : Option ℕ) → Speaks (option_map Stamp found)
unfolding Speaks
speaks_stamp None = tt
speaks_stamp (Some k) = λ none. cc none

module _ (start : StartView) where
  speaks_fault : (calls : List Captured) → Speaks (fault_of start calls)
  speaks_fault calls =
      speaks_or (first_refused bad_number [] calls) _ (speaks_first bad_number (λ before call. speaks_unless _ _ (λ none. cc none)) [] calls)
      (speaks_or (first_refused bad_seen [] calls) _ (speaks_first bad_seen (λ before call. speaks_unless _ _ (λ none. cc none)) [] calls)
      (speaks_or (first_refused bad_times [] calls) _ (speaks_first bad_times (λ before call. speaks_unless _ _ (λ none. cc none)) [] calls)
      (speaks_or (first_refused (bad_ids start.rows) [] calls) _ (speaks_first (bad_ids start.rows) (λ before call. speaks_unless _ _ (λ none. cc none)) [] calls)
      (speaks_first (bad_reply start) (λ before call. speaks_unless _ _ (λ none. cc none)) [] calls))))

  -- an answer whose cause, if it is one, has a text
  Tells : Result Preparation Illegal → Type 0
  Tells (Ok plan) = Unit {0}
  Tells (Err cause) = cause_text cause ≢ []

  tells_or : (said : Option Illegal) (others : Result Preparation Illegal) → Speaks said → Tells others → Tells (or_else said others)
  unfolding Speaks Tells
  tells_or None others h k = k
  tells_or (Some cause) others h k = h

  tells : (lists : List (List Captured)) → Tells (verdict start lists)
  unfolding Tells verdict
  tells lists =
      let calls = all_calls lists in
      tells_or (too_many calls) _ (speaks_many calls) (tells_or (bad_stamp calls) _ (speaks_stamp (find (λ k. not (nat_eq (count_at calls k) 1)) (stamps_for calls))) (tells_or (fault_of start (by_stamp calls)) _ (speaks_fault (by_stamp calls)) tt))

  cause_told : (lists : List (List Captured)) (cause : Illegal) → verdict start lists ≡ Err cause → cause_text cause ≢ []
  unfolding Tells
  cause_told lists cause is = subst Tells is (tells lists)

no_remap_cause : (named : Option (List ℕ)) (cause : Illegal) → MayRefuseRemap named (NotLegal cause) → cause_text cause ≢ []
no_remap_cause None cause h = absurd h
no_remap_cause (Some other) cause h = absurd h

no_change_cause : (named : Option (List ℕ)) (cause : Illegal) → MayRefuseChange named (NotLegal cause) → cause_text cause ≢ []
no_change_cause None cause h = absurd h
no_change_cause (Some other) cause h = absurd h

pub causes_have_text : (command : Command) (cause : Illegal) → MayBeRefused command (NotLegal cause) → cause_text cause ≢ []
causes_have_text (Run capture out ways) cause (inl h) = cause_told h.0 h.1 cause h.2
causes_have_text (Run capture out ways) cause (inr (inl h)) = no_remap_cause ways.remap cause h
causes_have_text (Run capture out ways) cause (inr (inr h)) = no_change_cause ways.change cause h
causes_have_text (Prepare capture out) cause h = cause_told h.0 h.1 cause h.2
causes_have_text (Serve capture start connections port) cause h = absurd h
causes_have_text (Generate n out) cause h = absurd h
causes_have_text (Trial n) cause h = absurd h
causes_have_text (Register out run) cause h = absurd h
causes_have_text Runs cause h = absurd h
causes_have_text (Accept run stamp class) cause h = absurd h
causes_have_text (Compare base other) cause h = absurd h
causes_have_text (Page capture out) cause (inl h) = cause_told h.0 h.1 cause h.2
causes_have_text (Page capture out) cause (inr h) = absurd h
causes_have_text (Show capture out stamp) cause (inl h) = cause_told h.0 h.1 cause h.2
causes_have_text (Show capture out stamp) cause (inr h) = absurd h
