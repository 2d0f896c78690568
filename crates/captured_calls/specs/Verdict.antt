-- What becomes of the calls of a capture: a plan of its replay, or the refusal of the first test that fails.
use Rattle.std.specs.Prelude.{List, [], Option, None, Some, Result, Ok, Err}
use Rattle.std.specs.Option.{option_or}
use Rattle.std.specs.List.Sorted.{IsPermutation}
use Rattle.desk_values.specs.declared.capture.Captured.{Captured}
use Rattle.desk_schema.specs.Start.{StartView}
use Rattle.server_words.specs.State.{opening}
use Rattle.server_words.specs.Step.{Gives}
use Rattle.replay_history.specs.Capture.{IsLegalCapture}
use Rattle.object_depends.specs.declared.fact.Fact.{Fact}
use Rattle.captured_calls.specs.declared.refusal.Refusal.{Refusal}
use Rattle.captured_calls.specs.Facts.{facts_of}
use Rattle.captured_calls.specs.Stamps.{all_calls, by_stamp}
use Rattle.captured_calls.specs.Tests.{first_refused, too_many, bad_stamp, bad_number, bad_seen, bad_times, bad_ids, bad_reply}

-- the calls by stamp, and what is known of each
pub record Preparation : Type 0 where
  pub calls : List Captured
  pub facts : List Fact

-- the refusal of a test, or what comes of the tests behind it
abbrev pub or_else : Option Refusal → Result Preparation Refusal → Result Preparation Refusal
or_else (Some refusal) others = Err refusal
or_else None others = others

-- the first of the five tests that calls by stamp fail
abbrev pub fault_of : StartView → List Captured → Option Refusal
fault_of start calls = option_or (first_refused bad_number [] calls)
    (option_or (first_refused bad_seen [] calls)
    (option_or (first_refused bad_times [] calls)
    (option_or (first_refused (bad_ids start.rows) [] calls)
    (first_refused (bad_reply start) [] calls))))

-- the calls are a plan where they pass
abbrev pub verdict_of : StartView → List Captured → Result Preparation Refusal
verdict_of start calls = or_else (fault_of start calls) (Ok (record { calls = calls; facts = facts_of start.schema calls }))

-- the seven tests, each over the whole capture before the next
unfoldable pub verdict : StartView → List (List Captured) → Result Preparation Refusal
verdict start lists = or_else (too_many (all_calls lists)) (or_else (bad_stamp (all_calls lists)) (verdict_of start (by_stamp (all_calls lists))))

-- calls that a server which began so may have answered
abbrev pub IsLegal : StartView → List Captured → Type 0
IsLegal start calls = IsLegalCapture start.rows Gives (opening start) calls

-- some order of the calls is a legal capture
abbrev pub CanBeLegal : StartView → List Captured → Type 0
CanBeLegal start calls = (ordered : List Captured) × IsPermutation calls ordered × IsLegal start ordered
