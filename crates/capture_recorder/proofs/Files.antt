-- The calls of a session of a recorder have a file.
use Rattle.std.proofs.Common.{◌≡◌, ◌∙◌, ◌<◌, ℕ, suc, ◌+◌, ◌-◌, List, [], ◌∷◌, ◌++◌, append_assoc, map, sym, ap, arith}
use Rattle.std.specs.List.{AllByRecursion, range_with_len}
use Rattle.std.proofs.lemmas.List.{map_push}
use Rattle.desk_values.specs.declared.capture.Captured.{Captured}
use Rattle.desk_values.specs.Room.{Room}
use Rattle.capture_format.specs.SessionFile.{AreCallsOf, MayTellAll}
use Rattle.captured_calls.specs.Sessions.{AreSessionsFrom, calls_of, session_lists}
use Rattle.captured_calls.proofs.Files.{session_file, session_files}
use Rattle.captured_calls.proofs.Told.{legal_told, lists_told, session_told}
use Rattle.capture_recorder.specs.Recording.{IsRecording, Recording}

module _ (r : Recording) (is : IsRecording r) where
  pub recorded_file : (session : ℕ) → AreCallsOf session (calls_of session r.calls)
  recorded_file session = session_file r.calls (λ k call at. (is.legal.each k call at).stamp) (λ k call at. (is.legal.each k call at).place) is.texts session

  pub are_sessions : (count : ℕ) → AreSessionsFrom 0 (session_lists count r.calls)
  are_sessions count = session_files r.calls (λ k call at. (is.legal.each k call at).stamp) (λ k call at. (is.legal.each k call at).place) is.texts count

  pub recorded_told : (session : ℕ) → MayTellAll r.start.schema.version (calls_of session r.calls)
  recorded_told session = session_told r.start.schema.version session r.calls (legal_told r.start r.calls is.legal)

  pub are_told : (count : ℕ) → AllByRecursion (MayTellAll r.start.schema.version) (session_lists count r.calls)
  are_told count = lists_told r.start.schema.version r.calls count (legal_told r.start r.calls is.legal)

-- one list more
pub lists_more : (lists : List (Room Captured)) (list : Room Captured) (calls : List Captured) (session count : ℕ) (whole : List (List Captured)) → session < count → list.items ≡ calls_of session calls
    → map (λ (r : Room Captured). r.items) lists ++ map (λ s. calls_of s calls) (range_with_len session (count - session)) ≡ whole
    → map (λ (r : Room Captured). r.items) (lists ++ list ∷ []) ++ map (λ s. calls_of s calls) (range_with_len (session + 1) (count - (session + 1))) ≡ whole
lists_more lists list calls session count whole below are is =
    let items = λ (r : Room Captured). r.items in
    let rest = map (λ s. calls_of s calls) (range_with_len (session + 1) (count - (session + 1))) in
    let more : count - session ≡ suc (count - (session + 1)) = omega (arith, below) in
    ap (λ (xs : List (List Captured)). xs ++ rest) (map_push items lists list) ∙ append_assoc (map items lists) (list.items ∷ []) rest
    ∙ ap (λ (x : List Captured). map items lists ++ (x ∷ rest)) are
    ∙ ap (λ (n : ℕ). map items lists ++ map (λ s. calls_of s calls) (range_with_len session n)) (sym more) ∙ is
