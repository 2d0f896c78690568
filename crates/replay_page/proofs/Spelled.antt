-- The files of a capture that are spelled again have no byte but ASCII, and no `<`.
use Rattle.std.proofs.Common.{ℕ, ◌+◌, ◌/◌, ◌%◌, ◌<◌, ◌≤◌, ◌^◌, List, [], ◌∷◌, ◌++◌, length, refl, arith}
use Rattle.std.specs.Prelude.{codes}
use Rattle.std.specs.Fmt.{decimal}
use Rattle.std.specs.List.{AllByRecursion}
use Rattle.desk_values.specs.declared.capture.Captured.{Captured}
use Rattle.desk_schema.specs.File.{IsStart}
use Rattle.desk_schema.specs.Start.{StartView}
use Rattle.capture_format.specs.SessionFile.{session_text}
use Rattle.capture_format.specs.StartFile.{start_text}
use Rattle.capture_format.proofs.Cuts.{all_append}
use Rattle.captured_calls.specs.Sessions.{AreSessionsFrom}
use Rattle.replay_page.specs.Captured.{AreSpelled, captured_files, in_three_digits, session_files, session_name}
use Rattle.replay_page.specs.Data.{IsQuietFile}
use Rattle.replay_page.specs.Quiet.{AreQuiet}
use Rattle.replay_page.proofs.Files.{quiet_session, quiet_start}
use Rattle.replay_page.proofs.Quiets.{quiet_decimal, quiet_then, quiet_word}

quiet_session_name : (n : ℕ) → n < 1000 → AreQuiet (session_name n)
quiet_session_name n small =
    let ones = quiet_then (decimal (n % 10)) (codes ".cap") (quiet_decimal (n % 10) (omega (arith, small))) (quiet_word (codes ".cap") refl) in
    let tens = quiet_then (decimal (n / 10 % 10)) (decimal (n % 10) ++ codes ".cap") (quiet_decimal (n / 10 % 10) (omega (arith, small))) ones in
    let hundreds = quiet_then (decimal (n / 100)) (decimal (n / 10 % 10) ++ (decimal (n % 10) ++ codes ".cap")) (quiet_decimal (n / 100) (omega (arith, small))) tens in
    quiet_then (codes "session-") (in_three_digits n (codes ".cap")) (quiet_word (codes "session-") refl) hundreds

quiet_sessions : (version : ℕ) → version < 2 ^ 32 → (session : ℕ) (lists : List (List Captured)) → session + length lists ≤ 64 → AreSessionsFrom session lists → AllByRecursion (AreSpelled version) lists → AllByRecursion IsQuietFile (session_files version session lists)
quiet_sessions version few session [] within are spelled = tt
quiet_sessions version few session (calls ∷ lists) within are spelled =
    let bytes = quiet_session session version (session_text session version calls) calls (omega (arith, within)) few (record { calls_are = are.0; told = spelled.0.told; fit = spelled.0.fit; text = refl }) in
    (record { name = quiet_session_name session (omega (arith, within)); bytes = bytes }, quiet_sessions version few (session + 1) lists (omega (arith, within)) are.1 spelled.1)

pub quiet_captured : (start : StartView) (lists : List (List Captured)) → IsStart start → start.schema.version < 2 ^ 32 → length lists ≤ 64 → AreSessionsFrom 0 lists → AllByRecursion (AreSpelled start.schema.version) lists → AllByRecursion IsQuietFile (captured_files start lists)
quiet_captured start lists is few within are spelled =
    let bytes = quiet_start (start_text start (length lists)) (record { start = start; sessions = length lists }) (record { is_start = is; sessions = within; text = refl }) in
    all_append IsQuietFile (session_files start.schema.version 0 lists) (record { name = codes "start.cap"; bytes = start_text start (length lists) } ∷ [])
    (quiet_sessions start.schema.version few 0 lists (omega (arith, within)) are spelled) (record { name = quiet_word (codes "start.cap") refl; bytes = bytes }, tt)
