use Rattle.std.proofs.Common.{◌≡◌, ◌++◌, drop}
use Rattle.file_lines.specs.Form.{text_of}
use Rattle.capture_format.specs.SessionFile.{last_lines, session_form}
use Rattle.capture_format.proofs.session_writer.push_calls.Given as goal

abbrev pub invariant-loop-call : goal.invariant-loop-call
invariant-loop-call l = l.to ++ text_of session_form (last_lines (drop l.call-index l.calls)) ≡ l.initial.to ++ text_of session_form (last_lines l.calls)
