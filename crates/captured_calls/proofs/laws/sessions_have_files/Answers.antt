use Rattle.std.proofs.Common.{ℕ, subst, arith}
use Rattle.capture_format.specs.SessionFile.{AreCallsOf}
use Rattle.captured_calls.proofs.Files.{lists_more, session_files}
use Rattle.captured_calls.proofs.laws.sessions_have_files.Goals as goal

pub returns-clause-files : goal.returns-clause-files
returns-clause-files c = λ calls count stamped placed texts. session_files calls stamped placed texts count

pub returns-clause-more : goal.returns-clause-more
returns-clause-more c = λ lists calls are more. lists_more 0 lists calls are (subst (λ (s : ℕ). AreCallsOf s calls) (omega arith) more)
