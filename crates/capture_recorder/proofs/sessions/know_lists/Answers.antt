use Rattle.capture_recorder.proofs.Files.{are_sessions, are_told}
use Rattle.capture_recorder.proofs.Listed.{have_just}
use Rattle.capture_recorder.proofs.sessions.know_lists.Goals as goal

pub returns-clause-files : goal.returns-clause-files
returns-clause-files c = λ r count is. are_sessions r is count

pub returns-clause-told : goal.returns-clause-told
returns-clause-told c = λ r count is. are_told r is count

pub returns-clause-just : goal.returns-clause-just
returns-clause-just c = have_just
