use Rattle.clap.specs.Words.{app_of}
use Rattle.desk_words.proofs.Finds.{found, refused}
use Rattle.desk_words.proofs.words.found_in.Goals as goal

pub returns-in-Ok : goal.returns-in-Ok
returns-in-Ok c = found (app_of c.in_ok-desk.desk) _ c.in-Ok.found c.in_ok-desk.ensures c.in-Ok.ensures.kinds c.in-Ok.ensures.matches

pub returns-in-Err : goal.returns-in-Err
returns-in-Err c = refused (app_of c.in_ok-desk.desk) _ c.in-Err.error c.refusal.result c.in_ok-desk.ensures c.in-Err.ensures.kinds (rw c.kind.ensures at c.refusal.ensures)
