use Rattle.std.proofs.Common.{length, map, sym, arith}
use Rattle.std.proofs.lemmas.Grind.{common_steps}
use Rattle.std.proofs.lemmas.List.{length-map}
use Rattle.run_register.specs.Register.{entry_of}
use Rattle.register_work.proofs.Runs.{listed}
use Rattle.register_work.proofs.reading.runs_text.Goals as goal

pub returns-clause-text : goal.returns-clause-text
returns-clause-text c = listed (map entry_of c.args.runs.now) c.append-2.new.self c.append_runs.new.to (length c.args.runs.now) c.in_ok-append_runs.ensures.got (grind (arith, common_steps)) (sym (length-map c.args.runs.now entry_of))
