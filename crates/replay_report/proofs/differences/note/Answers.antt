use Rattle.std.proofs.Common.{◌∙◌, ap, map, sym}
use Rattle.std.specs.Prelude.{option_copied}
use Rattle.std.proofs.lemmas.List.{map-set}
use Rattle.replay_report.specs.Inside.Written.{with_answer}
use Rattle.replay_report.proofs.differences.note.Goals as goal

pub returns-then-stamp-len : goal.returns-then-stamp-len
returns-then-stamp-len c = map-set option_copied c.args.replies.now.items c.in-Answer.stamp _ ∙ ap (with_answer (map option_copied c.args.replies.now.items)) (sym c.in-Answer.is)
