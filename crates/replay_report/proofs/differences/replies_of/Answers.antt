use Rattle.std.proofs.Common.{◌∙◌, ap, ℕ, replicate, None}
use Rattle.replay_report.proofs.Lasts.{none_copied}
use Rattle.replay_report.proofs.differences.replies_of.Goals as goal

pub loop-event-init : goal.loop-event-init
loop-event-init c = none_copied c.in_ok-replies.replies.items c.in_ok-replies.ensures.none ∙ ap (λ (n : ℕ). replicate n None) c.in_ok-replies.ensures.count
