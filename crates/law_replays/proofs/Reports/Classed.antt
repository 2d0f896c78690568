-- The class of each call, and the pairs by which it is told.
use Rattle.std.proofs.Common.{◌≡◌, ℕ, suc, ◌+◌, List, take, Some, sym, ap, subst, ◌∙◌, arith}
use Rattle.replay_history.specs.History.{AnswersAt}
use Rattle.id_pairs.specs.Pairs.{HasNoIdTwice, IdPair}
use Rattle.divergence.specs.Class.{class_between}
use Rattle.replay_report.specs.Report.{pairs_after}
use Rattle.replay_report.proofs.Reports.{by_own_answer}
use Rattle.law_ids.proofs.Replays.Learnt.{pairs_learnt}
use Rattle.law_ids.proofs.Replays.Pairs.{one_to_one}
use Rattle.law_replays.specs.Reports.Laws.{EachIsClassed, PairsAreOnce}

pub pairs_once : PairsAreOnce
pairs_once job history last replayable legal truthful = subst HasNoIdTwice (pairs_learnt job history last truthful) (one_to_one job history last replayable legal truthful).once

pub each_classed : EachIsClassed
each_classed job history last replay i k call reply before after there =
    let fits = replay.sound.replayable.legal.each k call there.is_call in
    let answers = subst (λ (n : ℕ). AnswersAt history i n reply) (sym fits.stamp) there.answers in
    let place : suc i ≡ i + 1 = omega arith in
    let after_is = pairs_learnt job (take (suc i) history) after there.stands ∙ ap (λ (n : ℕ). pairs_after job (take n history)) place in
    by_own_answer job history i call reply replay.complete.legal answers ∙ ap (λ (pairs : List IdPair). Some (class_between pairs call.reply reply)) (sym after_is)
