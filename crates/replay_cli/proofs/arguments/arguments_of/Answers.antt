use Rattle.std.proofs.Common.{◌∙◌, sym, drop, map, arith}
use Rattle.replay_cli.specs.Called.{word_in}
use Rattle.replay_cli.proofs.TheWords.{all_words, no_more, one_more, told_one, told_two}
use Rattle.replay_cli.proofs.arguments.arguments_of.Goals.{else-loop-place-test, then-loop-place-test+in_ok-word+in-None}
use Rattle.replay_cli.proofs.arguments.arguments_of.Goals as goal

pub loop-place-preserved : goal.loop-place-preserved
loop-place-preserved g c =
    let l = c.loop-place in
    told_two (g.C.Called.words c.args.called.now) (λ all so_far found. rw c.in_ok-push-in-Some.ensures.ok (one_more all l.place l.words (map word_in (drop 1 all)) c.in-Some.word so_far (sym c.in-Some.is ∙ found))) l.invariant c.in_ok-word.ensures

pub returns : goal.returns
returns g c =
    let l = c.loop-place in
    elim c.loop-place-test.branch [
      | else-loop-place-test w ↦ told_one (g.C.Called.words c.args.called.now) (λ all so_far few. all_words all l.place l.words (map word_in (drop 1 all)) so_far (let past = w.loop-place-test.false in omega (arith, past, few))) l.invariant
      | then-loop-place-test+in_ok-word+in-None w ↦ told_two (g.C.Called.words c.args.called.now) (λ all so_far found few. no_more all l.place l.words (map word_in (drop 1 all)) so_far (sym w.in-None.is ∙ found)) l.invariant w.in_ok-word.ensures
    ]
