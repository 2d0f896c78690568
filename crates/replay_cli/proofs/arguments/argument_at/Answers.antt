use Rattle.std.proofs.Common.{◌∙◌, ap, Some, arith}
use Rattle.std.specs.Prelude.{slice_get}
use Rattle.replay_cli.proofs.TheWords.{long_word, told_one}
use Rattle.replay_cli.proofs.arguments.argument_at.Goals as goal

pub returns-in_ok-empty_word-in-Err-TooLong : goal.returns-in_ok-empty_word-in-Err-TooLong
returns-in_ok-empty_word-in-Err-TooLong g c =
    told_one (g.C.Called.words c.args.called.now) (λ all copies. ap (λ w. Some w) c.in_ok-empty_word-in-Err-TooLong.ensures ∙ long_word (slice_get all c.args.place) c.word.new.buffer (let room = c.word.auto.buffer in omega (arith, room)) copies) (rw c.in-Err-TooLong.field-0-is at c.in-Err-TooLong.ensures.says)
