use Rattle.std.proofs.Common.{◌∙◌, sym, arith}
use Rattle.replay_show.proofs.Going.{last_behind}
use Rattle.replay_show.proofs.transactions.last_call.Goals as goal

pub returns-in-len1-up : goal.returns-in-len1-up
returns-in-len1-up c =
    let last = c.last-item.result in
    c.last-item.is ∙ sym (last_behind c.args.first.now last c.args.others.now c.in-len1-up.len_at_least)
