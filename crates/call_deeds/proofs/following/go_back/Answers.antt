use Rattle.call_deeds.proofs.following.go_back.Goals as goal

pub returns-clause-told : goal.returns-clause-told
returns-clause-told c = λ rows prints are. c.tell_own.ensures rows prints (c.free_own.ensures c.args.number rows prints are)
