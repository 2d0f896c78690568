use Rattle.std.proofs.Common.{sym, subst}
use Rattle.server_words.specs.declared.session.Session.{Session}
use Rattle.machine_stores.specs.Holds.{HoldsMove}
use Rattle.call_deeds.proofs.following.enact.Goals as goal

pub write-requires : goal.write-requires
write-requires c = c.requires.holder

pub returns-in-Nothing-clause-told : goal.returns-in-Nothing-clause-told
returns-in-Nothing-clause-told c = λ rows prints are. are

pub returns-in-Connects-clause-told : goal.returns-in-Connects-clause-told
returns-in-Connects-clause-told c = λ rows prints are. are

pub returns-in-Disconnects-clause-told : goal.returns-in-Disconnects-clause-told
returns-in-Disconnects-clause-told c =
    subst (λ (s : Session). HoldsMove c.args.holds.now c.leave.new.holds c.args.number c.args.session.now.own s.own) (sym c.leave.ensures.session) (c.leave.ensures.told c.args.number)

pub returns-in_err-append_commit-in-Commits-clause-told : goal.returns-in_err-append_commit-in-Commits-clause-told
returns-in_err-append_commit-in-Commits-clause-told c = λ rows prints are. are

pub returns-in_ok-append_commit-in-Commits-clause-told : goal.returns-in_ok-append_commit-in-Commits-clause-told
returns-in_ok-append_commit-in-Commits-clause-told c =
    subst (λ (s : Session). HoldsMove c.args.holds.now c.end.new.holds c.args.number c.args.session.now.own s.own) (sym c.end.ensures.session) (c.end.ensures.told c.args.number)

pub returns-in-RollsBack-clause-told : goal.returns-in-RollsBack-clause-told
returns-in-RollsBack-clause-told c =
    subst (λ (s : Session). HoldsMove c.args.holds.now c.end-in-RollsBack.new.holds c.args.number c.args.session.now.own s.own) (sym c.end-in-RollsBack.ensures.session) (c.end-in-RollsBack.ensures.told c.args.number)

pub returns-in-ReadsOnly-clause-told : goal.returns-in-ReadsOnly-clause-told
returns-in-ReadsOnly-clause-told c =
    subst (λ (s : Session). HoldsMove c.args.holds.now c.args.holds.now c.args.number c.args.session.now.own s.own) (sym c.read_from.ensures) (λ rows prints are. are)

pub returns-in_err-write-in-Writes-clause-told : goal.returns-in_err-write-in-Writes-clause-told
returns-in_err-write-in-Writes-clause-told c = c.write.ensures.told

pub returns-in_ok-write-in-Writes-clause-told : goal.returns-in_ok-write-in-Writes-clause-told
returns-in_ok-write-in-Writes-clause-told c = c.write.ensures.told

pub returns-in_err-set-in-Marks-clause-told : goal.returns-in_err-set-in-Marks-clause-told
returns-in_err-set-in-Marks-clause-told c = λ rows prints are. are

pub returns-in_ok-set-in-Marks-clause-told : goal.returns-in_ok-set-in-Marks-clause-told
returns-in_ok-set-in-Marks-clause-told c = λ rows prints are. are

pub returns-in-RollsBackTo-clause-told : goal.returns-in-RollsBackTo-clause-told
returns-in-RollsBackTo-clause-told c =
    subst (λ (s : Session). HoldsMove c.args.holds.now c.go_back.new.holds c.args.number c.args.session.now.own s.own) (sym c.go_back.ensures.session) c.go_back.ensures.told
