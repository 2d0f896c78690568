use Rattle.std.proofs.Common.{ℕ, take, ap, ◌∙◌}
use Rattle.call_deeds.proofs.Held.{front_back, same_own}
use Rattle.call_deeds.proofs.following.write.Goals as goal

pub write_some-requires : goal.write_some-requires
write_some-requires c = c.requires

pub returns-in-Err-clause-err : goal.returns-in-Err-clause-err
returns-in-Err-clause-err c =
    let own = c.args.own.now in
    let some = c.write_some.new.own in
    same_own c.take_back.new.own own
    (c.take_back.ensures.changes ∙ c.in-Err.ensures.changes)
    (c.take_back.ensures.rows ∙ ap (λ (n : ℕ). take n some.rows) c.len-rows.ensures ∙ front_back own.rows some.rows c.in-Err.ensures.rows)
    (c.take_back.ensures.keys ∙ ap (λ (n : ℕ). take n some.keys) c.len-keys.ensures ∙ front_back own.keys some.keys c.in-Err.ensures.keys)

pub returns-in-Err-clause-told : goal.returns-in-Err-clause-told
returns-in-Err-clause-told c = λ rows prints are. c.take_back.ensures.told rows prints (c.in-Err.ensures.told rows prints are)

pub returns-in-Ok-clause-told : goal.returns-in-Ok-clause-told
returns-in-Ok-clause-told c = c.in-Ok.ensures.told
