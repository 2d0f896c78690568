use Rattle.std.proofs.Common.{◌≡◌, ◌++◌, ◌∷◌, [], map, refl}
use Rattle.std.proofs.lemmas.List.{map_push}
use Rattle.sql_reader.specs.Reading.{list_at}
use Rattle.sql_reader.proofs.Loops.{nothing_before, list_goes_on, list_ends, list_fails, list_full}
use Rattle.std.proofs.lemmas.Result.{err_from_is_err_and}
use Rattle.sql_reader.proofs.sentences.list.Goals as goal

pub loop-init : goal.loop-init
loop-init g c = rw c.new-list.ensures (nothing_before g.T.Member.reading (list_at g.T.Member.reading 16 c.args.tokens.now) (list_at g.T.Member.reading 16 c.args.tokens.now) refl)

pub returns-in-None : goal.returns-in-None
returns-in-None g c =
    let e : map g.T.Member.view c.push.new.self ≡ map g.T.Member.view c.loop.list ++ g.T.Member.view c.in_ok-member.member ∷ [] = rw c.in_ok-push.ensures.ok (map_push g.T.Member.view c.loop.list c.in_ok-member.member) in
    rw e (list_ends g.T.Member.reading (map g.T.Member.view c.loop.list) 16 c.loop.counter c.loop.rest.now (g.T.Member.view c.in_ok-member.member) c.in_ok-member.after.now (list_at g.T.Member.reading 16 c.args.tokens.now) c.loop-test.true c.in_ok-member.ensures c.in-None.ensures c.loop.invariant)

pub loop-preserved : goal.loop-preserved
loop-preserved g c =
    let e : map g.T.Member.view c.push.new.self ≡ map g.T.Member.view c.loop.list ++ g.T.Member.view c.in_ok-member.member ∷ [] = rw c.in_ok-push.ensures.ok (map_push g.T.Member.view c.loop.list c.in_ok-member.member) in
    rw e (list_goes_on g.T.Member.reading (map g.T.Member.view c.loop.list) 16 c.loop.counter c.loop.rest.now (g.T.Member.view c.in_ok-member.member) c.in_ok-member.after.now c.in-Some.more.now (list_at g.T.Member.reading 16 c.args.tokens.now) c.loop-test.true c.in_ok-member.ensures c.in-Some.ensures c.loop.invariant)

pub returns-in_err-member : goal.returns-in_err-member
returns-in_err-member g c =
    let p = err_from_is_err_and c.from_residual.result c.from_residual.ensures.1 in
    rw (p.1, p.2) (list_fails g.T.Member.reading c.in_err-member.field-0.0 (map g.T.Member.view c.loop.list) 16 c.loop.counter c.loop.rest.now (list_at g.T.Member.reading 16 c.args.tokens.now) c.loop-test.true c.in_err-member.ensures c.loop.invariant)

pub returns : goal.returns
returns g c = list_full g.T.Member.reading (map g.T.Member.view c.loop.list) 16 c.loop.counter c.loop.rest.now (list_at g.T.Member.reading 16 c.args.tokens.now) c.loop-test.false c.loop.invariant
