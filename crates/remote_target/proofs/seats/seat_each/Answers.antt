use Rattle.std.proofs.Common.{◌≡◌, ◌∙◌, ◌++◌, [], ◌∷◌, ap, length, length-append, map, refl, sym, rules, arith}
use Rattle.std.proofs.lemmas.List.{length-map, map-append}
use Rattle.remote_target.specs.Inside.{seat_session, session_on}
use Rattle.remote_target.proofs.Stepping.{none_left, one_taken}
use Rattle.remote_target.proofs.seats.seat_each.Goals as goal

pub loop-line-init : goal.loop-line-init
loop-line-init g c = record {
  well = tt;
  finite = tt;
  rest = c.into_iter-line-iterator.ensures.into_iter_gives.0;
  its = rw c.requires.none refl;
  room = c.requires.room;
}

pub push_reserved-requires : goal.push_reserved-requires
push_reserved-requires g c =
    let inv = c.loop-line.invariant in
    let done = c.loop-line.yielded in
    let many = ap length inv.its in
    let whole = ap length inv.rest in
    let next = ap length c.in-Some.ensures.steps.0 in
    omega (arith, inv.room, many, whole, next, length-map c.loop-line.seats.items seat_session, length-map done session_on, length-append done c.loop-line.line-iterator.rest.items)

pub loop-line-preserved : goal.loop-line-preserved
loop-line-preserved g c =
    let inv = c.loop-line.invariant in
    let done = c.loop-line.yielded in
    let one = c.in-Some.line in
    record {
      well = tt;
      finite = tt;
      rest = one_taken done c.loop-line.line-iterator.rest.items c.args.lines.items one c.next.new.self.rest.items c.in-Some.ensures.steps.0 inv.rest;
      its = ap (map seat_session) c.push_reserved.ensures.items ∙ map-append seat_session c.loop-line.seats.items _ ∙ ap (λ l. l ++ one.session ∷ []) inv.its ∙ sym (map-append session_on done (one ∷ []));
      room = rw c.push_reserved.ensures.capacity inv.room;
    }

pub returns : goal.returns
returns g c =
    let none : length c.loop-line.line-iterator.rest.items ≡ 0 = search rules in
    let all = none_left c.loop-line.yielded c.loop-line.line-iterator.rest.items c.args.lines.items none c.loop-line.invariant.rest in
    c.loop-line.invariant.its ∙ ap (map session_on) all
