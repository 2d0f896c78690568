use Rattle.std.proofs.Common.{◌≡◌, ◌∙◌, ◌++◌, [], ◌∷◌, ap, length, length-append, map, refl, sym, rules, arith}
use Rattle.std.proofs.lemmas.List.{length-map, map-append}
use Rattle.remote_target.specs.Inside.{seat_session, session_on}
use Rattle.remote_target.proofs.Stepping.{none_left, one_taken}
use Rattle.remote_target.proofs.seats.free_each.Goals as goal

pub loop-seat-init : goal.loop-seat-init
loop-seat-init g c = record {
  well = tt;
  finite = tt;
  rest = c.into_iter-seat-iterator.ensures.into_iter_gives.0;
  its = rw c.requires.none refl;
  room = c.requires.room;
}

pub push_reserved-requires : goal.push_reserved-requires
push_reserved-requires g c =
    let inv = c.loop-seat.invariant in
    let done = c.loop-seat.yielded in
    let many = ap length inv.its in
    let whole = ap length inv.rest in
    let next = ap length c.in-Some.ensures.steps.0 in
    omega (arith, inv.room, many, whole, next, length-map c.loop-seat.lines.items session_on, length-map done seat_session, length-append done c.loop-seat.seat-iterator.rest.items)

pub loop-seat-preserved : goal.loop-seat-preserved
loop-seat-preserved g c =
    let inv = c.loop-seat.invariant in
    let done = c.loop-seat.yielded in
    let one = c.in-Some.seat in
    record {
      well = tt;
      finite = tt;
      rest = one_taken done c.loop-seat.seat-iterator.rest.items c.args.seats.items one c.next.new.self.rest.items c.in-Some.ensures.steps.0 inv.rest;
      its = ap (map session_on) c.push_reserved.ensures.items ∙ map-append session_on c.loop-seat.lines.items _ ∙ ap (λ l. l ++ one.session ∷ []) inv.its ∙ sym (map-append seat_session done (one ∷ []));
      room = rw c.push_reserved.ensures.capacity inv.room;
    }

pub returns : goal.returns
returns g c =
    let none : length c.loop-seat.seat-iterator.rest.items ≡ 0 = search rules in
    let all = none_left c.loop-seat.yielded c.loop-seat.seat-iterator.rest.items c.args.seats.items none c.loop-seat.invariant.rest in
    c.loop-seat.invariant.its ∙ ap (map seat_session) all
