use Rattle.std.proofs.Common.{◌≡◌, ◌∙◌, ap, length, length-append, map, refl, rules, arith}
use Rattle.std.proofs.lemmas.List.{length-map}
use Rattle.capture_serve.specs.Inside.Passing.{IsPassed, coming_of, passed_of}
use Rattle.capture_serve.proofs.Taking.{mapped_one, no_more, one_more, passed_one}
use Rattle.capture_serve.proofs.seating.join_all.Goals as goal

pub loop-seat-init : goal.loop-seat-init
loop-seat-init g c = record {
  well = tt;
  finite = tt;
  rest = c.into_iter-seat-iterator.ensures.into_iter_gives.0;
  came = rw c.requires.none refl;
  passed = rw c.requires.none tt;
  room = c.requires.room;
}

pub push_reserved-requires : goal.push_reserved-requires
push_reserved-requires g c =
    let inv = c.loop-seat.invariant in
    let done = c.loop-seat.yielded in
    let many = ap length inv.came in
    let whole = ap length inv.rest in
    let next = ap length c.in-Some.ensures.steps.0 in
    omega (arith, inv.room, many, whole, next, length-map c.loop-seat.all.items (λ served. served.was.value), length-map done coming_of, length-append done c.loop-seat.seat-iterator.rest.items)

pub loop-seat-preserved : goal.loop-seat-preserved
loop-seat-preserved g c =
    let inv = c.loop-seat.invariant in
    let done = c.loop-seat.yielded in
    let one = c.in-Some.seat in
    record {
      well = tt;
      finite = tt;
      rest = one_more done c.loop-seat.seat-iterator.rest.items c.args.seats.items one c.next.new.self.rest.items c.in-Some.ensures.steps.0 inv.rest;
      came = mapped_one (λ served. served.was.value) coming_of c.loop-seat.all.items c.push_reserved.new.self.items done c.join.result one c.push_reserved.ensures.items inv.came c.join.ensures.was;
      passed = passed_one IsPassed (passed_of g.I.Source g.O.Sink) c.loop-seat.all.items c.push_reserved.new.self.items c.join.result c.push_reserved.ensures.items inv.passed c.join.ensures.passed;
      room = rw c.push_reserved.ensures.capacity inv.room;
    }

pub returns-clause-came : goal.returns-clause-came
returns-clause-came g c =
    let none : length c.loop-seat.seat-iterator.rest.items ≡ 0 = search rules in
    c.loop-seat.invariant.came ∙ ap (map coming_of) (no_more c.loop-seat.yielded c.loop-seat.seat-iterator.rest.items c.args.seats.items none c.loop-seat.invariant.rest)
