use Rattle.std.proofs.Common.{◌∙◌, ℕ, ◌+◌, ◌++◌, [], ◌∷◌, ap, get_or, length, length-append, map, refl, sym, arith}
use Rattle.std.proofs.lemmas.List.{length-map, length-take, map-append, take_all, take_more}
use Rattle.desk_schema.proofs.Distinct.{all-push}
use Rattle.remote_target.specs.Inside.{IsFresh, said_on, session_on}
use Rattle.desk_files.specs.Outside.{raised}
use Rattle.desk_files.proofs.DeviceLaws.{risen_more}
use Rattle.remote_target.proofs.Dials.{asked_more}
use Rattle.remote_target.proofs.Stepping.{as_far}
use Rattle.remote_target.proofs.dialling.dial_each.Goals as goal

pub loop-session-init : goal.loop-session-init
loop-session-init g c = record {
  sessions = rw c.requires.none refl;
  fresh = rw c.requires.none tt;
  content = refl;
  faults = refl;
  room = c.requires.room;
  many = rw c.requires.none refl;
  dialled = refl;
  backs = refl;
  failed = refl;
  port = refl;
}

pub loop-session-preserved : goal.loop-session-preserved
loop-session-preserved g c =
    let inv = c.loop-session.invariant in
    let items = c.loop-session.lines.items in
    let session = get_or c.args.sessions.now c.loop-session.session-index 0 in
    let more = c.push_reserved.ensures.items in
    let fresh : IsFresh (record { heard = c.new-spoken.result.heard; refusal = c.new-spoken.result.refusal }) = (c.new-spoken.ensures.heard, c.new-spoken.ensures.refusal) in
    record {
      sessions = ap (map session_on) more ∙ map-append session_on items _ ∙ ap (λ l. l ++ session ∷ []) inv.sessions ∙ sym (take_more c.args.sessions.now c.loop-session.session-index 0 c.loop-session-test.true);
      fresh = rw (more, map-append said_on items _) (all-push IsFresh (map said_on items) _ inv.fresh fresh);
      content = c.in_ok-line.ensures.content ∙ inv.content;
      faults = c.in_ok-line.ensures.counts ∙ inv.faults;
      room = rw c.push_reserved.ensures.capacity inv.room;
      many = ap length more ∙ length-append items _ ∙ ap (λ (n : ℕ). n + 1) inv.many;
      dialled = c.in_ok-line.ensures.dialled ∙ ap raised inv.dialled ∙ sym (risen_more c.loop-session.session-index _);
      backs = c.in_ok-line.ensures.backs ∙ inv.backs;
      failed = c.in_ok-line.ensures.failed ∙ inv.failed;
      port = c.in_ok-line.ensures.port ∙ sym (asked_more c.loop-session.session-index c.args.port _);
    }

pub push_reserved-requires : goal.push_reserved-requires
push_reserved-requires g c =
    let inv = c.loop-session.invariant in
    let many = ap length inv.sessions in
    omega (arith, inv.room, many, c.loop-session-test.true, length-map c.loop-session.lines.items session_on, length-take c.loop-session.session-index c.args.sessions.now)

pub returns-in_err-line-clause-sessions : goal.returns-in_err-line-clause-sessions
returns-in_err-line-clause-sessions g c = as_far session_on c.loop-session.lines.items c.args.sessions.now c.loop-session.session-index c.loop-session.invariant.sessions

pub returns-clause-sessions : goal.returns-clause-sessions
returns-clause-sessions g c = as_far session_on c.loop-session.lines.items c.args.sessions.now c.loop-session.session-index c.loop-session.invariant.sessions

pub returns-clause-all : goal.returns-clause-all
returns-clause-all g c = c.loop-session.invariant.sessions ∙ take_all c.loop-session.session-index c.args.sessions.now c.loop-session-test.false
