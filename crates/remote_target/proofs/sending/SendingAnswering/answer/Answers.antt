use Rattle.std.proofs.Common.{◌<◌, ◌∙◌, Some, ap, length, map, refl, sym, arith}
use Rattle.std.proofs.lemmas.List.{length-map}
use Rattle.std.proofs.lemmas.Option.{slice_get-get_or, slice_get_within}
use Rattle.replay_job.specs.Job.{JobView}
use Rattle.replay_lanes.specs.Sessions.{sessions}
use Rattle.remote_target.specs.Inside.{session_on}
use Rattle.remote_target.proofs.Sendings.{exchanged_agreed, exchanged_err, exchanged_job, exchanged_ok, exchanged_stopped, set_session}
use Rattle.remote_target.proofs.sending.SendingAnswering.answer.Goals as goal

pub place_of-requires : goal.place_of-requires
place_of-requires g c =
    let waits = rw (← c.self.view_is) at c.requires in
    let begun = waits.0 in
    let call = c.history_is_kept.ensures.remote.legal.start_is_call begun.0 c.args.k begun.1 begun.2 in
    rw (← c.self.view_is) (call.0, call.1)

pub index_mut-requires : goal.index_mut-requires
index_mut-requires g c =
    let a = c.self.inside in
    let of = rw (← c.self.view_is) at c.in-Some.ensures in
    let within = slice_get_within (map session_on a.lines.items) c.in-Some.place of.call.session of.there in
    omega (arith, within, length-map a.lines.items session_on)

pub exchange-requires : goal.exchange-requires
exchange-requires g c = rw (← c.self.view_is) at c.requires

pub invariant_of-self : goal.invariant_of-self
invariant_of-self g c =
    let a = c.self.inside in
    let lines = a.lines.items in
    let old = c.index_mut.result.now in
    let place = c.in-Some.place in
    let of = rw (← c.self.view_is) at c.in-Some.ensures in
    let by = c.exchange.ensures in
    let within : place < length lines = omega (arith, slice_get_within (map session_on lines) place of.call.session of.there, length-map lines session_on) in
    let there = slice_get-get_or lines place old within ∙ ap (λ line. Some line) (sym c.index_mut.ensures.value) in (
      exchanged_agreed a.desk c.exchange.new.desk lines c.history_is_kept.ensures c.self.invariant.0 c.self.invariant.1 c.args.k place of old (record { session = old.session; spoken = c.exchange.new.spoken }) there refl c.exchange.result by,
      set_session lines place old (record { session = old.session; spoken = c.exchange.new.spoken }) there refl ∙ c.self.invariant.1 ∙ ap (λ (job : JobView). sessions job.calls) (sym (exchanged_job c.args.k a.desk c.exchange.new.desk old.spoken.heard c.exchange.new.spoken.heard c.exchange.result by)),
    )

pub returns-in-Some-clause-ok : goal.returns-in-Some-clause-ok
returns-in-Some-clause-ok g c = rw (← c.self.view_is) (exchanged_ok c.args.k c.self.inside.desk c.exchange.new.desk _ c.exchange.new.spoken.heard c.exchange.result c.exchange.ensures)

pub returns-in-Some-clause-err : goal.returns-in-Some-clause-err
returns-in-Some-clause-err g c = rw (← c.self.view_is) (exchanged_err c.args.k c.self.inside.desk c.exchange.new.desk _ c.exchange.new.spoken.heard c.exchange.result c.exchange.ensures)

pub returns-in-Some-clause-job : goal.returns-in-Some-clause-job
returns-in-Some-clause-job g c = rw (← c.self.view_is) (exchanged_job c.args.k c.self.inside.desk c.exchange.new.desk _ c.exchange.new.spoken.heard c.exchange.result c.exchange.ensures)

pub returns-in-Some-clause-stopped : goal.returns-in-Some-clause-stopped
returns-in-Some-clause-stopped g c = rw (← c.self.view_is) (exchanged_stopped c.args.k c.self.inside.desk c.exchange.new.desk _ c.exchange.new.spoken.heard c.exchange.result c.exchange.ensures)
