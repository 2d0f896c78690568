use Rattle.std.proofs.Common.{◌∙◌, ap, length, arith}
use Rattle.std.proofs.lemmas.Option.{slice_get_within}
use Rattle.law_histories.proofs.Items.{item_at}
use Rattle.replay_job.specs.Job.{JobView}
use Rattle.remote_target.proofs.Sendings.{placed}
use Rattle.remote_target.proofs.sending.Sending.place_of.Goals as goal

pub bounds-as_slice-k : goal.bounds-as_slice-k
bounds-as_slice-k g c =
    let call = rw (← c.self.view_is) at c.requires in
    let within = slice_get_within c.self.inside.desk.job.calls c.args.k call.0 call.1 in
    omega (arith, within, ap (λ (job : JobView). length job.calls) c.job.ensures, ap length c.as_slice.ensures)

pub returns : goal.returns
returns g c =
    let call = rw (← c.self.view_is) at c.requires in
    let calls = c.self.inside.desk.job.calls in
    let items = c.as_slice.ensures ∙ ap (λ (job : JobView). job.calls) c.job.ensures in
    let within = slice_get_within calls c.args.k call.0 call.1 in
    let at = item_at c.as_slice.result.now calls c.args.k c.index-as_slice-k.result items (omega (arith, within, ap length items)) c.index-as_slice-k.is in
    rw (← c.self.view_is) (placed calls c.self.inside.lines.items c.args.k c.index-as_slice-k.result at c.place_in.result (rw c.as_slice-2.ensures.value at c.place_in.ensures))
