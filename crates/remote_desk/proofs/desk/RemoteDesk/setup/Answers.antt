use Rattle.std.proofs.Common.{◌∙◌, ap, length, refl, arith}
use Rattle.replay_job.specs.Job.{seen}
use Rattle.replay_schedule.proofs.Gates.Gates.{size_none}
use Rattle.remote_desk.proofs.Histories.{none_legal}
use Rattle.remote_desk.proofs.Flags.{none_flagged}
use Rattle.remote_desk.proofs.Order.{none_by_place, none_in_order}
use Rattle.std.proofs.lemmas.List.{length-replicate}
use Rattle.std.proofs.Common.{false}
use Rattle.remote_desk.proofs.desk.RemoteDesk.setup.Goals as goal

pub of-requires : goal.of-requires
of-requires c = c.requires

pub invariant_of-result : goal.invariant_of-result
invariant_of-result c =
    let are = c.in_ok-map.ensures in
    let made = c.in_ok-schedule.ensures in
    let calls = length c.args.job.calls.items in
    record {
      follows = rw are.no_event made.follows;
      remote = rw (are.no_event, made.job) (none_legal (seen c.args.job) (rw made.job at made.follows.legal));
      pairs = rw (are.no_event, made.job) are.pairs_are;
      own = rw made.job (are.own_are ∙ ap length are.pairs_are);
      texts = rw are.no_event tt;
      order = rw are.no_event (none_in_order c.in_ok-schedule.schedule.job);
      places = rw (are.no_event, made.job) (none_by_place (seen c.args.job).calls);
      sent_len = rw (are.none_sent, made.job) (length-replicate calls false);
      sent = rw (are.none_sent, are.no_event) (none_flagged calls);
      count = rw (are.none_sent, are.no_event) (let none = size_none calls in omega (arith, none));
      room = rw made.job (omega (arith, are.room));
    }

pub returns : goal.returns
returns c = let are = c.in_ok-map.ensures in let made = c.in_ok-schedule.ensures in rw (are.no_event, are.pairs_are, made.job, made.going) refl
