use Rattle.std.proofs.Common.{◌≡◌, ◌∙◌, ◌≢◌, ℕ, ◌+◌, ◌<◌, ◌++◌, Bool, true, length, set, refl, sym, ap, subst, ⊎_elim, arith}
use Rattle.std.specs.Prelude.{Vec, ◌&&◌, not}
use Rattle.std.specs.declared.alloc.Global.{Global}
use Rattle.std.proofs.lemmas.Bool.{cases_lt}
use Rattle.std.proofs.lemmas.List.{length-set}
use Rattle.std.proofs.lemmas.Option.{slice_get_within}
use Rattle.desk_values.specs.declared.call.Call.{Call}
use Rattle.divergence.specs.Class.{is_write_divergence}
use Rattle.id_pairs.specs.Pairs.{HasNoIdTwice, learnt}
use Rattle.remap_ids.specs.IdMap.{IdMapView}
use Rattle.remap_ids.specs.Sent.{sent as sent_call}
use Rattle.server_words.specs.Step.{Gives}
use Rattle.replay_history.specs.Gap.{IsCallAt}
use Rattle.replay_job.specs.Job.{seen}
use Rattle.replay_job.specs.Runs.{Stage}
use Rattle.replay_walk.specs.declared.behind.Behind.{Behind}
use Rattle.replay_walk.specs.declared.server.Server.{Server}
use Rattle.replay_walk.specs.declared.servers.Servers.{Servers}
use Rattle.replay_walk.specs.Walked.{marked_at}
use Rattle.replay_walk.specs.Inside.Passing.{HasAside, IsToldTwin, KeepsAside, stage_of}
use Rattle.replay_walk.specs.Inside.Walking.{is_open_now}
use Rattle.replay_walk.proofs.Walking.{this_call}
use Rattle.replay_walk.proofs.along.Progress.answer.Goals as goal

pub send-requires : goal.send-requires
send-requires c = (this_call c.requires.may c.as_slice.ensures c.index-as_slice-stamp.is).low

pub come_along-requires-clause-may : goal.come_along-requires-clause-may
come_along-requires-clause-may c = (this_call c.requires.may c.as_slice.ensures c.index-as_slice-stamp.is).ask

pub is_twin-requires-clause-may : goal.is_twin-requires-clause-may
is_twin-requires-clause-may c =
    let may = this_call c.requires.may c.as_slice.ensures c.index-as_slice-stamp.is in
    let come = c.in_ok-come_along.ensures in
    let call = c.index-as_slice-stamp.result in
    let twins = c.args.asks.twins.now in
    let behind = c.come_along.new.self.servers.behind in
    let back : marked_at twins call.stamp ≡ true → marked_at twins c.args.stamp ≡ true = λ marked. subst (λ (m : ℕ). marked_at twins m ≡ true) may.stamp marked in
    record {
      sound = may.ask.sound;
      at = subst (λ (m : ℕ). IsCallAt (seen c.args.job.now).calls m call) (sym may.stamp) may.at;
      both = come.both;
      tables = λ marked. ap (λ (s : Server). length s.ledgers.items) come.replay ∙ may.tables (back marked);
      aside = λ marked. subst (λ (m : ℕ). HasAside behind m) (sym may.stamp)
          (come.kept c.args.stamp (come.twins (back marked)) (back marked) (λ before. ⊎_elim (λ has. has) (λ later. absurd (omega (arith, before, later))) (may.once (back marked))));
    }

pub is_twin-requires-clause-sent : goal.is_twin-requires-clause-sent
is_twin-requires-clause-sent c = c.in_ok-sent.ensures ∙ ap (λ (m : IdMapView). sent_call m.pairs (seen c.args.job.now).remap c.index-as_slice-stamp.result.call) (sym c.in_ok-come_along.ensures.map)

pub execute-requires-clause-both : goal.execute-requires-clause-both
execute-requires-clause-both c = c.in_ok-twin.ensures.both

pub execute-requires-clause-session : goal.execute-requires-clause-session
execute-requires-clause-session c = (this_call c.requires.may c.as_slice.ensures c.index-as_slice-stamp.is).session

pub execute-requires-clause-room : goal.execute-requires-clause-room
execute-requires-clause-room c =
    let room = (this_call c.requires.may c.as_slice.ensures c.index-as_slice-stamp.is).room in
    omega (arith, room, ap (λ (s : Server). s.engine.steps) (c.in_ok-twin.ensures.replay ∙ c.in_ok-come_along.ensures.replay))

pub execute-requires-clause-ids : goal.execute-requires-clause-ids
execute-requires-clause-ids c =
    let new_ids = (this_call c.requires.may c.as_slice.ensures c.index-as_slice-stamp.is).new_ids in
    subst (λ (m : IdMapView). HasNoIdTwice (m.pairs ++ learnt c.index-as_slice-stamp.result.reply c.args.reply.now)) (sym (c.in_ok-twin.ensures.map ∙ c.in_ok-come_along.ensures.map)) new_ids

pub execute-requires-clause-sent : goal.execute-requires-clause-sent
execute-requires-clause-sent c = c.in_ok-sent.ensures ∙ ap (λ (m : IdMapView). sent_call m.pairs (seen c.args.job.now).remap c.index-as_slice-stamp.result.call) (sym (c.in_ok-twin.ensures.map ∙ c.in_ok-come_along.ensures.map))

pub index_mut-requires : goal.index_mut-requires
index_mut-requires c =
    let may = this_call c.requires.may c.as_slice.ensures c.index-as_slice-stamp.is in
    let within = slice_get_within (seen c.args.job.now).calls c.args.stamp c.index-as_slice-stamp.result may.at in
    omega (arith, within, may.open_calls, ap (λ (v : Vec Bool Global). length v.items) (c.in_ok-twin.ensures.open_calls ∙ c.in_ok-come_along.ensures.open_calls))

pub index_mut-requires-2 : goal.index_mut-requires-2
index_mut-requires-2 c =
    let may = this_call c.requires.may c.as_slice.ensures c.index-as_slice-stamp.is in
    let within = slice_get_within (seen c.args.job.now).calls c.args.stamp c.index-as_slice-stamp.result may.at in
    omega (arith, within, may.twins, ap (λ (v : Vec Bool Global). length v.items) (c.in_ok-twin.ensures.twins ∙ c.in_ok-come_along.ensures.twin_marks))

pub returns : goal.returns
returns c =
    let job = seen c.args.job.now in
    let asks = c.args.asks in
    let stamp = c.args.stamp in
    let old = c.args.self.now in
    let come = c.in_ok-come_along.ensures in
    let mid = c.come_along.new.self in
    let told = c.in_ok-twin.ensures in
    let last = c.is_twin.new.self in
    let did = c.in_ok-execute.ensures in
    let new = c.execute.new.self in
    let call = c.index-as_slice-stamp.result in
    let may = this_call c.requires.may c.as_slice.ensures c.index-as_slice-stamp.is in
    let replay = told.replay ∙ come.replay in
    let map = told.map ∙ come.map in
    let stage : stage_of mid.servers ≡ stage_of old.servers = λ i. record { state = (come.replay i).engine.state; pairs = (come.map i).pairs } in
    let quiet_is : last.quiet ≡ old.quiet = told.quiet ∙ come.quiet in
    let clean = marked_at mid.servers.behind.clean.items call.stamp in
    let open_is : last.open_calls ≡ old.open_calls = told.open_calls ∙ come.open_calls in
    let twins_are : last.twins ≡ old.twins = told.twins ∙ come.twin_marks in (
      call,
      record {
        at = may.at;
        both = did.both;
        given = did.given;
        gives = subst (λ (m : IdMapView). Gives old.servers.replay.engine.state call.session (sent_call m.pairs job.remap call.call) did.given new.replay.engine.state) map
            (subst (λ (s : Server). Gives s.engine.state call.session (sent_call last.servers.map.pairs job.remap call.call) did.given new.replay.engine.state) replay did.gives);
        pairs = did.pairs ∙ ap (λ (m : IdMapView). m.pairs ++ learnt call.reply c.args.reply.now) map;
        steps = did.steps ∙ ap (λ (s : Server). s.engine.steps + 1) replay;
        count = did.count ∙ ap (λ (s : Server). length s.ledgers.items) replay;
        kept = λ j apart less marked was.
            let away : j ≢ call.stamp = λ same. apart (same ∙ may.stamp) in
            let back : new.behind.at ≡ mid.servers.behind.at = ap (λ (b : Behind). b.at) did.behind ∙ told.at in
            subst (λ (b : Behind). HasAside b j) (sym did.behind) (told.others j away (come.kept j (subst (λ (n : ℕ). j < n) back less) marked was));
        quiet = c.in_ok-quiet.ensures ∙ ap (λ (b : Bool). b && not (is_write_divergence new.map.pairs call.reply c.args.reply.now)) quiet_is;
        clean = clean;
        was_clean = λ reads captured came. ap (marked_at mid.servers.behind.clean.items) may.stamp
            ∙ come.both.behind.clean.each stamp call captured (come.reads reads) may.at came;
        open_calls = λ reads. ap (λ (v : Vec Bool Global). set v.items stamp c.is_open-is_open.result) open_is
            ∙ ap (λ (b : Bool). set old.open_calls.items stamp b) (c.is_open-is_open.ensures ∙ ap (λ (b : Bool). b && (mid.quiet && (clean && is_open_now (stage_of mid.servers) call))) reads ∙ (λ i. come.quiet i && (clean && is_open_now (stage i) call)));
        open_count = ap (λ (v : Vec Bool Global). length (set v.items stamp c.is_open-is_open.result)) open_is ∙ length-set old.open_calls.items stamp c.is_open-is_open.result;
        twin = c.in_ok-twin.twin;
        twins = ap (λ (v : Vec Bool Global). set v.items stamp c.in_ok-twin.twin) twins_are;
        told = λ marked. subst (λ (s : Stage). IsToldTwin job call s c.in_ok-twin.twin) stage (told.told (subst (λ (m : ℕ). marked_at asks.twins.now m ≡ true) (sym may.stamp) marked));
      },
    )
