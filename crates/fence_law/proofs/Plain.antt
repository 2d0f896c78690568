-- A plain read that meets just the commits that it saw is answered the same.
use Rattle.std.proofs.Common.{◌≡◌, ℕ, true, false, List, [], ◌++◌, map, take, drop, length, Option, None, Some, refl, sym, ap, subst, ◌∙◌}
use Rattle.std.specs.Prelude.{is_none}
use Rattle.std.specs.List.{AllZip, Contains}
use Rattle.desk_values.specs.declared.value.Image.{Image}
use Rattle.desk_values.specs.declared.call.Call.{Call}
use Rattle.desk_values.specs.declared.call.Reply.{Reply}
use Rattle.desk_values.specs.declared.capture.Captured.{Captured}
use Rattle.desk_values.specs.declared.capture.Event.{Event}
use Rattle.desk_schema.specs.Schema.{SchemaView}
use Rattle.desk_schema.specs.Start.{StartView}
use Rattle.server_words.specs.Rows.{IsRising, lay_all, of_table}
use Rattle.server_words.specs.Sound.{IsSoundState}
use Rattle.server_words.specs.State.{State, opening, session_at}
use Rattle.server_words.specs.Step.{reply_in}
use Rattle.server_words.specs.View.{View, view_of}
use Rattle.server_words.specs.Request.{request_of, table_in}
use Rattle.server_words.proofs.SoundSteps.{tables_stand}
use Rattle.replay_history.specs.declared.report.Class.TheVariants.{Same}
use Rattle.id_pairs.specs.Pairs.{HasNoIdTwice, IdPair, IsIdMap, learnt}
use Rattle.remap_ids.specs.Sent.{sent}
use Rattle.law_server.specs.Rows.Images.{IsRenamedImage}
use Rattle.law_server.specs.Renaming.Laws.{reply_to, view_before}
use Rattle.law_server.specs.Renaming.Replies.{IsRenamedOutcome, IsRenamedReply}
use Rattle.law_server.specs.Renaming.Twins.{AreSets, AreTwinCalls}
use Rattle.law_server.proofs.Renaming.Answering.{answers_renamed}
use Rattle.law_server.proofs.Renaming.Checking.{twin_requests}
use Rattle.law_server.proofs.Renaming.Matched.{views_rise}
use Rattle.replay_job.specs.Job.{JobView}
use Rattle.replay_job.specs.Runs.{Stage, first_stage}
use Rattle.law_replays.specs.End.Answers.{FencesCommits, HasNoWriteDivergence, IsAnsweredAt, IsReplay, class_after}
use Rattle.law_replays.specs.End.Twins.{CameBefore}
use Rattle.law_replays.proofs.End.Stages.{IsMade, captured_sound, more_pairs, replayed_sound, run_gives, run_sound}
use Rattle.law_replays.proofs.End.Written.{fences_wait}
use Rattle.law_replays.proofs.End.Longer.{image_longer}
use Rattle.law_replays.proofs.End.Own.{own_rows}
use Rattle.law_replays.proofs.End.Classes.{renamed_same}
use Rattle.law_replays.proofs.End.Ends.{commits_in_order, commits_renamed, commits_rise}
use Rattle.law_replays.proofs.End.Whole.{after_map, answer_rises, before_map, before_sound, pairs_map, step_there}
use Rattle.law_replays.proofs.End.Seen.{before_answer}
use Rattle.fence_law.proofs.Bare.{IsFreeRead, bare_twins, free_alike, free_too, no_members, rows_carried}
use Rattle.fence_law.proofs.Read.{bare}
use Rattle.law_ids.proofs.Replays.Starts.{each_in}

module _ (pairs : List IdPair) (is_map : IsIdMap pairs) (view other : View) (connected : is_none view.rights ≡ false) (also : is_none other.rights ≡ false) (fresh : view.own.changes ≡ []) (too : other.own.changes ≡ [])
    (up : IsRising view.rows) (rise : IsRising other.rows) (sets : AreSets (IsRenamedImage pairs) view.rows other.rows) (call sent_call : Call) (ns ms : List ℕ) (row made : ℕ) where
  pub free_renamed : (schema same : SchemaView) → schema ≡ same → length ns ≡ length schema.sequences → length ms ≡ length same.sequences → AreTwinCalls schema pairs call sent_call → IsFreeRead (request_of schema call)
      → HasNoIdTwice (pairs ++ learnt (reply_to schema view ns row call) (reply_to same other ms made sent_call))
      → IsRenamedReply (pairs ++ learnt (reply_to schema view ns row call) (reply_to same other ms made sent_call)) (reply_to schema view ns row call) (reply_to same other ms made sent_call)
  free_renamed schema same is count counts calls free =
      let P : Reply → Reply → Type 0 = λ r s. HasNoIdTwice (pairs ++ learnt r s) → IsRenamedReply (pairs ++ learnt r s) r s in
      let next = free_too pairs (twin_requests pairs is_map.like schema calls) free in
      let one = free_alike view connected fresh schema ns ns row row (request_of schema call) free in
      let two = free_alike other also too schema ms ms made made (request_of schema sent_call) next.0 in
      let law : P (reply_to schema (bare view.rows) ns row call) (reply_to schema (bare other.rows) ms made sent_call) = λ once.
      answers_renamed schema pairs (bare view.rows) (bare other.rows) call sent_call ns ms row made is_map (record { changes = tt; rows = up }) (record { changes = tt; rows = rise }) count (counts ∙ ap (λ (s : SchemaView). length s.sequences) (sym is)) once (bare_twins pairs view.rows other.rows sets) calls in
      let here : P (reply_to schema view ns row call) (reply_to schema other ms made sent_call) = subst (P (reply_to schema view ns row call)) (sym two) (subst (λ (r : Reply). P r (reply_to schema (bare other.rows) ms made sent_call)) (sym one) law) in
      subst (λ (s : SchemaView). P (reply_to schema view ns row call) (reply_to s other ms made sent_call)) is here

-- the session is connected, reads the latest commit, and has changed nothing
pub record IsClean (state : State) (session : ℕ) : Type 0 where
  pub connected : is_none (session_at state session).rights ≡ false
  pub latest : (session_at state session).snapshot ≡ None
  pub fresh : (session_at state session).own.changes ≡ []

clean_rows : (state : State) (session table : ℕ) → IsClean state session → (view_of state session (Some table)).rows ≡ lay_all (of_table table state.start.rows) (map (of_table table) state.commits)
clean_rows state session table clean = rw (clean.latest, clean.fresh) refl

view_rights : (state : State) (session : ℕ) (o : Option ℕ) → (view_of state session o).rights ≡ (session_at state session).rights
view_rights state session None = refl
view_rights state session (Some table) = refl

view_changes : (state : State) (session : ℕ) (o : Option ℕ) → (view_of state session o).own.changes ≡ (session_at state session).own.changes
view_changes state session None = refl
view_changes state session (Some table) = refl

module _ (job : JobView) (history : List Event) (last : Stage) (replay : IsReplay job history last) (schemas : job.target.schema ≡ job.start.schema)
    (may : FencesCommits job.mode)
    (i k : ℕ) (call : Captured) (reply : Reply) (before after : Stage) (there : IsAnsweredAt job history i k call reply before after)
    (quiet : HasNoWriteDivergence job (take i history)) (captured : State) (came : CameBefore job k captured)
    (clean : IsClean captured call.session) (still : IsClean before.state call.session) where
  is_map : IsIdMap last.pairs
  is_map = pairs_map job history last replay

  here_map : IsIdMap before.pairs
  here_map = before_map job history last replay is_map i k call reply before after there

  sound_there : IsSoundState before.state × (before.state.start ≡ job.target)
  sound_there = before_sound job history last replay is_map i k call reply before after there

  sound_here : IsSoundState captured × (captured.start ≡ job.start)
  sound_here = run_sound (opening job.start) (take k job.calls) captured came (captured_sound job history last replay)

  zipped : AllZip (AreSets (IsRenamedImage before.pairs)) captured.commits before.state.commits
  zipped =
      let seen = before_answer job history replay.sound.replayable replay.complete.legal may i k call reply there.is_call there.answers in
      commits_renamed job replay.sound (take i history) before there.stood quiet here_map k captured came (commits_in_order job history last replay (fences_wait job.mode may) i k seen)

  start_rows : AreSets (IsRenamedImage before.pairs) job.start.rows job.target.rows
  start_rows =
      let more = more_pairs job (first_stage job) (take i history) before there.stood in
      let own : (x : Image) → Contains job.start.rows x → IsRenamedImage before.pairs x x = λ x c. subst (λ (pairs : List IdPair). IsRenamedImage pairs x x) (sym more.1) (image_longer (first_stage job).pairs more.0 x x (each_in _ job.start.rows (own_rows job.start) x c)) in
      subst (AreSets (IsRenamedImage before.pairs) job.start.rows) (sym replay.sound.replayable.target.rows) (record { forth = λ x c. (x, c, own x c); back = λ x c. (x, c, own x c) })

  view_sets : (o : Option ℕ) → AreSets (IsRenamedImage before.pairs) (view_of captured call.session o).rows (view_of before.state call.session o).rows
  view_sets None = no_members _
  view_sets (Some table) =
      let R = AreSets (IsRenamedImage before.pairs) in
      let of : List Image → List (List Image) → List Image = λ rows commits. lay_all (of_table table rows) (map (of_table table) commits) in
      let start_up = (tables_stand (opening job.start) 0 (captured_sound job history last replay)).rising in
      let target_up = (tables_stand (opening job.target) 0 (replayed_sound job history last replay)).rising in
      let sets = rows_carried before.pairs table here_map.once job.start.rows job.target.rows captured.commits before.state.commits start_up target_up (commits_rise captured sound_here.0) (commits_rise before.state sound_there.0) start_rows zipped in
      let one : (view_of captured call.session (Some table)).rows ≡ of job.start.rows captured.commits = clean_rows captured call.session table clean ∙ ap (λ (s : StartView). of s.rows captured.commits) sound_here.1 in
      let two : (view_of before.state call.session (Some table)).rows ≡ of job.target.rows before.state.commits = clean_rows before.state call.session table still ∙ ap (λ (s : StartView). of s.rows before.state.commits) sound_there.1 in
      subst (R (view_of captured call.session (Some table)).rows) (sym two) (subst (λ l. R l (of job.target.rows before.state.commits)) (sym one) sets)

  pub plain_same : AreTwinCalls captured.start.schema before.pairs call.call (sent before.pairs job.remap call.call) → IsFreeRead (request_of captured.start.schema call.call) → class_after after call reply ≡ Same
  plain_same calls free =
      let run = replay.sound.replayable.legal.replies in
      let given = run_gives (opening job.start) job.calls run.0 run.1 k call captured there.is_call came in
      let made = step_there job history last replay is_map i k call reply before after there in
      let later = after_map job history last replay is_map i k call reply before after there in
      let sent_call = sent before.pairs job.remap call.call in
      let schema : captured.start.schema ≡ before.state.start.schema = ap (λ (s : StartView). s.schema) sound_here.1 ∙ sym schemas ∙ sym (ap (λ (s : StartView). s.schema) sound_there.1) in
      let asked = table_in (request_of captured.start.schema call.call) in
      let sends = table_in (request_of before.state.start.schema sent_call) in
      let same : asked ≡ sends = (free_too before.pairs (twin_requests before.pairs here_map.like captured.start.schema calls) free).1 ∙ ap (λ (s : SchemaView). table_in (request_of s sent_call)) schema in
      let sets = subst (λ (o : Option ℕ). AreSets (IsRenamedImage before.pairs) (view_of captured call.session asked).rows (view_of before.state call.session o).rows) same (view_sets asked) in
      let P : Reply → Reply → Type 0 = λ r s. HasNoIdTwice (before.pairs ++ learnt r s) → IsRenamedReply (before.pairs ++ learnt r s) r s in
      let law : P (reply_in captured call.session call.call) (reply_in before.state call.session sent_call) =
      free_renamed before.pairs here_map (view_of captured call.session asked) (view_of before.state call.session sends)
      (ap is_none (view_rights captured call.session asked) ∙ clean.connected) (ap is_none (view_rights before.state call.session sends) ∙ still.connected)
      (view_changes captured call.session asked ∙ clean.fresh) (view_changes before.state call.session sends ∙ still.fresh)
      (views_rise captured call.session call.call sound_here.0).rows (views_rise before.state call.session sent_call sound_there.0).rows sets
      call.call sent_call captured.next_values before.state.next_values captured.next_row before.state.next_row
      captured.start.schema before.state.start.schema schema sound_here.0.next_values sound_there.0.next_values calls free in
      let told = subst (λ (r : Reply). P r reply) (sym given.1.0) (subst (P (reply_in captured call.session call.call)) (sym made.given.0) law) (subst HasNoIdTwice made.pairs later.once) in
      let outcome = subst (λ (ps : List IdPair). IsRenamedOutcome ps call.reply.outcome reply.outcome) (sym made.pairs) told.outcome in
      renamed_same after.pairs later.once call.reply reply outcome (answer_rises job history last replay is_map i k call reply before after there)
