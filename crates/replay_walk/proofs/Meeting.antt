-- Whether a call meets what it met, as the test of what it stands on and of the ledgers tells it.
use Rattle.std.proofs.Common.{◌≡◌, ◌∙◌, ◌↔◌, ℕ, ◌<◌, Bool, true, false, List, [], ◌∷◌, length, map, get_or, take, Option, None, Some, refl, sym, ap, subst, arith, ◌≤◌}
use Rattle.std.specs.Prelude.{IfSome, IsTrue, is_some}
use Rattle.std.specs.List.{Contains, filter}
use Rattle.std.specs.Option.{option_and_then}
use Rattle.std.specs.Str.{str_eq_ignore_ascii_case}
use Rattle.std.proofs.lemmas.Bool.{eq-eqb, eqb-true}
use Rattle.std.proofs.lemmas.List.{length-map}
use Rattle.desk_schema.proofs.Members.{Contains-none}
use Rattle.desk_schema.specs.declared.schema.Table.{Table}
use Rattle.desk_schema.specs.Schema.{SchemaView, place_ignoring_case, place_where, table_names}
use Rattle.desk_schema.specs.Start.{StartView}
use Rattle.desk_schema.specs.Target.{BareKind, IsTarget, bare_table}
use Rattle.desk_values.specs.declared.value.Image.{Image}
use Rattle.desk_values.specs.declared.value.Value.{Value}
use Rattle.desk_values.specs.declared.call.Call.{Call}
use Rattle.desk_values.specs.declared.call.Call.TheVariants.{Connect, Sql, Disconnect}
use Rattle.desk_values.specs.declared.capture.Captured.{Captured}
use Rattle.sql_eval.specs.SchemaNames.{table_of}
use Rattle.sql_tree.specs.Plain.{Name, Plan}
use Rattle.sql_reader.specs.Reading.{statement_of}
use Rattle.machine_model.specs.declared.footing.Footing.{Footing}
use Rattle.machine_model.specs.Footing.{IsFootingOf}
use Rattle.server_words.specs.Request.{read, request_of, statement_in, table_in, table_named}
use Rattle.server_words.specs.Rows.{IsRising, lay, of_table}
use Rattle.server_words.specs.Sound.{IsSoundState}
use Rattle.server_words.specs.State.{State, opening, session_at}
use Rattle.server_words.specs.View.{commits_seen, is_held, others, rows_seen, view_of}
use Rattle.server_words.specs.Views.{IsViewOf}
use Rattle.server_words.specs.Rows.{row_at}
use Rattle.machine_stores.specs.Tables.{rows_after, told_at}
use Rattle.server_words.specs.declared.views.View.{View as Handed}
use Rattle.server_words.proofs.Handing.{no_text, text_table}
use Rattle.server_words.proofs.Looks.{rising_seen}
use Rattle.server_words.proofs.Members.{each_filtered}
use Rattle.server_words.proofs.SoundRows.{ascending_rises}
use Rattle.machine_stores.proofs.Storing.{rising_after}
use Rattle.id_pairs.specs.declared.Id.TheVariants.{Row}
use Rattle.id_pairs.specs.Pairs.{HasNoIdTwice, IdPair, IsIdMap}
use Rattle.law_ids.proofs.Replays.Starts.{each_contained, each_in}
use Rattle.law_server.specs.Rows.Images.{IsRenamedImage}
use Rattle.law_server.specs.Renaming.Laws.{view_before}
use Rattle.law_server.specs.Renaming.Twins.{AreSets, AreTwinCalls, AreTwinViews, IsRenamedRow, asks, connects, ends}
use Rattle.law_server.proofs.Renaming.Matched.{views_rise}
use Rattle.law_server.proofs.Rows.Members.{same_ids}
use Rattle.row_versions.specs.History.{History}
use Rattle.remap_ids.specs.Sent.{sent}
use Rattle.replay_job.specs.Job.{JobView}
use Rattle.law_replays.specs.End.Twins.{CameBefore, IsTwinCall}
use Rattle.law_replays.proofs.End.Stages.{opens_sound, run_sound}
use Rattle.twin_tables.specs.Differences.{AgreeBeside, Both}
use Rattle.twin_tables.specs.Ledger.{nothing_written}
use Rattle.replay_walk.specs.declared.behind.Met.{Met}
use Rattle.replay_walk.specs.declared.server.Server.{Server}
use Rattle.replay_walk.specs.declared.servers.Servers.{Servers}
use Rattle.replay_walk.specs.Twins.{AreTwins}
use Rattle.replay_walk.specs.Inside.Calls.{HaveTwinParts}
use Rattle.replay_walk.specs.Inside.Passing.{AreTwinOn, IsMet, IsToldTwin, MayTellOf, MayTellOn, both_on, seen_captured, seen_replayed, stage_of}
use Rattle.replay_walk.specs.Inside.Serving.{IsTelling, list_in}
use Rattle.replay_walk.specs.Inside.Standing.{HaveTwinFootings}
use Rattle.replay_walk.proofs.Footings.{footings_from, held_from, views_alone, views_on}
use Rattle.replay_walk.proofs.Parts.{of_parts, parts_of}
use Rattle.replay_walk.proofs.Places.{place_within}
use Rattle.replay_walk.proofs.Seen.{agree_rows, rows_agree, seen_at}
use Rattle.replay_walk.proofs.Told.{twins_from, twins_to}

-- ---- rows that are held stand among the rows

in_filter : (p : Image → Bool) (rows : List Image) (x : Image) → Contains (filter p rows) x → Contains rows x
in_filter p rows x c = each_in (Contains rows) (filter p rows) (each_filtered (Contains rows) p rows (each_contained (Contains rows) rows (λ y there. there))) x c

locked_within : (state : State) (session : ℕ) (table : Option ℕ) (x : Image) → Contains (view_of state session table).locked x → Contains (view_of state session table).rows x
locked_within state session None x c = absurd (Contains-none x c)
locked_within state session (Some table) x c = in_filter (is_held (others state.sessions session)) (rows_seen state.start.rows state.commits (session_at state session) table) x c

-- ---- what is handed out

module _ (pairs : List IdPair) (state other : State) (session place : ℕ) (call sends : Call) (met meets : Handed) (one : IsViewOf (view_before state session call) met) (two : IsViewOf (view_before other place sends) meets) where
  views_to : HasNoIdTwice pairs → IsRising (view_before state session call).rows → IsRising (view_before other place sends).rows → AreTwins pairs met meets → AreTwinViews pairs (view_before state session call) (view_before other place sends)
  views_to once up rise twins =
      let same = λ (a b x y : Image) (s : IsRenamedRow pairs a.row x.row) (t : IsRenamedRow pairs b.row y.row). same_ids pairs once (Row a.row) (Row b.row) (Row x.row) (Row y.row) s t in
      twins_to pairs (view_before state session call) (view_before other place sends) met meets one two
      (λ x y c d s t e. eqb-true c.row d.row (sym (same x y c d s t) ∙ eq-eqb x.row y.row e))
      (λ x y c d s t e. eqb-true x.row y.row (same x y c d s t ∙ eq-eqb c.row d.row e))
      up rise
      (locked_within state session (table_in (request_of state.start.schema call)))
      (locked_within other place (table_in (request_of other.start.schema sends)))
      twins

pub handed_twins : (pairs : List IdPair) (state other : State) (session place : ℕ) (call sent : Call) (handed replayed : Handed)
    → IsIdMap pairs → IsSoundState state → IsSoundState other
    → IsViewOf (view_before state session call) handed → IsViewOf (view_before other place sent) replayed
    → AreTwins pairs handed replayed ↔ AreTwinViews pairs (view_before state session call) (view_before other place sent)
handed_twins pairs state other session place call sent handed replayed is_map sound also one two = (
  views_to pairs state other session place call sent handed replayed one two is_map.once (views_rise state session call sound).rows (views_rise other place sent also).rows,
  twins_from pairs (view_before state session call) (view_before other place sent) handed replayed one two,
)

-- ---- the table of a call is one on both servers

abbrev bare_name : List ℕ × List (List ℕ × BareKind) → List ℕ
bare_name bare = bare.0

bare_names : (tables : List Table) → map bare_name (map bare_table tables) ≡ table_names tables
bare_names [] = refl
bare_names (table ∷ tables) = ap (λ (names : List (List ℕ)). table.name ∷ names) (bare_names tables)

names_of : (tables others : List Table) → map bare_table tables ≡ map bare_table others → table_names tables ≡ table_names others
names_of tables others same = sym (bare_names tables) ∙ ap (map bare_name) same ∙ bare_names others

module _ (captured target : StartView) (is : IsTarget captured target) where
  same_named : (parsed : Plan Name) → table_named target.schema parsed ≡ table_named captured.schema parsed
  same_named parsed = ap (λ (names : List (List ℕ)). option_and_then (place_ignoring_case names) (table_of parsed)) (names_of target.schema.tables captured.schema.tables is.tables)

  same_text : (text : List ℕ) (binds sent : List Value) → table_in (request_of target.schema (Sql text sent)) ≡ table_in (request_of captured.schema (Sql text binds))
  same_text text binds sent = by (statement_of text) refl
    where
      by : (o : Option (Plan Name)) → statement_of text ≡ o → table_in (request_of target.schema (Sql text sent)) ≡ table_in (request_of captured.schema (Sql text binds))
      by None none = no_text target.schema sent target.schema.version text none ∙ sym (no_text captured.schema binds captured.schema.version text none)
      by (Some parsed) some = text_table target.schema sent target.schema.version text parsed some ∙ same_named parsed ∙ sym (text_table captured.schema binds captured.schema.version text parsed some)

  pub same_table : (schema : SchemaView) (pairs : List IdPair) {call sends : Call} → AreTwinCalls schema pairs call sends → table_in (request_of target.schema sends) ≡ table_in (request_of captured.schema call)
  same_table schema pairs ends = refl
  same_table schema pairs (asks text binds others renamed) = same_text text binds others
  same_table schema pairs (connects service other same) = refl

-- it is one of the schema's
named_within : (schema : SchemaView) (parsed : Plan Name) (table : ℕ) → table_named schema parsed ≡ Some table → table < length schema.tables
named_within schema parsed table is = omega (arith, length-map schema.tables (λ (t : Table). t.name), below)
  where
    named_in : (o : Option Name) → option_and_then (place_ignoring_case (table_names schema.tables)) o ≡ Some table → table < length (table_names schema.tables)
    named_in None e = absurd cc
    named_in (Some name) e = subst (λ (p : Option ℕ). IfSome p (λ place. place < length (table_names schema.tables))) e (place_within (λ other. str_eq_ignore_ascii_case other name) (table_names schema.tables))

    below : table < length (table_names schema.tables)
    below = named_in (table_of parsed) is

pub table_within : (schema : SchemaView) (call : Call) (table : ℕ) → table_in (request_of schema call) ≡ Some table → table < length schema.tables
table_within schema (Connect service) table is = absurd cc
table_within schema Disconnect table is = absurd cc
table_within schema (Sql text binds) table is = by (statement_of text) refl
  where
    by : (o : Option (Plan Name)) → statement_of text ≡ o → table < length schema.tables
    by None none = absurd (let e : None ≡ Some table = sym (no_text schema binds schema.version text none) ∙ is in cc)
    by (Some parsed) some = named_within schema parsed table (sym (text_table schema binds schema.version text parsed some) ∙ is)

-- ---- a table of one server, as a session sees it

module _ (server : Server) (telling : IsTelling server) (table : ℕ) (within : table < length server.ledgers.items) (at : ℕ) (most : at ≤ length server.engine.state.commits) where
  pub told_rows : (row : ℕ) → told_at (list_in server.ledgers.items table) at row ≡ row_at row (rows_after server.engine.state.start.rows (take at server.engine.state.commits) table)
  told_rows row = (telling table nothing_written within).each row at (omega arith) most

module _ (state : State) (session table : ℕ) (handed : Footing) (is : IsFootingOf state session (Some table) handed) where
  changes_are : handed.own.changes ≡ (session_at state session).own.changes
  changes_are = is.own.changes

  -- what it sees is laid so
  pub laid_so : (start : List Image) (commits : List (List Image)) → state.start.rows ≡ start → commits_seen (session_at state session).snapshot state.commits ≡ commits
      → (view_of state session (Some table)).rows ≡ lay (rows_after start commits table) (of_table table handed.own.changes)
  laid_so start commits starts seen = λ i. lay (rows_after (starts i) (seen i) table) (of_table table (sym changes_are i))

-- ---- a table of both, as two sessions see it

module _ (job : JobView) (call : Captured) (met : Met) (servers : Servers) (may : MayTellOf job call met servers) (is_map : IsIdMap servers.map.pairs) (captured : State) (came : CameBefore job call.stamp captured) where
  abbrev pairs : List IdPair
  pairs = servers.map.pairs

  abbrev now : State
  now = servers.replay.engine.state

  abbrev since : State
  since = servers.behind.server.engine.state

  abbrev sends : Call
  sends = sent pairs job.remap call.call

  pub was : IsMet job captured call met
  was = may.met.met call captured may.at came

  standing : IsSoundState captured × (captured.start ≡ job.start)
  standing = run_sound (opening job.start) _ captured came (opens_sound job.start may.sound.replayable.sound)

  since_standing : IsSoundState since × (since.start ≡ job.start)
  since_standing = run_sound (opening job.start) _ since may.both.behind.came (opens_sound job.start may.sound.replayable.sound)

  met_view : view_before captured call.session call.call ≡ view_of captured call.session met.table
  met_view = ap (λ (t : Option ℕ). view_of captured call.session t) (ap (λ (s : StartView). table_in (request_of s.schema call.call)) standing.1 ∙ sym was.table)

  meets_view : AreTwinCalls job.start.schema pairs call.call sends → view_before now call.session sends ≡ view_of now call.session met.table
  meets_view calls = ap (λ (t : Option ℕ). view_of now call.session t)
      (ap (λ (s : StartView). table_in (request_of s.schema sends)) may.both.start ∙ same_table job.start job.target may.sound.replayable.target job.start.schema pairs calls ∙ sym was.table)

  -- what it says of the views of the call's table
  twin_views_of : IsTwinCall job call captured (stage_of servers) → AreTwinViews pairs (view_of captured call.session met.table) (view_of now call.session met.table)
  twin_views_of twin = subst (λ v. AreTwinViews pairs v (view_of now call.session met.table)) met_view (subst (λ w. AreTwinViews pairs (view_before captured call.session call.call) w) (meets_view twin.calls) twin.views)

  is_twin_by : AreTwinCalls job.start.schema pairs call.call sends → AreTwinViews pairs (view_of captured call.session met.table) (view_of now call.session met.table) → IsTwinCall job call captured (stage_of servers)
  is_twin_by calls views = record {
    views = subst (λ v. AreTwinViews pairs v (view_before now call.session sends)) (sym met_view) (subst (λ w. AreTwinViews pairs (view_of captured call.session met.table) w) (sym (meets_view calls)) views);
    calls = calls;
  }

  module _ (schema : SchemaView) (schema_is : schema ≡ job.start.schema) (sent_call : Call) (sent_is : sent_call ≡ sends) where
    parts_to : HaveTwinParts schema pairs call.call sent_call → AreTwinCalls job.start.schema pairs call.call sends
    parts_to parts = of_parts job.start.schema pairs call.call sends (subst (λ (s : SchemaView). HaveTwinParts s pairs call.call sends) schema_is (subst (λ (c : Call). HaveTwinParts schema pairs call.call c) sent_is parts))

    -- another call was sent
    pub other_calls : ¬ HaveTwinParts schema pairs call.call sent_call → ¬ IsTwinCall job call captured (stage_of servers)
    other_calls other twin = other (subst (λ (s : SchemaView). HaveTwinParts s pairs call.call sent_call) (sym schema_is) (subst (λ (c : Call). HaveTwinParts job.start.schema pairs call.call c) (sym sent_is) (parts_of job.start.schema pairs twin.calls)))

    module _ (meets : Footing) (is : IsFootingOf now call.session met.table meets) where
      pub other_footings : ¬ HaveTwinFootings pairs met.footing meets → ¬ IsTwinCall job call captured (stage_of servers)
      other_footings other twin = other (footings_from pairs is_map captured now call.session met.footing meets met.table was.footing is (twin_views_of twin))

      -- a call on no table
      pub twin_alone : met.table ≡ None → HaveTwinParts schema pairs call.call sent_call → HaveTwinFootings pairs met.footing meets → IsTwinCall job call captured (stage_of servers)
      twin_alone none parts twins = is_twin_by (parts_to parts)
          (subst (λ (t : Option ℕ). AreTwinViews pairs (view_of captured call.session t) (view_of now call.session t)) (sym none)
          (views_alone pairs is_map captured now call.session met.footing meets
          (subst (λ (t : Option ℕ). IsFootingOf captured call.session t met.footing) none was.footing)
          (subst (λ (t : Option ℕ). IsFootingOf now call.session t meets) none is) twins))

      -- a call on a table
      module _ (rise : IsRising meets.own.changes) (table : ℕ) (some : met.table ≡ Some table) (twins : HaveTwinFootings pairs met.footing meets) where
        here : IsFootingOf captured call.session (Some table) met.footing
        here = subst (λ (t : Option ℕ). IsFootingOf captured call.session t met.footing) some was.footing

        there : IsFootingOf now call.session (Some table) meets
        there = subst (λ (t : Option ℕ). IsFootingOf now call.session t meets) some is

        count : table < length servers.replay.ledgers.items
        count = subst (λ (n : ℕ). table < n) (sym may.tables) (table_within job.start.schema call.call table (sym was.table ∙ some))

        count_behind : table < length servers.behind.server.ledgers.items
        count_behind = subst (λ (n : ℕ). table < n) may.both.kept.count count

        pub may_tell_on : call.session < 64 → MayTellOn call.session table met.footing meets servers
        may_tell_on session = record {
          session = session;
          table = count;
          kept = may.both.kept;
          captured = may.both.behind.telling;
          replayed = may.both.telling;
          met = may.met.within;
          meets = there.within;
          own = twins.own.changes;
        }

        abbrev xs : List Image
        xs = rows_after since.start.rows (take met.footing.commits since.commits) table

        abbrev ys : List Image
        ys = rows_after now.start.rows (take meets.commits now.commits) table

        xs_up : IsRising xs
        xs_up = rising_after since.start.rows (take met.footing.commits since.commits) table (ascending_rises since.start.rows since_standing.0.start.sound.sound_rows.rising)

        ys_up : IsRising ys
        ys_up = rising_after now.start.rows (take meets.commits now.commits) table (ascending_rises now.start.rows may.both.sound.start.sound.sound_rows.rising)

        rows_here : (view_of captured call.session (Some table)).rows ≡ lay xs (of_table table met.footing.own.changes)
        rows_here = laid_so captured call.session table met.footing here since.start.rows (take met.footing.commits since.commits)
            (ap (λ (s : StartView). s.rows) (standing.1 ∙ sym since_standing.1)) (sym (may.met.commits call captured may.at came))

        rows_there : (view_of now call.session (Some table)).rows ≡ lay ys (of_table table meets.own.changes)
        rows_there = laid_so now call.session table meets there now.start.rows (take meets.commits now.commits) refl (sym there.commits)

        told_one : (row : ℕ) → told_at (list_in servers.behind.server.ledgers.items table) met.footing.commits row ≡ row_at row xs
        told_one row = told_rows servers.behind.server may.both.behind.telling table count_behind met.footing.commits may.met.within row

        told_two : (row : ℕ) → told_at (list_in servers.replay.ledgers.items table) meets.commits row ≡ row_at row ys
        told_two row = told_rows servers.replay may.both.telling table count meets.commits there.within row

        abbrev both : Both
        both = both_on table met.footing meets servers

        sees_one : (row : ℕ) → seen_captured table met.footing servers row ≡ is_some (row_at row (view_of captured call.session (Some table)).rows)
        sees_one row = seen_at table row met.footing.own.changes xs (told_at (list_in servers.behind.server.ledgers.items table) met.footing.commits row) xs_up was.rising (told_one row)
            ∙ ap (λ (rows : List Image). is_some (row_at row rows)) (sym rows_here)

        sees_two : (row : ℕ) → seen_replayed table meets servers row ≡ is_some (row_at row (view_of now call.session (Some table)).rows)
        sees_two row = seen_at table row meets.own.changes ys (told_at (list_in servers.replay.ledgers.items table) meets.commits row) ys_up rise (told_two row)
            ∙ ap (λ (rows : List Image). is_some (row_at row rows)) (sym rows_there)

        up_here : IsRising (view_of captured call.session (Some table)).rows
        up_here = rising_seen captured.start.rows captured.commits (session_at captured call.session) table (ascending_rises captured.start.rows standing.0.start.sound.sound_rows.rising)

        up_there : IsRising (view_of now call.session (Some table)).rows
        up_there = rising_seen now.start.rows now.commits (session_at now call.session) table (ascending_rises now.start.rows may.both.sound.start.sound.sound_rows.rising)

        -- what is told of the table tells it
        pub told_on : HaveTwinParts schema pairs call.call sent_call → IsTwinCall job call captured (stage_of servers) ↔ AreTwinOn table met.footing meets servers
        told_on parts = (
          λ twin.
              let views = subst (λ (t : Option ℕ). AreTwinViews pairs (view_of captured call.session t) (view_of now call.session t)) some (twin_views_of twin) in
              record {
                held = held_from pairs is_map captured now call.session met.footing meets table here there up_here up_there (seen_captured table met.footing servers) (seen_replayed table meets servers) sees_one sees_two views;
                rows = rows_agree both is_map table met.footing.own.changes meets.own.changes xs ys twins.own.changes xs_up ys_up was.rising rise told_one told_two
                    (subst (λ (rows : List Image). AreSets (IsRenamedImage pairs) (lay xs (of_table table met.footing.own.changes)) rows) rows_there (subst (λ (rows : List Image). AreSets (IsRenamedImage pairs) rows (view_of now call.session (Some table)).rows) rows_here views.rows));
              },
          λ on.
              let rows = agree_rows both is_map table met.footing.own.changes meets.own.changes xs ys twins.own.changes xs_up ys_up was.rising rise told_one told_two on.rows in
              let sets = subst (λ (l : List Image). AreSets (IsRenamedImage pairs) l (view_of now call.session (Some table)).rows) (sym rows_here) (subst (λ (l : List Image). AreSets (IsRenamedImage pairs) (lay xs (of_table table met.footing.own.changes)) l) (sym rows_there) rows) in
              let views = views_on pairs is_map captured now call.session met.footing meets table here there up_here up_there (seen_captured table met.footing servers) (seen_replayed table meets servers) sees_one sees_two twins sets on.held in
              is_twin_by (parts_to parts) (subst (λ (t : Option ℕ). AreTwinViews pairs (view_of captured call.session t) (view_of now call.session t)) (sym some) views),
        )
