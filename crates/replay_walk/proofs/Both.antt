-- Both servers: what is known of them holds before the first event, and stays where one of the two goes on and where something is told.
use Rattle.std.proofs.Common.{◌≡◌, ◌∙◌, ◌≢◌, ℕ, ◌+◌, ◌*◌, ◌<◌, ◌≤◌, List, [], ◌∷◌, ◌++◌, length, get_or, set, take, Some, refl, sym, ap, subst, length-set, get_or-set_same, get_or-set_other, ⊎_elim, arith}
use Rattle.std.specs.Prelude.{IsSome, Vec}
use Rattle.std.specs.declared.alloc.Global.{Global}
use Rattle.std.specs.List.{AllByRecursion, Contains}
use Rattle.std.proofs.lemmas.Bool.{cases_eq}
use Rattle.std.proofs.lemmas.List.{take_all}
use Rattle.desk_values.specs.declared.call.Call.{Call}
use Rattle.desk_values.specs.declared.call.Reply.{Reply}
use Rattle.desk_values.specs.declared.value.Image.{Image}
use Rattle.desk_schema.specs.Start.{StartView}
use Rattle.desk_schema.specs.Target.{IsTarget}
use Rattle.server_words.specs.Machine.{Running}
use Rattle.server_words.specs.Rows.{of_table}
use Rattle.server_words.specs.Sound.{IsSoundState}
use Rattle.server_words.specs.State.{State, opening}
use Rattle.server_words.specs.Step.{Gives}
use Rattle.server_words.specs.Rows.{row_at}
use Rattle.machine_stores.specs.Tables.{AreTold, rows_after, told_at}
use Rattle.machine_stores.proofs.Indexing.{row_at_is}
use Rattle.server_words.proofs.SoundSteps.{step_sound}
use Rattle.row_versions.specs.History.{History, Written}
use Rattle.id_pairs.specs.Pairs.{IdPair}
use Rattle.remap_ids.specs.IdMap.{IdMapView, start_pairs}
use Rattle.replay_job.specs.Job.{JobView}
use Rattle.replay_job.specs.Replays.{IsSoundJob}
use Rattle.law_ids.proofs.Replays.Starts.{each_in}
use Rattle.law_replays.proofs.End.Own.{own_rows}
use Rattle.law_replays.proofs.End.Stages.{opens_sound}
use Rattle.twin_tables.specs.declared.differences.Differences.{Differences}
use Rattle.twin_tables.specs.Differences.{AgreeBeside, Follows, HasBegun, IsPlace, IsUpTo, stood_at}
use Rattle.twin_tables.specs.Ledger.{nothing_written}
use Rattle.twin_tables.proofs.Keeping.{kept_first, kept_longer}
use Rattle.replay_walk.specs.declared.behind.Behind.{Behind}
use Rattle.replay_walk.specs.declared.server.Server.{Server}
use Rattle.replay_walk.specs.declared.servers.Servers.{Servers}
use Rattle.replay_walk.specs.Inside.Passing.{AreBegun, AreBoth, AreKept, HasAside, HasBegunBehind, HasTaken, HaveTold, IsBehind, IsKeptAt, seat}
use Rattle.replay_walk.specs.Inside.Serving.{GoesOn, IsKept, IsTelling, list_in}
use Rattle.replay_walk.proofs.Behinds.{behind_taken}
use Rattle.replay_walk.proofs.Seen.{in_rows, in_table}

-- ---- at the start

module _ (start target : StartView) (is : IsTarget start target) (captured replayed : List History) (told : AreTold 0 start.rows [] captured) (also : AreTold 0 target.rows [] replayed) (table : ℕ) (within : table < length captured) (inside : table < length replayed) where
  abbrev one : List Written
  one = list_in captured table

  abbrev other : List Written
  other = list_in replayed table

  rows_one : (row : ℕ) → told_at one 0 row ≡ row_at row (of_table table start.rows)
  rows_one row = (told table nothing_written within).each row 0 (omega arith) (omega arith)

  rows_other : (row : ℕ) → told_at other 0 row ≡ row_at row (of_table table start.rows)
  rows_other row = (also table nothing_written inside).each row 0 (omega arith) (omega arith) ∙ ap (λ (rows : List Image). row_at row (of_table table rows)) is.rows

  whole : (list : List Written) → AllByRecursion (IsUpTo 0) list → IsPlace list 0 (length list)
  whole list up = record { within = omega arith; before = subst (AllByRecursion (IsUpTo 0)) (sym (take_all (length list) list (omega arith))) up }

  -- a row of the start is renamed to itself
  own_row : (row : ℕ) (image : Image) → row_at row (of_table table start.rows) ≡ Some image → Contains start.rows image
  own_row row image at = (in_table table start.rows image (in_rows row (of_table table start.rows) image at)).0

  starts_alike : AgreeBeside (record { pairs = start_pairs start; captured = one; captured_at = 0; replayed = other; replayed_at = 0 }) table [] []
  starts_alike = record {
    forth = λ row free image at.
        let here = sym (rows_one row) ∙ at in
        let same = row_at_is row (of_table table start.rows) image here in
        (image, rows_other image.row ∙ ap (λ (n : ℕ). row_at n (of_table table start.rows)) same ∙ here, each_in _ start.rows (own_rows start) image (own_row row image here));
    back = λ row free image at.
        let here = sym (rows_other row) ∙ at in
        let same = row_at_is row (of_table table start.rows) image here in
        (image, rows_one image.row ∙ ap (λ (n : ℕ). row_at n (of_table table start.rows)) same ∙ here, each_in _ start.rows (own_rows start) image (own_row row image here));
  }

  pub begun_kept : (d : Differences) → HasBegun (length one) (length other) d → IsKept (start_pairs start) one 0 other 0 d
  begun_kept d is_begun = record {
    follows = kept_first (start_pairs start) one other table (length one) (length other) d is_begun (whole one (told table nothing_written within).list) (whole other (also table nothing_written inside).list) starts_alike;
    captured_at = (let at = is_begun.captured_at in omega (arith, at));
    replayed_at = (let at = is_begun.replayed_at in omega (arith, at));
  }

-- ---- one of the two goes on

-- the captured server
module _ (old : Servers) (behind : Behind) (on : GoesOn old.behind.server behind.server) where
  pub come_kept : AreKept old → AreKept (record old { behind = behind })
  come_kept kept = record {
    count = kept.count ∙ sym on.count;
    seats = kept.seats;
    each = λ table session d within less.
        (on.kept table (subst (λ (n : ℕ). table < n) kept.count within) old.map.pairs (list_in old.replay.ledgers.items table) (length old.replay.engine.state.commits) (get_or old.differences.items (seat table session) d)).0
        (kept.each table session d within less);
  }

  pub come_both : (job : JobView) → IsBehind job behind → AreBoth job old → AreBoth job (record old { behind = behind })
  come_both job is both = record { behind = is; sound = both.sound; start = both.start; telling = both.telling; kept = come_kept both.kept }

-- the replayed one, and the map grows
module _ (old : Servers) (replay : Server) (map : IdMapView) (more : List IdPair) (longer : map.pairs ≡ old.map.pairs ++ more) (on : GoesOn old.replay replay) where
  pub done_kept : AreKept old → AreKept (record old { replay = replay; map = map })
  done_kept kept = record {
    count = on.count ∙ kept.count;
    seats = kept.seats ∙ ap (λ (n : ℕ). n * 64) (sym on.count);
    each = λ table session d within less.
        let inside = subst (λ (n : ℕ). table < n) on.count within in
        let captured = list_in old.behind.server.ledgers.items table in
        let seated = get_or old.differences.items (seat table session) d in
        let went = (on.kept table inside old.map.pairs captured (length old.behind.server.engine.state.commits) seated).1 (kept.each table session d inside less) in
        record {
          follows = subst (λ (ps : List IdPair). Follows ps captured (list_in replay.ledgers.items table) seated) (sym longer) (kept_longer (stood_at old.map.pairs captured (list_in replay.ledgers.items table) seated) seated more went.follows);
          captured_at = went.captured_at;
          replayed_at = went.replayed_at;
        };
  }

  pub done_both : (job : JobView) (session : ℕ) (call : Call) (reply : Reply) → Gives old.replay.engine.state session call reply replay.engine.state → IsTelling replay → AreBoth job old → AreBoth job (record old { replay = replay; map = map })
  done_both job session call reply gives telling both = record {
    behind = both.behind;
    sound = subst IsSoundState (sym gives.1) (step_sound old.replay.engine.state session call both.sound);
    start = ap (λ (s : State). s.start) gives.1 ∙ both.start;
    telling = telling;
    kept = done_kept both.kept;
  }

-- ---- something is told

-- what is kept of a table for a session was asked
module _ (old : Servers) (differences : Vec Differences Global) (table session : ℕ) (d : Differences) (less : session < 64) (items : differences.items ≡ set old.differences.items (seat table session) d) where
  pub told_kept : AreKept old → table < length old.replay.ledgers.items → IsKeptAt old table session d → AreKept (record old { differences = differences })
  told_kept kept within is = record {
    count = kept.count;
    seats = ap length items ∙ length-set old.differences.items (seat table session) d ∙ kept.seats;
    each = λ other place e inside below. ⊎_elim
        (λ same.
        let table_is : other ≡ table = omega (arith, same, below, less) in
        let read : get_or differences.items (seat other place) e ≡ d =
        ap (λ (l : List Differences). get_or l (seat other place) e) items ∙ ap (λ (n : ℕ). get_or (set old.differences.items (seat table session) d) n e) same
        ∙ get_or-set_same old.differences.items (seat table session) d e (let seats = kept.seats in omega (arith, seats, within, less)) in
        subst (IsKeptAt old other place) (sym read) (subst (λ (t : ℕ). IsKeptAt old t place d) (sym table_is) is))
        (λ apart.
        let read : get_or differences.items (seat other place) e ≡ get_or old.differences.items (seat other place) e =
        ap (λ (l : List Differences). get_or l (seat other place) e) items ∙ get_or-set_other old.differences.items (seat table session) (seat other place) d e apart in
        subst (IsKeptAt old other place) (sym read) (kept.each other place e inside below))
        (cases_eq (seat other place) (seat table session));
  }

-- what was set aside of a call is taken out
pub taken_both : (job : JobView) (stamp : ℕ) (old : Servers) (behind : Behind) → HasTaken stamp old.behind behind → AreBoth job old → AreBoth job (record old { behind = behind })
taken_both job stamp old behind taken both = record {
  behind = behind_taken job stamp old.behind behind taken both.behind;
  sound = both.sound;
  start = both.start;
  telling = both.telling;
  kept = record {
    count = both.kept.count ∙ ap (λ (s : Server). length s.ledgers.items) (sym taken.server);
    seats = both.kept.seats;
    each = λ table session d within less.
        subst (λ (s : Server). IsKept old.map.pairs (list_in s.ledgers.items table) (length s.engine.state.commits) (list_in old.replay.ledgers.items table) (length old.replay.engine.state.commits) (get_or old.differences.items (seat table session) d)) (sym taken.server)
        (both.kept.each table session d within less);
  };
}

-- what is told behind that is told of where it stood before
pub told_after_taken : (job : JobView) (stamp : ℕ) (old : Servers) (behind : Behind) → HasTaken stamp old.behind behind → (new : Servers) → HaveTold job stamp (record old { behind = behind }) new → HaveTold job stamp old new
told_after_taken job stamp old behind taken new told = record {
  both = told.both;
  replay = told.replay;
  map = told.map;
  at = told.at ∙ taken.at;
  others = λ k apart has. told.others k apart (subst (λ o. IsSome o) (sym (taken.others k apart)) has);
}

-- where nothing is told the servers stand
pub told_still : (job : JobView) (stamp : ℕ) (servers : Servers) → AreBoth job servers → HaveTold job stamp servers servers
told_still job stamp servers both = record { both = both; replay = refl; map = refl; at = refl; others = λ k apart has. has }

-- where a table was asked
pub told_kept_on : (job : JobView) (stamp : ℕ) (old new : Servers) → new.replay ≡ old.replay → new.map ≡ old.map → new.behind ≡ old.behind → AreKept new → AreBoth job old → HaveTold job stamp old new
told_kept_on job stamp old new replay map behind kept both = record {
  both = record {
    behind = subst (IsBehind job) (sym behind) both.behind;
    sound = subst (λ (s : Server). IsSoundState s.engine.state) (sym replay) both.sound;
    start = ap (λ (s : Server). s.engine.state.start) replay ∙ both.start;
    telling = subst IsTelling (sym replay) both.telling;
    kept = kept;
  };
  replay = replay;
  map = map;
  at = ap (λ (b : Behind). b.at) behind;
  others = λ k apart has. subst (λ (b : Behind). HasAside b k) (sym behind) has;
}

-- ---- before the first event

module _ (job : JobView) (tables : ℕ) (servers : Servers) (behind : HasBegunBehind job tables servers.behind) (engine : servers.replay.engine ≡ record { state = opening job.target; steps = 0 })
    (told : AreTold 0 job.target.rows [] servers.replay.ledgers.items) (count : length servers.replay.ledgers.items ≡ tables) (pairs : servers.map.pairs ≡ start_pairs job.start)
    (begun : AreBegun servers.behind.server.ledgers.items servers.replay.ledgers.items tables servers.differences.items) where
  first_told : AreTold 0 job.start.rows [] servers.behind.server.ledgers.items
  first_told = subst (λ (m : Running). AreTold 0 m.state.start.rows m.state.commits servers.behind.server.ledgers.items) behind.engine behind.behind.telling

  pub begun_both : IsSoundJob job → AreBoth job servers
  begun_both sound = record {
    behind = behind.behind;
    sound = subst (λ (m : Running). IsSoundState m.state) (sym engine) (opens_sound job.target sound.target);
    start = ap (λ (m : Running). m.state.start) engine;
    telling = subst (λ (m : Running). AreTold 0 m.state.start.rows m.state.commits servers.replay.ledgers.items) (sym engine) told;
    kept = record {
      count = count ∙ sym behind.count;
      seats = begun.length_is ∙ ap (λ (n : ℕ). n * 64) (sym count);
      each = λ table session d within less.
          let inside = subst (λ (n : ℕ). table < n) (count ∙ sym behind.count) within in
          let is = begun_kept job.start job.target sound.replayable.target servers.behind.server.ledgers.items servers.replay.ledgers.items first_told told table inside within
          (get_or servers.differences.items (seat table session) d) (begun.each table session d (subst (λ (n : ℕ). table < n) count within) less) in
          let none : length servers.replay.engine.state.commits ≡ 0 = ap (λ (m : Running). length m.state.commits) engine in
          let one : length servers.behind.server.engine.state.commits ≡ 0 = ap (λ (m : Running). length m.state.commits) behind.engine in
          subst (λ (ps : List IdPair). IsKept ps (list_in servers.behind.server.ledgers.items table) (length servers.behind.server.engine.state.commits) (list_in servers.replay.ledgers.items table) (length servers.replay.engine.state.commits) (get_or servers.differences.items (seat table session) d)) (sym pairs)
          (record { follows = is.follows; captured_at = omega (arith, is.captured_at, one); replayed_at = omega (arith, is.replayed_at, none) });
    };
  }
