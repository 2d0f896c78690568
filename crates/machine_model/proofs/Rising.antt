-- What a call can depend on rises: own changes, those that savepoints keep, and rows.
use Rattle.std.proofs.Common.{ℕ, List, [], ◌∷◌, map, Option, None, Some, sym, subst}
use Rattle.std.specs.List.{AllByRecursion, AllZip}
use Rattle.server_words.specs.declared.session.Savepoint.{Savepoint}
use Rattle.server_words.specs.declared.views.Point.{Point}
use Rattle.server_words.specs.declared.views.View.{View as Handed}
use Rattle.server_words.specs.Rows.{IsRising, lay_all, of_table}
use Rattle.server_words.specs.Sound.{HasSoundChanges, IsSoundState, KeepsSound}
use Rattle.server_words.specs.State.{State, disconnected, session_at}
use Rattle.server_words.specs.View.{commits_seen, view_of}
use Rattle.server_words.specs.Views.{IsPointOf, IsViewOf, KeepsRising}
use Rattle.server_words.proofs.Looks.{rising_of_table}
use Rattle.server_words.proofs.Laying.{rising_lay, rising_lay_all}
use Rattle.server_words.proofs.Members.{one_of}
use Rattle.server_words.proofs.SoundRows.{sound_none}
use Rattle.server_words.proofs.SoundSteps.{tables_stand}

keeps_rising : (savepoints : List Savepoint) (points : List Point) → AllZip IsPointOf savepoints points → AllByRecursion KeepsSound savepoints → AllByRecursion KeepsRising points
keeps_rising [] [] zip kept = tt
keeps_rising [] (point ∷ points) zip kept = absurd zip
keeps_rising (savepoint ∷ savepoints) [] zip kept = absurd zip
keeps_rising (savepoint ∷ savepoints) (point ∷ points) zip kept = (subst IsRising (sym zip.0.changes) kept.0.rising, keeps_rising savepoints points zip.1 kept.1)

module _ (state : State) (session : ℕ) (sound : IsSoundState state) where
  mine_sound : HasSoundChanges (session_at state session)
  mine_sound = one_of HasSoundChanges state.sessions session disconnected (record { own = sound_none; kept = tt }) sound.sessions

  rows_rise : (table : Option ℕ) → IsRising (view_of state session table).rows
  rows_rise None = tt
  rows_rise (Some table) =
      let mine = session_at state session in
      let start = of_table table state.start.rows in
      let commits = map (of_table table) (commits_seen mine.snapshot state.commits) in
      rising_lay (lay_all start commits) (of_table table mine.own.changes) (rising_lay_all start commits (rising_of_table table state.start.rows (tables_stand state 0 sound).rising))

  changes_rise : (table : Option ℕ) → IsRising (view_of state session table).own.changes
  changes_rise None = mine_sound.own.rising
  changes_rise (Some table) = mine_sound.own.rising

  kept_sound : (table : Option ℕ) → AllByRecursion KeepsSound (view_of state session table).savepoints
  kept_sound None = mine_sound.kept
  kept_sound (Some table) = mine_sound.kept

  module _ (table : Option ℕ) (handed : Handed) (is : IsViewOf (view_of state session table) handed) where
    pub handed_changes : IsRising handed.changes
    handed_changes = subst IsRising (sym is.changes) (changes_rise table)

    pub handed_rows : IsRising handed.rows
    handed_rows = subst IsRising (sym is.rows) (rows_rise table)

    pub handed_points : AllByRecursion KeepsRising handed.points
    handed_points = keeps_rising (view_of state session table).savepoints handed.points is.points (kept_sound table)
