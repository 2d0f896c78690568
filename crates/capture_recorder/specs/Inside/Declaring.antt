-- The start of the generated capture while it is declared.
use Rattle.std.specs.Prelude.{[], ◌∷◌}
use Rattle.desk_schema.specs.State.{State}
use Rattle.capture_recorder.specs.Generated.{accounts_table, main_service}

-- its service and its table
abbrev pub declared : State
declared = record {
  last = 6;
  start = record {
    schema = record { version = 1; level = 1; sequences = []; services = main_service ∷ []; tables = accounts_table ∷ [] };
    rows = [];
    next_row = 0;
    next_values = [];
  };
  sessions = 0;
}
