-- The limits of a command, and what stands where an option is not said.
use Rattle.std.specs.Prelude.{ℕ}

-- the most bytes of a path
abbrev pub path_limit : ℕ
path_limit = 900

-- the most bytes of the name of a run
abbrev pub run_limit : ℕ
run_limit = 30

-- the most lanes
abbrev pub lane_limit : ℕ
lane_limit = 64

-- the most connections that are served
abbrev pub connection_limit : ℕ
connection_limit = 64

-- the greatest port
abbrev pub port_limit : ℕ
port_limit = 65535

-- the most calls that are generated
abbrev pub generated_limit : ℕ
generated_limit = 10000

-- the port where none is said
abbrev pub default_port : ℕ
default_port = 7080

-- the percentage where none is said
abbrev pub whole : ℕ
whole = 100
