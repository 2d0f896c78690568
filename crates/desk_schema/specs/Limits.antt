-- The limits of a start.
use Rattle.std.specs.Prelude.{ℕ}

-- the highest level of the SQL rules; the lowest is 1
abbrev pub level_limit : ℕ
level_limit = 2

-- the newest version of start and session files: from version 2 on the server has savepoints
abbrev pub last_version : ℕ
last_version = 2

-- the most sequences
abbrev pub sequence_limit : ℕ
sequence_limit = 16

-- the most services
abbrev pub service_limit : ℕ
service_limit = 16

-- the most columns of a table
abbrev pub column_limit : ℕ
column_limit = 16

-- the most rows of a start
abbrev pub start_row_limit : ℕ
start_row_limit = 100000

-- the greatest length of a text column, in bytes
abbrev pub length_limit : ℕ
length_limit = 1000

-- the greatest next value of a sequence, and the greatest number of a next row: 2 ^ 39
abbrev pub next_limit : ℕ
next_limit = 549755813888
