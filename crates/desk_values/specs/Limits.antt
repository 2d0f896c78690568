-- The limits that all crates share.
use Rattle.std.specs.Prelude.{ℕ}

-- the most bytes of a text
abbrev pub text_limit : ℕ
text_limit = 1000

-- the most bytes of a name of SQL
abbrev pub name_limit : ℕ
name_limit = 30

-- the most binds of a call
abbrev pub bind_limit : ℕ
bind_limit = 16

-- the most tables; they are numbered from 0
abbrev pub table_limit : ℕ
table_limit = 32

-- the sessions of a server, and the most of a capture; they are numbered from 0
abbrev pub session_limit : ℕ
session_limit = 64

-- the last moment of a call, in microseconds from the capture's start: 10 ^ 12
abbrev pub last_moment : ℕ
last_moment = 1000000000000
