-- What holds of fields. It need not be believed.
use Rattle.std.specs.Prelude.{ℕ, ◌≤◌}
use Rattle.statement_cache.specs.Count.{counted}
use Rattle.statement_cache.specs.Kept.{Texts}
use Rattle.statement_cache.specs.Limits.{bytes_limit}

-- the texts take no more than so many bytes, and these are no more than may be
pub record IsCounted (texts : Texts) (bytes : ℕ) : Type 0 where
  pub taken : counted texts ≤ bytes
  pub limit : bytes ≤ bytes_limit
