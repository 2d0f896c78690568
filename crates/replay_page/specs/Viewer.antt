-- The bytes before the data of a page, and behind them.
use Rattle.std.specs.Prelude.{ℕ, List}
use Rattle.replay_page.specs.declared.viewer.TheConstants.{END, FRONT}

unfoldable pub front : List ℕ
front = FRONT.now

unfoldable pub end : List ℕ
end = END.now
