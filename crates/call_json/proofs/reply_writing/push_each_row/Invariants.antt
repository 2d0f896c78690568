use Rattle.std.proofs.Common.{◌≡◌, ◌++◌, take}
use Rattle.std.specs.List.{flat_map}
use Rattle.call_json.specs.Inside.Tokens.{row_tokens}
use Rattle.call_json.proofs.reply_writing.push_each_row.Given as goal

abbrev pub invariant-loop-row : goal.invariant-loop-row
invariant-loop-row l = record {
  tokens : l.to.tokens ≡ l.initial.to.tokens ++ flat_map row_tokens (take l.row-index l.rows);
  before : l.to.before ≡ l.initial.to.before;
}
