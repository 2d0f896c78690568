use Rattle.std.proofs.Common.{◌≡◌, ◌++◌, take}
use Rattle.std.specs.List.{flat_map}
use Rattle.call_json.specs.Inside.Tokens.{value_tokens}
use Rattle.call_json.proofs.writing.push_items.Given as goal

abbrev pub invariant-loop-value : goal.invariant-loop-value
invariant-loop-value l = record {
  tokens : l.to.tokens ≡ l.initial.to.tokens ++ flat_map value_tokens (take l.value-index l.values);
  before : l.to.before ≡ l.initial.to.before;
}
