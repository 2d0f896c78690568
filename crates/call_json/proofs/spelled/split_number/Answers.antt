use Rattle.std.proofs.Common.{arith}
use Rattle.std.proofs.lemmas.List.Sums.{prefix_len-le-length}
use Rattle.call_json.specs.Inside.Spelled.{is_number_byte}
use Rattle.call_json.proofs.spelled.split_number.Goals as goal

pub split_at-requires : goal.split_at-requires
split_at-requires c = omega (arith, prefix_len-le-length is_number_byte c.args.bytes.now)

pub returns : goal.returns
returns c = c.split_at.ensures.by_index.0
