use Rattle.std.proofs.Common.{◌≡◌, ◌++◌, take}
use Rattle.std.specs.List.{flat_map}
use Rattle.call_json.specs.Inside.Tokens.{image_tokens}
use Rattle.call_json.proofs.reply_writing.push_each_image.Given as goal

abbrev pub invariant-loop-image : goal.invariant-loop-image
invariant-loop-image l = record {
  tokens : l.to.tokens ≡ l.initial.to.tokens ++ flat_map image_tokens (take l.image-index l.images);
  before : l.to.before ≡ l.initial.to.before;
}
