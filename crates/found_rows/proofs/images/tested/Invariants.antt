use Rattle.std.proofs.Common.{◌≡◌, ◌||◌, drop}
use Rattle.server_words.specs.Writes.{any_value, exceeds, leaves, violates_not_null}
use Rattle.found_rows.proofs.images.tested.Given as goal

abbrev pub invariant-loop-image : goal.invariant-loop-image
invariant-loop-image l = record {
  null : (l.causes.null || any_value violates_not_null l.columns (drop l.image-index l.images)) ≡ (l.initial.causes.null || any_value violates_not_null l.columns l.images);
  too_long : (l.causes.too_long || any_value exceeds l.columns (drop l.image-index l.images)) ≡ (l.initial.causes.too_long || any_value exceeds l.columns l.images);
  out_of_range : (l.causes.out_of_range || any_value leaves l.columns (drop l.image-index l.images)) ≡ (l.initial.causes.out_of_range || any_value leaves l.columns l.images);
  divides : l.causes.divides ≡ l.initial.causes.divides;
  overflows : l.causes.overflows ≡ l.initial.causes.overflows;
  too_many : l.causes.too_many ≡ l.initial.causes.too_many;
  locked : l.causes.locked ≡ l.initial.causes.locked;
  duplicate : l.causes.duplicate ≡ l.initial.causes.duplicate;
}
