use Rattle.std.proofs.Common.{◌≡◌, ◌-◌, length}
use Rattle.std.specs.Prelude.{not, slice_index_or}
use Rattle.std.specs.List.{find, range_with_len}
use Rattle.run_files.specs.declared.times.Times.TheVariants.{Never}
use Rattle.run_files.specs.Inside.Times.{is_once}
use Rattle.run_files.proofs.times.first_not_once.Given as goal

abbrev pub invariant-loop-k : goal.invariant-loop-k
invariant-loop-k l = find (λ k. not (is_once (slice_index_or l.times k Never))) (range_with_len l.k (length l.times - l.k)) ≡ find (λ k. not (is_once (slice_index_or l.times k Never))) (range_with_len 0 (length l.times))
