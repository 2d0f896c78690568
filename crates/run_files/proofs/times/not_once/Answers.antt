use Rattle.std.proofs.Common.{List, ◌∙◌, ap, length}
use Rattle.std.specs.Prelude.{not, slice_index_or}
use Rattle.std.specs.List.{find, range_with_len}
use Rattle.run_files.specs.declared.times.Times.{Times}
use Rattle.run_files.specs.declared.times.Times.TheVariants.{Never}
use Rattle.run_files.specs.Inside.Times.{is_once}
use Rattle.run_files.proofs.Timing.{first_is}
use Rattle.run_files.proofs.times.not_once.Goals as goal

pub returns : goal.returns
returns c =
    c.first_not_once.ensures ∙ ap (λ (ts : List Times). find (λ k. not (is_once (slice_index_or ts k Never))) (range_with_len 0 (length ts))) c.deref.ensures.value
    ∙ first_is c.args.kind c.args.history.now c.args.calls c.in_ok-times.times.items c.in_ok-times.ensures
