use Rattle.std.proofs.Common.{ap, sym, ◌∙◌, ◌++◌, append-nil, List}
use Rattle.std.proofs.lemmas.Slice.Zip.{zip_end}
use Rattle.desk_schema.specs.declared.line.StartLine.{StartLine}
use Rattle.desk_schema.specs.Line.{lines_text}
use Rattle.capture_format.proofs.Writing.{drained}
use Rattle.capture_format.proofs.start_writer.push_sequences.Goals as goal

pub returns : goal.returns
returns c =
    let end = zip_end c.args.names.now c.args.nexts.now c.loop-name.yielded c.into_iter-name-iterator.result c.loop-name.name-iterator c.next.new.self c.next.result (search) (search) c.loop-name.yielded_by c.in-None.is c.next.ensures.steps in
    sym (append-nil c.loop-name.to) ∙ ap (λ (ls : List StartLine). c.loop-name.to ++ lines_text ls) (sym (drained c.args.names.now c.args.nexts.now _ end)) ∙ c.loop-name.invariant
