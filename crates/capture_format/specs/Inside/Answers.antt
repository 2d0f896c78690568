-- What readers of parts answer.
use Rattle.std.specs.Prelude.{Option, Some, Result}
use Rattle.desk_values.specs.declared.read_err.ReadErr.{ReadErr}
use Rattle.desk_values.specs.Answers.{Answers}
use Rattle.desk_values.specs.Reading.{unread}

-- what a reader answers whose answer is seen through a view, as one that holds a reference
abbrev pub ReadsAs : {X T : Type 0} → (X → T) → Result X ReadErr → Option T → Type 0
ReadsAs view result read = Answers (λ value. Some (view value)) unread result read
