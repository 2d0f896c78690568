-- What the bodies see, without where it lies in memory.
use Rattle.found_rows.specs.declared.evaluation.Evaluation.{Evaluation}
use Rattle.server_words.specs.Found.{Environment}

abbrev pub env_of : Evaluation → Environment
env_of with = record { level = with.level; binds = with.binds.now }
