use Rattle.desk_values.proofs.Readers.{one_text}
use Rattle.capture_format.proofs.ReplyTexts.{reply_reader}
use Rattle.capture_format.proofs.laws.one_reply_text.Goals as goal

pub returns : goal.returns
returns c = one_text reply_reader
