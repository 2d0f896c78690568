use Rattle.desk_values.proofs.Readers.{reads_ok, reads_only}
use Rattle.capture_format.proofs.ReplyTexts.{reply_reader}
use Rattle.capture_format.proofs.reply.read_reply.Goals as goal

pub returns-clause-ok : goal.returns-clause-ok
returns-clause-ok c = reads_ok reply_reader c.args.bytes.now c.reply.result c.reply.ensures

pub returns-clause-only : goal.returns-clause-only
returns-clause-only c = reads_only reply_reader c.args.bytes.now c.reply.result c.reply.ensures
