use Rattle.std.proofs.Common.{ap, Err}
use Rattle.capture_format.proofs.Names.{long_is_none, no_text_is_none}
use Rattle.capture_format.proofs.name.read_name.Goals as goal

pub returns-in-Err-TooLong : goal.returns-in-Err-TooLong
returns-in-Err-TooLong c = long_is_none c.args.bytes.now (c.in-Err-TooLong.ensures.too_long.0 (ap Err c.in-Err-TooLong.field-0-is))

pub returns-in-Err-NotUtf8 : goal.returns-in-Err-NotUtf8
returns-in-Err-NotUtf8 c = no_text_is_none c.args.bytes.now (c.in-Err-NotUtf8.ensures.not_utf8.0 (ap Err c.in-Err-NotUtf8.field-0-is)).1
