-- The readers of lines undo their writers.
use Rattle.desk_values.proofs.Readers.{IsReader}
use Rattle.capture_format.proofs.CallTexts.{call_reader}
use Rattle.capture_format.proofs.ReplyTexts.{reply_reader}
use Rattle.capture_format.specs.SessionFile.{IsSessionLine, session_line_text}
use Rattle.capture_format.specs.Inside.SessionReading.{session_line_of}
use Rattle.capture_format.proofs.SessionReader.{session_lines}

pub session_reader : IsReader session_line_of IsSessionLine session_line_text
session_reader = session_lines call_reader reply_reader
