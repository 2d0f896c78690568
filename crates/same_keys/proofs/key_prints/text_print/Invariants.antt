use Rattle.std.proofs.Common.{◌≡◌, drop}
use Rattle.same_keys.specs.Print.{text_print}
use Rattle.same_keys.proofs.key_prints.text_print.Given as goal

abbrev pub invariant-loop-byte : goal.invariant-loop-byte
invariant-loop-byte l = text_print l.print (drop l.byte-index l.bytes) ≡ text_print 14695981039346656037 l.bytes
