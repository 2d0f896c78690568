use Rattle.std.proofs.Common.{◌≡◌, drop}
use Rattle.std.specs.List.{find}
use Rattle.sql_reader.specs.Reading.{begins, all_signs}
use Rattle.sql_reader.specs.Words.{sign_text}
use Rattle.sql_reader.proofs.scanner.sign.Given as goal

abbrev pub invariant-loop-sign : goal.invariant-loop-sign
invariant-loop-sign l = find (λ s. begins (sign_text s) l.bytes) (drop l.sign-index all_signs) ≡ find (λ s. begins (sign_text s) l.bytes) all_signs
