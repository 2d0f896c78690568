use Rattle.std.proofs.Common.{◌≡◌, ◌++◌, ◌∷◌, take}
use Rattle.std.specs.List.{flat_map}
use Rattle.sql_reader.specs.declared.token.Sign.TheVariants as sign
use Rattle.sql_reader.specs.declared.token.Token.TheVariants as token
use Rattle.sql_reader.specs.Inside.{spaced_all}
use Rattle.sql_reader.proofs.writer.further_members.Given as goal

abbrev pub invariant-loop-member : goal.invariant-loop-member
invariant-loop-member g l = l.out ≡ l.fn.out ++ spaced_all (flat_map (λ y. token.Sign sign.Comma ∷ g.T.Listed.tokens y) (take l.member-index l.members))
