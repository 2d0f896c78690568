use Rattle.std.proofs.Common.{refl, arith}
use Rattle.std.proofs.lemmas.List.Elements.{All-from_recursion}
use Rattle.machine_stores.specs.Tables.{is_within}
use Rattle.machine_stores.proofs.Storing.{put_beside, put_one}
use Rattle.replay_walk.proofs.server.put_image.Goals as goal

pub put-requires : goal.put-requires
put-requires c = All-from_recursion (is_within c.args.number) _ (c.requires c.args.image.table _ (omega arith)).list

pub returns-then-at-ledgers : goal.returns-then-at-ledgers
returns-then-at-ledgers c = put_beside c.args.number c.args.image c.args.ledgers.now (omega arith)

pub returns : goal.returns
returns c = put_one c.args.number c.args.image c.args.ledgers.now c.args.image.table _ c.put.new.self (omega arith) refl c.in_ok-put.ensures.floor c.in_ok-put.ensures.list
