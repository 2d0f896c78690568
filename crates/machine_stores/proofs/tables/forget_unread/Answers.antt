use Rattle.machine_stores.specs.Tables.{least_seen}
use Rattle.machine_stores.proofs.Forgetting.{forgot_same}
use Rattle.machine_stores.proofs.tables.forget_unread.Goals as goal

pub returns-else-ends_transaction : goal.returns-else-ends_transaction
returns-else-ends_transaction c = forgot_same (least_seen c.args.count c.args.sessions.now) c.args.tables.now.items c.requires
