use Rattle.call_json.proofs.reply_writing.push_outcome.Goals as goal

pub returns-in-RolledBack-clause-tokens : goal.returns-in-RolledBack-clause-tokens
returns-in-RolledBack-clause-tokens c = rw c.in-RolledBack.is c.push_yes.ensures.tokens

pub returns-in-Connected-clause-tokens : goal.returns-in-Connected-clause-tokens
returns-in-Connected-clause-tokens c = rw c.in-Connected.is c.push_yes-in-Connected.ensures.tokens
