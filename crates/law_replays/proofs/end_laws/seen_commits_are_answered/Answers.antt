use Rattle.law_replays.proofs.End.Seen.{commits_seen}
use Rattle.law_replays.proofs.end_laws.seen_commits_are_answered.Goals as goal

pub returns : goal.returns
returns c = commits_seen
