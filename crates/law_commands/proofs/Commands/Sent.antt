-- How replays against another server end.
use Rattle.std.proofs.Common.{◌≡◌, ℕ, inl, inr, Bool, true, false, Option, Some, Err}
use Rattle.desk_files.specs.Outside.{HasRisen}
use Rattle.remote_target.specs.declared.remote_err.RemoteErr.{RemoteErr}
use Rattle.remote_target.specs.declared.remote_err.RemoteErr.TheVariants as remote
use Rattle.remote_target.specs.Ends.{EndsSo}
use Rattle.replay_job.specs.Job.{JobView}
use Rattle.replay_cli.specs.declared.unsent.Unsent.{Unsent}
use Rattle.replay_cli.specs.declared.unsent.Unsent.TheVariants as unsent
use Rattle.replay_cli.specs.Ending.{IsUnsent, unsent_of}
use Rattle.replay_cli.specs.Hosting.{Dialling}
use Rattle.replay_cli.specs.Lines.{done_status, unsent_status}
use Rattle.law_commands.specs.Commands.Complete.{MayEndSent, SentRunsEndSo}

done_end : (differs : Bool) (result : ℕ) → result ≡ done_status differs → MayEndSent result
done_end true result is = inr (inl is)
done_end false result is = inl is

-- a failure of the link is told only where the count of the dial rose
link_rose : (error : RemoteErr) (before after : ℕ) → unsent_of error ≡ Some unsent.Link → EndsSo (Err error) before after → HasRisen before after
link_rose remote.Link before after is ends = ends.0
link_rose (remote.OtherJob kept) before after is ends = absurd (cc is)
link_rose (remote.Mismatch session place kept answered) before after is ends = absurd (cc is)
link_rose remote.Memory before after is ends = absurd (cc is)

unsent_end : (job : JobView) (cause : Unsent) (dial : Dialling) (result : ℕ) → IsUnsent job cause dial → ¬ HasRisen dial.counts_before.faults dial.counts_after.faults → result ≡ unsent_status cause → MayEndSent result
unsent_end job unsent.Link dial result is still same = absurd (still (link_rose is.error dial.counts_before.faults dial.counts_after.faults is.told is.ends))
unsent_end job unsent.Job dial result is still same = inr (inr (inr same))
unsent_end job (unsent.Mismatch session place kept answered) dial result is still same = inr (inr (inr same))

pub sent_runs_end : SentRunsEndSo
sent_runs_end out job port files after fb fa h result before printed still (inl done) unfailed = done_end done.0.differs result done.3
sent_runs_end out job port files after fb fa h result before printed still (inr (inl found)) unfailed = absurd found.1
sent_runs_end out job port files after fb fa h result before printed still (inr (inr (inl undone))) unfailed = absurd undone.1
sent_runs_end out job port files after fb fa h result before printed still (inr (inr (inr (inl unsent)))) unfailed = unsent_end job unsent.0 h.dial result unsent.1.0 still unsent.3
sent_runs_end out job port files after fb fa h result before printed still (inr (inr (inr (inr outside)))) unfailed = elim outside.0 as (λ _. MayEndSent result) [
  | inl five ↦ absurd (unfailed five)
  | inr six ↦ inr (inr (inl six))
]
