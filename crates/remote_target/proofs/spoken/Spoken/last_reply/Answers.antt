use Rattle.std.proofs.Common.{List, subst, arith}
use Rattle.remote_link.specs.declared.heard.Heard.{Heard}
use Rattle.remote_target.specs.Spoken.{IsLastReply}
use Rattle.remote_target.proofs.Spokens.{last_found}
use Rattle.remote_target.proofs.spoken.Spoken.last_reply.Goals as goal

pub returns-in-len1-up-clause-value : goal.returns-in-len1-up-clause-value
returns-in-len1-up-clause-value g c =
    let last = last_found c.as_slice.result.now c.last-item.result (omega (arith, c.in-len1-up.len_at_least)) c.last-item.is in
    rw (← c.self.view_is, c.as_ref.ensures.value) (subst (λ (l : List Heard). IsLastReply l c.last-item.result.reply) c.as_slice.ensures last)
