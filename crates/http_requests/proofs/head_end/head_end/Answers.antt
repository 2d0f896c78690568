use Rattle.std.proofs.Common.{◌≡◌, ℕ, take, false, sym, ◌∙◌, arith, below_more}
use Rattle.http_requests.specs.Heads.{ends_head}
use Rattle.http_requests.proofs.HeadEnds.{head_at_end, no_end, none_so_far}
use Rattle.http_requests.proofs.head_end.head_end.Goals as goal

pub loop-end-init : goal.loop-end-init
loop-end-init c = none_so_far c.args.bytes.now c.args.searched c.requires.searched

pub loop-end-preserved : goal.loop-end-preserved
loop-end-preserved c = below_more (λ (n : ℕ). ends_head (take n c.args.bytes.now) ≡ false) c.loop-end.end c.loop-end.invariant (sym c.ends_head.ensures ∙ c.if-ends_head.false)

pub returns-then-ends_head-clause-found : goal.returns-then-ends_head-clause-found
returns-then-ends_head-clause-found c = head_at_end c.args.bytes.now c.loop-end.end (omega arith) c.requires.limit (sym c.ends_head.ensures ∙ c.if-ends_head.true) c.loop-end.invariant

pub returns-clause-none : goal.returns-clause-none
returns-clause-none c = no_end c.args.bytes.now c.loop-end.end (omega arith) c.loop-end.invariant
