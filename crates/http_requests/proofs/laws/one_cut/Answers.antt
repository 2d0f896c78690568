use Rattle.std.proofs.Common.{sym, ◌∙◌}
use Rattle.http_requests.proofs.OneCut.{same_cuts}
use Rattle.http_requests.proofs.laws.one_cut.Goals as goal

pub returns : goal.returns
returns c = λ bytes a b r q x y. same_cuts a b r q x.each y.each x.unfinished y.unfinished (sym x.parts ∙ y.parts)
