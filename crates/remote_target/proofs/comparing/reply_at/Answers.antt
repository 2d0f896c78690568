use Rattle.std.proofs.Common.{◌∙◌, subst, sym}
use Rattle.std.proofs.lemmas.Result.{IfOk-weaker}
use Rattle.remote_target.specs.Inside.{IsPlace}
use Rattle.remote_target.proofs.Places.{told_at}
use Rattle.remote_target.proofs.comparing.reply_at.Goals as goal

pub returns-in-Some : goal.returns-in-Some
returns-in-Some c =
    let there : IsPlace c.args.k c.args.events.now c.place_at.result = subst (IsPlace c.args.k c.args.events.now) (sym c.place_at.ensures) (c.requires.places.each c.args.k c.requires.stamp) in
    let here = rw c.in-Some.is at there in
    IfOk-weaker c.reply_in.result _ _ (λ reply is. is ∙ told_at c.args.k c.args.events.now c.in-Some.place here) c.reply_in.ensures

pub returns-in-None : goal.returns-in-None
returns-in-None c =
    let there : IsPlace c.args.k c.args.events.now c.place_at.result = subst (IsPlace c.args.k c.args.events.now) (sym c.place_at.ensures) (c.requires.places.each c.args.k c.requires.stamp) in
    sym (rw c.in-None.is at there)
