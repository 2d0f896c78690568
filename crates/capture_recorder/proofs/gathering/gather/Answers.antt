use Rattle.std.proofs.Common.{◌∙◌, sym, subst}
use Rattle.desk_schema.specs.Start.{StartView}
use Rattle.capture_recorder.specs.Agreement.{Agrees, IsOkJust}
use Rattle.capture_recorder.specs.Gathering.{lists_of}
use Rattle.capture_recorder.proofs.Agreeing.{agrees_just}
use Rattle.capture_recorder.proofs.gathering.gather.Goals as goal

pub returns-clause-agrees : goal.returns-clause-agrees
returns-clause-agrees c =
    let r = c.args.recorder.now in
    let lists = lists_of c.args.lists.now in
    let turned = lists_of c.args.turned.now in
    subst (λ (start : StartView). IsOkJust (Agrees start r lists turned) c.compared.result) (sym c.start.ensures.value ∙ c.same.ensures.0 c.if-not-same.false) (agrees_just r c.start.ensures.valid lists turned c.compared.result c.compared.ensures)
