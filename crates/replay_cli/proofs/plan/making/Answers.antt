use Rattle.std.proofs.Common.{◌∙◌, List, ap, subst, sym}
use Rattle.std.specs.List.{AllByRecursion}
use Rattle.desk_values.specs.Room.{Room}
use Rattle.desk_values.specs.declared.capture.Captured.{Captured}
use Rattle.desk_schema.specs.Start.{StartView}
use Rattle.capture_format.specs.SessionFile.{MayTellAll}
use Rattle.prepare_plan.specs.Lists.{lists_of}
use Rattle.replay_cli.proofs.Made.{plan_made}
use Rattle.replay_cli.proofs.plan.making.Goals as goal

pub lists_of-requires : goal.lists_of-requires
lists_of-requires c = c.in_ok-recorder.ensures.calls

pub written-requires-clause-told : goal.written-requires-clause-told
written-requires-clause-told c =
    subst (λ (start : StartView). AllByRecursion (MayTellAll start.schema.version) (lists_of c.as_slice.result.now)) (sym c.start.ensures.value)
    (subst (λ (lists : List (Room Captured)). AllByRecursion (MayTellAll c.in_ok-recorder.recorder.start.schema.version) (lists_of lists)) (sym c.as_slice.ensures) c.in_ok-lists.ensures.told)

pub returns : goal.returns
returns c = plan_made c.written.result c.args.calls c.args.out.now c.start.result.now (lists_of c.as_slice.result.now) (c.start.ensures.value ∙ c.in_ok-recorder.ensures.start) (ap (λ lists. lists_of lists) c.as_slice.ensures ∙ c.in_ok-lists.ensures.lists) c.written.ensures.line c.written.ensures.quiet c.written.ensures.writes
