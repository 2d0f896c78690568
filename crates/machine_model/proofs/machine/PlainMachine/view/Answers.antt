use Rattle.std.proofs.Common.{None, Some, subst}
use Rattle.std.specs.List.{AllByRecursion}
use Rattle.std.proofs.lemmas.Result.{IfOk-weaker}
use Rattle.server_words.specs.declared.session.Session.{Session}
use Rattle.server_words.specs.declared.views.View.{View as Handed}
use Rattle.server_words.specs.Rows.{IsRising}
use Rattle.server_words.specs.View.{plain_view, view_of}
use Rattle.server_words.specs.Views.{IsViewOf, KeepsRising}
use Rattle.machine_model.proofs.Rising.{handed_changes, handed_points, handed_rows}
use Rattle.machine_model.proofs.machine.PlainMachine.view.Goals as goal

pub returns-in-Some-clause-changes_rise : goal.returns-in-Some-clause-changes_rise
returns-in-Some-clause-changes_rise c =
    let state = c.args.self.now.state in
    IfOk-weaker c.with_table.result (λ (view : Handed). IsViewOf (view_of state c.args.session (Some c.in-Some.table)) view) (λ (view : Handed). IsRising view.changes)
    (λ view is. handed_changes state c.args.session c.know_sound.ensures (Some c.in-Some.table) view is) c.with_table.ensures

pub returns-in-Some-clause-rows_rise : goal.returns-in-Some-clause-rows_rise
returns-in-Some-clause-rows_rise c =
    let state = c.args.self.now.state in
    IfOk-weaker c.with_table.result (λ (view : Handed). IsViewOf (view_of state c.args.session (Some c.in-Some.table)) view) (λ (view : Handed). IsRising view.rows)
    (λ view is. handed_rows state c.args.session c.know_sound.ensures (Some c.in-Some.table) view is) c.with_table.ensures

pub returns-in-Some-clause-points_rise : goal.returns-in-Some-clause-points_rise
returns-in-Some-clause-points_rise c =
    let state = c.args.self.now.state in
    IfOk-weaker c.with_table.result (λ (view : Handed). IsViewOf (view_of state c.args.session (Some c.in-Some.table)) view) (λ (view : Handed). AllByRecursion KeepsRising view.points)
    (λ view is. handed_points state c.args.session c.know_sound.ensures (Some c.in-Some.table) view is) c.with_table.ensures

pub returns-in-None-clause-changes_rise : goal.returns-in-None-clause-changes_rise
returns-in-None-clause-changes_rise c =
    handed_changes c.args.self.now.state c.args.session c.know_sound.ensures None c.in_ok-view.view
    (subst (λ (mine : Session). IsViewOf (plain_view mine) c.in_ok-view.view) c.session.ensures c.in_ok-view.ensures)

pub returns-in-None-clause-points_rise : goal.returns-in-None-clause-points_rise
returns-in-None-clause-points_rise c =
    handed_points c.args.self.now.state c.args.session c.know_sound.ensures None c.in_ok-view.view
    (subst (λ (mine : Session). IsViewOf (plain_view mine) c.in_ok-view.view) c.session.ensures c.in_ok-view.ensures)
