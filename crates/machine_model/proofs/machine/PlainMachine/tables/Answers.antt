use Rattle.std.proofs.Common.{◌≡◌, List, length, ap, subst, sym, ◌∙◌}
use Rattle.std.proofs.Math.Seq.{take-length}
use Rattle.std.proofs.lemmas.Result.{IfOk-weaker}
use Rattle.desk_values.specs.declared.value.Image.{Image}
use Rattle.sql_eval.specs.Totals.{looked_at}
use Rattle.server_words.specs.Machine.{Running}
use Rattle.server_words.specs.State.{tables}
use Rattle.server_words.specs.Sound.{AreStanding}
use Rattle.server_words.specs.Rows.{lay_all}
use Rattle.machine_model.proofs.machine.PlainMachine.tables.Goals as goal

pub all_laid-requires : goal.all_laid-requires
all_laid-requires c = subst AreStanding (sym (c.as_slice-start.ensures ∙ c.rows.ensures.value ∙ ap (λ (r : Running). r.state.start.rows) c.self.view_is)) (c.tables_stand.ensures c.args.self.now.state 0 c.know_sound.ensures)

told : (c : goal.After-drop-rows) → looked_at c.deref-2.result.now ≡ tables c.args.self.now.state (length c.args.self.now.state.commits)
told c =
    ap looked_at c.deref-2.ensures.value ∙ c.in_ok-rows.ensures ∙ ap (λ (rows : List Image). lay_all rows c.deref.result.now) (c.as_slice-start.ensures ∙ c.rows.ensures.value) ∙ ap (lay_all c.self.inside.start.rows) (c.deref.ensures.value ∙ sym (take-length c.self.inside.stores.commits.items)) ∙ ap (λ (r : Running). tables r.state (length r.state.commits)) c.self.view_is

pub returns-clause-value : goal.returns-clause-value
returns-clause-value c = IfOk-weaker c.copied.result (λ images. images ≡ looked_at c.deref-2.result.now) (λ images. images ≡ tables c.args.self.now.state (length c.args.self.now.state.commits)) (λ images is. is ∙ told c) c.copied.ensures

pub returns-clause-standing : goal.returns-clause-standing
returns-clause-standing c =
    IfOk-weaker c.copied.result (λ images. images ≡ looked_at c.deref-2.result.now) AreStanding (λ images is. subst AreStanding (sym (is ∙ told c)) (c.tables_stand.ensures c.args.self.now.state (length c.args.self.now.state.commits) c.know_sound.ensures)) c.copied.ensures
