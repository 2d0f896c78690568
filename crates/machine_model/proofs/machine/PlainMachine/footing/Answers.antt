use Rattle.std.proofs.Common.{◌≡◌, ◌∙◌, ℕ, ◌≤◌, List, None, length, take, sym, ap, subst, arith}
use Rattle.std.specs.Ordering.{nat_cmp}
use Rattle.desk_values.specs.Sorting.{kind_then_value}
use Rattle.server_words.specs.declared.session.Session.{Session}
use Rattle.machine_model.specs.Footing.{keys_held_in, rows_held}
use Rattle.server_words.specs.Machine.{Running}
use Rattle.server_words.specs.State.{session_at}
use Rattle.server_words.specs.View.{plain_view}
use Rattle.server_words.specs.Views.{AreOnce, IsViewOf}
use Rattle.machine_stores.specs.Tables.{count_seen}
use Rattle.machine_model.proofs.Rising.{handed_changes}
use Rattle.machine_stores.proofs.Storing.{commits_counted, count_most}
use Rattle.machine_model.proofs.machine.PlainMachine.footing.Goals as goal

pub returns-clause-footing : goal.returns-clause-footing
returns-clause-footing c =
    let state = c.args.self.now.state in
    let mine = session_at state c.args.session in
    let table = c.args.table in
    let commits_are : c.self.inside.stores.commits.items ≡ state.commits = ap (λ (r : Running). r.state.commits) c.self.view_is in
    let len : c.len.result ≡ length c.self.inside.stores.commits.items = omega (arith, c.len.ensures) in
    let counted : c.count_seen-commits.result ≡ count_seen mine.snapshot (length state.commits) =
    c.count_seen-commits.ensures.value ∙ ap (λ (n : ℕ). count_seen c.session-mine.result.now.snapshot n) (len ∙ ap length commits_are) ∙ ap (λ (s : Session). count_seen s.snapshot (length state.commits)) c.session-mine.ensures in
    record {
      own = subst (λ (s : Session). IsViewOf (plain_view s) c.in_ok-own.own) c.session-mine.ensures c.in_ok-own.ensures;
      commits = ap (λ (n : ℕ). take n state.commits) counted ∙ commits_counted mine.snapshot state.commits;
      within = subst (λ (n : ℕ). n ≤ length state.commits) (sym counted) (count_most mine.snapshot (length state.commits));
      held_rows = subst (λ (ss : List Session). AreOnce nat_cmp (rows_held ss) c.in_ok-held_rows.held_rows) c.others-beside.ensures.others c.in_ok-held_rows.ensures;
      held_keys = subst (λ (ss : List Session). AreOnce kind_then_value (keys_held_in ss table) c.in_ok-held_keys.held_keys) c.others-beside.ensures.others c.in_ok-held_keys.ensures;
    }

pub returns-clause-changes_rise : goal.returns-clause-changes_rise
returns-clause-changes_rise c =
    handed_changes c.args.self.now.state c.args.session c.know_sound.ensures None c.in_ok-own.own
    (subst (λ (s : Session). IsViewOf (plain_view s) c.in_ok-own.own) c.session-mine.ensures c.in_ok-own.ensures)
