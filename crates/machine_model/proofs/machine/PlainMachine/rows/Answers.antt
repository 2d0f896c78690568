use Rattle.std.proofs.Common.{◌≡◌, ◌≤◌, List, length, get_or, ap, subst, sym, ◌∙◌}
use Rattle.desk_values.specs.declared.value.Image.{Image}
use Rattle.row_versions.specs.History.{History}
use Rattle.server_words.specs.declared.session.Session.{Session}
use Rattle.server_words.specs.Machine.{Running}
use Rattle.server_words.specs.Rows.{IsRising}
use Rattle.server_words.specs.State.{disconnected, session_at}
use Rattle.machine_stores.specs.Tables.{AreTold, count_seen, least_seen}
use Rattle.server_words.proofs.SoundRows.{ascending_rises}
use Rattle.machine_stores.proofs.Forgetting.{least_seen_by}
use Rattle.machine_stores.proofs.Storing.{told_later}
use Rattle.machine_model.proofs.machine.PlainMachine.rows.Goals as goal

pub rows_seen-requires-clause-rising : goal.rows_seen-requires-clause-rising
rows_seen-requires-clause-rising c = subst IsRising (sym (c.as_slice.ensures ∙ c.rows.ensures.value)) (ascending_rises _ c.self.invariant.0.sound.start.sound.sound_rows.rising)

pub rows_seen-requires-clause-told : goal.rows_seen-requires-clause-told
rows_seen-requires-clause-told c =
    let start = sym (c.as_slice.ensures ∙ c.rows.ensures.value) in
    let commits = sym c.deref.ensures.value in
    let tables = sym c.deref-2.ensures.value in
    let snapshot = c.session.result.now.snapshot in
    let mine : c.session.result.now ≡ get_or c.self.inside.stores.sessions.items c.args.session disconnected = c.session.ensures ∙ ap (λ (r : Running). session_at r.state c.args.session) (sym c.self.view_is) in
    let least = least_seen (length c.self.inside.stores.commits.items) c.self.inside.stores.sessions.items in
    let le = subst (λ (s : Session). least ≤ count_seen s.snapshot (length c.self.inside.stores.commits.items)) (sym mine) (least_seen_by (length c.self.inside.stores.commits.items) c.self.inside.stores.sessions.items c.args.session) in
    let told = told_later least c.self.inside.start.rows c.self.inside.stores.commits.items (count_seen snapshot (length c.self.inside.stores.commits.items)) c.self.inside.stores.versions.items le c.self.invariant.0.told in
    subst (λ (l : List History). AreTold (count_seen snapshot (length c.deref.result.now)) c.as_slice.result.now c.deref.result.now l) tables
    (subst (λ (l : List (List Image)). AreTold (count_seen snapshot (length l)) c.as_slice.result.now l c.self.inside.stores.versions.items) commits
    (subst (λ (l : List Image). AreTold (count_seen snapshot (length c.self.inside.stores.commits.items)) l c.self.inside.stores.commits.items c.self.inside.stores.versions.items) start told))
