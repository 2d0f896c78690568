use Rattle.std.proofs.Common.{◌≡◌, ◌≤◌, [], List, length, get_or, ap, subst, sym, ◌∙◌}
use Rattle.desk_values.specs.declared.value.Image.{Image}
use Rattle.desk_schema.specs.Schema.{SchemaView}
use Rattle.row_versions.specs.History.{History}
use Rattle.machine_stores.specs.declared.index.KeyIndex.{KeyIndex}
use Rattle.server_words.specs.declared.session.Session.{Session}
use Rattle.server_words.specs.Machine.{Running}
use Rattle.server_words.specs.Rows.{IsRising}
use Rattle.server_words.specs.State.{disconnected, session_at}
use Rattle.machine_stores.specs.Index.{AreIndexes}
use Rattle.machine_stores.specs.Tables.{AreTold, count_seen, least_seen}
use Rattle.server_words.proofs.SoundRows.{ascending_rises}
use Rattle.machine_stores.proofs.Forgetting.{least_seen_by}
use Rattle.machine_stores.proofs.Storing.{told_later}
use Rattle.machine_model.proofs.Apart.{seen_apart}
use Rattle.machine_model.proofs.machine.PlainMachine.basis.Goals as goal

pub returns-clause-is_basis : goal.returns-clause-is_basis
returns-clause-is_basis c =
    let start = sym (c.as_slice.ensures ∙ c.rows.ensures.value) in
    let commits = sym c.deref.ensures.value in
    let tables = sym c.deref-2.ensures.value in
    let keeps = c.self.invariant.0 in
    let snapshot = c.session.result.now.snapshot in
    let mine : c.session.result.now ≡ get_or c.self.inside.stores.sessions.items c.args.session disconnected = c.session.ensures ∙ ap (λ (r : Running). session_at r.state c.args.session) (sym c.self.view_is) in
    let least = least_seen (length c.self.inside.stores.commits.items) c.self.inside.stores.sessions.items in
    let le = subst (λ (s : Session). least ≤ count_seen s.snapshot (length c.self.inside.stores.commits.items)) (sym mine) (least_seen_by (length c.self.inside.stores.commits.items) c.self.inside.stores.sessions.items c.args.session) in
    let told = told_later least c.self.inside.start.rows c.self.inside.stores.commits.items (count_seen snapshot (length c.self.inside.stores.commits.items)) c.self.inside.stores.versions.items le keeps.told in
    record {
      rising = subst IsRising start (ascending_rises _ keeps.sound.start.sound.sound_rows.rising);
      told = subst (λ (l : List History). AreTold (count_seen snapshot (length c.deref.result.now)) c.as_slice.result.now c.deref.result.now l) tables
          (subst (λ (l : List (List Image)). AreTold (count_seen snapshot (length l)) c.as_slice.result.now l c.self.inside.stores.versions.items) commits
          (subst (λ (l : List Image). AreTold (count_seen snapshot (length c.self.inside.stores.commits.items)) l c.self.inside.stores.commits.items c.self.inside.stores.versions.items) start told));
      indexed = subst (λ (l : List History). AreIndexes c.deref-3.result.now l (length c.deref.result.now) []) tables
          (subst (λ (l : List (List Image)). AreIndexes c.deref-3.result.now c.self.inside.stores.versions.items (length l) []) commits
          (subst (λ (l : List KeyIndex). AreIndexes l c.self.inside.stores.versions.items (length c.self.inside.stores.commits.items) []) (sym c.deref-3.ensures.value) c.self.invariant.3));
      beside = c.others.ensures.beside;
      differ = λ is.
          let level = c.level.ensures.value ∙ ap (λ (v : SchemaView). v.level) c.schema.ensures.value in
          seen_apart c.level.result c.self.inside.start.schema.level c.as_slice.result.now c.self.inside.start.rows c.deref.result.now c.self.inside.stores.commits.items c.session.result.now (get_or c.self.inside.stores.sessions.items c.args.session disconnected) c.args.table
          level (sym start) (sym commits) mine (c.self.invariant.6 is c.args.session c.args.table);
    }
