use Rattle.std.proofs.Common.{◌≡◌, List, [], length, refl, subst, rules, sym, ◌∙◌, true≢false, arith}
use Rattle.desk_values.specs.declared.value.Image.{Image}
use Rattle.row_versions.specs.History.{History}
use Rattle.machine_stores.specs.Index.{AreIndexes}
use Rattle.machine_model.specs.Inside.Machine.{Keeps}
use Rattle.machine_stores.specs.Tables.{AreTold, AreWithin}
use Rattle.server_words.specs.Sound.{AreStanding}
use Rattle.server_words.specs.State.{State, opening}
use Rattle.machine_stores.proofs.Held.{nobody_holds}
use Rattle.server_words.proofs.SoundSteps.{opening_sound, tables_stand}
use Rattle.machine_stores.proofs.Storing.{told_within}
use Rattle.machine_model.proofs.Telling.{opened, opening_is}
use Rattle.machine_model.proofs.machine.PlainMachine.load.Goals as goal

pub tables_of-requires : goal.tables_of-requires
tables_of-requires c = subst AreStanding (sym (c.as_slice.ensures ∙ c.rows.ensures.value)) (tables_stand (opening c.in_ok-start.start) 0 (opening_sound c.in_ok-start.start c.rows.ensures.valid))

pub indexes_of-requires : goal.indexes_of-requires
indexes_of-requires c = subst (AreWithin 0) (sym c.deref.ensures.value) (told_within 0 c.as_slice.result.now [] c.in_ok-versions.versions.items (omega arith) c.in_ok-versions.ensures)

pub invariant_of-result : goal.invariant_of-result
invariant_of-result c =
    let tables : List History = c.in_ok-versions.versions.items in
    let first : State = record { start = c.in_ok-start.start; commits = c.new.result.items; next_row = c.next_row-next_row.result; next_values = c.in_ok-next_values.next_values.items; sessions = c.in_ok-sessions.sessions.items } in
    let nexts : c.in_ok-next_values.next_values.items ≡ c.in_ok-start.start.next_values = search rules in
    let same : first ≡ opening c.in_ok-start.start = opening_is c.in_ok-start.start _ _ _ _ c.new.ensures.items c.next_row-next_row.ensures nexts c.in_ok-sessions.ensures in
    let told : AreTold 0 c.in_ok-start.start.rows [] tables = subst (λ (rows : List Image). AreTold 0 rows [] tables) (c.as_slice.ensures ∙ c.rows.ensures.value) c.in_ok-versions.ensures in
    let indexed : AreIndexes c.in_ok-indexes.indexes.items tables 0 [] = subst (λ (l : List History). AreIndexes c.in_ok-indexes.indexes.items l 0 []) c.deref.ensures.value c.in_ok-indexes.ensures in (
      subst (λ (s : State). Keeps (record { state = s; steps = 0 }) tables) (sym same) (opened c.in_ok-start.start tables c.rows.ensures.valid told),
      c.new-4.ensures,
      refl,
      subst (λ (l : List (List Image)). AreIndexes c.in_ok-indexes.indexes.items tables (length l) []) (sym c.new.ensures.items) indexed,
      c.new-3.ensures c.in_ok-start.start.schema,
      nobody_holds c.new-2.result c.in_ok-sessions.sessions.items 64 c.in_ok-sessions.ensures c.new-2.ensures,
      λ is. absurd (true≢false (sym is)),
    )
