use Rattle.std.proofs.Common.{◌≡◌, ◌≤◌, ℕ, List, IfOk, length, take, ap, subst, sym, ◌∙◌, arith}
use Rattle.desk_values.specs.declared.value.Image.{Image}
use Rattle.row_versions.specs.History.{AreRowsAt, looked}
use Rattle.sql_eval.specs.Totals.{looked_at}
use Rattle.server_words.specs.View.{commits_seen}
use Rattle.machine_stores.specs.Tables.{count_seen, rows_after}
use Rattle.machine_stores.proofs.Storing.{commits_counted, count_most, rising_after, rows_read, tells_at, told_here}
use Rattle.machine_stores.proofs.seeing.base.Goals as goal

pub rows_at-requires : goal.rows_at-requires
rows_at-requires c =
    let tells = told_here (count_seen c.args.snapshot (length c.args.commits.now)) c.args.start.now c.args.commits.now c.args.tables.now c.args.table c.in-Some.versions.now c.requires.told c.in-Some.ensures.lookup.3.0 c.in-Some.ensures.lookup.1 in
    subst (λ (n : ℕ). c.in-Some.versions.now.floor ≤ n) (sym c.count_seen-count.ensures.value) tells.floor

pub returns-in_ok-rows_at-in-Some : goal.returns-in_ok-rows_at-in-Some
returns-in_ok-rows_at-in-Some c =
    let start = c.args.start.now in
    let commits = c.args.commits.now in
    let count = count_seen c.args.snapshot (length commits) in
    let versions = c.in-Some.versions.now in
    let tells = told_here count start commits c.args.tables.now c.args.table versions c.requires.told c.in-Some.ensures.lookup.3.0 c.in-Some.ensures.lookup.1 in
    let at = tells_at count start commits c.args.table versions count tells (omega arith) (count_most c.args.snapshot (length commits)) in
    let read = subst (λ (n : ℕ). AreRowsAt versions.list n (looked c.in_ok-rows_at-in-Some.field-0.items)) c.count_seen-count.ensures.value c.in_ok-rows_at-in-Some.ensures in
    rows_read versions count (looked c.in_ok-rows_at-in-Some.field-0.items) (rows_after start (take count commits) c.args.table) (rising_after start (take count commits) c.args.table c.requires.rising) at read
    ∙ ap (λ (l : List (List Image)). rows_after start l c.args.table) (commits_counted c.args.snapshot commits)

pub returns-in-None : goal.returns-in-None
returns-in-None c =
    let whole : take c.count_seen-count.result c.args.commits.now ≡ commits_seen c.args.snapshot c.args.commits.now = ap (λ (n : ℕ). take n c.args.commits.now) c.count_seen-count.ensures.value ∙ commits_counted c.args.snapshot c.args.commits.now in
    subst (λ (l : List (List Image)). IfOk c.committed.result (λ seen. looked_at seen.items ≡ rows_after c.args.start.now l c.args.table)) whole c.committed.ensures
