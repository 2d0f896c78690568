use Rattle.std.proofs.Common.{◌≡◌, ◌∙◌, List, ap}
use Rattle.std.proofs.lemmas.Result.{IfOk-weaker}
use denote.Ref.{Bor}
use Rattle.desk_values.specs.declared.value.Image.{Image}
use Rattle.sql_eval.specs.Totals.{looked_at}
use Rattle.visited_rows.specs.ByKey.{is_of_key, of_key}
use Rattle.server_words.specs.Rows.{lay, of_table}
use Rattle.visited_rows.specs.Inside.Indexed.{committed_rows}
use Rattle.visited_rows.specs.Basis.{rows_of_basis}
use Rattle.machine_stores.proofs.Numbers.{filtered_lay}
use Rattle.visited_rows.proofs.basis.rows_about.Goals as goal

pub returns-in-Some : goal.returns-in-Some
returns-in-Some c =
    let level = c.args.with.level in
    let key = c.args.key.now in
    let rows = committed_rows c.in-Some.indexed.basis in
    let found = looked_at c.in_ok-found-in-Some.found.items in
    let changes = looked_at c.in_ok-changes.changes.items in
    let own : changes ≡ of_table c.args.basis.table c.args.basis.session.now.own.changes = c.in_ok-changes.ensures.value ∙ ap (of_table c.args.basis.table) c.as_slice.ensures.value in
    let same : of_key level key (lay found changes) ≡ of_key level key (lay rows changes) = filtered_lay (is_of_key level key) found rows changes c.in_ok-found-in-Some.ensures.rising c.in-Some.ensures.indexed.rows c.in_ok-changes.ensures.rising c.in_ok-found-in-Some.ensures.found in
    let all : lay rows changes ≡ rows_of_basis c.args.basis = ap (lay rows) own ∙ c.in-Some.ensures.rows in
    IfOk-weaker c.laid.result (λ seen. looked_at seen.items ≡ lay (looked_at c.deref-in-Some.result.now) (looked_at c.deref-in-Some-2.result.now)) (λ seen. of_key level key (looked_at seen.items) ≡ of_key level key (rows_of_basis c.args.basis))
    (λ seen is. ap (of_key level key) (is ∙ ap (λ (l : List (Bor Image)). lay (looked_at l) (looked_at c.deref-in-Some-2.result.now)) c.deref-in-Some.ensures.value ∙ ap (λ (l : List (Bor Image)). lay found (looked_at l)) c.deref-in-Some-2.ensures.value) ∙ same ∙ ap (of_key level key) all) c.laid.ensures
