use Rattle.std.proofs.Common.{◌≡◌, ◌∙◌, List, IfOk, ap, map, subst, sym}
use denote.Ref.{Bor}
use Rattle.desk_values.specs.declared.value.Image.{Image}
use Rattle.sql_eval.specs.Totals.{looked_at}
use Rattle.server_words.specs.Rows.{IsRising, lay, of_table, row_key}
use Rattle.server_words.specs.Writes.{repeats_key}
use Rattle.visited_rows.specs.Inside.Indexed.{committed_rows}
use Rattle.visited_rows.specs.Basis.{rows_of_basis}
use Rattle.server_words.proofs.Laying.{rising_lay}
use Rattle.machine_stores.proofs.Numbers.{lay_twice}
use Rattle.visited_rows.proofs.basis.leaves_twice.Goals as goal

pub indexed_rows-requires-clause-rising : goal.indexed_rows-requires-clause-rising
indexed_rows-requires-clause-rising c =
    let own : IsRising (looked_at c.deref.result.now) = subst (λ (l : List (Bor Image)). IsRising (looked_at l)) (sym c.deref.ensures.value) c.in_ok-own.ensures.rising in
    let changes : IsRising (looked_at c.in_ok-changes.changes.items) = subst IsRising (sym c.in_ok-changes.ensures) (rising_lay (looked_at c.deref.result.now) (looked_at c.deref-2.result.now) own) in
    subst (λ (l : List (Bor Image)). IsRising (looked_at l)) (sym c.deref-3.ensures.value) changes

pub returns-in-Some : goal.returns-in-Some
returns-in-Some c =
    let rows = committed_rows c.in-Some.indexed.basis in
    let own = looked_at c.in_ok-own.own.items in
    let images = c.args.images.now in
    let news : looked_at c.deref-2.result.now ≡ images = ap looked_at c.deref-2.ensures.value ∙ c.in_ok-news.ensures in
    let changes : looked_at c.in-Some.indexed.changes.now ≡ lay own images = c.in-Some.ensures.changes ∙ ap looked_at c.deref-3.ensures.value ∙ c.in_ok-changes.ensures
    ∙ ap (λ (l : List (Bor Image)). lay (looked_at l) (looked_at c.deref-2.result.now)) c.deref.ensures.value ∙ ap (lay own) news in
    let base : lay rows own ≡ rows_of_basis c.args.basis = ap (lay rows) (c.in_ok-own.ensures.value ∙ ap (of_table c.args.basis.table) c.as_slice.ensures.value) ∙ c.in-Some.ensures.rows in
    let all : lay rows (looked_at c.in-Some.indexed.changes.now) ≡ lay (rows_of_basis c.args.basis) images =
    ap (lay rows) changes ∙ sym (lay_twice rows own images c.in-Some.ensures.indexed.rows c.in_ok-own.ensures.rising c.requires.rising c.requires.there) ∙ ap (λ (l : List Image). lay l images) base in
    subst (λ (l : List Image). IfOk c.have_indexed_twice.result (λ b. b ≡ repeats_key c.args.with.level (map row_key l))) all c.have_indexed_twice.ensures
