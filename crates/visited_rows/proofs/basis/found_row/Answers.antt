use Rattle.std.proofs.Common.{◌≡◌, ◌∙◌, ap, refl, subst, sym}
use Rattle.std.specs.Option.{option_copied}
use Rattle.std.proofs.lemmas.Result.{IfOk-weaker}
use Rattle.sql_eval.specs.Totals.{looked_at}
use Rattle.visited_rows.specs.ByKey.{of_key}
use Rattle.server_words.specs.Rows.{IsRising}
use Rattle.visited_rows.specs.Inside.Indexed.{committed_rows, listed}
use Rattle.machine_stores.specs.Index.{row_under}
use Rattle.visited_rows.proofs.Twice.{listed_rises, of_key_there}
use Rattle.visited_rows.proofs.basis.found_row.Goals as goal

pub returns-clause-rising : goal.returns-clause-rising
returns-clause-rising c =
    let there = option_copied c.row_under.result in
    IfOk-weaker c.listed.result (λ rows. looked_at rows.items ≡ listed there) (λ rows. IsRising (looked_at rows.items)) (λ rows is. subst IsRising (sym is) (listed_rises there)) c.listed.ensures

pub returns-clause-found : goal.returns-clause-found
returns-clause-found c =
    let level = c.args.with.level in
    let key = c.args.key.now in
    let there = option_copied c.row_under.result in
    IfOk-weaker c.listed.result (λ rows. looked_at rows.items ≡ listed there) (λ rows. of_key level key (looked_at rows.items) ≡ of_key level key (committed_rows c.args.indexed.basis))
    (λ rows is. ap (of_key level key) is ∙ of_key_there (row_under c.args.indexed.index.now) (committed_rows c.args.indexed.basis) c.requires.rows c.requires.finds level key there c.row_under.ensures there refl) c.listed.ensures
