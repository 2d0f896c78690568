use Rattle.std.proofs.Common.{◌≡◌, ◌∙◌, ◌∷◌, List, IfOk, ap, map, subst}
use Rattle.std.specs.Prelude.{Bool}
use Rattle.std.specs.List.{list_any}
use Rattle.std.proofs.lemmas.Result.{IfOk-weaker}
use Rattle.desk_values.specs.declared.value.Image.{Image}
use Rattle.desk_values.specs.Comparison.{same_key}
use Rattle.sql_eval.specs.Totals.{looked_at}
use Rattle.server_words.specs.Rows.{lay, of_table, row_key}
use Rattle.server_words.specs.Writes.{repeats_key}
use Rattle.visited_rows.specs.Inside.Indexed.{committed_rows}
use Rattle.visited_rows.specs.Basis.{rows_of_basis}
use Rattle.visited_rows.proofs.Apart.{made_twice}
use Rattle.visited_rows.proofs.basis.makes_twice.Goals as goal

pub returns-then-keys_differ : goal.returns-then-keys_differ
returns-then-keys_differ c =
    IfOk-weaker c.stands.result
    (λ (b : Bool). b ≡ list_any (same_key c.args.with.level c.row_key.result.now) (map row_key (rows_of_basis c.args.basis)))
    (λ (b : Bool). b ≡ repeats_key c.args.with.level (map row_key (c.args.new.now ∷ rows_of_basis c.args.basis)))
    (λ b is. is ∙ made_twice c.args.with.level c.args.new.now c.row_key.result.now (rows_of_basis c.args.basis) c.row_key.ensures (c.keys_differ.ensures c.if-keys_differ.true)) c.stands.ensures

pub returns-in-Some : goal.returns-in-Some
returns-in-Some c =
    let rows = committed_rows c.in-Some.indexed.basis in
    let changes = c.in-Some.ensures.changes ∙ ap looked_at c.deref.ensures.value ∙ c.in_ok-changes.ensures.value ∙ ap (of_table c.args.basis.table) c.as_slice.ensures.value in
    let all : lay rows (looked_at c.in-Some.indexed.changes.now) ≡ rows_of_basis c.args.basis = ap (lay rows) changes ∙ c.in-Some.ensures.rows in
    subst (λ (l : List Image). IfOk c.makes_indexed_twice.result (λ b. b ≡ repeats_key c.args.with.level (map row_key (c.args.new.now ∷ l)))) all c.makes_indexed_twice.ensures
