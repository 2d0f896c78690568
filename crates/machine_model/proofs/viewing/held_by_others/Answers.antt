use Rattle.std.proofs.Common.{◌≡◌, ℕ, List, ◌++◌, sym, ap, subst, ◌∙◌}
use Rattle.std.specs.Prelude.{nat_eq}
use Rattle.std.specs.List.{filter, list_any}
use Rattle.std.specs.List.Sorted.{IsPermutation}
use Rattle.std.proofs.lemmas.List.Concat.{flat_map-append}
use Rattle.std.proofs.lemmas.Result.{IfOk-weaker}
use Rattle.sql_eval.specs.Totals.{looked_at}
use Rattle.server_words.specs.declared.session.Session.{Session}
use Rattle.server_words.specs.Rows.{row_numbers}
use Rattle.server_words.specs.View.{is_held}
use Rattle.machine_model.specs.Footing.{rows_held}
use Rattle.machine_model.proofs.Handing.{held_numbers}
use Rattle.machine_model.proofs.viewing.held_by_others.Goals as goal

pub returns : goal.returns
returns c =
    let before = c.args.others.before.now in
    let after = c.args.others.after.now in
    let held : c.add_rows-2.new.to.items ≡ rows_held (before ++ after) =
    c.in_ok-add_rows-2.ensures ∙ ap (λ (l : List ℕ). l ++ rows_held after) (c.in_ok-add_rows.ensures ∙ ap (λ (l : List ℕ). l ++ rows_held before) c.new-held.ensures.items) ∙ sym (flat_map-append (λ (s : Session). s.own.rows) before after) in
    let moved : IsPermutation (rows_held (before ++ after)) c.deref.result.now =
    subst (λ (l : List ℕ). IsPermutation l c.deref.result.now) held (subst (λ (l : List ℕ). IsPermutation c.add_rows-2.new.to.items l) (sym c.deref.ensures.value) c.in_ok-sort.ensures.permutation) in
    let rows = looked_at c.args.rows.now in
    let numbers = c.deref.result.now in
    IfOk-weaker c.numbers_among.result
    (λ (among : List ℕ). among ≡ filter (λ number. list_any (nat_eq number) numbers) (row_numbers rows))
    (λ (held : List ℕ). held ≡ row_numbers (filter (is_held (before ++ after)) rows))
    (λ among is. is ∙ held_numbers (before ++ after) numbers moved rows) c.numbers_among.ensures
