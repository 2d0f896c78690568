use Rattle.std.proofs.Common.{◌≡◌, ℕ, List, ◌++◌, IfOk, sym, ap, subst, ◌∙◌}
use Rattle.std.specs.Ordering.{nat_cmp}
use Rattle.std.proofs.lemmas.List.Concat.{flat_map-append}
use Rattle.server_words.specs.declared.session.Session.{Session}
use Rattle.machine_model.specs.Footing.{rows_held}
use Rattle.server_words.specs.Views.{AreOnce}
use Rattle.machine_model.proofs.footing.rows_of_others.Goals as goal

pub returns : goal.returns
returns c =
    let before = c.args.others.before.now in
    let after = c.args.others.after.now in
    let held : c.add_rows-2.new.to.items ≡ rows_held (before ++ after) =
    c.in_ok-add_rows-2.ensures ∙ ap (λ (l : List ℕ). l ++ rows_held after) (c.in_ok-add_rows.ensures ∙ ap (λ (l : List ℕ). l ++ rows_held before) c.new-held.ensures.items) ∙ sym (flat_map-append (λ (s : Session). s.own.rows) before after) in
    subst (λ (l : List ℕ). IfOk c.rows_once.result (λ (rows : List ℕ). AreOnce nat_cmp l rows)) (c.as_slice.ensures.value ∙ held) c.rows_once.ensures
