use Rattle.std.proofs.Common.{◌≡◌, true, not, List, map, sym, ◌∙◌, ap, subst, ℕ}
use Rattle.std.specs.BTreeMap.{is_at}
use Rattle.std.specs.List.{Contains, list_any}
use Rattle.std.proofs.lemmas.Bool.{false≢true, OnTrue_from, OnFalse_from, not-false}
use Rattle.desk_values.specs.declared.value.Value.{Value}
use Rattle.desk_schema.specs.Inside.Keys.{row_key, IsWith}
use Rattle.desk_schema.proofs.RowKeys.{found_there, there_found, with_key, row_cmp}
use Rattle.desk_schema.proofs.keys.KeySet.insert.Goals as goal

pub returns-clause-added : goal.returns-clause-added
returns-clause-added c = OnTrue_from c.in_ok-insert.field-0 (¬ Contains c.args.self.now (row_key c.args.key)) (λ added there.
    let P : List (ℕ × Value) → Type 0 = λ keys. Contains keys (row_key c.args.key) in
    let found : list_any (is_at (row_cmp c.args.key)) c.self.inside.keys.keys ≡ true = there_found c.args.key c.self.inside.keys.keys (subst P (sym c.self.view_is) there) in
    false≢true (sym (sym added ∙ c.in_ok-insert.ensures.added ∙ ap not found)))

pub returns-clause-new : goal.returns-clause-new
returns-clause-new c = OnTrue_from c.in_ok-insert.field-0 _ (λ added.
    let new : List (ℕ × Value) = map row_key c.insert.new.self.keys in
    let P : List (ℕ × Value) → Type 0 = λ old. IsWith old new (row_key c.args.key) in
    let Q : List (ℕ × Value) → Type 0 = λ keys. IsWith (map row_key c.self.inside.keys.keys) keys (row_key c.args.key) in
    subst P c.self.view_is (subst Q (ap (map row_key) (sym c.in_ok-insert.ensures.keys)) (with_key c.args.key c.self.inside.keys.keys)))

pub returns-clause-present : goal.returns-clause-present
returns-clause-present c = OnFalse_from c.in_ok-insert.field-0 _ (λ added.
    let P : List (ℕ × Value) → Type 0 = λ keys. Contains keys (row_key c.args.key) in
    let found : list_any (is_at (row_cmp c.args.key)) c.self.inside.keys.keys ≡ true = not-false _ (sym c.in_ok-insert.ensures.added ∙ added) in
    subst P c.self.view_is (found_there c.args.key c.self.inside.keys.keys found))
