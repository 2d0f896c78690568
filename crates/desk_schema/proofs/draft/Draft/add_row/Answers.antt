use Rattle.std.proofs.Common.{rules, ◌≡◌, ℕ, List, [], ◌∷◌, ◌++◌, Some, sym, ap, ◌∙◌, subst}
use Rattle.std.specs.List.{Contains}
use Rattle.std.proofs.lemmas.Bool.{OnTrue_at, OnFalse_at}
use Rattle.desk_values.specs.declared.value.Value.{Value}
use Rattle.desk_values.specs.declared.value.Image.{Image}
use Rattle.desk_schema.specs.declared.line.StartLine.TheVariants.{Row}
use Rattle.desk_schema.specs.Inside.Keys.{row_key, IsWith}
use Rattle.desk_schema.specs.State.{State}
use Rattle.desk_schema.specs.Rules.{counted, key_of}
use Rattle.desk_schema.specs.Inside.Draft.{AreKeys}
use Rattle.desk_schema.proofs.Drafting.{row_may, row_may_not, keys_with, grown}
use Rattle.desk_schema.proofs.draft.Draft.add_row.Goals as goal

pub returns-then-not-branch-clause-rule : goal.returns-then-not-branch-clause-rule
returns-then-not-branch-clause-rule c =
    let key_is : row_key c.in_ok-key.key ≡ (c.args.table, counted c.self.inside.level (key_of c.args.values)) = search rules in
    let level_is : (c.args.table, counted c.self.inside.level (key_of c.args.values)) ≡ (c.args.table, counted c.args.self.now.start.schema.level (key_of c.args.values)) =
    ap (λ (s : State). (c.args.table, counted s.start.schema.level (key_of c.args.values))) c.self.view_is in
    let P : ℕ × Value → Type 0 = λ key. Contains c.self.inside.keys key in
    row_may_not c.self.view_is c.self.invariant c.args.row c.args.table c.args.values (subst P (key_is ∙ level_is) (OnFalse_at c.if-not-branch.true c.in_ok-push_row.ensures.present))

pub returns-clause-rule : goal.returns-clause-rule
returns-clause-rule c =
    let key_is : row_key c.in_ok-key.key ≡ (c.args.table, counted c.self.inside.level (key_of c.args.values)) = search rules in
    let level_is : (c.args.table, counted c.self.inside.level (key_of c.args.values)) ≡ (c.args.table, counted c.args.self.now.start.schema.level (key_of c.args.values)) =
    ap (λ (s : State). (c.args.table, counted s.start.schema.level (key_of c.args.values))) c.self.view_is in
    let P : ℕ × Value → Type 0 = λ key. Contains c.self.inside.keys key → ⊥ in
    row_may c.self.view_is c.self.invariant c.args.row c.args.table c.args.values (search rules) (subst P (key_is ∙ level_is) (OnTrue_at c.if-not-branch.false c.in_ok-push_row.ensures.new))

pub invariant_of-self-2 : goal.invariant_of-self-2
invariant_of-self-2 c =
    let key_is : row_key c.in_ok-key.key ≡ (c.args.table, counted c.self.inside.level (key_of c.args.values)) = search rules in
    let image : Image = record { row = c.args.row; table = c.args.table; left = Some c.args.values } in
    let rows_are : c.push_row.new.rows.items ≡ c.self.inside.rows.items ++ image ∷ [] = OnTrue_at c.if-not-branch.false c.in_ok-push_row.ensures.row in
    let P : ℕ × Value → Type 0 = λ key. IsWith c.self.inside.keys c.push_row.new.keys key in
    let Q : List Image → Type 0 = λ rows. AreKeys c.self.inside.level c.push_row.new.keys rows in
    let keys_are = keys_with c.self.inside.level c.self.inside.keys c.push_row.new.keys c.self.inside.rows.items c.args.row c.args.table c.args.values c.self.invariant.are_keys
    (subst P key_is (OnTrue_at c.if-not-branch.false c.in_ok-push_row.ensures.key)) in
    grown c.self.view_is c.self.invariant (Row c.args.row c.args.table c.args.values) (returns-clause-rule c) (search rules) (subst Q (sym rows_are) keys_are)
