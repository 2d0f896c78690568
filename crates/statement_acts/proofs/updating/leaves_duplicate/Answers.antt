use Rattle.std.proofs.Common.{◌≡◌, ℕ, List, [], IfOk, map, refl, ap, subst, sym, true, ◌∙◌}
use Rattle.std.specs.List.{AllByRecursion}
use Rattle.desk_values.specs.declared.value.Image.{Image}
use Rattle.sql_tree.specs.Plain.{change_of, condition_of}
use Rattle.found_rows.specs.Evaluation.{env_of}
use Rattle.visited_rows.specs.Basis.{rows_of_basis}
use Rattle.server_words.specs.Found.{matches, matching}
use Rattle.server_words.specs.Rows.{IsRising, is_there, lay, row_key}
use Rattle.server_words.specs.Writes.{moved_keys, repeats_key, updated}
use Rattle.statement_acts.proofs.Apart.{unmoved}
use Rattle.server_words.proofs.Looks.{rising_seen}
use Rattle.machine_stores.proofs.Numbers.{made_rise, made_there}
use Rattle.statement_acts.proofs.updating.leaves_duplicate.Goals as goal

abbrev AreThere : List Image → Type 0
AreThere = AllByRecursion (λ (image : Image). is_there image ≡ true)

pub leaves_twice-requires-clause-rising : goal.leaves_twice-requires-clause-rising
leaves_twice-requires-clause-rising c =
    let env = env_of c.args.with in
    let changes = map (change_of {N = ℕ}) c.args.says.settings.now in
    let basis = c.args.basis in
    subst IsRising (sym (c.as_slice.ensures.value ∙ c.requires.images)) (made_rise (matches env (condition_of c.args.says.condition.now)) (updated env changes) (λ x. refl) (λ x. refl) 0 (rows_of_basis basis) (rising_seen basis.start.now basis.commits.now basis.session.now basis.table c.requires.is_basis.rising))

pub leaves_twice-requires-clause-there : goal.leaves_twice-requires-clause-there
leaves_twice-requires-clause-there c =
    let env = env_of c.args.with in
    let condition = condition_of c.args.says.condition.now in
    let changes = map (change_of {N = ℕ}) c.args.says.settings.now in
    subst AreThere (sym (c.as_slice.ensures.value ∙ c.requires.images)) (made_there (matches env condition) (updated env changes) (λ x. refl) (λ x. refl) (matching env condition (rows_of_basis c.args.basis)))

pub returns : goal.returns
returns c =
    subst (λ (l : List Image). IfOk c.leaves_twice.result (λ b. b ≡ repeats_key c.args.with.level (map row_key (lay (rows_of_basis c.args.basis) l)))) c.as_slice.ensures.value c.leaves_twice.ensures

pub returns-then-keys_differ : goal.returns-then-keys_differ
returns-then-keys_differ c =
    let env = env_of c.args.with in
    let condition = condition_of c.args.says.condition.now in
    let changes = map (change_of {N = ℕ}) c.args.says.settings.now in
    let basis = c.args.basis in
    let rows = rows_of_basis basis in
    let up : IsRising rows = rising_seen basis.start.now basis.commits.now basis.session.now basis.table c.requires.is_basis.rising in
    let none : moved_keys env changes (matching env condition rows) ≡ [] = sym c.requires.keys ∙ c.moves_no_key.ensures c.if-moves_no_key.true in
    sym
    (ap (λ (l : List Image). repeats_key c.args.with.level (map row_key (lay rows l))) c.requires.images
    ∙ unmoved env changes condition rows up none (c.keys_differ.ensures c.if-keys_differ.true))
