use Rattle.std.proofs.Common.{◌≡◌, ℕ, ◌<◌, ◌≤◌, Bool, true, ◌||◌, ap, ◌∙◌, refl, sym}
use Rattle.std.specs.Prelude.{nat_eq}
use Rattle.std.specs.BTreeMap.{get}
use Rattle.std.specs.Ordering.{is_eq}
use Rattle.std.proofs.lemmas.Bool.{and_parts, eqb-true}
use Rattle.desk_values.specs.Ids.{is_id}
use Rattle.desk_values.specs.declared.value.Value.{Value}
use Rattle.desk_values.specs.declared.value.Value.TheVariants.{Null, Int, Text, Row, Draw}
use Rattle.captured_calls.specs.Same.{same_value}
use Rattle.known_ids.specs.Knowing.{is_by, knows, pair_cmp}
use Rattle.known_ids.specs.declared.known.KnownIds.{KnownIds}
use Rattle.known_ids.proofs.Entries.{pair_at, told_before, told_from}
use Rattle.known_ids.proofs.known.KnownIds.add_draw.Goals as goal

module _ (c : goal.In_ok-insert) where
  abbrev new : KnownIds
  new = record { rows = c.args.self.now.rows; draws = c.insert.new.self }

  abbrev here : ℕ → ℕ → Bool
  here p n = is_eq (pair_cmp (c.args.sequence, c.args.number) (p, n))

  was : (p n : ℕ) → here p n ≡ true → get pair_cmp c.args.self.now.draws (p, n) ≡ c.copied.result
  was p n is =
      let two = and_parts (nat_eq p c.args.sequence) (nat_eq n c.args.number) (sym (pair_at c.args.sequence c.args.number p n) ∙ is) in
      ap (λ (q : ℕ). get pair_cmp c.args.self.now.draws (q, n)) (eqb-true p c.args.sequence two.0) ∙ ap (λ (m : ℕ). get pair_cmp c.args.self.now.draws (c.args.sequence, m)) (eqb-true n c.args.number two.1)
      ∙ sym (c.copied.ensures ∙ c.get.ensures.value)

  from : (count : ℕ) (value : Value) → c.args.since ≤ count → is_id value ≡ true → knows new count value ≡ (same_value value (Draw c.args.sequence c.args.number) || knows c.args.self.now count value)
  from count (Draw p n) since is = ap (λ o. is_by o count) (c.in_ok-insert.ensures.updates.0 (p, n)) ∙ told_from (here p n) (get pair_cmp c.args.self.now.draws (p, n)) c.copied.result c.args.since c.earlier-since.result (was p n) c.earlier-since.ensures count since
      ∙ ap (λ (b : Bool). b || knows c.args.self.now count (Draw p n)) (pair_at c.args.sequence c.args.number p n)
  from count (Row n) since is = refl
  from count Null since is = cc
  from count (Int n) since is = cc
  from count (Text n) since is = cc

  before : (count : ℕ) (value : Value) → count < c.args.since → knows new count value ≡ knows c.args.self.now count value
  before count (Draw p n) less = ap (λ o. is_by o count) (c.in_ok-insert.ensures.updates.0 (p, n)) ∙ told_before (here p n) (get pair_cmp c.args.self.now.draws (p, n)) c.copied.result c.args.since c.earlier-since.result (was p n) c.earlier-since.ensures count less
  before count (Row n) less = refl
  before count Null less = refl
  before count (Int n) less = refl
  before count (Text n) less = refl

pub returns-clause-then_on : goal.returns-clause-then_on
returns-clause-then_on c = from c

pub returns-clause-before : goal.returns-clause-before
returns-clause-before c = before c
