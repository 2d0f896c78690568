use Rattle.std.proofs.Common.{◌≡◌, ◌∙◌, ℕ, Bool, true, false, if◌then◌else◌, nat_lt, List, Option, None, Some, refl, ap, rules}
use Rattle.std.specs.BTreeMap.{get, is_at}
use Rattle.std.specs.Cmp.{IsEquivalence}
use Rattle.std.specs.List.{filter}
use Rattle.std.specs.Map.{keys_of, lookup}
use Rattle.std.specs.Ordering.{eq_by_cmp, nat_cmp}
use Rattle.std.proofs.lemmas.Cmp.{eq_by_cmp_equiv, nat_cmp_total}
use Rattle.std.proofs.lemmas.Map.Entries.{lookup-filter-values, option_filter}
use Rattle.std.proofs.lemmas.Map.Made.{filter_same_pairs}
use Rattle.std.proofs.lemmas.Map.Keys.{IsDistinct-from_sorted}
use Rattle.row_versions.specs.Inside.Links.{places_below}
use Rattle.row_versions.proofs.versions.drop_behind.Goals as goal

filtered : (behind : ℕ) (o : Option ℕ) → option_filter (λ (place : ℕ). nat_lt place behind) o ≡ places_below behind o
filtered behind None = refl
filtered behind (Some place) = refl

pub returns : goal.returns
returns c = λ row.
    let es = c.args.last.now.entries in
    let kept : c.retain.new.self.entries ≡ filter (λ (e : ℕ × ℕ). nat_lt e.1 c.args.behind) es = filter_same_pairs _ (λ (e : ℕ × ℕ). nat_lt e.1 c.args.behind) _ (λ k v b w f' t. search rules) es _ c.retain.ensures.filtered in
    ap (lookup (is_at (nat_cmp row))) kept
    ∙ lookup-filter-values {eq = eq_by_cmp nat_cmp} (eq_by_cmp_equiv nat_cmp_total) (λ (place : ℕ). nat_lt place c.args.behind) row es (IsDistinct-from_sorted nat_cmp (keys_of es) c.retain.ensures.was_ordered)
    ∙ filtered c.args.behind (lookup (is_at (nat_cmp row)) es)
