-- The test of two ids.
use Rattle.std.proofs.Common.{◌≡◌, ◌==◌, Bool, refl, ap}
use Rattle.std.proofs.lemmas.Bool.{eqb-true, eq-eqb, and_parts}
use Rattle.std.specs.Bool.{Decides}
use Rattle.std.specs.Cmp.{IsEquivalence, decided}
use Rattle.id_pairs.specs.declared.Id.{Id}
use Rattle.id_pairs.specs.declared.Id.TheVariants.{Row, Draw}
use Rattle.id_pairs.specs.Ids.{same_id}
use Rattle.id_pairs.specs.contracts.IdPartialEq.TheImpl as derived

-- it tells whether they are one
pub same_decides : (a b : Id) → Decides (same_id a b) (a ≡ b)
same_decides (Row a) (Row b) = (λ e. ap Row (eqb-true a b e), λ e. eq-eqb a b (cc))
same_decides (Draw p a) (Draw q b) = (λ e. let t = and_parts (p == q) (a == b) e in let s = eqb-true p q t.0 in let u = eqb-true a b t.1 in cc, λ e. let s : p ≡ q = cc in let t : a ≡ b = cc in rw (eq-eqb p q s, eq-eqb a b t) refl)
same_decides (Row a) (Draw q b) = (λ e. absurd (cc), λ e. absurd (cc))
same_decides (Draw p a) (Row b) = (λ e. absurd (cc), λ e. absurd (cc))

pub same_equivalence : IsEquivalence same_id
same_equivalence = decided same_id same_decides

-- ---- `==` on ids is this test

same_at : (a b : Id) → (derived.eq-value).it a b ≡ same_id a b
same_at (Row a) (Row b) = refl
same_at (Row a) (Draw q b) = refl
same_at (Draw p a) (Row b) = refl
same_at (Draw p a) (Draw q b) = refl

pub derived_is_same : ◌≡◌ {A = Id → Id → Bool} (derived.eq-value).it same_id
derived_is_same = λ i a b. same_at a b i
