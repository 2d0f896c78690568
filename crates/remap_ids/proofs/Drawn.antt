-- Draws by place, and pairs at the front of others.
use Rattle.std.proofs.Common.{◌≡◌, ◌∙◌, ℕ, ◌<◌, ◌≤◌, zero, suc, List, [], ◌∷◌, ◌++◌, drop, get_or, length, min, refl, sym, ap, arith}
use Rattle.std.proofs.lemmas.List.{drop_all}
use Rattle.desk_values.specs.declared.value.Value.{Value}
use Rattle.id_pairs.specs.Pairs.{IdPair, all_new, drawn_pair, drawn_pairs}

pub drawn_next : (captured replayed : List Value) (i : ℕ) (x y : Value) → i < length captured → i < length replayed → x ≡ get_or captured i x → y ≡ get_or replayed i y → drawn_pairs (drop i captured) (drop i replayed) ≡ drawn_pair x y ++ drawn_pairs (drop (suc i) captured) (drop (suc i) replayed)
drawn_next (c ∷ cs) (r ∷ rs) zero x y within also first second = rw (first, second) refl
drawn_next (c ∷ cs) (r ∷ rs) (suc i) x y within also first second = drawn_next cs rs i x y (omega (arith, within)) (omega (arith, also)) first second
drawn_next [] rs i x y within also first second = absurd (omega (arith, within))
drawn_next (c ∷ cs) [] i x y within also first second = absurd (omega (arith, also))

no_captured : (replayed : List Value) → drawn_pairs [] replayed ≡ []
no_captured [] = refl
no_captured (r ∷ rs) = refl

no_replayed : (captured : List Value) → drawn_pairs captured [] ≡ []
no_replayed [] = refl
no_replayed (c ∷ cs) = refl

pub drawn_over : (captured replayed : List Value) (i : ℕ) → min (length captured) (length replayed) ≤ i → drawn_pairs (drop i captured) (drop i replayed) ≡ []
drawn_over [] replayed i over = ap (λ captured. drawn_pairs captured (drop i replayed)) (drop_all i [] (omega arith)) ∙ no_captured (drop i replayed)
drawn_over (c ∷ cs) [] i over = ap (λ replayed. drawn_pairs (drop i (c ∷ cs)) replayed) (drop_all i [] (omega arith)) ∙ no_replayed (drop i (c ∷ cs))
drawn_over (c ∷ cs) (r ∷ rs) zero over = absurd (omega (arith, over))
drawn_over (c ∷ cs) (r ∷ rs) (suc i) over = drawn_over cs rs i (omega (arith, over))

pub all_drawn : (before all : List IdPair) (captured replayed : List Value) (i : ℕ) → min (length captured) (length replayed) ≤ i → all_new before (drawn_pairs (drop i captured) (drop i replayed)) ≡ all → before ≡ all
all_drawn before all captured replayed i over is = sym (ap (λ (pairs : List IdPair). all_new before pairs) (drawn_over captured replayed i over)) ∙ is
