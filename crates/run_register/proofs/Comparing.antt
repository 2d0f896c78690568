-- Pairs of a stamp and a class in a set, and lines that are looked up.
use Rattle.std.proofs.Common.{◌≡◌, ℕ, Bool, ◌&&◌, ◌||◌, cond, true, false, List, ◌++◌, ◌+◌, ◌-◌, ◌<◌, length, get_or, drop, take, refl, sym, ap, ◌∙◌, arith}
use Rattle.std.specs.Prelude.{◌==◌, nat_eq, Option, Some}
use Rattle.std.specs.List.{list_any}
use Rattle.std.proofs.lemmas.List.Folds.{list_any_more}
use Rattle.std.proofs.lemmas.List.{at_drop_more}
use Rattle.std.specs.declared.cmp.Ordering.{Ordering}
use Rattle.std.specs.declared.cmp.Ordering.TheVariants.{Less, Equal, Greater}
use Rattle.std.specs.Ordering.{is_eq, nat_cmp, ordering_then}
use Rattle.std.proofs.lemmas.Grind.{common_steps}
use Rattle.replay_history.specs.declared.report.Line.{Line}
use Rattle.run_register.specs.declared.kept.Accept.{Accept}
use Rattle.run_register.specs.Comparison.{all_differences, is_accepted, line_at, of_all_first, of_all_second}
use Rattle.run_register.specs.Inside.{pair_cmp}

both_equal : (first second : Ordering) → is_eq (ordering_then first second) ≡ (is_eq first && is_eq second)
both_equal Less second = refl
both_equal Equal second = refl
both_equal Greater second = refl

equal_is : (a b : ℕ) → is_eq (nat_cmp a b) ≡ nat_eq a b
equal_is a b = grind (arith, common_steps)

pub pair_at : (s m p n : ℕ) → is_eq (pair_cmp (s, m) (p, n)) ≡ (nat_eq s p && nat_eq m n)
pair_at s m p n = both_equal (nat_cmp s p) (nat_cmp m n) ∙ rw (equal_is s p, equal_is m n) refl

pub either : (b c : Bool) → cond b true c ≡ (b || c)
either true c = refl
either false c = refl

-- what is found by way of sets and maps is found in the lists
pub all_found : (a b : List Line) (accepted : List Accept) (accepts : ℕ → ℕ → Bool) (first second : ℕ → Option Line)
    → ((stamp class : ℕ) → accepts stamp class ≡ is_accepted accepted stamp class)
    → ((stamp : ℕ) → first stamp ≡ line_at a stamp) → ((stamp : ℕ) → second stamp ≡ line_at b stamp)
    → of_all_first accepts a second ++ of_all_second accepts b first ≡ all_differences a b accepted
all_found a b accepted accepts first second same in_first in_second = λ i.
    of_all_first (λ stamp class. same stamp class i) a (λ stamp. in_second stamp i) ++ of_all_second (λ stamp class. same stamp class i) b (λ stamp. in_first stamp i)

-- ---- one more that was accepted

turned : (a b : Bool) → (a || b) ≡ (b || a)
turned true true = refl
turned true false = refl
turned false true = refl
turned false false = refl

pub accepted_more : (accepted : List Accept) (i : ℕ) (x : Accept) → i < length accepted → x ≡ get_or accepted i x → (stamp class : ℕ) (before after : Bool) → after ≡ cond (is_eq (pair_cmp (x.stamp, x.class) (stamp, class))) true before → before ≡ is_accepted (take i accepted) stamp class → after ≡ is_accepted (take (i + 1) accepted) stamp class
accepted_more accepted i x within is stamp class before after updates same =
    let test : Accept → Bool = λ (a : Accept). (a.stamp == stamp) && (a.class == class) in
    updates
    ∙ either (is_eq (pair_cmp (x.stamp, x.class) (stamp, class))) before
    ∙ ap (λ (b : Bool). b || before) (pair_at x.stamp x.class stamp class)
    ∙ turned (test x) before
    ∙ ap (λ (b : Bool). b || test x) same
    ∙ sym (list_any_more test accepted i x within ∙ ap (λ (y : Accept). list_any test (take i accepted) || test y) (sym is))

-- ---- one more line, taken from the end

pub line_more : (lines : List Line) (step : ℕ) (x : Line) (stamp : ℕ) (before after : Option Line) → step < length lines → x ≡ get_or lines (length lines - 1 - step) x → after ≡ cond (is_eq (nat_cmp x.stamp stamp)) (Some x) before → before ≡ line_at (drop (length lines - step) lines) stamp → after ≡ line_at (drop (length lines - (step + 1)) lines) stamp
line_more lines step x stamp before after within is updates same =
    let at = length lines - 1 - step in
    let here : length lines - (step + 1) ≡ at = omega arith in
    let behind : at + 1 ≡ length lines - step = omega arith in
    updates
    ∙ ap (λ (b : Bool). cond b (Some x) before) (equal_is x.stamp stamp)
    ∙ ap (λ (o : Option Line). cond (nat_eq x.stamp stamp) (Some x) o) same
    ∙ sym (ap (λ (n : ℕ). line_at (drop n lines) stamp) here
    ∙ at_drop_more (λ (rest : List Line). line_at rest stamp) lines at x (omega arith)
    ∙ ap (λ (y : Line). cond (nat_eq y.stamp stamp) (Some y) (line_at (drop (at + 1) lines) stamp)) (sym is)
    ∙ ap (λ (n : ℕ). cond (nat_eq x.stamp stamp) (Some x) (line_at (drop n lines) stamp)) behind)
