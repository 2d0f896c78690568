-- The answer to a change is one.
use Rattle.std.proofs.Common.{◌≡◌, ◌∙◌, ℕ, ◌+◌, List, [], ◌∷◌, sym, ap, subst, inl, inr}
use Rattle.std.proofs.lemmas.Option.{same_Some}
use Rattle.desk_schema.specs.Start.{StartView}
use Rattle.desk_schema.specs.Change.{ChangesTo, IsFirstBad, MayChange}

one_next : (start : StartView) (fields : List (List ℕ)) (a b : StartView) → MayChange start fields a → MayChange start fields b → a ≡ b
one_next start fields a b first second = same_Some a b (sym first.makes ∙ second.makes)

pub one_last : (start : StartView) (records : List (List (List ℕ))) (a b : StartView) → ChangesTo start records a → ChangesTo start records b → a ≡ b
one_last start [] a b first second = first ∙ sym second
one_last start (fields ∷ records) a b first second =
    let same = one_next start fields first.0 second.0 first.1 second.1 in
    one_last second.0 records a b (subst (λ (s : StartView). ChangesTo s records a) same first.2) second.2

pub never_both : (start : StartView) (records : List (List (List ℕ))) (last : StartView) (n : ℕ) → ChangesTo start records last → IsFirstBad start records n → ⊥
never_both start [] last n to bad = absurd bad
never_both start (fields ∷ records) last n to (inl first) = first.1 to.0 to.1
never_both start (fields ∷ records) last n to (inr later) =
    let same = one_next start fields to.0 later.0 to.1 later.3 in
    never_both later.0 records last later.1 (subst (λ (s : StartView). ChangesTo s records last) same to.2) later.4

pub one_bad : (start : StartView) (records : List (List (List ℕ))) (m n : ℕ) → IsFirstBad start records m → IsFirstBad start records n → m ≡ n
one_bad start [] m n first second = absurd first
one_bad start (fields ∷ records) m n (inl first) (inl second) = first.0 ∙ sym second.0
one_bad start (fields ∷ records) m n (inl first) (inr later) = absurd (first.1 later.0 later.3)
one_bad start (fields ∷ records) m n (inr later) (inl first) = absurd (first.1 later.0 later.3)
one_bad start (fields ∷ records) m n (inr one) (inr two) =
    let same = one_next start fields one.0 two.0 one.3 two.3 in
    one.2 ∙ ap (λ k. k + 1) (one_bad two.0 records one.1 two.1 (subst (λ (s : StartView). IsFirstBad s records one.1) same one.4) two.4) ∙ sym two.2
