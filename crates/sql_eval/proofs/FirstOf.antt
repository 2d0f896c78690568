-- What stands first by a total order.
use Rattle.std.proofs.Common.{◌≡◌, List, [], ◌∷◌, refl, ap, sym, subst, ◌⊎◌, inl, inr, Contains}
use Rattle.std.specs.Prelude.{Bool, true, false, Some, if◌then◌else◌}
use Rattle.std.specs.List.{fold, reduce}
use Rattle.std.specs.Ordering.{is_gt, ordering_reverse}
use Rattle.std.specs.Cmp.{IsTotalOrder}
use Rattle.std.proofs.lemmas.Cmp.{upto, tied_itself}
use Rattle.std.proofs.lemmas.Option.{same_Some}
use Rattle.std.specs.declared.cmp.Ordering.{Ordering}
use Rattle.std.specs.declared.cmp.Ordering.TheVariants.{Less, Equal, Greater}
use Rattle.sql_eval.specs.Totals.{first_of}
use Rattle.sql_eval.proofs.Moved.{Exchanges}
use Rattle.desk_schema.proofs.Members.{Contains-none, Contains-here, Contains-there, Contains-cases}

-- a total order in which only equal items tie
pub record IsExact {A : Type 0} (order : A → A → Ordering) : Type 0 where
  pub total : IsTotalOrder order
  pub exact : (a b : A) → order a b ≡ Equal → a ≡ b

module _ {A : Type 0} {order : A → A → Ordering} (laws : IsExact order) where
  -- the first stands not behind the second
  record IsUpTo (a b : A) : Type 0 where
    holds : is_gt (order a b) ≡ false

  itself : (a : A) → IsUpTo a a
  itself a = record { holds = ap is_gt (tied_itself laws.total a) }

  then_up : {a b c : A} → IsUpTo a b → IsUpTo b c → IsUpTo a c
  then_up {a} {b} {c} x y = record { holds = upto laws.total a b c x.holds y.holds }

  turned : (o p : Ordering) → o ≡ ordering_reverse p → is_gt o ≡ true → is_gt p ≡ false
  turned Greater Less e h = refl
  turned Greater Equal e h = refl
  turned Greater Greater e h = absurd (cc)
  turned Less p e h = absurd (cc)
  turned Equal p e h = absurd (cc)

  tie : (o p : Ordering) → o ≡ ordering_reverse p → is_gt o ≡ false → is_gt p ≡ false → o ≡ Equal
  tie Equal p e h k = refl
  tie Less Less e h k = absurd (cc)
  tie Less Equal e h k = absurd (cc)
  tie Less Greater e h k = absurd (cc)
  tie Greater p e h k = absurd (cc)

  same : {a b : A} → IsUpTo a b → IsUpTo b a → a ≡ b
  same {a} {b} x y = laws.exact a b (tie (order a b) (order b a) (laws.total.antisymm a b) x.holds y.holds)

  by_test : (a b : A) (g : Bool) → g ≡ is_gt (order a b) → IsUpTo (if g then b else a) a × IsUpTo (if g then b else a) b × (((if g then b else a) ≡ a) ⊎ ((if g then b else a) ≡ b))
  by_test a b true e = (record { holds = turned (order a b) (order b a) (laws.total.antisymm a b) (sym e) }, itself b, inr refl)
  by_test a b false e = (itself a, record { holds = sym e }, inl refl)

  up_left : (a b : A) → IsUpTo (first_of order a b) a
  up_left a b = (by_test a b (is_gt (order a b)) refl).0

  up_right : (a b : A) → IsUpTo (first_of order a b) b
  up_right a b = (by_test a b (is_gt (order a b)) refl).1

  one_of : (a b : A) → (first_of order a b ≡ a) ⊎ (first_of order a b ≡ b)
  one_of a b = (by_test a b (is_gt (order a b)) refl).2

  up_to_first : (z a b : A) → IsUpTo z a → IsUpTo z b → IsUpTo z (first_of order a b)
  up_to_first z a b x y = let P : A → Type 0 = λ c. IsUpTo z c in elim (one_of a b) [
    | inl e ↦ subst P (sym e) x
    | inr e ↦ subst P (sym e) y
  ]

  -- the first of three is up to each of them
  of_three : (a b c : A) → IsUpTo (first_of order (first_of order a b) c) (first_of order (first_of order a c) b)
  of_three a b c =
      let m = first_of order (first_of order a b) c in
      let left = up_left (first_of order a b) c in
      up_to_first m (first_of order a c) b
      (up_to_first m a c (then_up left (up_left a b)) (up_right (first_of order a b) c))
      (then_up left (up_right a b))

  pub first_exchanges : Exchanges (first_of order)
  first_exchanges = record {
    commutes = λ a b. same (up_to_first (first_of order a b) b a (up_right a b) (up_left a b)) (up_to_first (first_of order b a) a b (up_right b a) (up_left b a));
    exchanges = λ a b c. same (of_three a b c) (of_three a c b);
  }

  -- what stands first of some items: one of them, and behind none of them
  pub record StandsFirst (items : List A) (first : A) : Type 0 where
    pub among : Contains items first
    pub before : (other : A) → Contains items other → is_gt (order first other) ≡ false

  folded : (a : A) (xs : List A) → StandsFirst (a ∷ xs) (fold (first_of order) a xs)
  folded a [] = record {
    among = Contains-here a [];
    before = λ other c. elim (Contains-cases a [] other c) [
      | inl e ↦ let P : A → Type 0 = λ b. is_gt (order a b) ≡ false in subst P e ((itself a).holds)
      | inr d ↦ absurd (Contains-none other d)
    ];
  }
  folded a (x ∷ xs) =
      let rest = folded (first_of order a x) xs in
      let result = fold (first_of order) (first_of order a x) xs in
      let over : IsUpTo result (first_of order a x) = record { holds = rest.before (first_of order a x) (Contains-here (first_of order a x) xs) } in
      let P : A → Type 0 = λ b. Contains (a ∷ x ∷ xs) b in
      let Q : A → Type 0 = λ b. is_gt (order result b) ≡ false in
      record {
        among = elim (Contains-cases (first_of order a x) xs result rest.among) [
          | inl e ↦ subst P e (elim (one_of a x) [
            | inl f ↦ subst P (sym f) (Contains-here a (x ∷ xs))
            | inr f ↦ subst P (sym f) (Contains-there a (x ∷ xs) x (Contains-here x xs))
          ])
          | inr d ↦ Contains-there a (x ∷ xs) result (Contains-there x xs result d)
        ];
        before = λ other c. elim (Contains-cases a (x ∷ xs) other c) [
          | inl e ↦ subst Q e ((then_up over (up_left a x)).holds)
          | inr d ↦ elim (Contains-cases x xs other d) [
            | inl e ↦ subst Q e ((then_up over (up_right a x)).holds)
            | inr f ↦ rest.before other (Contains-there (first_of order a x) xs other f)
          ]
        ];
      }

  pub reduced_first : (xs : List A) (first : A) → reduce (first_of order) xs ≡ Some first → StandsFirst xs first
  reduced_first [] first e = absurd (cc)
  reduced_first (x ∷ xs) first e = let P : A → Type 0 = λ b. StandsFirst (x ∷ xs) b in subst P (same_Some (fold (first_of order) x xs) first e) (folded x xs)
