-- What a door has said beside what was kept.
use Rattle.std.proofs.Common.{◌≡◌, ◌∙◌, ℕ, ◌+◌, ◌-◌, Bool, true, false, List, [], ◌∷◌, length, map, drop, refl, sym, ap, cond, arith, inl, inr}
use Rattle.std.specs.Prelude.{Option, None, Some, nat_eq, min}
use Rattle.std.specs.Bool.{Decides}
use Rattle.std.specs.Cmp.Lexicographic.{pointwise}
use Rattle.std.proofs.lemmas.Bool.{and_parts, eqb-true, cases_Bool}
use Rattle.std.proofs.lemmas.Bool.Decides.{Decides-eqb}
use Rattle.std.proofs.Math.Dec.{eqb-suc-zero, eqb-zero-suc}
use Rattle.std.proofs.lemmas.Slice.Eq.{slice_eq-Decides}
use Rattle.std.proofs.lemmas.List.{length-map, length-drop}
use Rattle.desk_values.specs.declared.value.Value.{Value}
use Rattle.desk_values.specs.declared.call.Call.{Call}
use Rattle.desk_values.specs.declared.call.Call.TheVariants.{Connect, Sql, Disconnect}
use Rattle.desk_values.specs.declared.capture.Captured.{Captured}
use Rattle.captured_calls.specs.Same.{same_values}
use Rattle.captured_calls.proofs.Sameness.{reply_is, reply_self, value_decided}
use Rattle.capture_recorder.specs.declared.door.Said.{Said}
use Rattle.capture_recorder.specs.Gathering.{first_difference, said_of, same_call, same_said}

-- ---- equal calls

texts : (a b : List ℕ) → Decides (pointwise nat_eq a b) (a ≡ b)
texts a b = slice_eq-Decides Decides-eqb a b _ refl

values : (a b : List Value) → Decides (same_values a b) (a ≡ b)
values a b = slice_eq-Decides value_decided a b _ refl

call_is : (a b : Call) → same_call a b ≡ true → a ≡ b
call_is (Connect a) (Connect b) e = ap (λ t. Connect t) ((texts a b).0 e)
call_is (Sql a xs) (Sql b ys) e =
    let two = and_parts (pointwise nat_eq a b) (same_values xs ys) e in
    ap (λ t. Sql t xs) ((texts a b).0 two.0) ∙ ap (λ vs. Sql b vs) ((values xs ys).0 two.1)
call_is Disconnect Disconnect e = refl
call_is _ _ e = cc

call_self : (a : Call) → same_call a a ≡ true
call_self (Connect a) = (texts a a).1 refl
call_self (Sql a xs) = rw ((texts a a).1 refl, (values xs xs).1 refl) refl
call_self Disconnect = refl

pub call_decided : (a b : Call) → Decides (same_call a b) (a ≡ b)
call_decided a b = (call_is a b, λ e. ap (same_call a) (sym e) ∙ call_self a)

said_is : (a b : Said) → same_said a b ≡ true → a ≡ b
said_is a b e =
    let two = and_parts (same_call a.call b.call) _ e in
    let call : a.call ≡ b.call = call_is a.call b.call two.0 in
    let reply : a.reply ≡ b.reply = reply_is a.reply b.reply two.1 in
    λ i. record { call = call i; reply = reply i }

said_self : (a : Said) → same_said a a ≡ true
said_self a = rw (call_self a.call, reply_self a.reply) refl

-- ---- the first difference

pub none_differs : (place : ℕ) (xs ys : List Said) → first_difference place xs ys ≡ None → xs ≡ ys
none_differs place [] [] none = refl
none_differs place (x ∷ xs) [] none = cc
none_differs place [] (y ∷ ys) none = cc
none_differs place (x ∷ xs) (y ∷ ys) none = elim (cases_Bool (same_said x y)) [
  | inl same ↦ (
      let rest = none_differs (place + 1) xs ys (sym (ap (λ (b : Bool). cond b (first_difference (place + 1) xs ys) (Some place)) same) ∙ none) in
      ap (λ (z : Said). z ∷ xs) (said_is x y same) ∙ ap (λ (zs : List Said). y ∷ zs) rest)
  | inr other ↦ (let is : ◌≡◌ {A = Option ℕ} (Some place) None = sym (ap (λ (b : Bool). cond b (first_difference (place + 1) xs ys) (Some place)) other) ∙ none in cc)
]

pub equal_differ : (place : ℕ) (xs : List Said) → first_difference place xs xs ≡ None
equal_differ place [] = refl
equal_differ place (x ∷ xs) = ap (λ (b : Bool). cond b (first_difference (place + 1) xs xs) (Some place)) (said_self x) ∙ equal_differ (place + 1) xs

module _ (kept : List Captured) (said : List Said) (place : ℕ) where
  abbrev from : ℕ → Option ℕ
  from i = first_difference i (map said_of (drop i kept)) (drop i said)

  at_end : (xs ys : List Said) → min (length xs) (length ys) ≡ 0 → first_difference place xs ys ≡ cond (nat_eq (length xs) (length ys)) None (Some place)
  at_end [] [] none = refl
  at_end (x ∷ xs) [] none = sym (ap (λ (b : Bool). cond b None (Some place)) (eqb-suc-zero (length xs)))
  at_end [] (y ∷ ys) none = sym (ap (λ (b : Bool). cond b None (Some place)) (eqb-zero-suc (length ys)))
  at_end (x ∷ xs) (y ∷ ys) none = absurd (omega (arith, none))

  module _ (last : place ≡ min (length kept) (length said)) (so_far : from place ≡ from 0) where
    lefts : (length (map said_of (drop place kept)) ≡ length kept - place) × (length (drop place said) ≡ length said - place)
    lefts = (length-map (drop place kept) said_of ∙ length-drop place kept, length-drop place said)

    ended : from place ≡ cond (nat_eq (length (map said_of (drop place kept))) (length (drop place said))) None (Some place)
    ended = at_end (map said_of (drop place kept)) (drop place said) (omega (arith, lefts.0, lefts.1, last))

    pub differ_last : (length kept ≡ length said → ⊥) → Some place ≡ from 0
    differ_last other = sym (ended ∙ ap (λ (b : Bool). cond b None (Some place)) (apart (nat_eq (length (map said_of (drop place kept))) (length (drop place said))) refl)) ∙ so_far
      where
        apart : (b : Bool) → nat_eq (length (map said_of (drop place kept))) (length (drop place said)) ≡ b → nat_eq (length (map said_of (drop place kept))) (length (drop place said)) ≡ false
        apart true is = (let same = eqb-true _ _ is in absurd (other (omega (arith, lefts.0, lefts.1, last, same))))
        apart false is = is
