-- A fact is handed along equations, several at a time.
use Rattle.std.proofs.Common.{◌≡◌, subst}

-- a fact of some things is one of equal ones
pub along : {A B C : Type 0} (P : A → B → C → Type 0) {a a' : A} {b b' : B} {c c' : C} → a ≡ a' → b ≡ b' → c ≡ c' → P a b c → P a' b' c'
along P {a' = a'} {b = b} {b' = b'} {c = c} p q r here = subst (λ z. P a' b' z) r (subst (λ y. P a' y c) q (subst (λ x. P x b c) p here))

pub along_four : {A B C D : Type 0} (P : A → B → C → D → Type 0) {a a' : A} {b b' : B} {c c' : C} {d d' : D} → a ≡ a' → b ≡ b' → c ≡ c' → d ≡ d' → P a b c d → P a' b' c' d'
along_four P {a' = a'} {b' = b'} {c' = c'} {d = d} p q r s here = subst (λ x. P a' b' c' x) s (along (λ x y z. P x y z d) p q r here)

pub along_five : {A B C D E : Type 0} (P : A → B → C → D → E → Type 0) {a a' : A} {b b' : B} {c c' : C} {d d' : D} {e e' : E} → a ≡ a' → b ≡ b' → c ≡ c' → d ≡ d' → e ≡ e' → P a b c d e → P a' b' c' d' e'
along_five P {a' = a'} {b' = b'} {c' = c'} {d' = d'} {e = e} p q r s t here = subst (λ x. P a' b' c' d' x) t (along_four (λ w x y z. P w x y z e) p q r s here)

pub along_six : {A B C D E F : Type 0} (P : A → B → C → D → E → F → Type 0) {a a' : A} {b b' : B} {c c' : C} {d d' : D} {e e' : E} {f f' : F} → a ≡ a' → b ≡ b' → c ≡ c' → d ≡ d' → e ≡ e' → f ≡ f' → P a b c d e f → P a' b' c' d' e' f'
along_six P {a' = a'} {b' = b'} {c' = c'} {d' = d'} {e' = e'} {f = f} p q r s t u here = subst (λ x. P a' b' c' d' e' x) u (along_five (λ v w x y z. P v w x y z f) p q r s t here)
