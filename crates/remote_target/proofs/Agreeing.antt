-- A desk that agrees with its lines and has every call answered keeps just what they heard.
use Rattle.std.proofs.Common.{◌≡◌, ℕ, zero, suc, inl, inr, true, List, [], ◌∷◌, None, Some, refl, sym, ap, subst, ◌∙◌}
use Rattle.std.specs.Prelude.{slice_get}
use Rattle.std.specs.List.{AllByRecursion}
use Rattle.std.proofs.lemmas.Option.{same_Some}
use Rattle.replay_history.specs.History.{AnswersAll}
use Rattle.remote_link.specs.declared.heard.Heard.{Heard}
use Rattle.remote_link.specs.Heard.{heard}
use Rattle.remote_desk.specs.Desk.{RemoteView}
use Rattle.remote_desk.specs.History.{plain}
use Rattle.remote_desk.proofs.Replies.{said_replied}
use Rattle.remote_target.specs.Agreement.{AgreesIn, AgreesOn, LacksLast, OfLine, kept_of}
use Rattle.remote_target.specs.Inside.{AreAgreed}
use Rattle.remote_target.specs.Spoken.{HasReply}

same_at : {X : Type 0} (xs ys : List X) → ((i : ℕ) → slice_get xs i ≡ slice_get ys i) → xs ≡ ys
same_at [] [] each = refl
same_at [] (y ∷ ys) each = absurd (let none = each zero in cc)
same_at (x ∷ xs) [] each = absurd (let some = each zero in cc)
same_at {X = X} (x ∷ xs) (y ∷ ys) each =
    let head : x ≡ y = same_Some x y (each zero) in
    let tail : xs ≡ ys = same_at xs ys (λ i. each (suc i)) in
    ap (λ (z : X). z ∷ xs) head ∙ ap (λ (l : List X). y ∷ l) tail

pub all_at : {X : Type 0} (P : X → Type 0) (xs : List X) (i : ℕ) (x : X) → AllByRecursion P xs → slice_get xs i ≡ Some x → P x
all_at P [] i x all at = absurd cc
all_at {X = X} P (y ∷ xs) zero x all at = let same : y ≡ x = same_Some y x at in subst P same all.0
all_at P (y ∷ xs) (suc i) x all at = all_at P xs i x all.1 at

none_lacks : (kept answered : List Heard) (i : ℕ) → AllByRecursion HasReply kept → LacksLast kept answered i → ⊥
none_lacks kept answered i replied lacks = let there = all_at HasReply kept i (heard lacks.call None) replied lacks.kept_is in cc (there.1)

pub agreed_same : (kept answered : List Heard) → AllByRecursion HasReply kept → AgreesIn true kept answered → answered ≡ kept
agreed_same kept answered replied agrees = same_at answered kept (λ i. elim (agrees i) [ inl same ↦ sym same | inr lacks ↦ absurd (none_lacks kept answered i replied lacks.1) ])

pub all_same : (desk : RemoteView) (lines : List OfLine) → AnswersAll desk.job.calls (plain desk.events) → AreAgreed desk lines → AllByRecursion (λ (line : OfLine). line.1 ≡ kept_of desk line.0) lines
all_same desk [] whole agreed = tt
all_same desk (line ∷ lines) whole agreed =
    (agreed_same (kept_of desk line.0) line.1 (said_replied desk.job.calls desk.events line.0 whole) agreed.0, all_same desk lines whole agreed.1)

-- what is the same for a desk that goes on is so for one that may stop
pub agrees_laxer : (desk : RemoteView) (line : OfLine) → AgreesOn desk line → AgreesIn true (kept_of desk line.0) line.1
agrees_laxer desk line agrees = λ i. elim (agrees i) [ inl same ↦ inl same | inr lacks ↦ inr (refl, lacks.1) ]

pub all_agreed : (desk : RemoteView) (lines : List OfLine) → AllByRecursion (AgreesOn desk) lines → AreAgreed desk lines
all_agreed desk [] all = tt
all_agreed desk (line ∷ lines) all = (agrees_laxer desk line all.0, all_agreed desk lines all.1)

-- what is the same agrees
pub same_agreed : (desk : RemoteView) (lines : List OfLine) → AllByRecursion (λ (line : OfLine). line.1 ≡ kept_of desk line.0) lines → AreAgreed desk lines
same_agreed desk [] same = tt
same_agreed desk (line ∷ lines) same = ((λ i. inl (ap (λ (l : List Heard). slice_get l i) (sym same.0))), same_agreed desk lines same.1)
