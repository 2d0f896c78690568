-- The comparison of two lists, place by place, and of a desk with its lines, line by line.
use Rattle.std.proofs.Common.{◌≡◌, ◌≢◌, ◌∙◌, ℕ, zero, suc, ◌+◌, ◌==◌, ◌&&◌, inl, inr, Bool, true, false, IsTrue, List, [], ◌∷◌, length, take, drop, Option, None, Some, refl, sym, ap, subst}
use Rattle.std.specs.Prelude.{◌↔◌, slice_get}
use Rattle.std.specs.List.{AllByRecursion}
use Rattle.std.proofs.lemmas.Bool.{and_parts, eq-eqb, eqb-true}
use Rattle.std.proofs.lemmas.Option.{same_Some}
use Rattle.desk_values.specs.declared.call.Call.{Call}
use Rattle.desk_values.specs.declared.call.Reply.{Reply}
use Rattle.remote_link.specs.declared.heard.Heard.{Heard}
use Rattle.remote_link.specs.Heard.{AreGood, heard}
use Rattle.remote_desk.specs.Desk.{RemoteView}
use Rattle.remote_target.specs.Agreement.{AgreesAt, AgreesOn, DiffersAt, DiffersOn, LacksLast, OfLine}
use Rattle.remote_target.specs.Ends.{IsGoodHeard}
use Rattle.remote_target.specs.Inside.{Agrees}
use Rattle.remote_target.proofs.Agreeing.{all_at}

-- ---- one place

module _ (stopped : Bool) (kept answered : List Heard) (i : ℕ) (one other : Heard) (kept_at : slice_get kept i ≡ Some one) (answered_at : slice_get answered i ≡ Some other) where
  abbrev lax : Bool
  lax = stopped && (i + 1 == length answered)

  -- the call alone, where there is no reply
  without : (list : List Heard) (h : Heard) (call : Call) → slice_get list i ≡ Some h → h.call ≡ call → h.reply ≡ None → slice_get list i ≡ Some (heard call None)
  without list h call at same none = at ∙ ap (λ (c : Call). Some (heard c h.reply)) same ∙ ap (λ (r : Option Reply). Some (heard call r)) none

  lacks : (found : Option Reply) → other.reply ≡ found → lax ≡ true → one.reply ≡ None → one.call ≡ other.call → AgreesAt stopped kept answered i
  lacks None is may none same = inl (without kept one other.call kept_at same none ∙ sym (without answered other other.call answered_at refl is))
  lacks (Some reply) is may none same =
      let both = and_parts stopped (i + 1 == length answered) may in
      inr (
        both.0,
        record {
          call = other.call;
          reply = reply;
          kept_is = without kept one other.call kept_at same none;
          answered_is = answered_at ∙ ap (λ (r : Option Reply). Some (heard other.call r)) is;
          last = eqb-true (i + 1) (length answered) both.1;
        },
      )

  there : Agrees lax one other → AgreesAt stopped kept answered i
  there (inl same) = inl (kept_at ∙ ap (λ (h : Heard). Some h) same ∙ sym answered_at)
  there (inr may) = lacks other.reply refl may.0 may.1 may.2

  back : AgreesAt stopped kept answered i → Agrees lax one other
  back (inl same) = inl (same_Some one other (sym kept_at ∙ same ∙ answered_at))
  back (inr may) =
      let l : LacksLast kept answered i = may.1 in
      let here : one ≡ heard l.call None = same_Some one (heard l.call None) (sym kept_at ∙ l.kept_is) in
      let across : other ≡ heard l.call (Some l.reply) = same_Some other (heard l.call (Some l.reply)) (sym answered_at ∙ l.answered_is) in
      inr (rw (may.0, eq-eqb (i + 1) (length answered) l.last) refl, ap (λ (h : Heard). h.reply) here, ap (λ (h : Heard). h.call) here ∙ sym (ap (λ (h : Heard). h.call) across))

  pub agrees_at : Agrees lax one other ↔ AgreesAt stopped kept answered i
  agrees_at = (there, back)

  -- by what the comparison of the two answers
  pub decided : (may : Bool) → may ≡ lax → (answer : Bool) → IsTrue answer ↔ Agrees may one other → (answer ≡ true → AgreesAt stopped kept answered i) × (answer ≡ false → AgreesAt stopped kept answered i → ⊥)
  decided may is answer tells = (
    λ so. there (subst (λ (b : Bool). Agrees b one other) is (tells.0 so)),
    λ not_so at. (let so : answer ≡ true = tells.1 (subst (λ (b : Bool). Agrees b one other) (sym is) (back at)) in let clash : true ≡ false = sym so ∙ not_so in absurd cc),
  )

-- two that differ at a place are not one
pub not_one : (stopped : Bool) (kept answered : List Heard) (place : ℕ) (one other : Option Heard) → DiffersAt stopped kept answered place one other → one ≢ other
not_one stopped kept answered place one other differs same = differs.here (inl (sym differs.kept_is ∙ same ∙ differs.answered_is))

-- what stands at a place can be written
pub good_at : (list : List Heard) (place : ℕ) → AreGood list → IsGoodHeard (slice_get list place)
good_at list place good = go (slice_get list place) refl
  where
    go : (found : Option Heard) → slice_get list place ≡ found → IsGoodHeard found
    go None is = tt
    go (Some one) is = all_at _ list place one good is

-- ---- line by line

pub differs_later : (desk : RemoteView) (i : ℕ) (lines : List OfLine) (session place : ℕ) (one other : Option Heard) → AllByRecursion (AgreesOn desk) (take i lines) → DiffersOn desk (drop i lines) session place one other → DiffersOn desk lines session place one other
differs_later desk zero lines session place one other agreed differs = differs
differs_later desk (suc i) [] session place one other agreed differs = absurd differs
differs_later desk (suc i) (line ∷ lines) session place one other agreed differs = inr (agreed.0, differs_later desk i lines session place one other agreed.1 differs)

-- two that differ on some line are not one
pub not_one_on : (desk : RemoteView) (lines : List OfLine) (session place : ℕ) (one other : Option Heard) → DiffersOn desk lines session place one other → one ≢ other
not_one_on desk [] session place one other differs = absurd differs
not_one_on desk (line ∷ lines) session place one other (inl here) = not_one desk.stopped _ line.1 place one other here.1
not_one_on desk (line ∷ lines) session place one other (inr later) = not_one_on desk lines session place one other later.1
