use Rattle.std.proofs.Common.{◌≡◌, ℕ, ◌+◌, ◌<◌, ◌++◌, Bool, true, false, List, [], ◌∷◌, length, get_or, drop, refl, arith, add-one, drop-cons, append_assoc}
use Rattle.sql_tree.specs.Plain.{plan_of}
use Rattle.desk_values.specs.declared.value.Value.{Value}
use Rattle.desk_values.specs.declared.value.Value.TheVariants.{Draw}
use Rattle.server_words.specs.Draws.{drawn_from, draws_from}
use Rattle.statement_acts.proofs.draws.draws_of.Goals as goal
use Rattle.statement_acts.proofs.draws.draws_of.Goals.{in-Some+in_ok-push, in_default}

module _ (draws : ℕ → Bool) (xs : List ℕ) (i : ℕ) (within : i < length xs) (made all : List Value) (before : made ++ drawn_from draws i (drop i xs) ≡ all) where
  front : drop i xs ≡ get_or xs i 0 ∷ drop (i + 1) xs
  front = rw (add-one, drop-cons xs i 0 within) refl

  drawn_more : (sequence : ℕ) → true ≡ draws i → sequence ≡ i → (made ++ Draw sequence (get_or xs i 0) ∷ []) ++ drawn_from draws (i + 1) (drop (i + 1) xs) ≡ all
  drawn_more sequence is same = rw (append_assoc, same) (rw (front, ← is) at before)

  drawn_no_more : false ≡ draws i → made ++ drawn_from draws (i + 1) (drop (i + 1) xs) ≡ all
  drawn_no_more is = rw (front, ← is) at before

pub loop-place-preserved : goal.loop-place-preserved
loop-place-preserved c =
    let draws = draws_from (plan_of c.args.statement.now) in
    elim c.match-drawn_from.branch [
      | in-Some+in_ok-push w ↦ rw (w.draws-is, w.in_ok-push.ensures.ok) (drawn_more draws c.args.next_values.now c.loop-place.place (omega arith) c.loop-place.draws _ c.loop-place.invariant w.in-Some.sequence w.in-Some.ensures.drawn w.in-Some.ensures.number)
      | in_default w ↦ rw w.draws-is (drawn_no_more draws c.args.next_values.now c.loop-place.place (omega arith) c.loop-place.draws _ c.loop-place.invariant w.in_default.ensures.drawn)
    ]
