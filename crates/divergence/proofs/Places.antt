-- The place of the class in the table.
use Rattle.std.proofs.Common.{◌≡◌, Bool, true, false, cond, drop, ℕ, Option, None, Some, refl}
use Rattle.std.specs.List.{AllByRecursion, find}
use Rattle.std.specs.Option.{unwrap_or}
use Rattle.replay_history.specs.declared.report.Class.{Class}
use Rattle.replay_history.specs.declared.report.Class.TheVariants.{Same, NewError, GoneError, MutatedError, RowsModified, RowsFetched, RowContents, Images, Shape}
use Rattle.divergence.specs.Class.{fits, lines}
use Rattle.divergence.specs.Laws.{ClassesByPlace, lines_above}

module _ (b : Class → Bool) (same : b Same ≡ true) where
  abbrev IsPlaced : Class → Type 0
  IsPlaced class = (b class ≡ true) × AllByRecursion (λ line. b line ≡ false) (lines_above class)

  -- what the lines from this place on give
  abbrev from : ℕ → Class
  from place = unwrap_or (find b (drop place lines)) Same

  either : (v : Bool) (class : Class) (o : Option Class) → (v ≡ true → IsPlaced class) → (v ≡ false → IsPlaced (unwrap_or o Same)) → IsPlaced (unwrap_or (cond v (Some class) o) Same)
  either true class o here later = here refl
  either false class o here later = later refl

  step : (class : Class) (o : Option Class) → (b class ≡ true → IsPlaced class) → (b class ≡ false → IsPlaced (unwrap_or o Same)) → IsPlaced (unwrap_or (cond (b class) (Some class) o) Same)
  step class = either (b class) class

  pub first_placed : IsPlaced (from 0)
  first_placed = step NewError (find b (drop 1 lines)) (λ t. (t, tt)) (λ f.
      step GoneError (find b (drop 2 lines)) (λ t. (t, (f, tt))) (λ g.
      step MutatedError (find b (drop 3 lines)) (λ t. (t, (f, (g, tt)))) (λ h.
      step RowsModified (find b (drop 4 lines)) (λ t. (t, (f, (g, (h, tt))))) (λ i.
      step RowsFetched (find b (drop 5 lines)) (λ t. (t, (f, (g, (h, (i, tt)))))) (λ j.
      step RowContents (find b (drop 6 lines)) (λ t. (t, (f, (g, (h, (i, (j, tt))))))) (λ k.
      step Images (find b (drop 7 lines)) (λ t. (t, (f, (g, (h, (i, (j, (k, tt)))))))) (λ l.
      step Shape None (λ t. (t, (f, (g, (h, (i, (j, (k, (l, tt))))))))) (λ m.
      (same, (f, (g, (h, (i, (j, (k, (l, (m, tt)))))))))))))))))

pub placed : ClassesByPlace
placed pairs captured replayed = first_placed (fits pairs captured.outcome replayed.outcome) refl
