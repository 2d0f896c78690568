use Rattle.std.proofs.Common.{◌≡◌, ◌+◌, ◌<◌, List, [], ◌∷◌, ◌++◌, length, take, ap, sym, subst, ◌∙◌, arith}
use Rattle.std.specs.List.{AllZip}
use Rattle.std.proofs.lemmas.List.{take_more}
use Rattle.server_words.specs.declared.session.Savepoint.{Savepoint}
use Rattle.server_words.specs.declared.views.Point.{Point}
use Rattle.server_words.specs.Views.{IsPointOf}
use Rattle.server_words.proofs.Handing.{zip_push}
use Rattle.machine_model.proofs.viewing.points_of.Goals as goal

pub loop-savepoint-preserved : goal.loop-savepoint-preserved
loop-savepoint-preserved c =
    let savepoints = c.args.savepoints.now in
    let i = c.loop-savepoint.savepoint-index in
    let one = c.savepoint-item.result in
    let within : i < length savepoints = omega arith in
    let front : take (i + 1) savepoints ≡ take i savepoints ++ one ∷ [] = take_more savepoints i one within ∙ ap (λ (s : Savepoint). take i savepoints ++ s ∷ []) (sym c.savepoint-item.is) in
    let zipped = zip_push IsPointOf (take i savepoints) c.loop-savepoint.points one c.in_ok-point_of.field-0 c.loop-savepoint.invariant c.in_ok-point_of.ensures in
    subst (λ (points : List Point). AllZip IsPointOf (take (i + 1) savepoints) points) (sym c.in_ok-push.ensures.ok)
    (subst (λ (taken : List Savepoint). AllZip IsPointOf taken (c.loop-savepoint.points ++ c.in_ok-point_of.field-0 ∷ [])) (sym front) zipped)
