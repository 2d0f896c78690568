-- Ids that stand for themselves: those of a start's rows, and what two equal replies give.
use Rattle.std.proofs.Common.{ℕ, List, [], ◌∷◌, ◌++◌, Option, None, Some, refl, sym, subst, ⊎_elim}
use Rattle.std.specs.List.{AllByRecursion, Contains}
use Rattle.std.proofs.lemmas.Bool.{eq-eqb}
use Rattle.std.proofs.lemmas.List.Elements.{Contains-append_left, Contains-append_right}
use Rattle.desk_values.specs.declared.value.Value.{Value}
use Rattle.desk_values.specs.declared.value.Value.TheVariants.{Null, Int, Text, Row, Draw}
use Rattle.desk_values.specs.declared.value.Image.{Image}
use Rattle.desk_values.specs.declared.call.Reply.{Reply}
use Rattle.desk_values.specs.Ids.{ids_in, ids_left}
use Rattle.desk_schema.specs.Start.{StartView}
use Rattle.desk_schema.proofs.Members.{Contains-cases, Contains-here, Contains-none, Contains-there}
use Rattle.replay_history.specs.Capture.{IsGivenBy}
use Rattle.id_pairs.specs.declared.Id.TheVariants as id
use Rattle.id_pairs.specs.Pairs.{IdPair, drawn_pair, drawn_pairs, learnt, made_pair}
use Rattle.id_pairs.specs.Renaming.{AreRenamed, IsRenamed}
use Rattle.remap_ids.specs.IdMap.{start_pairs}
use Rattle.law_server.specs.Rows.Images.{IsRenamedImage, IsRenamedLeft}
use Rattle.law_ids.proofs.Replays.Starts.{each_contained, own_id}

own_values : (pairs : List IdPair) (values : List Value) → ((v : Value) → Contains (ids_in values) v → IsRenamed pairs v v) → AreRenamed pairs values values
own_values pairs [] own = tt
own_values pairs (Null ∷ values) own = (tt, own_values pairs values own)
own_values pairs (Int n ∷ values) own = (refl, own_values pairs values own)
own_values pairs (Text t ∷ values) own = (refl, own_values pairs values own)
own_values pairs (Row n ∷ values) own = (own (Row n) (Contains-here (Row n) (ids_in values)), own_values pairs values (λ v c. own v (Contains-there (Row n) (ids_in values) v c)))
own_values pairs (Draw q n ∷ values) own = (own (Draw q n) (Contains-here (Draw q n) (ids_in values)), own_values pairs values (λ v c. own v (Contains-there (Draw q n) (ids_in values) v c)))

own_left : (pairs : List IdPair) (left : Option (List Value)) → ((v : Value) → Contains (ids_left left) v → IsRenamed pairs v v) → IsRenamedLeft pairs left left
own_left pairs None own = tt
own_left pairs (Some values) own = own_values pairs values own

own_image : (start : StartView) (image : Image) → Contains start.rows image → IsRenamedImage (start_pairs start) image image
own_image start image c = record {
  row = own_id start image (Row image.row) c (Contains-here (Row image.row) (ids_left image.left));
  table = refl;
  left = own_left (start_pairs start) image.left (λ v d. own_id start image v c (Contains-there (Row image.row) (ids_left image.left) v d));
}

-- so do the rows of the start
pub own_rows : (start : StartView) → AllByRecursion (λ image. IsRenamedImage (start_pairs start) image image) start.rows
own_rows start = each_contained _ start.rows (own_image start)

-- ---- what a reply gives

own_draws : (draws : List Value) (q n : ℕ) → Contains draws (Draw q n) → Contains (drawn_pairs draws draws) (id.Draw q n, id.Draw q n)
own_draws [] q n c = absurd (Contains-none (Draw q n) c)
own_draws (draw ∷ draws) q n c = ⊎_elim
    (λ is. Contains-append_left (drawn_pair draw draw) (drawn_pairs draws draws) _ (subst (λ (v : Value). Contains (drawn_pair v v) (id.Draw q n, id.Draw q n)) (sym is) (rw (eq-eqb q q refl) (Contains-here (id.Draw q n, id.Draw q n) []))))
    (λ later. Contains-append_right (drawn_pair draw draw) (drawn_pairs draws draws) _ (own_draws draws q n later))
    (Contains-cases draw draws (Draw q n) c)

-- an id that a reply gives is learnt with itself, where the other reply is the same
pub own_given : (pairs : List IdPair) (reply : Reply) (v : Value) → IsGivenBy v reply → IsRenamed (pairs ++ learnt reply reply) v v
own_given pairs reply (Row n) given = Contains-append_right pairs (learnt reply reply) _ (Contains-append_right (drawn_pairs reply.draws reply.draws) (made_pair reply.made reply.made) _ (subst (λ (made : Option ℕ). Contains (made_pair made made) (id.Row n, id.Row n)) (sym given) (Contains-here (id.Row n, id.Row n) [])))
own_given pairs reply (Draw q n) given = Contains-append_right pairs (learnt reply reply) _ (Contains-append_left (drawn_pairs reply.draws reply.draws) (made_pair reply.made reply.made) _ (own_draws reply.draws q n (subst (Contains reply.draws) given.4 (given.0, given.2, given.3))))
own_given pairs reply v given = absurd given
