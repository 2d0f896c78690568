-- The pairs of a remote history are of like ids, whatever another server answers.
use Rattle.std.proofs.Common.{◌≡◌, ℕ, true, false, ◌==◌, if◌then◌else◌, inl, inr, List, [], ◌∷◌, ◌++◌, Option, None, Some, refl}
use Rattle.std.specs.Prelude.{slice_get}
use Rattle.std.specs.List.{flat_map, fold}
use Rattle.std.proofs.lemmas.Bool.{cases_Bool, eqb-true}
use Rattle.desk_values.specs.declared.value.Value.{Value}
use Rattle.desk_values.specs.declared.value.Value.TheVariants.{Draw}
use Rattle.desk_values.specs.declared.call.Reply.{Reply}
use Rattle.desk_values.specs.declared.capture.Captured.{Captured}
use Rattle.desk_values.specs.Ids.{ids_of_image}
use Rattle.desk_schema.proofs.Distinct.{all-push}
use Rattle.id_pairs.specs.declared.Id.{Id}
use Rattle.id_pairs.specs.declared.Id.TheVariants as id
use Rattle.id_pairs.specs.Ids.{id_of}
use Rattle.id_pairs.specs.Pairs.{AreLike, IdPair, all_new, drawn_pair, drawn_pairs, is_known, made_pair, with_new}
use Rattle.remap_ids.specs.IdMap.{own_pair, own_pairs, start_pairs}
use Rattle.replay_job.specs.Job.{JobView}
use Rattle.replay_job.specs.Runs.{learnt_from}
use Rattle.remote_desk.specs.declared.event.RemoteEvent.{RemoteEvent}
use Rattle.remote_desk.specs.declared.event.RemoteEvent.TheVariants.{Start, Sent, Answer}
use Rattle.remote_desk.specs.History.{pairs_behind, with_pairs}
use Rattle.remote_desk.specs.Said.{AreAlike}

joined : (pairs others : List IdPair) → AreAlike pairs → AreAlike others → AreAlike (pairs ++ others)
joined [] others first second = second
joined (pair ∷ pairs) others first second = (first.0, joined pairs others first.1 second)

-- ---- what is learnt

drawn_alike : (v w : Value) → AreAlike (drawn_pair v w)
drawn_alike (Draw p m) (Draw q n) = elim (p == q) as (λ b. p == q ≡ b → AreAlike (if b then (id.Draw p m, id.Draw q n) ∷ [] else [])) [ true ↦ λ same. (eqb-true p q same, tt) | false ↦ λ apart. tt ] refl
drawn_alike v w = tt

draws_alike : (draws others : List Value) → AreAlike (drawn_pairs draws others)
draws_alike (v ∷ draws) (w ∷ others) = joined (drawn_pair v w) (drawn_pairs draws others) (drawn_alike v w) (draws_alike draws others)
draws_alike draws others = tt

made_alike : (m n : Option ℕ) → AreAlike (made_pair m n)
made_alike (Some m) (Some n) = (tt, tt)
made_alike m n = tt

learnt_alike : (call : Option Captured) (reply : Reply) → AreAlike (learnt_from call reply)
learnt_alike None reply = tt
learnt_alike (Some call) reply = joined (drawn_pairs call.reply.draws reply.draws) (made_pair call.reply.made reply.made) (draws_alike call.reply.draws reply.draws) (made_alike call.reply.made reply.made)

-- ---- one pair more, and some

one_more : (pairs : List IdPair) (pair : IdPair) → AreAlike pairs → AreLike pair.0 pair.1 → AreAlike (with_new pairs pair)
one_more pairs pair are like = elim (cases_Bool (is_known pairs pair)) [
  | inl known ↦ rw known are
  | inr new ↦ rw new (all-push (λ (p : IdPair). AreLike p.0 p.1) pairs pair are like)
]

some_more : (others pairs : List IdPair) → AreAlike pairs → AreAlike others → AreAlike (all_new pairs others)
some_more [] pairs are likes = are
some_more (pair ∷ others) pairs are likes = some_more others (with_new pairs pair) (one_more pairs pair are likes.0) likes.1

-- ---- those of the start

own_like : (x : Id) → AreLike x x
own_like (id.Row n) = tt
own_like (id.Draw q n) = refl

pair_alike : (x : Option Id) → AreAlike (own_pair x)
pair_alike None = tt
pair_alike (Some x) = (own_like x, tt)

own_alike : (values : List Value) → AreAlike (own_pairs values)
own_alike [] = tt
own_alike (value ∷ values) = joined (own_pair (id_of value)) (own_pairs values) (pair_alike (id_of value)) (own_alike values)

-- ---- those behind events

more_alike : (calls : List Captured) (events : List RemoteEvent) (pairs : List IdPair) → AreAlike pairs → AreAlike (fold (with_pairs calls) pairs events)
more_alike calls [] pairs are = are
more_alike calls (Start k pause ∷ events) pairs are = more_alike calls events pairs are
more_alike calls (Sent k call ∷ events) pairs are = more_alike calls events pairs are
more_alike calls (Answer k reply ∷ events) pairs are =
    let found = learnt_from (slice_get calls k) reply in
    more_alike calls events (all_new pairs found) (some_more found pairs are (learnt_alike (slice_get calls k) reply))

pub behind_alike : (job : JobView) (events : List RemoteEvent) → AreAlike (pairs_behind job events)
behind_alike job events =
    let own = own_pairs (flat_map ids_of_image job.start.rows) in
    more_alike job.calls events (start_pairs job.start) (some_more own [] tt (own_alike (flat_map ids_of_image job.start.rows)))
