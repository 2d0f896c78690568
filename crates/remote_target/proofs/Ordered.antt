-- What a line heard that agrees with a desk: the first calls of its session, in order.
use Rattle.std.proofs.Common.{◌≡◌, ℕ, zero, suc, inl, inr, true, List, [], ◌∷◌, map, Option, None, Some, refl, sym, ap, subst, ◌∙◌}
use Rattle.std.specs.Prelude.{slice_get}
use Rattle.std.proofs.lemmas.Bool.{cases_Bool}
use Rattle.std.proofs.lemmas.Option.{same_Some}
use Rattle.desk_values.specs.declared.value.Value.{Value}
use Rattle.desk_values.specs.declared.value.Value.TheVariants as value
use Rattle.desk_values.specs.declared.call.Call.{Call}
use Rattle.desk_values.specs.declared.call.Call.TheVariants.{Connect, Sql, Disconnect}
use Rattle.captured_calls.specs.Sessions.{calls_of}
use Rattle.desk_values.specs.declared.capture.Captured.{Captured}
use Rattle.id_pairs.specs.declared.Id.{Id}
use Rattle.id_pairs.specs.declared.Id.TheVariants.{Row, Draw}
use Rattle.id_pairs.specs.Ids.{id_value, same_id}
use Rattle.id_pairs.specs.Pairs.{AreLike, IdPair, image_in}
use Rattle.id_pairs.proofs.SameIds.{same_decides}
use Rattle.remap_ids.specs.Sent.{sent, sent_value, unknown}
use Rattle.remap_ids.specs.Services.{ServicePair}
use Rattle.std.specs.Option.{unwrap_or}
use Rattle.replay_job.specs.Job.{JobView}
use Rattle.law_histories.proofs.Items.{kept_at}
use Rattle.remote_link.specs.declared.heard.Heard.{Heard}
use Rattle.remote_link.specs.Heard.{heard}
use Rattle.remote_desk.specs.declared.event.RemoteEvent.{RemoteEvent}
use Rattle.remote_desk.specs.Desk.{IsKept, RemoteView}
use Rattle.remote_desk.specs.Said.{AreAlike, AreInOrder as AreSentInOrder, said_in, sent_in}
use Rattle.remote_desk.proofs.Replies.{said_calls}
use Rattle.remote_target.specs.Agreement.{AgreesIn, OfLine}
use Rattle.remote_target.specs.Inside.{AreAgreed, AreSentInOrder as LinesAreInOrder}
use Rattle.remote_target.specs.Lines.{IsSentFor, IsInOrder, IsValueOf, AreBindsOf}
use Rattle.remote_target.specs.Spoken.{IsOwn}

-- ---- what is sent in the place of a call

module _ (pairs : List IdPair) (alike : AreAlike pairs) where
  image_alike : (x y : Id) → image_in pairs x ≡ Some y → AreLike x y
  image_alike x y at = go pairs alike at
    where
      go : (list : List IdPair) → AreAlike list → image_in list x ≡ Some y → AreLike x y
      go [] are at = absurd cc
      go (pair ∷ list) are at = elim (cases_Bool (same_id x pair.0)) [
        | inl is_so ↦
            let is : pair.1 ≡ y = same_Some pair.1 y (rw is_so at at) in
            let one : x ≡ pair.0 = (same_decides x pair.0).0 is_so in
            subst (AreLike x) is (subst (λ (z : Id). AreLike z pair.1) (sym one) are.0)
        | inr is_not ↦ go list are.1 (rw is_not at at)
      ]

  row_like : (n : ℕ) (y : Id) → AreLike (Row n) y → IsValueOf (value.Row n) (id_value y)
  row_like n (Row m) like = tt
  row_like n (Draw q m) like = absurd like

  draw_like : (p n : ℕ) (y : Id) → AreLike (Draw p n) y → IsValueOf (value.Draw p n) (id_value y)
  draw_like p n (Row m) like = absurd like
  draw_like p n (Draw q m) like = like

  row_of : (n : ℕ) (found : Option Id) → image_in pairs (Row n) ≡ found → IsValueOf (value.Row n) (id_value (unwrap_or found (unknown (Row n))))
  row_of n None is = tt
  row_of n (Some y) is = row_like n y (image_alike (Row n) y is)

  draw_of : (p n : ℕ) (found : Option Id) → image_in pairs (Draw p n) ≡ found → IsValueOf (value.Draw p n) (id_value (unwrap_or found (unknown (Draw p n))))
  draw_of p n None is = refl
  draw_of p n (Some y) is = draw_like p n y (image_alike (Draw p n) y is)

  value_of : (v : Value) → IsValueOf v (sent_value pairs v)
  value_of value.Null = refl
  value_of (value.Int n) = refl
  value_of (value.Text t) = refl
  value_of (value.Row n) = row_of n (image_in pairs (Row n)) refl
  value_of (value.Draw p n) = draw_of p n (image_in pairs (Draw p n)) refl

  binds_of : (values : List Value) → AreBindsOf values (map (sent_value pairs) values)
  binds_of [] = tt
  binds_of (v ∷ values) = (value_of v, binds_of values)

  call_of : (services : List ServicePair) (call : Call) → IsSentFor call (sent pairs services call)
  call_of services (Connect service) = tt
  call_of services (Sql text binds) = (refl, binds_of binds)
  call_of services Disconnect = tt

-- ---- a line

map_at : {A B : Type 0} (f : A → B) (xs : List A) (i : ℕ) (x : A) → slice_get xs i ≡ Some x → slice_get (map f xs) i ≡ Some (f x)
map_at f [] i x at = absurd cc
map_at f (y ∷ xs) zero x at = let same : y ≡ x = same_Some y x at in rw same refl
map_at f (y ∷ xs) (suc i) x at = map_at f xs i x at

module _ (job : JobView) (events : List RemoteEvent) (order : AreSentInOrder job events) (session : ℕ) where
  kept_in_order : (i : ℕ) (one : Heard) (call : Call) → slice_get (said_in job.calls events session) i ≡ Some one → one.call ≡ call
      → (captured : Captured) × (slice_get (calls_of session job.calls) i ≡ Some captured) × IsSentFor captured.call call
  kept_in_order i one call at same =
      let there : slice_get (sent_in job.calls events session) i ≡ Some one.call =
      ap (λ (l : List Call). slice_get l i) (sym (said_calls job.calls events session)) ∙ map_at (λ (h : Heard). h.call) (said_in job.calls events session) i one at in
      let by = order session i one.call there in
      let pairs = by.2.0 in
      (by.0, by.1, subst (IsSentFor by.0.call) (sym by.2.2 ∙ same) (call_of pairs by.2.1 job.remap by.0.call))

  pub in_order : (answered : List Heard) → AgreesIn true (said_in job.calls events session) answered → IsInOrder (calls_of session job.calls) answered
  in_order answered agrees i one at = elim (agrees i) [
    | inl same ↦ kept_in_order i one one.call (same ∙ at) refl
    | inr lacks ↦
        let is : heard lacks.1.call (Some lacks.1.reply) ≡ one = same_Some _ one (sym lacks.1.answered_is ∙ at) in
        kept_in_order i (heard lacks.1.call None) one.call lacks.1.kept_is (ap (λ (h : Heard). h.call) is)
  ]

pub all_in_order : (desk : RemoteView) (lines : List OfLine) → IsKept desk → AreAgreed desk lines → LinesAreInOrder desk.job lines
all_in_order desk [] kept agreed = tt
all_in_order desk (line ∷ lines) kept agreed = (in_order desk.job desk.events kept.order line.0 line.1 agreed.0, all_in_order desk lines kept agreed.1)

-- what the line tells is so too
pub own_in_order : (own : List Captured) (list told : List Heard) → IsInOrder own list → IsOwn list told → IsInOrder own told
own_in_order own list told order (inl same) = subst (IsInOrder own) same order
own_in_order own list told order (inr more) = λ i one at. order i one (subst (λ (l : List Heard). slice_get l i ≡ Some one) (sym more.1) (kept_at told (heard more.0 None ∷ []) i one at))
