-- By stamp the places of the answers, as events are gone through.
use Rattle.std.proofs.Common.{◌≡◌, ◌≢◌, ◌∙◌, ℕ, ◌<◌, ◌≤◌, inl, inr, List, [], ◌∷◌, ◌++◌, length, replicate, set, Option, None, Some, refl, sym, ap, subst, arith}
use Rattle.std.specs.Prelude.{slice_get, slice_index_or}
use Rattle.std.specs.Option.{option_or}
use Rattle.std.proofs.lemmas.Bool.{cases_eq, cases_lt, eq-eqb, ne_eqb}
use Rattle.std.proofs.lemmas.List.{get_or_past, get_or-replicate, get_or-set_other, get_or-set_same, length-replicate, length-set}
use Rattle.std.proofs.lemmas.Option.{same_Some, slice_get-get_or}
use Rattle.desk_values.specs.declared.call.Reply.{Reply}
use Rattle.law_histories.proofs.Items.{kept_at, last_at}
use Rattle.remote_desk.specs.declared.event.RemoteEvent.{RemoteEvent}
use Rattle.remote_desk.specs.declared.event.RemoteEvent.TheVariants.{Start, Sent, Answer}
use Rattle.remote_desk.specs.Said.{reply_by, reply_to}
use Rattle.remote_desk.proofs.Replies.{reply_more}
use Rattle.remote_target.specs.Inside.{ArePlaces, IsPlace, noted, noted_by, reply_of}

pub none_placed : (count : ℕ) → ArePlaces [] count (replicate count None)
none_placed count = record {
  len = length-replicate count None;
  each = λ k lt. subst (IsPlace k []) (sym (get_or-replicate count k None None lt)) refl;
}

-- ---- one event more

module _ (events : List RemoteEvent) (e : RemoteEvent) where
  -- a call that has its answer keeps it
  kept : (k i : ℕ) → IsPlace k events (Some i) → IsPlace k (events ++ e ∷ []) (Some i)
  kept k i is = (is.0, kept_at events (e ∷ []) i (Answer k is.0) is.1, reply_more k events e ∙ ap (λ (found : Option Reply). option_or found (reply_by k e)) is.2)

  -- and one of which the event tells nothing stays as it is
  silent : (k : ℕ) (place : Option ℕ) → reply_by k e ≡ None → IsPlace k events place → IsPlace k (events ++ e ∷ []) place
  silent k None none is = reply_more k events e ∙ ap (λ (found : Option Reply). option_or found (reply_by k e)) is ∙ none
  silent k (Some i) none is = kept k i is

  pub places_kept : (count : ℕ) (places : List (Option ℕ)) → ((k : ℕ) → reply_by k e ≡ None) → ArePlaces events count places → ArePlaces (events ++ e ∷ []) count places
  places_kept count places none are = record { len = are.len; each = λ k lt. silent k (slice_index_or places k None) (none k) (are.each k lt) }

module _ (events : List RemoteEvent) (stamp : ℕ) (reply : Reply) (count : ℕ) (places : List (Option ℕ)) (are : ArePlaces events count places) where
  abbrev more : List RemoteEvent
  more = events ++ Answer stamp reply ∷ []

  -- of another call it tells nothing
  other : (k : ℕ) → stamp ≢ k → reply_by k (Answer stamp reply) ≡ None
  other k apart = rw (ne_eqb stamp k apart) refl

  -- of its own call it is the answer, where that has none
  own : reply_to stamp events ≡ None → IsPlace stamp more (Some (length events))
  own none = (reply, last_at events (Answer stamp reply), reply_more stamp events (Answer stamp reply) ∙ ap (λ (found : Option Reply). option_or found (reply_by stamp (Answer stamp reply))) none ∙ rw (eq-eqb stamp stamp refl) refl)

  -- where the call has none yet
  first : stamp < count → slice_index_or places stamp None ≡ None → ArePlaces more count (set places stamp (Some (length events)))
  first within none = record {
    len = length-set places stamp (Some (length events)) ∙ are.len;
    each = λ k lt. elim (cases_eq k stamp) [
      | inl same ↦
          let here : slice_index_or (set places stamp (Some (length events))) k None ≡ Some (length events) =
          ap (λ (n : ℕ). slice_index_or (set places stamp (Some (length events))) n None) same ∙ get_or-set_same places stamp (Some (length events)) None (omega (arith, within, are.len)) in
          subst (IsPlace k more) (sym here) (subst (λ (n : ℕ). IsPlace n more (Some (length events))) (sym same) (own (subst (IsPlace stamp events) none (are.each stamp within))))
      | inr apart ↦
          let there : slice_index_or (set places stamp (Some (length events))) k None ≡ slice_index_or places k None = get_or-set_other places stamp k (Some (length events)) None apart in
          subst (IsPlace k more) (sym there) (silent events (Answer stamp reply) k (slice_index_or places k None) (other k (λ e. apart (sym e))) (are.each k lt))
    ];
  }

  -- where it has one
  later : (i : ℕ) → slice_index_or places stamp None ≡ Some i → ArePlaces more count places
  later i some = record {
    len = are.len;
    each = λ k lt. elim (cases_eq k stamp) [
      | inl same ↦
          let here : slice_index_or places k None ≡ Some i = ap (λ (n : ℕ). slice_index_or places n None) same ∙ some in
          subst (IsPlace k more) (sym here) (kept events (Answer stamp reply) k i (subst (IsPlace k events) here (are.each k lt)))
      | inr apart ↦ silent events (Answer stamp reply) k (slice_index_or places k None) (other k (λ e. apart (sym e))) (are.each k lt)
    ];
  }

  -- where there is no such call
  beyond : count ≤ stamp → ArePlaces more count places
  beyond past = record {
    len = are.len;
    each = λ k lt. silent events (Answer stamp reply) k (slice_index_or places k None) (other k (λ e. omega (arith, e, lt, past))) (are.each k lt);
  }

  -- what is read within does not hang on what is read past the end
  within_any : stamp < count → slice_index_or places stamp None ≡ slice_index_or places stamp (Some 0)
  within_any lt =
      let inside : stamp < length places = omega (arith, lt, are.len) in
      same_Some _ _ (sym (slice_get-get_or places stamp None inside) ∙ slice_get-get_or places stamp (Some 0) inside)

  pub noted_more : ArePlaces more count (noted places stamp (length events))
  noted_more = go (slice_index_or places stamp (Some 0)) refl
    where
      go : (found : Option ℕ) → slice_index_or places stamp (Some 0) ≡ found → ArePlaces more count (noted places stamp (length events))
      go None is = elim (cases_lt stamp count) [
        | inl within ↦ rw is (first within (within_any within ∙ is))
        | inr past ↦ (let none : ◌≡◌ {A = Option ℕ} (Some 0) None = sym (get_or_past places stamp (Some 0) (omega (arith, past, are.len))) ∙ is in absurd cc)
      ]
      go (Some i) is = elim (cases_lt stamp count) [
        | inl within ↦ rw is (later i (within_any within ∙ is))
        | inr past ↦ rw is (beyond past)
      ]

-- whatever event comes
pub event_noted : (events : List RemoteEvent) (e : RemoteEvent) (count : ℕ) (places : List (Option ℕ)) → ArePlaces events count places → ArePlaces (events ++ e ∷ []) count (noted_by e places (length events))
event_noted events (Start k pause) count places are = places_kept events (Start k pause) count places (λ j. refl) are
event_noted events (Sent k call) count places are = places_kept events (Sent k call) count places (λ j. refl) are
event_noted events (Answer k reply) count places are = noted_more events k reply count places are

-- the event at a call's place tells its reply
pub told_at : (k : ℕ) (events : List RemoteEvent) (place : ℕ) → IsPlace k events (Some place) → reply_of (slice_get events place) ≡ reply_to k events
told_at k events place is = ap reply_of is.1 ∙ sym is.2

-- there is no such stamp
pub noted_past : (places : List (Option ℕ)) (stamp place : ℕ) → length places ≤ stamp → places ≡ noted places stamp place
noted_past places stamp place past = rw (get_or_past places stamp (Some 0) past) refl
