-- The recorder and the doors agree just where the answer is good.
use Rattle.std.proofs.Common.{◌≡◌, ◌∙◌, ◌<◌, ℕ, zero, suc, ◌+◌, ◌-◌, Bool, true, false, ◌&&◌, List, [], ◌∷◌, length, map, take, cond, refl, sym, ap, subst, inl, inr, arith}
use Rattle.std.specs.Prelude.{Option, None, Some, Result, Ok, Err, max, nat_le, nat_lt, option_map, slice_get}
use Rattle.std.specs.Bool.{Decides}
use Rattle.std.specs.Option.{option_or, unwrap_or}
use Rattle.std.specs.List.{AllByRecursion, Any, list_any, range_with_len}
use Rattle.std.proofs.lemmas.Bool.{and_parts, cases_Bool, cases_lt, false≢true, le-leb, leb-true, lt-ltb, ltb-true}
use Rattle.std.proofs.Math.Dec.{eqb-suc-zero}
use Rattle.std.proofs.lemmas.List.Folds.{Any-from_list_any, list_any-from_Any}
use Rattle.std.proofs.lemmas.Option.{slice_get_past}
use Rattle.desk_values.specs.Good.{IsGoodReply}
use Rattle.desk_values.specs.Limits.{session_limit}
use Rattle.desk_values.specs.Room.{Room}
use Rattle.desk_values.specs.declared.value.Value.{Value}
use Rattle.desk_values.specs.declared.value.Image.{Image}
use Rattle.desk_values.specs.declared.capture.Captured.{Captured}
use Rattle.replay_history.specs.Capture.{IsKnown, binds_of}
use Rattle.captured_calls.specs.Known.{ids_known, is_stranger}
use Rattle.captured_calls.specs.Sessions.{calls_of}
use Rattle.captured_calls.specs.Stamped.{HasText}
use Rattle.captured_calls.proofs.Scanning.{both_none}
use Rattle.captured_calls.proofs.Strangers.{known_tells}
use Rattle.capture_format.proofs.Cuts.{all_weaker}
use Rattle.law_ids.proofs.Members.{any_weaker}
use Rattle.capture_recorder.specs.declared.door.Said.{Said}
use Rattle.capture_recorder.specs.declared.door.Turned.{Turned}
use Rattle.capture_recorder.specs.declared.gathering.GatherErr.{GatherErr}
use Rattle.capture_recorder.specs.declared.gathering.GatherErr.TheVariants.{OtherStart, Mismatch, Refusal, Memory}
use Rattle.capture_recorder.specs.Agreement.{Agrees, IsBorneOut, IsOkJust}
use Rattle.capture_recorder.specs.Gathering.{Gathers, call_before, difference, first_difference, first_of, is_below, is_borne_out, kept_in, mismatch, mismatch_in, refusal, refusal_in, said_in, said_of}
use Rattle.capture_recorder.specs.Limits.{accepted_limit}
use Rattle.capture_recorder.specs.Recording.{IsRecording, Recording}
use Rattle.capture_recorder.proofs.Comparing.{none_beyond}
use Rattle.capture_recorder.proofs.Saying.{equal_differ, none_differs}

some_none : {X : Type 0} (x : X) → ◌≡◌ {A = Option X} (Some x) None → ⊥
some_none x is = cc

one_is : {X : Type 0} {x y : X} → ◌≡◌ {A = Option X} (Some x) (Some y) → x ≡ y
one_is is = cc

both : (a b : Bool) → a ≡ true → b ≡ true → (a && b) ≡ true
both true b p q = q
both false b p q = p

-- ---- what was said

no_map : (f : ℕ → GatherErr) (o : Option ℕ) → option_map f o ≡ None → o ≡ None
no_map f None is = refl
no_map f (Some p) is = absurd (some_none (f p) is)

none_told : (tell : ℕ → Option GatherErr) (from count session : ℕ) → first_of tell (range_with_len from count) ≡ None → session < count → tell (from + session) ≡ None
none_told tell from zero session none below = absurd (omega (arith, below))
none_told tell from (suc count) zero none below = ap tell (omega arith) ∙ (both_none (tell from) _ none).0
none_told tell from (suc count) (suc session) none below = ap tell (omega arith) ∙ none_told tell (from + 1) count session (both_none (tell from) _ none).1 (omega (arith, below))

tells_none : (tell : ℕ → Option GatherErr) (sessions : List ℕ) → ((session : ℕ) → tell session ≡ None) → first_of tell sessions ≡ None
tells_none tell [] each = refl
tells_none tell (session ∷ sessions) each = ap (λ o. option_or o (first_of tell sessions)) (each session) ∙ tells_none tell sessions each

module _ (r : Recording) (is : IsRecording r) (lists : List (List Said)) where
  no_mismatch : mismatch r.calls lists ≡ None → (session : ℕ) → said_in lists session ≡ kept_in r.calls session
  no_mismatch none session = elim (cases_lt session (max session_limit (length lists))) [
    | inl below ↦ (
        let here : mismatch_in r.calls lists session ≡ None = ap (mismatch_in r.calls lists) (omega arith) ∙ none_told (mismatch_in r.calls lists) 0 (max session_limit (length lists)) session none below in
        sym (none_differs 0 (kept_in r.calls session) (said_in lists session) (no_map _ (first_difference 0 (kept_in r.calls session) (said_in lists session)) here)))
    | inr beyond ↦ ap (λ (o : Option (List Said)). unwrap_or o []) (slice_get_past lists session (omega (arith, beyond))) ∙ sym (ap (map said_of) (none_beyond r is session (omega (arith, beyond))))
  ]

  all_said : ((session : ℕ) → said_in lists session ≡ kept_in r.calls session) → mismatch r.calls lists ≡ None
  all_said each = tells_none (mismatch_in r.calls lists) _ (λ session. ap (difference session (kept_in r.calls session)) (each session) ∙ ap (option_map _) (equal_differ 0 (kept_in r.calls session)))

-- ---- what was turned away

module _ (r : Recording) (is : IsRecording r) where
  abbrev rows : List Image
  rows = r.start.rows

  good : AllByRecursion (λ (call : Captured). IsGoodReply call.reply) r.calls
  good = all_weaker HasText (λ (call : Captured). IsGoodReply call.reply) (λ call text. text.reply) r.calls is.texts

  strange : (held : ℕ) (value : Value) → Decides (is_stranger (ids_known rows (take held r.calls)) value) (IsKnown rows r.calls held value → ⊥)
  strange held value =
      let tells = known_tells rows r.calls good held value in (
        λ is_so known. false≢true (sym (tells.1 known) ∙ is_so),
        λ never. elim (cases_Bool (is_stranger (ids_known rows (take held r.calls)) value)) [
          | inl is_so ↦ is_so
          | inr known ↦ absurd (never (tells.0 known))
        ],
      )

  some_strange : (held : ℕ) (values : List Value) → Decides (list_any (is_stranger (ids_known rows (take held r.calls))) values) (Any (λ (value : Value). IsKnown rows r.calls held value → ⊥) values)
  some_strange held values = (
    λ is_so. any_weaker (λ value. is_stranger (ids_known rows (take held r.calls)) value ≡ true) (λ value. IsKnown rows r.calls held value → ⊥) (λ value. (strange held value).0) values (Any-from_list_any _ values is_so),
    λ any. list_any-from_Any _ values (any_weaker (λ value. IsKnown rows r.calls held value → ⊥) (λ value. is_stranger (ids_known rows (take held r.calls)) value ≡ true) (λ value. (strange held value).1) values any),
  )

  module _ (own : List Captured) (held : ℕ) where
    abbrev AreBelow : ℕ → Type 0
    AreBelow place = (k : ℕ) (call : Captured) → k + 1 ≡ place → slice_get own k ≡ Some call → call.stamp < held

    last_is : (place : ℕ) (last : Option Captured) → slice_get own place ≡ last → Decides (is_below held last) (AreBelow (suc place))
    last_is place None is_last = (λ is_so k call at there. absurd (some_none call (sym there ∙ ap (slice_get own) (omega (arith, at)) ∙ is_last)), λ each. refl)
    last_is place (Some last) is_last = (
      λ is_so k call at there. subst (λ (c : Captured). c.stamp < held) (one_is (sym is_last ∙ ap (slice_get own) (omega (arith, at)) ∙ there)) (ltb-true last.stamp held is_so),
      λ each. lt-ltb last.stamp held (each place last (omega arith) is_last),
    )

    before_is : (place : ℕ) → Decides (is_below held (call_before own place)) (AreBelow place)
    before_is zero = (λ is_so k call at there. absurd (omega (arith, at)), λ each. refl)
    before_is (suc place) = last_is place (call_before own (suc place)) (sym (ap (λ (b : Bool). cond b None (slice_get own (suc place - 1))) (eqb-suc-zero place) ∙ ap (slice_get own) (omega arith)))

  module _ (session : ℕ) (entry : Turned) where
    abbrev own : List Captured
    own = calls_of session r.calls

    abbrev full_there : Bool
    full_there = nat_le accepted_limit entry.held

    abbrev strange_there : Bool
    strange_there = nat_lt entry.held accepted_limit && list_any (is_stranger (ids_known rows (take entry.held r.calls))) (binds_of entry.call)

    abbrev cause : Bool → Bool
    cause full = cond full full_there strange_there

    out : is_borne_out rows r.calls session entry ≡ true → IsBorneOut rows r.calls session entry
    out is_so =
        let all = and_parts _ _ is_so in
        let counts = and_parts (nat_le entry.place (length own)) (nat_le entry.held (length r.calls)) all.0 in
        let tests = and_parts (is_below entry.held (call_before own entry.place)) (cause entry.full) all.1 in
        record {
          place = leb-true entry.place (length own) counts.0;
          held = leb-true entry.held (length r.calls) counts.1;
          after = (before_is own entry.held entry.place).0 tests.0;
          full = λ full. leb-true accepted_limit entry.held (sym (ap cause full) ∙ tests.1);
          stranger = λ other.
              let two = and_parts (nat_lt entry.held accepted_limit) _ (sym (ap cause other) ∙ tests.1) in
              (ltb-true entry.held accepted_limit two.0, (some_strange entry.held (binds_of entry.call)).0 two.1);
        }

    outs : IsBorneOut rows r.calls session entry → is_borne_out rows r.calls session entry ≡ true
    outs is_out =
        let caused : cause entry.full ≡ true = elim (cases_Bool entry.full) [
          | inl full ↦ ap cause full ∙ le-leb accepted_limit entry.held (is_out.full full)
          | inr other ↦ ap cause other ∙ both (nat_lt entry.held accepted_limit) _ (lt-ltb entry.held accepted_limit (is_out.stranger other).0) ((some_strange entry.held (binds_of entry.call)).1 (is_out.stranger other).1)
        ] in
        both _ _ (both (nat_le entry.place (length own)) (nat_le entry.held (length r.calls)) (le-leb entry.place (length own) is_out.place) (le-leb entry.held (length r.calls) is_out.held))
        (both (is_below entry.held (call_before own entry.place)) (cause entry.full) ((before_is own entry.held entry.place).1 is_out.after) caused)

  module _ (session : ℕ) where
    abbrev rest_of : ℕ → List Turned → Option GatherErr
    rest_of n entries = refusal_in rows r.calls session n entries

    passes : (n : ℕ) (first : Turned) (entries : List Turned) → rest_of n (first ∷ entries) ≡ None → (is_borne_out rows r.calls session first ≡ true) × (rest_of (n + 1) entries ≡ None)
    passes n first entries none = elim (cases_Bool (is_borne_out rows r.calls session first)) [
      | inl good_one ↦ (good_one, sym (ap (λ (b : Bool). cond b (rest_of (n + 1) entries) (Some (Refusal session n first))) good_one) ∙ none)
      | inr bad ↦ absurd (some_none _ (sym (ap (λ (b : Bool). cond b (rest_of (n + 1) entries) (Some (Refusal session n first))) bad) ∙ none))
    ]

    each_in : (n : ℕ) (entries : List Turned) → rest_of n entries ≡ None → (k : ℕ) (entry : Turned) → slice_get entries k ≡ Some entry → IsBorneOut rows r.calls session entry
    each_in n [] none k entry there = cc
    each_in n (first ∷ entries) none zero entry there = subst (IsBorneOut rows r.calls session) (one_is there) (out session first (passes n first entries none).0)
    each_in n (first ∷ entries) none (suc k) entry there = each_in (n + 1) entries (passes n first entries none).1 k entry there

    none_in : (n : ℕ) (entries : List Turned) → ((k : ℕ) (entry : Turned) → slice_get entries k ≡ Some entry → IsBorneOut rows r.calls session entry) → rest_of n entries ≡ None
    none_in n [] each = refl
    none_in n (first ∷ entries) each = ap (λ (b : Bool). cond b (rest_of (n + 1) entries) (Some (Refusal session n first))) (outs session first (each zero first refl)) ∙ none_in (n + 1) entries (λ k entry there. each (suc k) entry there)

  abbrev AreOut : ℕ → List (List Turned) → Type 0
  AreOut session turned = (k n : ℕ) (entries : List Turned) (entry : Turned) → slice_get turned k ≡ Some entries → slice_get entries n ≡ Some entry → IsBorneOut rows r.calls (session + k) entry

  refused : (session : ℕ) (turned : List (List Turned)) → refusal rows r.calls session turned ≡ None → AreOut session turned
  refused session [] none k n entries entry here there = cc
  refused session (list ∷ turned) none zero n entries entry here there =
      subst (λ (s : ℕ). IsBorneOut rows r.calls s entry) (omega arith) (each_in session 0 list (both_none (refusal_in rows r.calls session 0 list) _ none).0 n entry (ap (λ (l : List Turned). slice_get l n) (one_is here) ∙ there))
  refused session (list ∷ turned) none (suc k) n entries entry here there =
      subst (λ (s : ℕ). IsBorneOut rows r.calls s entry) (omega arith) (refused (session + 1) turned (both_none (refusal_in rows r.calls session 0 list) _ none).1 k n entries entry here there)

  none_refused : (session : ℕ) (turned : List (List Turned)) → AreOut session turned → refusal rows r.calls session turned ≡ None
  none_refused session [] each = refl
  none_refused session (list ∷ turned) each =
      ap (λ o. option_or o (refusal rows r.calls (session + 1) turned)) (none_in session 0 list (λ n entry there. subst (λ (s : ℕ). IsBorneOut rows r.calls s entry) (omega arith) (each zero n list entry refl there)))
      ∙ none_refused (session + 1) turned (λ k n entries entry here there. subst (λ (s : ℕ). IsBorneOut rows r.calls s entry) (omega arith) (each (suc k) n entries entry here there))

  -- ---- the answer

  module _ (lists : List (List Said)) (turned : List (List Turned)) where
    pub agrees_just : (result : Result (List (Room Captured)) GatherErr) → Gathers r.start r lists turned result → IsOkJust (Agrees r.start r lists turned) result
    agrees_just (Ok sessions) is_ok = record {
      starts = refl;
      said = no_mismatch r is lists is_ok.1;
      refused = λ session n entries entry here there. subst (λ (s : ℕ). IsBorneOut rows r.calls s entry) (omega arith) (refused 0 turned is_ok.2 session n entries entry here there);
    }
    agrees_just (Err Memory) is_err = tt
    agrees_just (Err (OtherStart kept)) is_err = λ agrees. is_err.0 refl
    agrees_just (Err (Mismatch session place kept said)) is_err = λ agrees. some_none _ (sym is_err.1 ∙ all_said r is lists agrees.said)
    agrees_just (Err (Refusal session n entry)) is_err = λ agrees. some_none _ (sym is_err.2 ∙ none_refused 0 turned (λ k m entries other here there. subst (λ (s : ℕ). IsBorneOut rows r.calls s other) (omega arith) (agrees.refused k m entries other here there)))
