-- A legal capture with one call more at its end.
use Rattle.std.proofs.Common.{◌<◌, ◌≤◌, ℕ, ◌+◌, Bool, cond, List, [], ◌∷◌, ◌++◌, length, refl, sym, ap, subst, ◌∙◌, inl, inr, arith}
use Rattle.std.proofs.lemmas.List.{length_push}
use Rattle.desk_values.specs.declared.call.Call.{Call}
use Rattle.desk_values.specs.declared.call.Reply.{Reply}
use Rattle.desk_values.specs.declared.capture.Captured.{Captured}
use Rattle.desk_values.specs.declared.value.Image.{Image}
use Rattle.desk_values.specs.declared.value.Value.{Value}
use Rattle.replay_history.specs.Capture.{FitsIn, IsKnown, IsLegalCapture, IsRun, binds_of, commits, session_calls_before}
use Rattle.replay_history.specs.Gap.{IsJustBefore}
use Rattle.captured_calls.specs.Sessions.{is_of}
use Rattle.captured_calls.specs.Stamped.{AllFit}
use Rattle.captured_calls.proofs.Counts.{count_before, count_part, count_whole}
use Rattle.captured_calls.proofs.Members.{before_or_end, get_before}
use Rattle.capture_format.proofs.Cuts.{all_weaker}

abbrev is_commit : Captured → Bool
is_commit call = commits call.reply.outcome

pub run_more : {S : Type 0} (gives : S → ℕ → Call → Reply → S → Type 0) (first mid last : S) (calls : List Captured) (call : Captured) → IsRun gives first calls mid → gives mid call.session call.call call.reply last → IsRun gives first (calls ++ call ∷ []) last
run_more gives first mid last [] call run given = (last, subst (λ s. gives s call.session call.call call.reply last) (sym run) given, refl)
run_more gives first mid last (c ∷ calls) call run given = (run.0, run.1, run_more gives run.0 mid last calls call run.2 given)

module _ (rows : List Image) (calls : List Captured) (new : Captured) where
  abbrev longer : List Captured
  longer = calls ++ new ∷ []

  known_longer : (k : ℕ) (value : Value) → IsKnown rows calls k value → IsKnown rows longer k value
  known_longer k value known is = elim (known is) [
    | inl there ↦ inl there
    | inr given ↦ inr (given.0, given.1, given.2, get_before calls new given.0 given.1 given.3, given.4)
  ]

  -- what is said of a call and those before it stays, where no call behind it stands just before it
  fits_longer : (k : ℕ) (call : Captured) → k ≤ length calls → (IsJustBefore new call → ⊥) → FitsIn rows calls k call → FitsIn rows longer k call
  fits_longer k call le never fits =
      let seen = count_before is_commit calls new k le in
      record {
        stamp = fits.stamp;
        session = fits.session;
        place = fits.place ∙ sym (count_before (is_of call.session) calls new k le);
        number = fits.number ∙ ap (λ (n : ℕ). cond (commits call.reply.outcome) (n + 1) 0) (sym seen);
        seen = fits.seen ∙ sym seen;
        ends = fits.ends;
        follows = λ j before at just. elim (before_or_end calls new j before at) [
          | inl old ↦ fits.follows j before old.1 just
          | inr last ↦ absurd (never (subst (λ c. IsJustBefore c call) last.1 just))
        ];
        known = all_weaker (IsKnown rows calls k) (IsKnown rows longer k) (known_longer k) (binds_of call.call) fits.known;
      }

  module _ (fits : FitsIn rows calls (length calls) new) where
    -- the new call is the last of its session
    last_of_session : (k : ℕ) (call : Captured) → FitsIn rows calls k call → IsJustBefore new call → ⊥
    last_of_session k call old just =
        let same = ap (λ (s : ℕ). session_calls_before calls s (length calls)) just.session in
        omega (arith, count_part (is_of call.session) calls k, count_whole (is_of call.session) calls, same, fits.place, old.place, just.place)

    pub fitting_longer : AllFit rows calls → AllFit rows longer
    fitting_longer fit k call at = elim (before_or_end calls new k call at) [
      | inl old ↦ (let was = fit k call old.1 in fits_longer k call (omega (arith, old.0)) (last_of_session k call was) was)
      | inr end ↦ subst (λ i. FitsIn rows longer i call) (sym end.0) (subst (FitsIn rows longer (length calls)) (sym end.1) (fits_longer (length calls) new (omega arith) (λ just. omega (arith, just.place)) fits))
    ]

    pub legal_longer : {S : Type 0} (gives : S → ℕ → Call → Reply → S → Type 0) (first mid last : S) → IsLegalCapture rows gives first calls → IsRun gives first calls mid → gives mid new.session new.call new.reply last → length calls < 100000 → IsLegalCapture rows gives first longer
    legal_longer gives first mid last legal run given room = record { count = omega (arith, room, length_push calls new); each = fitting_longer legal.each; replies = (last, run_more gives first mid last calls new run given) }
