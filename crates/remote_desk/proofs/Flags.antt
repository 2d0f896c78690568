-- Which calls are sent, as flags by stamp.
use Rattle.std.proofs.Common.{◌≡◌, ℕ, ◌+◌, ◌<◌, inl, inr, Bool, true, false, List, [], ◌∷◌, ◌++◌, length, set, replicate, sym, ap, ◌∙◌, arith}
use Rattle.std.specs.Prelude.{◌↔◌}
use Rattle.std.proofs.lemmas.Bool.{cases_Bool, cases_eq, both_ways}
use Rattle.std.proofs.lemmas.List.{get_or-set_same}
use Rattle.desk_values.specs.declared.call.Call.{Call}
use Rattle.commit_gate.specs.Gates.{is_in}
use Rattle.commit_gate.proofs.Keeping.{in_more, in_other}
use Rattle.law_histories.proofs.Items.{last_at, some}
use Rattle.replay_schedule.proofs.Gates.Gates.{none_in}
use Rattle.remote_desk.specs.declared.event.RemoteEvent.{RemoteEvent}
use Rattle.remote_desk.specs.declared.event.RemoteEvent.TheVariants.{Sent}
use Rattle.remote_desk.specs.History.{IsSent}
use Rattle.remote_desk.proofs.Histories.{none_sent, sent_in, sent_kept}

-- the flags are those of the events
abbrev pub Flag : List Bool → List RemoteEvent → Type 0
Flag flags events = (k : ℕ) → (is_in flags k ≡ true) ↔ IsSent events k

pub none_flagged : (n : ℕ) → Flag (replicate n false) []
none_flagged n k = (λ there. absurd (both_ways (is_in (replicate n false) k) (none_in n k) there), λ there. absurd (none_sent k there))

-- an event that sends nothing leaves them
pub flag_kept : (flags : List Bool) (events : List RemoteEvent) (e : RemoteEvent) → ((k : ℕ) (call : Call) → e ≡ Sent k call → ⊥) → Flag flags events → Flag flags (events ++ e ∷ [])
flag_kept flags events e silent are k = (
  λ there. sent_kept events e k ((are k).0 there),
  λ there. elim (sent_in events e k there) [ inl before ↦ (are k).1 before | inr new ↦ absurd (silent k new.0 new.1) ],
)

-- what is sent sets one
pub flag_set : (flags : List Bool) (events : List RemoteEvent) (k : ℕ) (call : Call) → k < length flags → Flag flags events → Flag (set flags k true) (events ++ Sent k call ∷ [])
flag_set flags events k call within are j = (
  λ there. elim (cases_eq j k) [
    | inl same ↦ (length events, call, last_at events (Sent k call) ∙ ap (λ n. some (Sent n call)) (sym same))
    | inr other ↦ sent_kept events (Sent k call) j ((are j).0 (in_other flags k j other there))
  ],
  λ there. elim (sent_in events (Sent k call) j there) [
    | inl before ↦ in_more flags k j ((are j).1 before)
    | inr new ↦ (let one : k ≡ j = cc in ap (λ n. is_in (set flags k true) n) (sym one) ∙ get_or-set_same flags k true false (omega (arith, within)))
  ],
)

-- a call is flagged or nothing was sent for it
pub unflagged : (flags : List Bool) (events : List RemoteEvent) (k : ℕ) → Flag flags events → (IsSent events k → ⊥) → is_in flags k ≡ false
unflagged flags events k are never = elim (cases_Bool (is_in flags k)) [ inl there ↦ absurd (never ((are k).0 there)) | inr none ↦ none ]
