-- Lists of sessions that were closed, and what a recorder has of sessions.
use Rattle.std.proofs.Common.{◌≡◌, ◌∙◌, ℕ, zero, suc, ◌+◌, ◌<◌, ◌≤◌, Bool, true, false, List, [], ◌∷◌, ◌++◌, length, map, Some, refl, sym, ap, subst, arith}
use Rattle.std.specs.Prelude.{nat_lt, slice_get}
use Rattle.std.proofs.lemmas.List.{length-map, map-append}
use Rattle.std.proofs.lemmas.Bool.{eq-eqb, ltb-false, ltb-true}
use Rattle.desk_values.specs.declared.capture.Captured.{Captured}
use Rattle.desk_values.specs.declared.reserved.Reserved.{Reserved}
use Rattle.captured_calls.specs.Sessions.{calls_of, is_of}
use Rattle.capture_recorder.specs.declared.door.Said.{Said}
use Rattle.capture_recorder.specs.declared.door.Turned.{Turned}
use Rattle.capture_recorder.specs.Agreement.{Agrees}
use Rattle.capture_recorder.specs.Gathering.{lists_of, said_in, said_of}
use Rattle.capture_recorder.specs.Listed.{AreBelow}
use Rattle.capture_recorder.specs.Recording.{Recording}
use Rattle.desk_schema.specs.Start.{StartView}
use Rattle.server_words.specs.State.{State, is_connected}
use Rattle.capture_serve.specs.Inside.Passing.{AreClosed, IsClosedBy}

abbrev SaidList : Type 0
SaidList = Reserved Said

abbrev SaidLists : Type 0
SaidLists = List SaidList

closed_snoc : (lists lists' : List (List Said)) (said said' : List Said) → AreClosed lists lists' → IsClosedBy said said' → AreClosed (lists ++ said ∷ []) (lists' ++ said' ∷ [])
closed_snoc [] [] said said' are is = (is, tt)
closed_snoc [] (x ∷ lists') said said' are is = absurd are
closed_snoc (x ∷ lists) [] said said' are is = absurd are
closed_snoc (x ∷ lists) (y ∷ lists') said said' are is = (are.0, closed_snoc lists lists' said said' are.1 is)

pub closed_more : (done : SaidLists) (closed : SaidLists) (list list' : SaidList) (closed' : SaidLists) → AreClosed (lists_of done) (lists_of closed) → IsClosedBy list.items list'.items → closed' ≡ closed ++ list' ∷ [] → AreClosed (lists_of (done ++ list ∷ [])) (lists_of closed')
closed_more done closed list list' closed' are is more = subst (λ (l : SaidLists). AreClosed (lists_of (done ++ list ∷ [])) (lists_of l)) (sym more)
    (subst (λ (l : List (List Said)). AreClosed l (lists_of (closed ++ list' ∷ []))) (sym (map-append (λ (l : SaidList). l.items) done (list ∷ [])))
    (subst (λ (l : List (List Said)). AreClosed (lists_of done ++ list.items ∷ []) l) (sym (map-append (λ (l : SaidList). l.items) closed (list' ∷ []))) (closed_snoc (lists_of done) (lists_of closed) list.items list'.items are is)))

closed_length : (lists lists' : List (List Said)) → AreClosed lists lists' → length lists' ≡ length lists
closed_length [] [] are = refl
closed_length [] (x ∷ lists') are = absurd are
closed_length (x ∷ lists) [] are = absurd are
closed_length (x ∷ lists) (y ∷ lists') are = ap (λ (n : ℕ). suc n) (closed_length lists lists' are.1)

pub as_many : (said closed : SaidLists) → AreClosed (lists_of said) (lists_of closed) → length closed ≡ length said
as_many said closed are = sym (length-map closed (λ (l : SaidList). l.items)) ∙ closed_length (lists_of said) (lists_of closed) are ∙ length-map said (λ (l : SaidList). l.items)

-- the sessions below this number are not connected, and then one more
pub off_more : (state state' : State) (n : ℕ) → ((session : ℕ) → session < n → is_connected state session ≡ false) → is_connected state' n ≡ false → ((session : ℕ) → is_connected state session ≡ false → is_connected state' session ≡ false)
    → (session : ℕ) → session < n + 1 → is_connected state' session ≡ false
off_more state state' n before last others session lt = decide (nat_lt session n) refl where
  decide : (b : Bool) → nat_lt session n ≡ b → is_connected state' session ≡ false
  decide true is = others session (before session (ltb-true session n is))
  decide false is = subst (λ (k : ℕ). is_connected state' k ≡ false) (let le = ltb-false session n is in omega (arith, lt, le)) last

-- ---- sessions beyond the lists

beyond : (lists : List (List Said)) (session : ℕ) → length lists ≤ session → said_in lists session ≡ []
beyond [] session le = refl
beyond (x ∷ lists) zero le = absurd (omega (arith, le))
beyond (x ∷ lists) (suc session) le = beyond lists session (omega (arith, le))

none_of : (calls : List Captured) → map said_of calls ≡ [] → calls ≡ []
none_of [] none = refl
none_of (call ∷ calls) none = absurd (cc none)

-- a call is among those of its session
found_in : (calls : List Captured) (k : ℕ) (call : Captured) → slice_get calls k ≡ Some call → calls_of call.session calls ≡ [] → ⊥
found_in [] k call at none = absurd (cc at)
found_in (first ∷ calls) zero call at none =
    let same : first ≡ call = cc at in
    let of : is_of call.session first ≡ true = rw same (eq-eqb call.session call.session refl) in
    absurd (cc (rw of at none))
found_in (first ∷ calls) (suc k) call at none = later (found_in calls k call at) (is_of call.session first) refl where
  later : (calls_of call.session calls ≡ [] → ⊥) → (b : Bool) → is_of call.session first ≡ b → ⊥
  later rest true is = absurd (cc (rw is at none))
  later rest false is = rest (rw is at none)

pub all_below : (start : StartView) (r : Recording) (lists : List (List Said)) (turned : List (List Turned)) (count : ℕ) → length lists ≡ count → Agrees start r lists turned → AreBelow count r.calls
all_below start r lists turned count len agrees k call at = decide (nat_lt call.session count) refl where
  decide : (b : Bool) → nat_lt call.session count ≡ b → call.session < count
  decide true is = ltb-true call.session count is
  decide false is = absurd (found_in r.calls k call at (none_of (calls_of call.session r.calls) (sym (agrees.said call.session) ∙ beyond lists call.session (let le = ltb-false call.session count is in omega (arith, len, le)))))
