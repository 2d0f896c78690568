-- Connections as they are given back, one after the other.
use Rattle.std.proofs.Common.{◌≡◌, ◌∙◌, ℕ, suc, ◌+◌, ◌&&◌, Bool, true, false, List, [], ◌∷◌, ◌++◌, length, length-append, map, arith, Option, Some, None, IsSomeAnd, Result, Ok, Err, refl, sym, ap, subst, append_assoc, if◌then◌else◌}
use mathlib.Core.Bool.{true≢false}
use Rattle.std.specs.Prelude.{count_by, is_ok, OnOk}
use Rattle.std.proofs.lemmas.List.{append-nil, map-append}
use Rattle.std.proofs.lemmas.List.Sums.{fold-append}
use Rattle.desk_files.specs.Outside.{Told, raised, risen_by}
use Rattle.desk_files.specs.Hosts.{Adds, Connections, GivesBack, Handed, Returned, after_back, either_failed}
use Rattle.desk_files.proofs.DeviceLaws.{risen_more}
use Rattle.desk_values.specs.declared.memory.Memory.{Memory}
use Rattle.capture_recorder.specs.declared.door.Said.{Said}
use Rattle.capture_recorder.specs.declared.door.Turned.{Turned}
use Rattle.capture_serve.specs.Service.{is_short}
use Rattle.capture_serve.specs.declared.returning.Notes.{Notes}
use Rattle.capture_serve.specs.Inside.Passing.{AddsOne, AreBack, Gave, HasNoted, Lost, Passed}
use Rattle.capture_serve.specs.Inside.Handing.{HasReturned}

abbrev pub GaveSo : List Passed → Option Connections → Option Connections → Type 0
GaveSo passes before after = Told before (λ c. IsSomeAnd after (Gave passes c))

pub none_given : (before : Option Connections) → GaveSo [] before before
none_given None = tt
none_given (Some c) = record { back = []; waiting = refl; returned = sym (append-nil c.returned); are_back = tt }

back-snoc : (passes : List Passed) (back : List Returned) (p : Passed) (r : Returned) → AreBack passes back → p.after.input ≡ Some r.rest → p.after.output ≡ Some r.output → r.failed ≡ either_failed p.after.input_faults p.after.output_faults → AreBack (passes ++ p ∷ []) (back ++ r ∷ [])
back-snoc [] [] p r are input output failed = (input, output, failed, tt)
back-snoc [] (x ∷ back) p r are input output failed = absurd are
back-snoc (q ∷ passes) [] p r are input output failed = absurd are
back-snoc (q ∷ passes) (x ∷ back) p r are input output failed = (are.0, are.1, are.2, back-snoc passes back p r are.3 input output failed)

gave_one : (passes : List Passed) (p : Passed) (before now : Connections) (after : Option Connections) → Gave passes before now
    → IsSomeAnd p.after.input (λ rest. IsSomeAnd p.after.output (λ written. Adds (record { rest = rest; output = written; failed = either_failed p.after.input_faults p.after.output_faults }) now after)) → IsSomeAnd after (Gave (passes ++ p ∷ []) before)
gave_one passes p before now after gave adds = with_ends p.after.input p.after.output refl refl adds where
  with_ends : (input output : Option (List ℕ)) → p.after.input ≡ input → p.after.output ≡ output → IsSomeAnd input (λ rest. IsSomeAnd output (λ written. Adds (record { rest = rest; output = written; failed = either_failed p.after.input_faults p.after.output_faults }) now after)) → IsSomeAnd after (Gave (passes ++ p ∷ []) before)
  with_ends None output i o adds = absurd adds
  with_ends (Some rest) None i o adds = absurd adds
  with_ends (Some rest) (Some written) i o adds =
      let one : Returned = record { rest = rest; output = written; failed = either_failed p.after.input_faults p.after.output_faults } in
      rw adds (record {
        back = gave.back ++ one ∷ [];
        waiting = gave.waiting;
        returned = ap (λ (l : List Returned). l ++ one ∷ []) gave.returned ∙ append_assoc before.returned gave.back (one ∷ []);
        are_back = back-snoc passes gave.back p one gave.are_back i o refl;
      })

pub one_given : (passes : List Passed) (p : Passed) (before now after : Option Connections) → GaveSo passes before now
    → GivesBack p.after.input p.after.output (either_failed p.after.input_faults p.after.output_faults) (Ok tt) now after → GaveSo (passes ++ p ∷ []) before after
one_given passes p None now after so gives = tt
one_given passes p (Some c) None after so gives = absurd so
one_given passes p (Some c) (Some now) after so gives = gave_one passes p c now after so gives

-- ---- how many were given back

pub one_returned : (n more : ℕ) (old now new : Handed) → more ≡ n + 1 → new ≡ after_back now → HasReturned n old now → HasReturned more old new
one_returned n more old now new is moves returned =
    moves ∙ ap (λ (h : Handed). record h { backs = raised h.backs }) returned ∙ ap (λ (k : ℕ). record old { backs = k }) (sym (risen_more n old.backs)) ∙ ap (λ (m : ℕ). record old { backs = risen_by m old.backs }) (sym is)

-- ---- one of a list

-- both went well
pub both_well : (before : Bool) (done : Result (Unit {0}) Memory) → (before && is_ok done) ≡ true → (before ≡ true) × (done ≡ Ok tt)
both_well true (Ok done) well = (refl, refl)
both_well true (Err short) well = absurd (true≢false (sym well))
both_well false done well = absurd (true≢false (sym well))

-- ---- where one is not told as given back

abbrev pub LostSo : ℕ → Option Connections → Option Connections → Type 0
LostSo n before after = Told before (λ c. IsSomeAnd after (Lost n c))

back_many : (passes : List Passed) (back : List Returned) → AreBack passes back → length back ≡ length passes
back_many [] [] are = refl
back_many [] (r ∷ back) are = absurd are
back_many (p ∷ passes) [] are = absurd are
back_many (p ∷ passes) (r ∷ back) are = ap (λ (n : ℕ). suc n) (back_many passes back are.3)

-- this one is the first
lost_first : (passes : List Passed) (before now after : Option Connections) → after ≡ now → GaveSo passes before now → LostSo (length passes + 1) before after
lost_first passes None now after same gave = tt
lost_first passes (Some c) None after same gave = absurd gave
lost_first passes (Some c) (Some m) after same gave = rw same (record {
  waiting = gave.waiting;
  fewer = omega (arith, ap (λ (l : List Returned). length l) gave.returned, length-append c.returned gave.back, back_many passes gave.back gave.are_back);
})

-- neither is this one
lost_stays : (n : ℕ) (before now after : Option Connections) → after ≡ now → LostSo n before now → LostSo (n + 1) before after
lost_stays n None now after same lost = tt
lost_stays n (Some c) None after same lost = absurd lost
lost_stays n (Some c) (Some m) after same lost = rw same (record { waiting = lost.waiting; fewer = omega (arith, lost.fewer) })

-- this one is
lost_added : (n : ℕ) (before now after : Option Connections) (input output : Option (List ℕ)) (failed : Bool) → LostSo n before now → GivesBack input output failed (Ok tt) now after → LostSo (n + 1) before after
lost_added n None now after input output failed lost gives = tt
lost_added n (Some c) None after input output failed lost gives = absurd lost
lost_added n (Some c) (Some m) after None output failed lost gives = absurd gives
lost_added n (Some c) (Some m) after (Some rest) None failed lost gives = absurd gives
lost_added n (Some c) (Some m) after (Some rest) (Some written) failed lost gives =
    let one : Returned = record { rest = rest; output = written; failed = failed } in
    rw gives (record { waiting = lost.waiting; fewer = omega (arith, lost.fewer, length-append m.returned (one ∷ [])) })

pub lost_more : (told : Bool) (given : Result (Unit {0}) Memory) (passes : List Passed) (input output : Option (List ℕ)) (failed : Bool) (before now after : Option Connections) → (told && is_ok given) ≡ false
    → (told ≡ true → GaveSo passes before now) → (told ≡ false → LostSo (length passes) before now) → GivesBack input output failed given now after → LostSo (length passes + 1) before after
lost_more true (Ok done) passes input output failed before now after is gave lost gives = absurd (true≢false is)
lost_more true (Err short) passes input output failed before now after is gave lost gives = lost_first passes before now after gives (gave refl)
lost_more false (Ok done) passes input output failed before now after is gave lost gives = lost_added (length passes) before now after input output failed (lost refl) gives
lost_more false (Err short) passes input output failed before now after is gave lost gives = lost_stays (length passes) before now after gives (lost refl)

module _ {S : Type 0} (f : S → Passed) (done : List S) (one : S) where
  more_mapped : map f (done ++ one ∷ []) ≡ map f done ++ f one ∷ []
  more_mapped = map-append f done (one ∷ [])

  pub given_more : (before now after : Option Connections) (given : Result (Unit {0}) Memory) → given ≡ Ok tt → GaveSo (map f done) before now
      → GivesBack (f one).after.input (f one).after.output (either_failed (f one).after.input_faults (f one).after.output_faults) given now after → GaveSo (map f (done ++ one ∷ [])) before after
  given_more before now after given well so gives = subst (λ (l : List Passed). GaveSo l before after) (sym more_mapped) (one_given (map f done) (f one) before now after so
      (subst (λ (r : Result (Unit {0}) Memory). GivesBack (f one).after.input (f one).after.output (either_failed (f one).after.input_faults (f one).after.output_faults) r now after) well gives))

-- ---- what was noted

count-snoc : (passes : List Passed) (p : Passed) → count_by (λ (q : Passed). is_short q.end) (passes ++ p ∷ []) ≡ count_by (λ (q : Passed). is_short q.end) passes + (if is_short p.end then 1 else 0)
count-snoc passes p = fold-append (λ (n : ℕ) (q : Passed). n + (if is_short q.end then 1 else 0)) 0 passes (p ∷ [])

pub noted_one : (passes : List Passed) (p : Passed) (before after : Notes) → HasNoted before passes → AddsOne p.after.said p.after.turned p.end before after → HasNoted after (passes ++ p ∷ [])
noted_one passes p before after noted adds = record {
  said = adds.said_is ∙ ap (λ (l : List (List Said)). l ++ p.after.said ∷ []) noted.said ∙ sym (map-append (λ (q : Passed). q.after.said) passes (p ∷ []));
  turned = adds.turned_is ∙ ap (λ (l : List (List Turned)). l ++ p.after.turned ∷ []) noted.turned ∙ sym (map-append (λ (q : Passed). q.after.turned) passes (p ∷ []));
  short = adds.short_is ∙ ap (λ (n : ℕ). n + (if is_short p.end then 1 else 0)) noted.short ∙ sym (count-snoc passes p);
}

pub noted_more : {S : Type 0} (f : S → Passed) (done : List S) (one : S) (noted : Result (Unit {0}) Memory) (before after : Notes) → noted ≡ Ok tt → HasNoted before (map f done)
    → OnOk noted (AddsOne (f one).after.said (f one).after.turned (f one).end before after) → HasNoted after (map f (done ++ one ∷ []))
noted_more f done one noted before after well has adds = subst (λ (l : List Passed). HasNoted after l) (sym (map-append f done (one ∷ []))) (noted_one (map f done) (f one) before after has
    (subst (λ (r : Result (Unit {0}) Memory). OnOk r (AddsOne (f one).after.said (f one).after.turned (f one).end before after)) well adds))
