-- How steps follow one another.
use Rattle.std.proofs.Common.{◌≡◌, ℕ, suc, ◌+◌, ◌-◌, ◌<◌, List, [], ◌∷◌, ◌++◌, length, drop, get_or, Option, None, Some, Result, Ok, Err, refl, inl, inr, sym, ap, subst, ◌∙◌, arith, append_assoc}
use Rattle.std.proofs.Math.Seq.{drop-cons}
use Rattle.desk_files.specs.Outside.{FileMap, Told}
use Rattle.replay_cli.specs.declared.failure.Refusal.{Refusal}
use Rattle.replay_cli.specs.declared.failure.Failure.{Failure}
use Rattle.replay_cli.specs.declared.failure.Failure.TheVariants.{BadCommand, Refused, Differs, NotDone, NotSent, DeviceFault, OutOfMemory}
use Rattle.replay_cli.specs.Steps.{Is, Reading, Then, file_in}
use Rattle.replay_cli.specs.Inside.Steps.{Answered, Faults, FailedAt, FaultFree, Step, Stops}
use Rattle.desk_files.proofs.WriteLaws.{told}

-- ---- what is told

pub told_both : {T : Type 0} {P Q R : T → Type 0} (content : Option T) → ((x : T) → P x → Q x → R x) → Told content P → Told content Q → Told content R
told_both None f h k = tt
told_both (Some x) f h k = f x h k

pub told_at : {T : Type 0} (P : T → Type 0) (before after : Option T) → after ≡ before → Told after P → Told before P
told_at {T = T} P before after same h = let Q : Option T → Type 0 = λ c. Told c P in subst Q same h

-- ---- a step that refuses, and one that does not

pub stops_here : {X Y : Type 0} (want : Result X Refusal → Type 0) (next : X → Result Y Refusal → Type 0) (failure : Failure) → Stops want failure → Stops (Then want next) failure
stops_here want next BadCommand h = absurd h
stops_here want next (Refused refusal) h = inl h
stops_here want next (Differs finding) h = absurd h
stops_here want next (NotDone cause) h = absurd h
stops_here want next (NotSent cause) h = absurd h
stops_here want next DeviceFault h = tt
stops_here want next OutOfMemory h = tt

pub stops_then : {X Y : Type 0} (want : Result X Refusal → Type 0) (next : X → Result Y Refusal → Type 0) (x : X) (failure : Failure) → want (Ok x) → Stops (next x) failure → Stops (Then want next) failure
stops_then want next x BadCommand is h = absurd h
stops_then want next x (Refused refusal) is h = inr (x, is, h)
stops_then want next x (Differs finding) is h = absurd h
stops_then want next x (NotDone cause) is h = absurd h
stops_then want next x (NotSent cause) is h = absurd h
stops_then want next x DeviceFault is h = tt
stops_then want next x OutOfMemory is h = tt

pub answers_then : {X Y : Type 0} (want : Result X Refusal → Type 0) (next : X → Result Y Refusal → Type 0) (x : X) (result : Result Y Failure) → want (Ok x) → Answered (next x) result → Answered (Then want next) result
answers_then want next x (Ok y) is h = (x, is, h)
answers_then want next x (Err failure) is h = stops_then want next x failure is h

pub step_stops : {X Y : Type 0} {want : FileMap → Result X Refusal → Type 0} (next : FileMap → X → Result Y Refusal → Type 0) (before after : Option FileMap) (fb fa : ℕ) (failure : Failure)
    → Step want before after fb fa (Err failure) → Step (λ files. Then (want files) (next files)) before after fb fa (Err failure)
step_stops {want = want} next before after fb fa failure s = record {
  says = told before (λ files h. stops_here (want files) (next files) failure h) s.says;
  content = s.content;
  faults = s.faults;
}

pub step_then : {X Y : Type 0} {want : FileMap → Result X Refusal → Type 0} (next : FileMap → X → Result Y Refusal → Type 0) (c0 c1 c2 : Option FileMap) (f0 f1 f2 : ℕ) (x : X) (result : Result Y Failure)
    → Step want c0 c1 f0 f1 (Ok x) → Step (λ files. next files x) c1 c2 f1 f2 result → Step (λ files. Then (want files) (next files)) c0 c2 f0 f2 result
step_then {want = want} next c0 c1 c2 f0 f1 f2 x result s t = record {
  says = told_both c0 (λ files h k. answers_then (want files) (next files) x result h k) s.says (told_at _ c0 c1 s.content t.says);
  content = t.content ∙ s.content;
  faults = subst (λ (f : ℕ). Faults result f f2) s.faults t.faults;
}

-- a step that touches no file
pub step_pure : {X : Type 0} (want : FileMap → Result X Refusal → Type 0) (c : Option FileMap) (f : ℕ) (result : Result X Failure) → ((files : FileMap) → Answered (want files) result) → FaultFree result → Step want c c f f result
step_pure want c f result h free = record { says = told c (λ files u. h files) (always c); content = refl; faults = faults result free } where
  always : {T : Type 0} (c : Option T) → Told c (λ x. Unit {0})
  always None = tt
  always (Some x) = tt

  faults : {X : Type 0} (result : Result X Failure) → FaultFree result → Faults result f f
  faults (Ok x) free = refl
  faults (Err BadCommand) free = absurd free
  faults (Err (Refused refusal)) free = refl
  faults (Err (Differs finding)) free = absurd free
  faults (Err (NotDone cause)) free = absurd free
  faults (Err (NotSent cause)) free = absurd free
  faults (Err DeviceFault) free = absurd free
  faults (Err OutOfMemory) free = refl

-- ---- reading

-- the whole has each answer that these items and the rest have
abbrev pub Remains : {X : Type 0} → List X → (Result (List X) Refusal → Type 0) → (Result (List X) Refusal → Type 0) → Type 0
Remains {X = X} first rest whole = (answer : Result (List X) Refusal) → Then rest (λ items. Is (Ok (first ++ items))) answer → whole answer

-- the files from this place on
from_here : {X : Type 0} (parsed : ℕ → List ℕ → List ℕ → Result X Refusal → Type 0) (files : FileMap) (room place i : ℕ) (names : List (List ℕ)) (name : List ℕ) → i < length names → name ≡ get_or names i name
    → Reading parsed files room place (drop i names) ≡ Reading parsed files room place (name ∷ drop (i + 1) names)
from_here parsed files room place i names name within is =
    let rest : drop i names ≡ name ∷ drop (i + 1) names = drop-cons names i name within ∙ (let next : suc i ≡ i + 1 = omega arith in rw (← is, next) refl) in
    ap (Reading parsed files room place) rest

module _ {X : Type 0} (parsed : ℕ → List ℕ → List ℕ → Result X Refusal → Type 0) (files : FileMap) (room place i : ℕ) (names : List (List ℕ)) (first : List X) (whole : Result (List X) Refusal → Type 0) (name : List ℕ) (within : i < length names) (is : name ≡ get_or names i name) (so_far : Remains first (Reading parsed files room place (drop i names)) whole) where
  from_name : Remains first (Reading parsed files room place (name ∷ drop (i + 1) names)) whole
  from_name = subst (λ (R : Result (List X) Refusal → Type 0). Remains first R whole) (from_here parsed files room place i names name within is) so_far

  pub one_read : (bytes : List ℕ) (item : X) → file_in files room name ≡ Ok bytes → parsed place name bytes (Ok item) → Remains (first ++ item ∷ []) (Reading parsed files (room - length bytes) (place + 1) (drop (i + 1) names)) whole
  one_read bytes item held read (Ok all) h = from_name (Ok all) (item ∷ h.0, (bytes, held, (item, read, (h.0, h.1, refl))), ap (λ xs. Ok xs) (sym (append_assoc first (item ∷ []) h.0)) ∙ h.2)
  one_read bytes item held read (Err refusal) (inl h) = from_name (Err refusal) (inl (inr (bytes, held, inr (item, read, inl h))))
  one_read bytes item held read (Err refusal) (inr h) = absurd (cc h.2)

  stop_at : (failure : Failure) → Stops (Reading parsed files room place (name ∷ drop (i + 1) names)) failure → Stops whole failure
  stop_at BadCommand h = h
  stop_at (Refused refusal) h = from_name (Err refusal) (inl h)
  stop_at (Differs finding) h = absurd h
  stop_at (NotDone cause) h = absurd h
  stop_at (NotSent cause) h = absurd h
  stop_at DeviceFault h = tt
  stop_at OutOfMemory h = tt

  abbrev after_item : List ℕ → X → Result (List X) Refusal → Type 0
  after_item bytes item = Then (Reading parsed files (room - length bytes) (place + 1) (drop (i + 1) names)) (λ items. Is (Ok (item ∷ items)))

  abbrev after_bytes : List ℕ → Result (List X) Refusal → Type 0
  after_bytes bytes = Then (parsed place name bytes) (after_item bytes)

  pub parse_stops : (bytes : List ℕ) (failure : Failure) → file_in files room name ≡ Ok bytes → Stops (parsed place name bytes) failure → Stops whole failure
  parse_stops bytes failure held stops = stop_at failure (stops_then (Is (file_in files room name)) after_bytes bytes failure held (stops_here (parsed place name bytes) (after_item bytes) failure stops))

-- the first `i` files were read
pub record ReadSoFar {X : Type 0} (parsed : ℕ → List ℕ → List ℕ → Result X Refusal → Type 0) (names : List (List ℕ)) (room left i : ℕ) (items : List X) (c0 c1 : Option FileMap) (f0 f1 : ℕ) : Type 0 where
  pub so_far : Told c0 (λ files. Remains items (Reading parsed files left i (drop i names)) (Reading parsed files room 0 names))
  pub content : c1 ≡ c0
  pub faults : f1 ≡ f0

module _ {X : Type 0} (parsed : ℕ → List ℕ → List ℕ → Result X Refusal → Type 0) (names : List (List ℕ)) (room left i : ℕ) (items : List X) (c0 c1 c2 : Option FileMap) (f0 f1 f2 : ℕ) (name : List ℕ) (within : i < length names) (is : name ≡ get_or names i name) (so_far : ReadSoFar parsed names room left i items c0 c1 f0 f1) where
  pub parse_stop : (bytes : List ℕ) (failure : Failure) → Step (λ files. Is (file_in files left name)) c1 c2 f1 f2 (Ok bytes) → Stops (parsed i name bytes) failure → FaultFree {X = X} (Err failure) → Step (λ files. Reading parsed files room 0 names) c0 c2 f0 f2 (Err failure)
  parse_stop bytes failure step stops free = record {
    says = told_both c0 (λ files h k. parse_stops parsed files left i i names items _ name within is h bytes failure k stops) so_far.so_far (told_at _ c0 c1 so_far.content step.says);
    content = step.content ∙ so_far.content;
    faults = unfailed failure free (step.faults ∙ so_far.faults);
  } where
    unfailed : (failure : Failure) → FaultFree {X = X} (Err failure) → f2 ≡ f0 → FailedAt failure f0 f2
    unfailed BadCommand free e = absurd free
    unfailed (Refused refusal) free e = e
    unfailed (Differs finding) free e = absurd free
    unfailed (NotDone cause) free e = absurd free
    unfailed (NotSent cause) free e = absurd free
    unfailed DeviceFault free e = absurd free
    unfailed OutOfMemory free e = e

  pub read_on : (bytes : List ℕ) (item : X) → Step (λ files. Is (file_in files left name)) c1 c2 f1 f2 (Ok bytes) → parsed i name bytes (Ok item) → ReadSoFar parsed names room (left - length bytes) (i + 1) (items ++ item ∷ []) c0 c2 f0 f2
  read_on bytes item step read = record {
    so_far = told_both c0 (λ files h k. one_read parsed files left i i names items _ name within is h bytes item k read) so_far.so_far (told_at _ c0 c1 so_far.content step.says);
    content = step.content ∙ so_far.content;
    faults = step.faults ∙ so_far.faults;
  }
