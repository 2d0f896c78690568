-- A space at the end or at the front.
use Rattle.std.proofs.Common.{◌≡◌, ◌≢◌, ℕ, eqb, List, [], ◌∷◌, ◌++◌, Some, None, refl, ap, ◌∙◌}
use Rattle.std.specs.Option.{option_map}
use Rattle.std.proofs.lemmas.Bool.{ne_eqb, eqb-true}
use Rattle.std.proofs.lemmas.Option.{cond_some}
use Rattle.desk_values.proofs.Options.{map_some}
use Rattle.capture_format.specs.Inside.SessionReading.{before_space, behind_space}

pub before_space-joined : (front : List ℕ) → before_space (front ++ 32 ∷ []) ≡ Some front
before_space-joined [] = refl
before_space-joined (byte ∷ []) = refl
before_space-joined (byte ∷ next ∷ front) = ap (option_map (λ (xs : List ℕ). byte ∷ xs)) (before_space-joined (next ∷ front))

pub before_space-other : (last : ℕ) (front : List ℕ) → last ≢ 32 → before_space (front ++ last ∷ []) ≡ None
before_space-other last [] other = rw (ne_eqb last 32 other) refl
before_space-other last (byte ∷ []) other = rw (ne_eqb last 32 other) refl
before_space-other last (byte ∷ next ∷ front) other = ap (option_map (λ (xs : List ℕ). byte ∷ xs)) (before_space-other last (next ∷ front) other)

pub before_space_takes : (bytes front : List ℕ) → before_space bytes ≡ Some front → bytes ≡ front ++ 32 ∷ []
before_space_takes [] front e = absurd cc
before_space_takes (byte ∷ []) front e =
    let test = cond_some (eqb byte 32) [] front e in
    let is = eqb-true byte 32 test.0 in
    let nothing = test.1 in
    cc
before_space_takes (byte ∷ next ∷ bytes) front e =
    let found = map_some (λ (xs : List ℕ). byte ∷ xs) (before_space (next ∷ bytes)) front e in
    let others = before_space_takes (next ∷ bytes) found.0 found.1 in
    let whole = found.2 in
    ap (λ (xs : List ℕ). byte ∷ xs) others ∙ ap (λ (xs : List ℕ). xs ++ 32 ∷ []) whole

pub behind_space_takes : (bytes back : List ℕ) → behind_space bytes ≡ Some back → bytes ≡ 32 ∷ back
behind_space_takes [] back e = absurd cc
behind_space_takes (byte ∷ bytes) back e =
    let test = cond_some (eqb byte 32) bytes back e in
    let is = eqb-true byte 32 test.0 in
    let others = test.1 in
    cc
