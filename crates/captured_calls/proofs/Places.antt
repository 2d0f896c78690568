-- Where the calls of a session stand among all calls by stamp.
use Rattle.std.proofs.Common.{◌≡◌, ◌≢◌, ℕ, zero, suc, ◌+◌, ◌<◌, ◌≤◌, Bool, true, false, ◌&&◌, List, [], ◌∷◌, ◌++◌, take, refl, sym, ap, subst, ◌∙◌, append_assoc, arith, cond}
use Rattle.std.specs.Prelude.{count_by, nat_eq, nat_lt}
use Rattle.std.specs.List.{AllByRecursion}
use Rattle.std.proofs.lemmas.Bool.{eq-eqb, ne_eqb}
use Rattle.std.proofs.lemmas.Bool.Decides.{Decides-ltb}
use Rattle.std.proofs.lemmas.List.Sorted.{sum_by-IsPermutation}
use Rattle.std.proofs.Math.Bool.{and-false}
use Rattle.desk_values.specs.declared.capture.Captured.{Captured}
use Rattle.capture_format.specs.SessionFile.{AreCallsFrom}
use Rattle.captured_calls.specs.Sessions.{AreSessionsFrom}
use Rattle.captured_calls.specs.Stamped.{ArePlaced}
use Rattle.captured_calls.specs.Stamps.{HasEach, all_calls, by_stamp, has_stamp}
use Rattle.captured_calls.proofs.Counts.{count_cons, count_joined, count_none, count_yes}
use Rattle.captured_calls.proofs.Members.{found_holds}
use Rattle.captured_calls.proofs.Ordered.{StampedFrom, later_on}
use Rattle.captured_calls.proofs.Permuted.{stamped_are_all}
use Rattle.captured_calls.proofs.Stamping.{by_stamp_get, stamp_is}
use Rattle.capture_format.proofs.Cuts.{all_append}

-- ---- places

-- how many calls of a call's session have a lower stamp
abbrev earlier : Captured → List Captured → ℕ
earlier call calls = count_by (λ (x : Captured). nat_lt x.stamp call.stamp && nat_eq x.session call.session) calls

abbrev IsPlaced : List Captured → Captured → Type 0
IsPlaced calls call = call.place ≡ earlier call calls

-- calls of other sessions do not count
elsewhere : (call : Captured) (calls : List Captured) → AllByRecursion (λ (x : Captured). x.session ≢ call.session) calls → earlier call calls ≡ 0
elsewhere call calls all = count_none _ calls (go calls all)
  where
    go : (calls : List Captured) → AllByRecursion (λ (x : Captured). x.session ≢ call.session) calls → AllByRecursion (λ (x : Captured). (nat_lt x.stamp call.stamp && nat_eq x.session call.session) ≡ false) calls
    go [] all = tt
    go (x ∷ xs) all = (ap (λ (b : Bool). nat_lt x.stamp call.stamp && b) (ne_eqb x.session call.session all.0) ∙ and-false (nat_lt x.stamp call.stamp), go xs all.1)

ltb_no : (a b : ℕ) → b ≤ a → nat_lt a b ≡ false
ltb_no a b le = at (nat_lt a b) refl
  where
    at : (t : Bool) → nat_lt a b ≡ t → nat_lt a b ≡ false
    at true e = absurd (omega (arith, le, (Decides-ltb a b).0 e))
    at false e = e

-- later calls of a session do not count
later_none : (call : Captured) (session place least : ℕ) (calls : List Captured) → call.stamp ≤ least → AreCallsFrom session place least calls → earlier call calls ≡ 0
later_none call session place least calls low are = count_none _ calls (go place least calls low are)
  where
    go : (place least : ℕ) (calls : List Captured) → call.stamp ≤ least → AreCallsFrom session place least calls → AllByRecursion (λ (x : Captured). (nat_lt x.stamp call.stamp && nat_eq x.session call.session) ≡ false) calls
    go place least [] low are = tt
    go place least (x ∷ xs) low are = (rw (ltb_no x.stamp call.stamp (omega (arith, low, are.0.stamp))) refl, go (place + 1) (x.stamp + 1) xs (omega (arith, low, are.0.stamp)) are.1)

-- a call of a session's list, which stands behind as many of its calls as its place says
record IsOwn (session place least : ℕ) (calls : List Captured) (call : Captured) : Type 0 where
  low : least ≤ call.stamp
  session_is : call.session ≡ session
  place_is : call.place ≡ place + earlier call calls

own_places : (session place least : ℕ) (calls : List Captured) → AreCallsFrom session place least calls → AllByRecursion (IsOwn session place least calls) calls
own_places session place least [] are = tt
own_places session place least (x ∷ xs) are =
    let rising : AreCallsFrom session place x.stamp (x ∷ xs) = (record { session_is = are.0.session_is; place_is = are.0.place_is; stamp = omega arith; began = are.0.began; ended = are.0.ended; reply = are.0.reply }, are.1) in
    let none : earlier x (x ∷ xs) ≡ 0 = later_none x session place x.stamp (x ∷ xs) (omega arith) rising in
    (record { low = are.0.stamp; session_is = are.0.session_is; place_is = omega (arith, are.0.place_is, none) }, step xs (own_places session (place + 1) (x.stamp + 1) xs are.1))
  where
    one_more : (call : Captured) → x.stamp + 1 ≤ call.stamp → call.session ≡ session → earlier call (x ∷ xs) ≡ 1 + earlier call xs
    one_more call low is = count_yes _ x xs (rw ((Decides-ltb x.stamp call.stamp).1 (omega (arith, low)), eq-eqb x.session call.session (are.0.session_is ∙ sym is)) refl)

    step : (ys : List Captured) → AllByRecursion (IsOwn session (place + 1) (x.stamp + 1) xs) ys → AllByRecursion (IsOwn session place least (x ∷ xs)) ys
    step [] all = tt
    step (y ∷ ys) all = (record { low = omega (arith, all.0.low, are.0.stamp); session_is = all.0.session_is; place_is = omega (arith, all.0.place_is, one_more y all.0.low all.0.session_is) }, step ys all.1)

sessions_of : (session place least : ℕ) (calls : List Captured) → AreCallsFrom session place least calls → AllByRecursion (λ (x : Captured). x.session ≡ session) calls
sessions_of session place least [] are = tt
sessions_of session place least (x ∷ xs) are = (are.0.session_is, sessions_of session (place + 1) (x.stamp + 1) xs are.1)

from_on : (session : ℕ) (lists : List (List Captured)) → AreSessionsFrom session lists → AllByRecursion (λ (x : Captured). session ≤ x.session) (all_calls lists)
from_on session [] are = tt
from_on session (calls ∷ lists) are = all_append _ calls (all_calls lists) (here calls (sessions_of session 0 0 calls are.0)) (there (all_calls lists) (from_on (session + 1) lists are.1))
  where
    here : (xs : List Captured) → AllByRecursion (λ (x : Captured). x.session ≡ session) xs → AllByRecursion (λ (x : Captured). session ≤ x.session) xs
    here [] all = tt
    here (x ∷ xs) all = (omega (arith, all.0), here xs all.1)

    there : (xs : List Captured) → AllByRecursion (λ (x : Captured). session + 1 ≤ x.session) xs → AllByRecursion (λ (x : Captured). session ≤ x.session) xs
    there [] all = tt
    there (x ∷ xs) all = (omega (arith, all.0), there xs all.1)

placed_from : (session : ℕ) (before : List Captured) (lists : List (List Captured)) → AllByRecursion (λ (x : Captured). x.session < session) before → AreSessionsFrom session lists → AllByRecursion (IsPlaced (before ++ all_calls lists)) (all_calls lists)
placed_from session before [] low are = tt
placed_from session before (calls ∷ lists) low are =
    let rest = all_calls lists in
    all_append _ calls rest (here calls (own_places session 0 0 calls are.0))
    (subst (λ (l : List Captured). AllByRecursion (IsPlaced l) rest) (append_assoc before calls rest) (placed_from (session + 1) (before ++ calls) lists (all_append _ before calls (below before low) (own calls (sessions_of session 0 0 calls are.0))) are.1))
  where
    below : (xs : List Captured) → AllByRecursion (λ (x : Captured). x.session < session) xs → AllByRecursion (λ (x : Captured). x.session < session + 1) xs
    below [] all = tt
    below (x ∷ xs) all = (omega (arith, all.0), below xs all.1)

    own : (xs : List Captured) → AllByRecursion (λ (x : Captured). x.session ≡ session) xs → AllByRecursion (λ (x : Captured). x.session < session + 1) xs
    own [] all = tt
    own (x ∷ xs) all = (omega (arith, all.0), own xs all.1)

    apart_low : (call : Captured) → call.session ≡ session → (xs : List Captured) → AllByRecursion (λ (x : Captured). x.session < session) xs → AllByRecursion (λ (x : Captured). x.session ≢ call.session) xs
    apart_low call is [] all = tt
    apart_low call is (x ∷ xs) all = ((λ same. absurd (omega (arith, all.0, same, is))), apart_low call is xs all.1)

    apart_high : (call : Captured) → call.session ≡ session → (xs : List Captured) → AllByRecursion (λ (x : Captured). session + 1 ≤ x.session) xs → AllByRecursion (λ (x : Captured). x.session ≢ call.session) xs
    apart_high call is [] all = tt
    apart_high call is (x ∷ xs) all = ((λ same. absurd (omega (arith, all.0, same, is))), apart_high call is xs all.1)

    here : (xs : List Captured) → AllByRecursion (IsOwn session 0 0 calls) xs → AllByRecursion (IsPlaced (before ++ all_calls (calls ∷ lists))) xs
    here [] all = tt
    here (c ∷ xs) all =
        let rest = all_calls lists in
        let parts : earlier c (before ++ (calls ++ rest)) ≡ earlier c before + (earlier c calls + earlier c rest) = count_joined _ before (calls ++ rest) ∙ ap (λ (n : ℕ). earlier c before + n) (count_joined _ calls rest) in
        (omega (arith, parts, elsewhere c before (apart_low c all.0.session_is before low), elsewhere c rest (apart_high c all.0.session_is rest (from_on (session + 1) lists are.1)), all.0.place_is), here xs all.1)

pub all_placed : (lists : List (List Captured)) → AreSessionsFrom 0 lists → AllByRecursion (IsPlaced (all_calls lists)) (all_calls lists)
all_placed lists are = placed_from 0 [] lists tt are

-- ---- counts by stamp

-- calls that stand by stamp from this one on: those with lower stamps stand in front
pub count_under : (p : Captured → Bool) (a : ℕ) (calls : List Captured) → StampedFrom a calls → (k : ℕ) → count_by (λ (x : Captured). nat_lt x.stamp (a + k) && p x) calls ≡ count_by p (take k calls)
count_under p a [] stamped zero = refl
count_under p a [] stamped (suc k) = refl
count_under p a (c ∷ cs) stamped zero = count_none _ (c ∷ cs) (none_lower a (c ∷ cs) stamped (omega arith))
  where
    none_lower : (b : ℕ) (xs : List Captured) → StampedFrom b xs → a ≤ b → AllByRecursion (λ (x : Captured). (nat_lt x.stamp (a + zero) && p x) ≡ false) xs
    none_lower b [] stamped le = tt
    none_lower b (x ∷ xs) stamped le =
        let first = stamped 0 x refl in
        (ap (λ (t : Bool). t && p x) (ltb_no x.stamp (a + zero) (omega (arith, first, le))), none_lower (b + 1) xs (later_on b x xs stamped) (omega (arith, le)))
count_under p a (c ∷ cs) stamped (suc k) =
    let first = stamped 0 c refl in
    let low : nat_lt c.stamp (a + suc k) ≡ true = (Decides-ltb c.stamp (a + suc k)).1 (omega (arith, first)) in
    let there : (a + 1) + k ≡ a + suc k = omega arith in
    let rest = subst (λ (n : ℕ). count_by (λ (x : Captured). nat_lt x.stamp n && p x) cs ≡ count_by p (take k cs)) there (count_under p (a + 1) cs (later_on a c cs stamped) k) in
    count_cons _ c cs ∙ ap (λ (b : Bool). cond (b && p c) 1 0 + count_by (λ (x : Captured). nat_lt x.stamp (a + suc k) && p x) cs) low ∙ ap (λ (n : ℕ). cond (p c) 1 0 + n) rest ∙ sym (count_cons p c (take k cs))

-- a call stands behind as many calls of its session as its place says
pub place_is : (lists : List (List Captured)) → AreSessionsFrom 0 lists → HasEach (all_calls lists) → ArePlaced (by_stamp (all_calls lists))
place_is lists are has k call there =
    let calls = all_calls lists in
    let placed : IsPlaced calls call = found_holds (IsPlaced calls) (has_stamp k) calls call (all_placed lists are) (by_stamp_get calls has k call there) in
    let p : Captured → Bool = λ (x : Captured). nat_eq x.session call.session in
    let moved : earlier call (by_stamp calls) ≡ earlier call calls = sum_by-IsPermutation _ calls (by_stamp calls) (stamped_are_all calls has) in
    let stamp : call.stamp ≡ 0 + k = omega (arith, stamp_is calls has k call there) in
    let stamped : StampedFrom 0 (by_stamp calls) = λ j c at. omega (arith, stamp_is calls has j c at) in
    placed ∙ sym moved ∙ ap (λ (n : ℕ). count_by (λ (x : Captured). nat_lt x.stamp n && p x) (by_stamp calls)) stamp ∙ count_under p 0 (by_stamp calls) stamped k
