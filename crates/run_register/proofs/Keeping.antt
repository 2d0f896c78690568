-- Entries in the order of their keys, in which one is looked up, or put at its place.
use Rattle.std.proofs.Common.{◌≡◌, ℕ, ◌+◌, ◌<◌, ◌≤◌, Bool, true, false, cond, List, [], ◌∷◌, ◌++◌, map, length, get_or, take, drop, refl, sym, ap, subst, ◌∙◌, Option, None, Some, Result, Ok, Err, IfOk, OnOk, OnErr, ◌||◌}
use Rattle.std.specs.Prelude.{T, is_some}
use Rattle.std.specs.List.{filter, insert as insert_at, list_any}
use Rattle.std.specs.Ordering.{eq_by_cmp, is_eq, nat_cmp, ordering_then}
use Rattle.std.specs.Cmp.{IsTotalOrder, nat_cmp_total, on_total, then_total}
use Rattle.std.specs.Cmp.Lexicographic.{nat_list_cmp_total}
use Rattle.std.proofs.lemmas.Map.Lookups.{exact_bytes}
use Rattle.std.specs.declared.cmp.Ordering.{Ordering}
use Rattle.std.specs.declared.cmp.Ordering.TheVariants.{Less, Equal, Greater}
use Rattle.std.specs.FinMap.{FinMap, IsAntisymmetric, contains_key, empty, empty_of_len, entries, entries-from_sorted, entries-insert, find, from_sorted, get, get-from_sorted, get-insert, get_tied, insert, is_sorted, len-entries, nat_cmp-IsAntisymmetric, put, same_entries_map, same_map}
use Rattle.std.specs.FinMap.Entries.{by_order, is_sorted-put}
use Rattle.std.proofs.lemmas.List.{drop-map, map-append, take-map}
use Rattle.desk_values.specs.declared.memory.Memory.{Memory}
use Rattle.run_register.specs.declared.kept.Accept.{Accept}
use Rattle.run_register.specs.declared.kept.Kept.{Kept}
use Rattle.run_register.specs.declared.mem_keeper.Accepted.{Accepted}
use Rattle.run_register.specs.Register.{Divergence, DivergenceSet, accept_of, accepts_of, divergence_cmp, entry_of, name_cmp}
use Rattle.run_register.specs.Memory.{NamesRise, divergence_of, divergences_of, runs_of}
use Rattle.run_register.specs.Inside.{DivergencesRise, place_of, behind}

module _ {K X : Type 0} (R : K → K → Ordering) where
  -- one that is new is put at its place
  pub put_at_place : (key : K) (value : X) (es : List (K × X)) → find R key es ≡ None → put R key value es ≡ insert_at es (place_of R key es) (key, value)
  put_at_place key value [] new = refl
  put_at_place key value (e ∷ es) new =
      elim (R key e.0) as (λ r. cond (is_eq r) (Some e.1) (find R key es) ≡ None → by_order r ((key, value) ∷ e ∷ es) ((e.0, value) ∷ es) (e ∷ put R key value es) ≡ insert_at (e ∷ es) (behind r (place_of R key es)) (key, value)) [
        | Less ↦ λ _. refl
        | Equal ↦ λ found. absurd (let never = found in cc)
        | Greater ↦ λ rest. ap (λ l. e ∷ l) (put_at_place key value es rest)
      ] new

module _ {K X : Type 0} {R : K → K → Ordering} (o : IsTotalOrder R) where
  pub from_sorted-put : (key : K) (value : X) (es : List (K × X)) → T (is_sorted R es) → from_sorted {R = R} (put R key value es) ≡ insert (from_sorted es) key value
  from_sorted-put key value es rise = same_entries_map _ _ (
      entries-from_sorted R (put R key value es) (is_sorted-put R o key value es rise)
      ∙ ap (put R key value) (sym (entries-from_sorted R es rise))
      ∙ sym (entries-insert o (from_sorted es) key value))

  -- to insert what is there changes nothing
  pub insert_known : IsAntisymmetric R → (m : FinMap R X) (key : K) (value : X) → get m key ≡ Some value → insert m key value ≡ m
  insert_known same m key value known = same_map o same _ _ (λ q. get-insert o m key value q ∙ at q (R q key) refl) where
    at : (q : K) (r : Ordering) → R q key ≡ r → cond (is_eq (R q key)) (Some value) (get m q) ≡ get m q
    at q Less e = ap (λ (r : Ordering). cond (is_eq r) (Some value) (get m q)) e
    at q Equal e = ap (λ (r : Ordering). cond (is_eq r) (Some value) (get m q)) e ∙ sym known ∙ get_tied o m q key e
    at q Greater e = ap (λ (r : Ordering). cond (is_eq r) (Some value) (get m q)) e

-- an insertion among items is one among what they are seen as
pub map-insert_at : {A B : Type 0} (f : A → B) (xs : List A) (i : ℕ) (x : A) → map f (insert_at xs i x) ≡ insert_at (map f xs) i (f x)
map-insert_at f xs i x =
    map-append f (take i xs) (x ∷ drop i xs)
    ∙ sym (ap (λ l. l ++ f x ∷ drop i (map f xs)) (take-map f i xs) ∙ ap (λ l. map f (take i xs) ++ f x ∷ l) (drop-map f i xs))

-- a list after one that is new was put at its place
pub put_is : {A K X : Type 0} (R : K → K → Ordering) (f : A → K × X) (old new : List A) (i : ℕ) (x : A) → new ≡ insert_at old i x → i ≡ place_of R (f x).0 (map f old) → find R (f x).0 (map f old) ≡ None → map f new ≡ put R (f x).0 (f x).1 (map f old)
put_is R f old new i x e place none =
    ap (map f) e
    ∙ map-insert_at f old i x
    ∙ ap (λ (n : ℕ). insert_at (map f old) n (f x)) place
    ∙ sym (put_at_place R (f x).0 (f x).1 (map f old) none)

-- ---- what the lists are seen as

pub none_accepted : divergences_of [] ≡ empty
none_accepted = empty_of_len (divergences_of []) (len-entries (divergences_of []) ∙ ap length (entries-from_sorted divergence_cmp [] tt))

pub stored_runs : (result : Result (List Kept) Memory) (runs : List Kept) → NamesRise runs → IfOk result (λ list. list ≡ runs) → IfOk result (λ list. map entry_of list ≡ entries (runs_of runs))
stored_runs (Ok list) runs rise e = ap (map entry_of) e ∙ sym (entries-from_sorted name_cmp (map entry_of runs) rise)
stored_runs (Err error) runs rise h = h

keys_are : (accepted : List Accepted) → map (λ e. e.0) (map divergence_of accepted) ≡ map (λ (a : Accepted). (divergence_of a).0) accepted
keys_are [] = refl
keys_are (a ∷ accepted) = ap (λ (l : List Divergence). (divergence_of a).0 ∷ l) (keys_are accepted)

-- ---- what was accepted of one run

abbrev pub told : List ℕ → List Accepted → List Accept
told name accepted = map accept_of (filter (λ (d : Divergence). eq_by_cmp name_cmp name d.0) (map (λ (a : Accepted). (divergence_of a).0) accepted))

pub told_is : (name : List ℕ) (accepted : List Accepted) → DivergencesRise accepted → told name accepted ≡ accepts_of name (divergences_of accepted)
told_is name accepted rise =
    let kept : List Divergence → List Accept = λ (ds : List Divergence). map accept_of (filter (λ (d : Divergence). eq_by_cmp name_cmp name d.0) ds) in
    ap kept (sym (ap (map (λ (e : Divergence × Unit {0}). e.0)) (entries-from_sorted divergence_cmp (map divergence_of accepted) rise) ∙ keys_are accepted))

-- ---- what a list is after one more was put, or nothing for want of memory

module _ {A K X : Type 0} {R : K → K → Ordering} (o : IsTotalOrder R) (f : A → K × X) where
  pub rise_after : (r : Result (Unit {0}) Memory) (old new : List A) (x : A) → T (is_sorted R (map f old)) → OnOk r (map f new ≡ put R (f x).0 (f x).1 (map f old)) → OnErr r (new ≡ old) → T (is_sorted R (map f new))
  rise_after (Ok done) old new x rise ok err = subst (λ (es : List (K × X)). T (is_sorted R es)) (sym ok) (is_sorted-put R o (f x).0 (f x).1 (map f old) rise)
  rise_after (Err error) old new x rise ok err = subst (λ (l : List A). T (is_sorted R (map f l))) (sym err) rise

  pub seen_after : (r : Result (Unit {0}) Memory) (M : Type 0) (see : FinMap R X → M) (old new : List A) (x : A) → T (is_sorted R (map f old)) → OnOk r (map f new ≡ put R (f x).0 (f x).1 (map f old)) → OnOk r (see (from_sorted (map f new)) ≡ see (insert (from_sorted (map f old)) (f x).0 (f x).1))
  seen_after (Ok done) M see old new x rise ok = ap see (ap (from_sorted {R = R}) ok ∙ from_sorted-put o (f x).0 (f x).1 (map f old) rise)
  seen_after (Err error) M see old new x rise ok = ok

pub none_of : {X : Type 0} (found : Option X) → is_some found ≡ false → found ≡ None
none_of None absent = refl
none_of (Some x) absent = absurd (let never = absent in cc)

some_of : (found : Option (Unit {0})) → is_some found ≡ true → found ≡ Some tt
some_of None present = absurd (let never = present in cc)
some_of (Some x) present = refl

-- ---- the order of divergences

pub divergences_total : IsTotalOrder divergence_cmp
divergences_total = then_total (on_total (λ (d : Divergence). d.0) nat_list_cmp_total) (then_total (on_total (λ (d : Divergence). d.1.0) nat_cmp_total) (on_total (λ (d : Divergence). d.1.1) nat_cmp_total))

both_equal : (a b : Ordering) → ordering_then a b ≡ Equal → (a ≡ Equal) × (b ≡ Equal)
both_equal Less b e = absurd (let never = e in cc)
both_equal Equal b e = (refl, e)
both_equal Greater b e = absurd (let never = e in cc)

divergences_apart : IsAntisymmetric divergence_cmp
divergences_apart x y e =
    let names = both_equal (name_cmp x.0 y.0) _ e in
    let numbers = both_equal (nat_cmp x.1.0 y.1.0) (nat_cmp x.1.1 y.1.1) names.1 in
    let name : x.0 ≡ y.0 = exact_bytes x.0 y.0 names.0 in
    let stamp : x.1.0 ≡ y.1.0 = nat_cmp-IsAntisymmetric x.1.0 y.1.0 numbers.0 in
    let class : x.1.1 ≡ y.1.1 = nat_cmp-IsAntisymmetric x.1.1 y.1.1 numbers.1 in
    λ i. (name i, (stamp i, class i))

-- a divergence that is accepted again changes nothing
pub accepted_again : (divergences : DivergenceSet) (d : Divergence) → contains_key divergences d ≡ true → insert divergences d tt ≡ divergences
accepted_again divergences d present = insert_known divergences_total divergences_apart divergences d tt (some_of (get divergences d) present)

-- whether one of the list is this one
pub among_is : (d : Divergence) (accepted : List Accepted) → DivergencesRise accepted → list_any (λ (a : Accepted). eq_by_cmp divergence_cmp d (divergence_of a).0) accepted ≡ contains_key (divergences_of accepted) d
among_is d accepted rise = sym (ap is_some (get-from_sorted divergence_cmp (map divergence_of accepted) d rise) ∙ at accepted) where
  either : (b : Bool) (found : Option (Unit {0})) → is_some (cond b (Some tt) found) ≡ (b || is_some found)
  either true found = refl
  either false found = refl

  at : (accepted : List Accepted) → is_some (find divergence_cmp d (map divergence_of accepted)) ≡ list_any (λ (a : Accepted). eq_by_cmp divergence_cmp d (divergence_of a).0) accepted
  at [] = refl
  at (a ∷ accepted) = either (eq_by_cmp divergence_cmp d (divergence_of a).0) (find divergence_cmp d (map divergence_of accepted)) ∙ ap (λ (b : Bool). eq_by_cmp divergence_cmp d (divergence_of a).0 || b) (at accepted)
