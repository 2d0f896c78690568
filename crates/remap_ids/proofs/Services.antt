-- The services of a remap as an `IndexMap`.
use Rattle.std.proofs.Common.{◌≡◌, ◌∙◌, ℕ, zero, suc, ◌+◌, Bool, true, false, List, [], ◌∷◌, ◌++◌, cond, length, map, take, Option, None, Some, Ok, Err, refl, sym, ap, is_some, arith}
use Rattle.std.specs.Prelude.{not, slice_get}
use Rattle.std.proofs.lemmas.Bool.{not-false}
use Rattle.std.proofs.lemmas.Option.{get_or_from_slice_get, slice_get_within}
use Rattle.std.proofs.lemmas.Slice.Eq.{bytes_eq-Decides}
use Rattle.std.specs.List.{AllByRecursion, IsDistinct}
use Rattle.std.proofs.lemmas.List.{map-append, take_more}
use Rattle.std.proofs.lemmas.Map.Keys.{IsDistinct-head, IsDistinct-tail}
use Rattle.indexmap.specs.IndexMap.{IndexMap, insert_entry}
use Rattle.indexmap.proofs.CallerLemmas.{insert_entry-new}
use Rattle.std.specs.declared.string.String.{String}
use Rattle.std.specs.Map.{keys_of, lookup}
use Rattle.std.specs.Str.{bytes_eq}
use Rattle.std.specs.String.{string_bytes, string_eq, string_eq_equiv}
use Rattle.remap_ids.proofs.Entries.{none_of}
use Rattle.remap_ids.specs.declared.remap.RemapErr.TheVariants.{TwiceFrom}
use Rattle.remap_ids.specs.Services.{ServicePair, sent_for, with_pair}

abbrev pub seen : {A : Type 0} → List (String A × List ℕ) → List ServicePair
seen entries = map (λ entry. (string_bytes entry.0, entry.1)) entries

pub length-seen : {A : Type 0} (entries : List (String A × List ℕ)) → length (seen entries) ≡ length entries
length-seen [] = refl
length-seen (entry ∷ entries) = omega (arith, length-seen entries)

-- a look-up by the bytes of a text
pub lookup_seen : {A : Type 0} (entries : List (String A × List ℕ)) (service : List ℕ) → lookup (λ key. bytes_eq service (string_bytes key)) entries ≡ sent_for (seen entries) service
lookup_seen [] service = refl
lookup_seen (entry ∷ entries) service = ap (λ found. cond (bytes_eq service (string_bytes entry.0)) (Some entry.1) found) (lookup_seen entries service)

-- a record of a service that is there already
pub repeated : (services : List ServicePair) (said : Option ServicePair) (pair : ServicePair) (n : ℕ) → Some pair ≡ said → is_some (sent_for services pair.0) ≡ true → n ≡ length services → with_pair services said ≡ Err (TwiceFrom (n + 1))
repeated services said pair n says there count = rw (sym says, there, count) refl

-- a record of a further one
pub further : (services : List ServicePair) (said : Option ServicePair) (pair : ServicePair) → Some pair ≡ said → is_some (sent_for services pair.0) ≡ false → with_pair services said ≡ Ok (services ++ pair ∷ [])
further services said pair says absent = rw (sym says, absent) refl

-- and the map that has it
pub inserted : {A S : Type 0} (m : IndexMap (String A) (List ℕ) S) (service : String A) (other : List ℕ) → is_some (lookup (λ key. bytes_eq (string_bytes service) (string_bytes key)) m.entries) ≡ false → seen (insert_entry string_eq m.entries service other) ≡ seen m.entries ++ (string_bytes service, other) ∷ []
inserted m service other absent = ap seen (insert_entry-new string_eq m service other (none_of _ absent)) ∙ map-append (λ entry. (string_bytes entry.0, entry.1)) m.entries ((service, other) ∷ [])

-- ---- one pair of each service

differs : {A : Type 0} (service : String A) (entries : List (String A × List ℕ)) (place : ℕ) (entry : String A × List ℕ) → AllByRecursion (λ other. string_eq service other ≡ false) (keys_of entries) → slice_get entries place ≡ Some entry → string_eq entry.0 service ≡ false
differs service [] place entry apart at = absurd (cc)
differs service (e ∷ entries) zero entry apart at =
    let same : entry ≡ e = cc in
    ap (λ one. string_eq one.0 service) same ∙ sym (string_eq_equiv.symm service e.0) ∙ apart.0
differs service (e ∷ entries) (suc place) entry apart at = differs service entries place entry apart.1 at

-- a service has no pair before its own
pub alone : {A : Type 0} (entries : List (String A × List ℕ)) (place : ℕ) (entry : String A × List ℕ) → IsDistinct string_eq (keys_of entries) → slice_get entries place ≡ Some entry → sent_for (take place (seen entries)) (string_bytes entry.0) ≡ None
alone [] place entry once at = absurd (cc)
alone (e ∷ entries) zero entry once at = refl
alone (e ∷ entries) (suc place) entry once at =
    let rest = alone entries place entry (IsDistinct-tail string_eq e.0 (keys_of entries) once) at in
    let apart = differs e.0 entries place entry (IsDistinct-head string_eq e.0 (keys_of entries) once) at in
    ap (λ (same : Bool). cond same (Some e.1) (sent_for (take place (seen entries)) (string_bytes entry.0))) apart ∙ rest

-- ---- pairs by place

pub taken : (services : List ServicePair) (place : ℕ) (pair : ServicePair) → slice_get services place ≡ Some pair → take (place + 1) services ≡ take place services ++ pair ∷ []
taken services place pair at = take_more services place pair (slice_get_within services place pair at) ∙ ap (λ (one : ServicePair). take place services ++ one ∷ []) (get_or_from_slice_get services place pair pair at)

pub same_text : (a b : List ℕ) → false ≡ not (bytes_eq a b) → a ≡ b
same_text a b e = (bytes_eq-Decides a b).0 (not-false (bytes_eq a b) (sym e))
