-- A map of ids as an `IndexMap` and a set.
use Rattle.std.proofs.Common.{◌≡◌, ◌∙◌, ℕ, Bool, true, false, ◌||◌, List, [], ◌∷◌, ◌++◌, length, get_or, map, Option, None, Some, refl, sym, ap, subst, is_some}
use Rattle.std.specs.Prelude.{if◌then◌else◌, position, slice_get}
use Rattle.std.specs.Option.{option_map}
use Rattle.std.proofs.lemmas.Bool.{or_parts, true≢false}
use Rattle.std.proofs.lemmas.Option.{get_or_from_slice_get, slice_get-map, slice_get_read, slice_get_within}
use Rattle.std.proofs.lemmas.List.{map-append}
use Rattle.std.proofs.lemmas.List.Elements.{All-from_recursion, All-push, recursion_from_All}
use Rattle.std.proofs.lemmas.List.Quantifiers.{position-Some}
use Rattle.std.proofs.lemmas.Map.Made.{is_some-lookup}
use Rattle.std.proofs.lemmas.Map.Views.{list_any-from_Contains}
use Rattle.std.specs.List.{AllByRecursion, Contains, IsDistinct, list_any}
use Rattle.std.specs.Map.{keys_of}
use Rattle.indexmap.specs.IndexMap.{IndexMap, insert_entry}
use Rattle.indexmap.specs.IndexSet.{insert_key}
use Rattle.indexmap.proofs.CallerLemmas.{insert_entry-new}
use Rattle.id_pairs.specs.contracts.IdPartialEq.TheImpl as derived
use Rattle.id_pairs.specs.declared.Id.{Id}
use Rattle.id_pairs.specs.Ids.{same_id}
use Rattle.id_pairs.specs.Pairs.{IdPair, AreLike, IsIdMap, image_in, is_known, with_new}
use Rattle.id_pairs.proofs.SameIds.{derived_is_same, same_decides, same_equivalence}

pub none_of : {A : Type 0} (o : Option A) → is_some o ≡ false → o ≡ None
none_of None e = refl
none_of (Some x) e = absurd (cc)

-- ids on the replayed side
abbrev pub replayed_of : List IdPair → List Id
replayed_of pairs = map (λ pair. pair.1) pairs

-- the two tests are those of both sides
pub tests : (pairs : List IdPair) (captured replayed : Id) → (is_some (image_in pairs captured) || list_any (same_id replayed) (replayed_of pairs)) ≡ is_known pairs (captured, replayed)
tests pairs captured replayed = ap (λ (there : Bool). there || list_any (same_id replayed) (replayed_of pairs)) (is_some-lookup (same_id captured) pairs)

module _ {S : Type 0} (m : IndexMap Id Id S) (captured replayed : Id) (unknown : is_known m.entries (captured, replayed) ≡ false) where
  parts : (list_any (same_id captured) (keys_of m.entries) ≡ false) × (list_any (same_id replayed) (replayed_of m.entries) ≡ false)
  parts = or_parts (list_any (same_id captured) (keys_of m.entries)) (list_any (same_id replayed) (replayed_of m.entries)) unknown

  pub goes_last : insert_entry (derived.eq-value).it m.entries captured replayed ≡ m.entries ++ (captured, replayed) ∷ []
  goes_last = ap (λ eq. insert_entry eq m.entries captured replayed) derived_is_same ∙ insert_entry-new same_id m captured replayed (none_of (image_in m.entries captured) (is_some-lookup (same_id captured) m.entries ∙ parts.0))

  pub grows : m.entries ++ (captured, replayed) ∷ [] ≡ with_new m.entries (captured, replayed)
  grows = sym (ap (λ (known : Bool). if known then m.entries else m.entries ++ (captured, replayed) ∷ []) unknown)

  pub keys_go_last : (keys : List Id) → keys ≡ replayed_of m.entries → insert_key (derived.eq-value).it keys replayed ≡ replayed_of (m.entries ++ (captured, replayed) ∷ [])
  keys_go_last keys is =
      let known = replayed_of m.entries in
      ap (λ eq. insert_key eq keys replayed) derived_is_same ∙ ap (λ (ids : List Id). insert_key same_id ids replayed) is ∙ ap (λ (there : Bool). if there then known else known ++ replayed ∷ []) parts.1 ∙ sym (map-append (λ (pair : IdPair). pair.1) m.entries ((captured, replayed) ∷ []))

-- a map of ids with a further pair
pub one_more : (pairs after : List IdPair) (pair : IdPair) (keys : List Id) → IsIdMap pairs → AreLike pair.0 pair.1 → after ≡ pairs ++ pair ∷ [] → IsDistinct (derived.eq-value).it (keys_of after) → IsDistinct (derived.eq-value).it keys → keys ≡ replayed_of after → IsIdMap after
one_more pairs after pair keys is alike grown captured replayed sides =
    let Alike : IdPair → Type 0 = λ (pair : IdPair). AreLike pair.0 pair.1 in
    record {
      once = record {
        captured = subst (λ eq. IsDistinct eq (keys_of after)) derived_is_same captured;
        replayed = subst (IsDistinct same_id) sides (subst (λ eq. IsDistinct eq keys) derived_is_same replayed);
      };
      like = subst (AllByRecursion Alike) (sym grown) (recursion_from_All Alike (pairs ++ pair ∷ []) (All-push Alike pairs pair (All-from_recursion Alike pairs is.like) alike));
    }

-- ---- which captured id a replayed one stands for

module _ (pairs : List IdPair) (keys : List Id) (id : Id) (sides : keys ≡ replayed_of pairs) where
  key_at : (place : ℕ) (pair : IdPair) → slice_get pairs place ≡ Some pair → slice_get keys place ≡ Some pair.1
  key_at place pair here = ap (λ (ids : List Id). slice_get ids place) sides ∙ slice_get-map (λ (p : IdPair). p.1) pairs place ∙ ap (option_map (λ (p : IdPair). p.1)) here

  -- the pair at the place where the id stands is one of it
  pub stands_for : (place : ℕ) (pair : IdPair) → position (same_id id) keys ≡ Some place → slice_get pairs place ≡ Some pair → Contains pairs (pair.0, id)
  stands_for place pair at here =
      let found = position-Some (same_id id) keys place id at in
      let got : get_or keys place id ≡ pair.1 = get_or_from_slice_get keys place pair.1 id (key_at place pair here) in
      let is : id ≡ pair.1 = (same_decides id pair.1).0 (ap (same_id id) (sym got) ∙ found.1) in
      subst (λ (other : Id). Contains pairs (pair.0, other)) (sym is) (place, slice_get_within pairs place pair here, get_or_from_slice_get pairs place pair pair here)

  -- where it stands nowhere no pair is one of it
  pub stands_for_none : list_any (same_id id) keys ≡ false → (captured : Id) → ¬ Contains pairs (captured, id)
  stands_for_none nowhere captured c =
      let here : slice_get pairs c.0 ≡ Some (captured, id) = slice_get_read pairs (length pairs) c.0 (captured, id) refl c.1 (sym c.2) in
      let key = key_at c.0 (captured, id) here in
      let there : Contains keys id = (c.0, slice_get_within keys c.0 id key, get_or_from_slice_get keys c.0 id id key) in
      true≢false (sym (list_any-from_Contains same_equivalence id keys there) ∙ nowhere)
