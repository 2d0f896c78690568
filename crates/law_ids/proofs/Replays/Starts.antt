-- The pairs of a start: each id of its rows with itself, once.
use Rattle.std.proofs.Common.{◌≡◌, true, false, ◌||◌, if◌then◌else◌, List, [], ◌∷◌, ◌++◌, map, refl, sym, subst, ◌∙◌, ⊎_elim}
use Rattle.std.specs.List.{AllByRecursion, Contains, IsDistinct, flat_map, list_any}
use Rattle.std.proofs.lemmas.Bool.{or_cases, or_parts}
use Rattle.std.proofs.lemmas.List.{map-append}
use Rattle.std.proofs.lemmas.Map.Keys.{IsDistinct-push}
use Rattle.std.proofs.lemmas.List.Elements.{Contains-append_left, Contains-append_right}
use Rattle.desk_values.specs.declared.value.Value.{Value}
use Rattle.desk_values.specs.declared.value.Value.TheVariants.{Null, Int, Text, Row, Draw}
use Rattle.desk_values.specs.declared.value.Image.{Image}
use Rattle.desk_values.specs.Ids.{ids_of_image}
use Rattle.desk_schema.specs.Start.{StartView}
use Rattle.desk_schema.proofs.Members.{Contains-cases, Contains-here, Contains-none, Contains-there}
use Rattle.server_words.proofs.Members.{each_joined}
use Rattle.replay_history.specs.Capture.{StandsIn}
use Rattle.id_pairs.specs.declared.Id.{Id}
use Rattle.id_pairs.specs.declared.Id.TheVariants as id
use Rattle.id_pairs.specs.Ids.{id_of, id_value, same_id}
use Rattle.id_pairs.specs.Pairs.{HasNoIdTwice, IdPair, all_new, is_known, with_new}
use Rattle.id_pairs.specs.Renaming.{IsRenamed}
use Rattle.id_pairs.proofs.SameIds.{same_decides, same_equivalence}
use Rattle.remap_ids.specs.IdMap.{own_pair, own_pairs, start_pairs}

pub each_in : {A : Type 0} (P : A → Type 0) (xs : List A) → AllByRecursion P xs → (x : A) → Contains xs x → P x
each_in P [] h x c = absurd (Contains-none x c)
each_in P (y ∷ ys) h x c = ⊎_elim (λ is. subst P is h.0) (each_in P ys h.1 x) (Contains-cases y ys x c)

pub each_contained : {A : Type 0} (P : A → Type 0) (xs : List A) → ((x : A) → Contains xs x → P x) → AllByRecursion P xs
each_contained P [] h = tt
each_contained P (x ∷ xs) h = (h x (Contains-here x xs), each_contained P xs (λ y c. h y (Contains-there x xs y c)))

-- ---- further pairs, each of an id with itself

known_on : (side : IdPair → Id) (x : Id) (pairs : List IdPair) → list_any (same_id x) (map side pairs) ≡ true → (p : IdPair) × Contains pairs p × (x ≡ side p)
known_on side x [] e = absurd cc
known_on side x (p ∷ pairs) e = elim (same_id x (side p)) as (λ b. same_id x (side p) ≡ b → (b || list_any (same_id x) (map side pairs)) ≡ true → (q : IdPair) × Contains (p ∷ pairs) q × (x ≡ side q)) [
  | true ↦ λ is any. (p, Contains-here p pairs, (same_decides x (side p)).0 is)
  | false ↦ λ isnt any. let t = known_on side x pairs any in (t.0, Contains-there p pairs t.0 t.1, t.2)
] refl e

module _ (P : IdPair → Type 0) (own : (p : IdPair) → P p → p.0 ≡ p.1) where
  -- pairs with those before and further ones
  record Grows (pairs others grown : List IdPair) : Type 0 where
    once : HasNoIdTwice grown
    each : AllByRecursion P grown
    kept : (p : IdPair) → Contains pairs p → Contains grown p
    new : (p : IdPair) → Contains others p → Contains grown p

  known_own : (pairs : List IdPair) (p : IdPair) → AllByRecursion P pairs → p.0 ≡ p.1 → is_known pairs p ≡ true → Contains pairs p
  known_own pairs p all same known = ⊎_elim
      (λ first. let t = known_on (λ q. q.0) p.0 pairs first in let e = sym t.2 in let f = sym (own t.0 (each_in P pairs all t.0 t.1)) ∙ e ∙ same in subst (Contains pairs) (λ i. (e i, f i)) t.1)
      (λ second. let t = known_on (λ q. q.1) p.1 pairs second in let f = sym t.2 in let e = own t.0 (each_in P pairs all t.0 t.1) ∙ f ∙ sym same in subst (Contains pairs) (λ i. (e i, f i)) t.1)
      (or_cases _ _ known)

  one_grows : (pairs : List IdPair) (p : IdPair) → HasNoIdTwice pairs → AllByRecursion P pairs → P p → Grows pairs (p ∷ []) (with_new pairs p)
  one_grows pairs p once all is = elim (is_known pairs p) as (λ b. is_known pairs p ≡ b → Grows pairs (p ∷ []) (if b then pairs else pairs ++ p ∷ [])) [
    | true ↦ λ known. record { once = once; each = all; kept = λ q c. c; new = λ q c. ⊎_elim (λ same. subst (Contains pairs) same (known_own pairs p all (own p is) known)) (λ later. absurd (Contains-none q later)) (Contains-cases p [] q c) }
    | false ↦ λ unknown. let parts = or_parts _ _ unknown in record {
      once = record {
        captured = subst (IsDistinct same_id) (sym (map-append (λ (q : IdPair). q.0) pairs (p ∷ []))) (IsDistinct-push same_equivalence (map (λ (q : IdPair). q.0) pairs) p.0 once.captured parts.0);
        replayed = subst (IsDistinct same_id) (sym (map-append (λ (q : IdPair). q.1) pairs (p ∷ []))) (IsDistinct-push same_equivalence (map (λ (q : IdPair). q.1) pairs) p.1 once.replayed parts.1);
      };
      each = each_joined P pairs (p ∷ []) all (is, tt);
      kept = λ q c. Contains-append_left pairs (p ∷ []) q c;
      new = λ q c. Contains-append_right pairs (p ∷ []) q c;
    }
  ] refl

  all_grow : (pairs others : List IdPair) → HasNoIdTwice pairs → AllByRecursion P pairs → AllByRecursion P others → Grows pairs others (all_new pairs others)
  all_grow pairs [] once all are = record { once = once; each = all; kept = λ p c. c; new = λ p c. absurd (Contains-none p c) }
  all_grow pairs (p ∷ others) once all are =
      let one = one_grows pairs p once all are.0 in
      let more = all_grow (with_new pairs p) others one.once one.each are.1 in
      record {
        once = more.once;
        each = more.each;
        kept = λ q c. more.kept q (one.kept q c);
        new = λ q c. ⊎_elim (λ is. more.kept q (one.new q (subst (Contains (p ∷ [])) is (Contains-here p [])))) (more.new q) (Contains-cases p others q c);
      }

-- ---- the pairs of a start

pub in_flat : {A B : Type 0} (f : A → List B) (xs : List A) (x : A) (y : B) → Contains xs x → Contains (f x) y → Contains (flat_map f xs) y
in_flat f [] x y c d = absurd (Contains-none x c)
in_flat {A} f (z ∷ zs) x y c d = ⊎_elim
    (λ is. Contains-append_left (f z) (flat_map f zs) y (let P : A → Type 0 = λ w. Contains (f w) y in subst P (sym is) d))
    (λ later. Contains-append_right (f z) (flat_map f zs) y (in_flat f zs x y later d))
    (Contains-cases z zs x c)

each_flat : {A : Type 0} (f : A → List Value) (Q : Value → Type 0) (xs : List A) → AllByRecursion (λ x. AllByRecursion Q (f x)) xs → AllByRecursion Q (flat_map f xs)
each_flat f Q [] h = tt
each_flat f Q (x ∷ xs) h = each_joined Q (f x) (flat_map f xs) h.0 (each_flat f Q xs h.1)

module _ (start : StartView) where
  -- an id of the rows, with itself
  pub record IsOfStart (p : IdPair) : Type 0 where
    pub stands : StandsIn start.rows (id_value p.0)
    pub own : p.0 ≡ p.1

  own_of : (values : List Value) → AllByRecursion (StandsIn start.rows) values → AllByRecursion IsOfStart (own_pairs values)
  own_of [] h = tt
  own_of (Null ∷ values) h = own_of values h.1
  own_of (Int n ∷ values) h = own_of values h.1
  own_of (Text t ∷ values) h = own_of values h.1
  own_of (Row n ∷ values) h = (record { stands = h.0; own = refl }, own_of values h.1)
  own_of (Draw q n ∷ values) h = (record { stands = h.0; own = refl }, own_of values h.1)

  grown : Grows IsOfStart (λ p of. of.own) [] (own_pairs (flat_map ids_of_image start.rows)) (start_pairs start)
  unfolding IsDistinct
  grown =
      let stand = each_flat ids_of_image (StandsIn start.rows) start.rows (each_contained _ start.rows (λ image c. each_contained (StandsIn start.rows) (ids_of_image image) (λ v d. (c.0, image, c.1, c.2, (d.0, v, d.1, d.2, refl))))) in
      all_grow IsOfStart (λ p of. of.own) [] (own_pairs (flat_map ids_of_image start.rows)) (record { captured = tt; replayed = tt }) tt (own_of (flat_map ids_of_image start.rows) stand)

  pub start_once : HasNoIdTwice (start_pairs start)
  start_once = grown.once

  pub start_each : AllByRecursion IsOfStart (start_pairs start)
  start_each = grown.each

  -- an id of the start's rows stands for itself
  pub own_id : (image : Image) (v : Value) → Contains start.rows image → Contains (ids_of_image image) v → IsRenamed (start_pairs start) v v
  own_id image Null c d = tt
  own_id image (Int n) c d = refl
  own_id image (Text t) c d = refl
  own_id image (Row n) c d = grown.new (id.Row n, id.Row n) (in_flat (λ v. own_pair (id_of v)) (flat_map ids_of_image start.rows) (Row n) _ (in_flat ids_of_image start.rows image (Row n) c d) (Contains-here (id.Row n, id.Row n) []))
  own_id image (Draw q n) c d = grown.new (id.Draw q n, id.Draw q n) (in_flat (λ v. own_pair (id_of v)) (flat_map ids_of_image start.rows) (Draw q n) _ (in_flat ids_of_image start.rows image (Draw q n) c d) (Contains-here (id.Draw q n, id.Draw q n) []))

  pub own_stands : (v : Value) → StandsIn start.rows v → IsRenamed (start_pairs start) v v
  own_stands v s = own_id s.1 v (s.0, s.2, s.3) (let t = s.4 in subst (Contains (ids_of_image s.1)) t.4 (t.0, t.2, t.3))
