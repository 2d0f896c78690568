-- Cutting at a separator undoes joining by it.
use Rattle.std.proofs.Common.{◌≡◌, ℕ, zero, suc, ◌+◌, ◌<◌, ◌≤◌, Bool, true, false, cond, eqb, List, [], ◌∷◌, ◌++◌, length, get_or, take, drop, map, Option, Some, None, Err, append_assoc, append-nil, refl, sym, ap, subst, ◌∙◌, arith, inl, inr}
use Rattle.std.specs.Prelude.{◌≢◌}
use Rattle.std.specs.Option.{option_map}
use Rattle.std.specs.List.{AllByRecursion, onto_first, join_with_byte, flat_map}
use Rattle.std.proofs.lemmas.Bool.{eq-eqb, ne_eqb, eqb-true, eqb-false}
use Rattle.std.proofs.lemmas.List.{take_at, length_push, length-map, take-append-drop, drop_more}
use Rattle.std.proofs.lemmas.Option.{same_Some, none-some}
use Rattle.std.proofs.lemmas.List.Splits.{join_with_byte-slice_split}
use Rattle.memchr.specs.Find.{IsFirstByte, is_byte}
use Rattle.desk_values.specs.declared.read_err.ReadErr.{ReadErr}
use Rattle.desk_values.specs.declared.read_err.ReadErr.TheVariants.{Bad, Memory}
use Rattle.desk_values.specs.Fields.{Lacks, cut_at, pieces}
use Rattle.desk_values.specs.Reading.{◌>>=◌, Reads, each_of}
use Rattle.desk_values.proofs.Options.{chosen, map_some, bind_some}
use Rattle.desk_values.proofs.Readers.{IsReader}

-- ---- one cut

pub cut_at-joined : (byte : ℕ) (front rest : List ℕ) → Lacks byte front → cut_at byte (front ++ byte ∷ rest) ≡ Some (front, rest)
cut_at-joined byte [] rest lacks = rw (eq-eqb byte byte refl) refl
cut_at-joined byte (first ∷ front) rest lacks = rw (ne_eqb first byte lacks.0, cut_at-joined byte front rest lacks.1) refl

pub cut_at-none : (byte : ℕ) (bytes : List ℕ) → Lacks byte bytes → cut_at byte bytes ≡ None
cut_at-none byte [] lacks = refl
cut_at-none byte (first ∷ rest) lacks = rw (ne_eqb first byte lacks.0, cut_at-none byte rest lacks.1) refl

-- what a cut leaves
pub record IsCut (byte : ℕ) (bytes front rest : List ℕ) : Type 0 where
  pub parts : bytes ≡ front ++ byte ∷ rest
  pub lacks : Lacks byte front

abbrev onto : ℕ → List ℕ × List ℕ → List ℕ × List ℕ
onto first p = (first ∷ p.0, p.1)

cut_here : (byte first : ℕ) (bytes : List ℕ) (p : List ℕ × List ℕ) → first ≡ byte → ([], bytes) ≡ p → IsCut byte (first ∷ bytes) p.0 p.1
cut_here byte first bytes p is e = subst (λ (q : List ℕ × List ℕ). IsCut byte (first ∷ bytes) q.0 q.1) e (record { parts = ap (λ (b : ℕ). b ∷ bytes) is; lacks = tt })

cut_later : (byte first : ℕ) (bytes : List ℕ) (p q : List ℕ × List ℕ) → first ≢ byte → IsCut byte bytes p.0 p.1 → onto first p ≡ q → IsCut byte (first ∷ bytes) q.0 q.1
cut_later byte first bytes p q ne is e =
    subst (λ (r : List ℕ × List ℕ). IsCut byte (first ∷ bytes) r.0 r.1) e (record { parts = ap (λ (bs : List ℕ). first ∷ bs) is.parts; lacks = (ne, is.lacks) })

pub cut_at_parts : (byte : ℕ) (bytes : List ℕ) (p : List ℕ × List ℕ) → cut_at byte bytes ≡ Some p → IsCut byte bytes p.0 p.1
cut_at_parts byte [] p e = absurd cc
cut_at_parts byte (first ∷ bytes) p e =
    elim (chosen (eqb first byte) (Some ([], bytes)) (option_map (onto first) (cut_at byte bytes)) (Some p) e) [
      | inl hit ↦ cut_here byte first bytes p (eqb-true first byte hit.0) (same_Some _ _ hit.1)
      | inr miss ↦
          let found = map_some (onto first) (cut_at byte bytes) p miss.1 in
          cut_later byte first bytes found.0 p (eqb-false first byte miss.0) (cut_at_parts byte bytes found.0 found.1) found.2
    ]

pub unmapped : {A B : Type 0} (f : A → B) (o : Option A) → option_map f o ≡ None → o ≡ None
unmapped f None h = refl
unmapped f (Some x) h = absurd (none-some _ (sym h))

pub cut_at_lacks : (byte : ℕ) (bytes : List ℕ) → cut_at byte bytes ≡ None → Lacks byte bytes
cut_at_lacks byte [] e = tt
cut_at_lacks byte (first ∷ rest) e =
    elim (chosen (eqb first byte) (Some ([], rest)) (option_map (onto first) (cut_at byte rest)) None e) [
      | inl hit ↦ absurd (none-some _ (sym hit.1))
      | inr miss ↦ (eqb-false first byte miss.0, cut_at_lacks byte rest (unmapped (onto first) (cut_at byte rest) miss.1))
    ]

-- ---- at a place

pub Lacks-from_places : (byte : ℕ) (bytes : List ℕ) → ((k : ℕ) → k < length bytes → get_or bytes k 0 ≡ byte → ⊥) → Lacks byte bytes
Lacks-from_places byte [] h = tt
Lacks-from_places byte (first ∷ rest) h = (h 0 (omega arith), Lacks-from_places byte rest (λ k lt. h (suc k) (omega arith)))

Lacks-take : (byte i : ℕ) (bytes : List ℕ) → i ≤ length bytes → ((k : ℕ) → k < i → get_or bytes k 0 ≡ byte → ⊥) → Lacks byte (take i bytes)
Lacks-take byte zero bytes le h = tt
Lacks-take byte (suc i) [] le h = tt
Lacks-take byte (suc i) (first ∷ rest) le h = (h 0 (omega arith), Lacks-take byte i rest (omega arith) (λ k lt. h (suc k) (omega arith)))

-- the first place where the byte stands
pub cut_place : (byte i : ℕ) (bytes : List ℕ) → i < length bytes → get_or bytes i 0 ≡ byte → ((k : ℕ) → k < i → get_or bytes k 0 ≡ byte → ⊥) → IsCut byte bytes (take i bytes) (drop (i + 1) bytes)
cut_place byte i bytes lt here before =
    let split : drop i bytes ≡ byte ∷ drop (i + 1) bytes = drop_more bytes i 0 lt ∙ ap (λ (b : ℕ). b ∷ drop (i + 1) bytes) here in
    record { parts = sym (take-append-drop i bytes) ∙ ap (λ (bs : List ℕ). take i bytes ++ bs) split; lacks = Lacks-take byte i bytes (omega arith) before }

-- by what a search for the byte answered
pub found_cut : (byte : ℕ) (bytes : List ℕ) (place : Option ℕ) (i : ℕ) → place ≡ Some i → IsFirstByte (is_byte byte) bytes place → IsCut byte bytes (take i bytes) (drop (i + 1) bytes)
found_cut byte bytes None i e h = absurd cc
found_cut byte bytes (Some k) i e h =
    subst (λ (j : ℕ). IsCut byte bytes (take j bytes) (drop (j + 1) bytes)) (same_Some k i e)
    (cut_place byte k bytes h.0.high (eqb-true (get_or bytes k 0) byte h.1) (λ j lt is. h.0.before j (omega arith) lt (eq-eqb (get_or bytes j 0) byte is)))

pub lacks_found : (byte : ℕ) (bytes : List ℕ) (place : Option ℕ) → place ≡ None → IsFirstByte (is_byte byte) bytes place → Lacks byte bytes
lacks_found byte bytes None e h = Lacks-from_places byte bytes (λ k lt is. h k (omega arith) lt (eq-eqb (get_or bytes k 0) byte is))
lacks_found byte bytes (Some k) e h = absurd cc

pub cut_at-cut : (byte : ℕ) (bytes front rest : List ℕ) → IsCut byte bytes front rest → cut_at byte bytes ≡ Some (front, rest)
cut_at-cut byte bytes front rest is = ap (cut_at byte) is.parts ∙ cut_at-joined byte front rest is.lacks

-- what was cut off, with the byte
pub cut_front : (byte : ℕ) (bytes front rest : List ℕ) → IsCut byte bytes front rest → take (length front + 1) bytes ≡ front ++ byte ∷ []
cut_front byte bytes front rest is =
    ap (take (length front + 1)) (is.parts ∙ sym (append_assoc front (byte ∷ []) rest)) ∙ take_at (front ++ byte ∷ []) rest (length front + 1) (length_push front byte)

-- ---- all pieces

pub pieces-joined : (byte : ℕ) (front rest : List ℕ) → Lacks byte front → pieces byte (front ++ byte ∷ rest) ≡ front ∷ pieces byte rest
pieces-joined byte [] rest lacks = rw (eq-eqb byte byte refl) refl
pieces-joined byte (first ∷ front) rest lacks = rw (ne_eqb first byte lacks.0, pieces-joined byte front rest lacks.1) refl

pub pieces-none : (byte : ℕ) (bytes : List ℕ) → Lacks byte bytes → pieces byte bytes ≡ bytes ∷ []
pieces-none byte [] lacks = refl
pieces-none byte (first ∷ rest) lacks = rw (ne_eqb first byte lacks.0, pieces-none byte rest lacks.1) refl

pub pieces-join : (byte : ℕ) (parts : List (List ℕ)) → 0 < length parts → AllByRecursion (Lacks byte) parts → pieces byte (join_with_byte byte parts) ≡ parts
pieces-join byte [] some lacks = absurd (omega arith)
pieces-join byte (part ∷ []) some lacks = pieces-none byte part lacks.0
pieces-join byte (part ∷ next ∷ others) some lacks = pieces-joined byte part (join_with_byte byte (next ∷ others)) lacks.0 ∙ ap (λ (ps : List (List ℕ)). part ∷ ps) (pieces-join byte (next ∷ others) (omega arith) lacks.1)

pub join-pieces : (byte : ℕ) (bytes : List ℕ) → join_with_byte byte (pieces byte bytes) ≡ bytes
join-pieces byte bytes = join_with_byte-slice_split byte bytes

onto_first_some : (first : ℕ) (parts : List (List ℕ)) → 0 < length (onto_first first parts)
onto_first_some first [] = omega arith
onto_first_some first (part ∷ parts) = omega arith

pub pieces_some : (byte : ℕ) (bytes : List ℕ) → 0 < length (pieces byte bytes)
pieces_some byte [] = omega arith
pieces_some byte (first ∷ rest) = one_way (eqb first byte)
  where
    one_way : (b : Bool) → 0 < length (cond b ([] ∷ pieces byte rest) (onto_first first (pieces byte rest)))
    one_way true = omega arith
    one_way false = onto_first_some first (pieces byte rest)

-- ---- items with a separator between

module _ {T : Type 0} {read : List ℕ → Option T} {Fits : T → Type 0} {text : T → List ℕ} (is : IsReader read Fits text) where
  first_taken : (part : List ℕ) (item : T) (parts : List (List ℕ)) (others items : List T) → Fits item × (part ≡ text item) → AllByRecursion Fits others × (parts ≡ map text others) → item ∷ others ≡ items → AllByRecursion Fits items × (part ∷ parts ≡ map text items)
  first_taken part item parts others items p q e = subst (λ (xs : List T). AllByRecursion Fits xs × (part ∷ parts ≡ map text xs)) e ((p.0, q.0), (cc))

  pub each_takes : (parts : List (List ℕ)) (items : List T) → each_of read parts ≡ Some items → AllByRecursion Fits items × (parts ≡ map text items)
  unfolding each_of
  each_takes [] items e = subst (λ (xs : List T). AllByRecursion Fits xs × ([] ≡ map text xs)) (same_Some [] items e) (tt, refl)
  each_takes (part ∷ parts) items e =
      let first = bind_some (read part) _ items e in
      let others = bind_some (each_of read parts) _ items first.2 in
      first_taken part first.0 parts others.0 items (is.takes part first.0 first.1) (each_takes parts others.0 others.1) (same_Some _ _ others.2)

  pub each_again : (items : List T) → AllByRecursion Fits items → each_of read (map text items) ≡ Some items
  unfolding each_of
  each_again [] fits = refl
  each_again (item ∷ items) fits = rw (is.again item fits.0, each_again items fits.1) refl

  all_map : (P : List ℕ → Type 0) → ((x : T) → Fits x → P (text x)) → (items : List T) → AllByRecursion Fits items → AllByRecursion P (map text items)
  all_map P h [] fits = tt
  all_map P h (item ∷ items) fits = (h item fits.0, all_map P h items fits.1)

  -- at least one item, with a separator between
  pub joined_reader : (byte : ℕ) → ((x : T) → Fits x → Lacks byte (text x)) → IsReader (λ bytes. each_of read (pieces byte bytes)) (λ items. (0 < length items) × AllByRecursion Fits items) (λ items. join_with_byte byte (map text items))
  joined_reader byte lacks = record {
    takes = λ bytes items e.
        let taken = each_takes (pieces byte bytes) items e in
        let some : 0 < length (pieces byte bytes) = pieces_some byte bytes in
        let count : length (pieces byte bytes) ≡ length items = ap length taken.1 ∙ length-map items text in
        ((omega arith, taken.0), sym (join-pieces byte bytes) ∙ ap (join_with_byte byte) taken.1);
    again = λ items fits.
        let some : 0 < length (map text items) = rw (length-map items text) fits.0 in
        ap (each_of read) (pieces-join byte (map text items) some (all_map (Lacks byte) lacks items fits.1)) ∙ each_again items fits.1;
  }

-- ---- the loop that reads items

-- the items before those that are read
abbrev pub onto_items : {T : Type 0} → List T → Option (List T) → Option (List T)
onto_items items read = option_map (λ others. items ++ others) read

pub onto_items-none : {T : Type 0} (read : Option (List T)) → onto_items [] read ≡ read
onto_items-none None = refl
onto_items-none (Some items) = refl

pub onto_items-append : {T : Type 0} (items : List T) (item : T) (read : Option (List T)) → onto_items (items ++ item ∷ []) read ≡ onto_items items (read >>= λ others. Some (item ∷ others))
onto_items-append items item None = refl
onto_items-append items item (Some others) = ap (λ xs. Some xs) (append_assoc items (item ∷ []) others)

pub pieces-cut : (byte : ℕ) (rest piece after : List ℕ) → cut_at byte rest ≡ Some (piece, after) → pieces byte rest ≡ piece ∷ pieces byte after
pieces-cut byte rest piece after e =
    let is = cut_at_parts byte rest (piece, after) e in
    ap (pieces byte) is.parts ∙ pieces-joined byte piece after is.lacks

module _ {T : Type 0} (read : List ℕ → Option T) (byte : ℕ) where
  -- none is read yet
  pub each_none : (bytes : List ℕ) (items : List T) → items ≡ [] → onto_items items (each_of read (pieces byte bytes)) ≡ each_of read (pieces byte bytes)
  each_none bytes items e = ap (λ (xs : List T). onto_items xs (each_of read (pieces byte bytes))) e ∙ onto_items-none (each_of read (pieces byte bytes))

  -- one more item
  pub each_more : (rest piece after : List ℕ) (items : List T) (item : T) (whole : Option (List T)) → cut_at byte rest ≡ Some (piece, after) → read piece ≡ Some item → onto_items items (each_of read (pieces byte rest)) ≡ whole → onto_items (items ++ item ∷ []) (each_of read (pieces byte after)) ≡ whole
  unfolding each_of
  each_more rest piece after items item whole e is h =
      onto_items-append items item (each_of read (pieces byte after)) ∙ sym (ap (λ (ps : List (List ℕ)). onto_items items (each_of read ps)) (pieces-cut byte rest piece after e) ∙ rw is refl) ∙ h

  -- the last item
  pub each_last : (rest : List ℕ) (items : List T) (item : T) (whole : Option (List T)) → cut_at byte rest ≡ None → read rest ≡ Some item → onto_items items (each_of read (pieces byte rest)) ≡ whole → whole ≡ Some (items ++ item ∷ [])
  unfolding each_of
  each_last rest items item whole e is h =
      sym h ∙ ap (λ (ps : List (List ℕ)). onto_items items (each_of read ps)) (pieces-none byte rest (cut_at_lacks byte rest e)) ∙ rw is refl

  -- an item that is none, or want of memory
  pub each_bad : (rest piece after : List ℕ) (items : List T) (whole : Option (List T)) (error : ReadErr) → cut_at byte rest ≡ Some (piece, after) → Reads {T = T} (Err error) (read piece) → onto_items items (each_of read (pieces byte rest)) ≡ whole → Reads {T = List T} (Err error) whole
  unfolding each_of
  each_bad rest piece after items whole Memory e is h = tt
  each_bad rest piece after items whole Bad e is h =
      sym h ∙ ap (λ (ps : List (List ℕ)). onto_items items (each_of read ps)) (pieces-cut byte rest piece after e) ∙ rw is refl

  pub each_last_bad : (rest : List ℕ) (items : List T) (whole : Option (List T)) (error : ReadErr) → cut_at byte rest ≡ None → Reads {T = T} (Err error) (read rest) → onto_items items (each_of read (pieces byte rest)) ≡ whole → Reads {T = List T} (Err error) whole
  unfolding each_of
  each_last_bad rest items whole Memory e is h = tt
  each_last_bad rest items whole Bad e is h =
      sym h ∙ ap (λ (ps : List (List ℕ)). onto_items items (each_of read ps)) (pieces-none byte rest (cut_at_lacks byte rest e)) ∙ rw is refl

-- ---- the loop that writes items

join_cons : {T : Type 0} (byte : ℕ) (text : T → List ℕ) (first : T) (others : List T) → join_with_byte byte (text first ∷ map text others) ≡ text first ++ flat_map (λ item. byte ∷ text item) others
join_cons byte text first [] = sym (append-nil (text first))
join_cons byte text first (second ∷ others) = ap (λ (bs : List ℕ). text first ++ (byte ∷ bs)) (join_cons byte text second others)

-- the first item, and each other one behind a separator
pub join_first : {T : Type 0} (byte : ℕ) (text : T → List ℕ) (items : List T) (first : T) → 0 < length items → first ≡ get_or items 0 first → join_with_byte byte (map text items) ≡ text first ++ flat_map (λ item. byte ∷ text item) (drop 1 items)
join_first byte text [] first some e = absurd (omega arith)
join_first byte text (item ∷ others) first some e = rw e (join_cons byte text item others)
