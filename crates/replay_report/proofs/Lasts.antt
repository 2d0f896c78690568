-- The last that says something, event by event; lists by their items; and the text of the calls that differ.
use Rattle.std.proofs.Common.{◌≡◌, ◌≢◌, ℕ, zero, suc, ◌<◌, Bool, true, false, List, [], ◌∷◌, ◌++◌, map, length, get_or, set, Option, None, Some, refl, sym, ap, subst, ◌∙◌, arith, inl, inr, length-set}
use Rattle.std.specs.Prelude.{nat_eq, option_copied, replicate, slice_get, slice_index_or}
use Rattle.std.specs.List.{flat_map, fold}
use Rattle.std.specs.Option.{option_and_then, option_or}
use Rattle.std.proofs.lemmas.Bool.{eqb-true, eqb-false}
use Rattle.std.proofs.Math.ListN.{get_or-map}
use Rattle.std.proofs.lemmas.List.{get_or-replicate, get_or-set_other, get_or-set_same, get_or_past, length-replicate}
use Rattle.std.proofs.lemmas.Option.{slice_get_cases}
use denote.Ref.{Bor}
use Rattle.desk_values.specs.declared.call.Reply.{Reply}
use Rattle.desk_values.specs.declared.capture.Captured.{Captured}
use Rattle.desk_values.specs.declared.capture.Event.{Event}
use Rattle.desk_values.specs.declared.capture.Event.TheVariants.{Start, Answer}
use Rattle.replay_history.specs.declared.report.Line.{Line}
use Rattle.replay_report.specs.Differences.{captured_reply, csv_text, fields_of, head_fields, line_record, record_text, reply_at, reply_in, replayed_reply}
use Rattle.replay_report.specs.Inside.Written.{slot_record, with_answer}

pub or_assoc : {X : Type 0} (a b c : Option X) → option_or (option_or a b) c ≡ option_or a (option_or b c)
or_assoc None b c = refl
or_assoc (Some x) b c = refl

pub or_none : {X : Type 0} (o : Option X) → option_or o None ≡ o
or_none None = refl
or_none (Some x) = refl

-- ---- lists by their items

pub map_same : {X Y : Type 0} (f g : X → Y) (xs : List X) → ((k : ℕ) (x : X) → slice_get xs k ≡ Some x → g x ≡ f x) → map f xs ≡ map g xs
map_same f g [] same = refl
map_same f g (x ∷ xs) same = ap (λ y. y ∷ map f xs) (sym (same 0 x refl)) ∙ ap (λ ys. g x ∷ ys) (map_same f g xs (λ k. same (suc k)))

-- one of the values changes
pub map_set : {X Y : Type 0} (f g : X → Y) (xs : List X) (k : ℕ) (y : Y) → ((x : X) → slice_get xs k ≡ Some x → g x ≡ y) → ((j : ℕ) (x : X) → j ≢ k → slice_get xs j ≡ Some x → g x ≡ f x) → set (map f xs) k y ≡ map g xs
map_set f g [] k y here others = refl
map_set f g (x ∷ xs) zero y here others = ap (λ z. z ∷ map f xs) (sym (here x refl)) ∙ ap (λ ys. g x ∷ ys) (map_same f g xs (λ j z. others (suc j) z (λ same. absurd (omega arith))))
map_set f g (x ∷ xs) (suc k) y here others = ap (λ z. z ∷ set (map f xs) k y) (sym (others 0 x (λ same. absurd (omega arith)) refl)) ∙ ap (λ ys. g x ∷ ys) (map_set f g xs k y here (λ j z other. others (suc j) z (λ same. other (omega arith))))

flat_map_same : {X A : Type 0} (f g : X → List A) → ((x : X) → f x ≡ g x) → (xs : List X) → flat_map f xs ≡ flat_map g xs
flat_map_same f g same [] = refl
flat_map_same f g same (x ∷ xs) = ap (λ ys. ys ++ flat_map f xs) (same x) ∙ ap (λ ys. g x ++ ys) (flat_map_same f g same xs)

-- ---- the replies by stamp

abbrev Replies : Type 0
Replies = List (Option Reply)

pub none_copied : (slots : List (Option (Bor Reply))) → ((k : ℕ) → k < length slots → option_copied (slice_index_or slots k None) ≡ None) → map option_copied slots ≡ replicate (length slots) None
none_copied [] none = refl
none_copied (slot ∷ slots) none = rw (none 0 (omega arith)) (ap (λ (rs : Replies). None ∷ rs) (none_copied slots (λ k lt. none (suc k) (omega arith))))

pub one_count : (event : Event) (replies : Replies) → length (with_answer replies event) ≡ length replies
one_count (Start k pause) replies = refl
one_count (Answer k reply) replies = length-set replies k (Some reply)

all_count : (events : List Event) (replies : Replies) → length (fold with_answer replies events) ≡ length replies
all_count [] replies = refl
all_count (event ∷ events) replies = all_count events (with_answer replies event) ∙ one_count event replies

one_answer : (event : Event) (replies : Replies) (k : ℕ) → k < length replies → get_or (with_answer replies event) k None ≡ option_or (reply_at k event) (get_or replies k None)
one_answer (Start j pause) replies k lt = refl
one_answer (Answer j reply) replies k lt = at (nat_eq j k) refl
  where
    at : (b : Bool) → nat_eq j k ≡ b → get_or (set replies j (Some reply)) k None ≡ option_or (reply_at k (Answer j reply)) (get_or replies k None)
    at true e = rw e (subst (λ (m : ℕ). get_or (set replies m (Some reply)) k None ≡ Some reply) (sym (eqb-true j k e)) (get_or-set_same replies k (Some reply) None lt))
    at false e = rw e (get_or-set_other replies j k (Some reply) None (λ same. eqb-false j k e (sym same)))

all_answers : (events : List Event) (replies : Replies) (k : ℕ) → k < length replies → get_or (fold with_answer replies events) k None ≡ option_or (reply_in k events) (get_or replies k None)
all_answers [] replies k lt = refl
all_answers (event ∷ events) replies k lt =
    all_answers events (with_answer replies event) k (omega (arith, one_count event replies)) ∙ ap (option_or (reply_in k events)) (one_answer event replies k lt) ∙ sym (or_assoc (reply_in k events) (reply_at k event) (get_or replies k None))

-- what a slot holds, or the lack of one
slot_is : (calls : List Captured) (events : List Event) (replies : List (Option (Bor Reply))) (k : ℕ) → map option_copied replies ≡ fold with_answer (replicate (length calls) None) events → option_copied (slice_index_or replies k None) ≡ replayed_reply calls events k
slot_is calls events replies k are =
    let none : Replies = replicate (length calls) None in
    let count : length none ≡ length calls = length-replicate (length calls) None in
    sym (get_or-map option_copied replies k None) ∙ ap (λ (rs : Replies). get_or rs k None) are ∙ elim (slice_get_cases calls k).1 [
      | inl found ↦ all_answers events none k (omega (arith, found.1)) ∙ ap (option_or (reply_in k events)) (get_or-replicate (length calls) k None None (omega (arith, found.1))) ∙ or_none (reply_in k events) ∙ sym (ap (option_and_then (λ (call : Captured). reply_in k events)) found.2)
      | inr past ↦ get_or_past (fold with_answer none events) k None (omega (arith, all_count events none, past.0)) ∙ sym (ap (option_and_then (λ (call : Captured). reply_in k events)) past.1)
    ]

-- ---- the whole text

pub csv_is : (calls : List Captured) (events : List Event) (lines : List Line) (replies : List (Option (Bor Reply))) → map option_copied replies ≡ fold with_answer (replicate (length calls) None) events → record_text head_fields ++ flat_map (slot_record calls replies) lines ≡ csv_text calls events lines
csv_is calls events lines replies are = ap (λ (t : List ℕ). record_text head_fields ++ t) (flat_map_same (slot_record calls replies) (line_record calls events) (λ x. ap (λ (o : Option Reply). record_text (fields_of x (captured_reply calls x.stamp) o)) (slot_is calls events replies x.stamp are)) lines)
