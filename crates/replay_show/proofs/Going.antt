-- What a loop has come to, and what is left: one step of each recursion over a list.
use Rattle.std.proofs.Common.{◌≡◌, ℕ, suc, ◌+◌, ◌-◌, ◌<◌, ◌≤◌, Bool, true, false, cond, List, [], ◌∷◌, ◌++◌, length, get_or, drop, Option, Some, None, refl, sym, ap, ◌∙◌, append_assoc, append-nil, arith}
use Rattle.std.specs.Prelude.{slice_get}
use Rattle.std.proofs.lemmas.Bool.{eq-eqb, ne_eqb}
use Rattle.std.proofs.lemmas.List.{drop_all}
use Rattle.std.proofs.Math.Seq.{drop-cons}
use Rattle.desk_values.specs.declared.value.Value.{Value}
use Rattle.desk_values.specs.declared.call.Reply.{Reply}
use Rattle.desk_values.specs.declared.capture.Captured.{Captured}
use Rattle.desk_values.specs.declared.capture.Event.{Event}
use Rattle.desk_values.specs.declared.capture.Event.TheVariants.{Start, Answer}
use Rattle.desk_schema.specs.Schema.{SchemaView}
use Rattle.replay_history.specs.declared.report.Line.{Line}
use Rattle.id_pairs.specs.Pairs.{IdPair}
use Rattle.replay_show.specs.Ids.{pairs_behind, taught_by}
use Rattle.replay_show.specs.Lines.{answer_from, bind_line, bind_lines, differing_from, differing_line, last_call}
use Rattle.replay_show.specs.Shown.{ShownView}
use Rattle.replay_show.specs.Transactions.{is_end, is_later, up_to_end}

-- the front of what is left
pub front : {X : Type 0} (xs : List X) (i : ℕ) (x : X) → i < length xs → x ≡ get_or xs i x → drop i xs ≡ x ∷ drop (i + 1) xs
front xs i x within is = drop-cons xs i x within ∙ (let next : suc i ≡ i + 1 = omega arith in rw (← is, next) refl)

-- ---- binds

pub bind_more : (schema : SchemaView) (values : List Value) (i n : ℕ) (value : Value) (done whole : List ℕ) → i < length values → value ≡ get_or values i value → done ++ bind_lines schema n (drop i values) ≡ whole → (done ++ bind_line schema n value) ++ bind_lines schema (n + 1) (drop (i + 1) values) ≡ whole
bind_more schema values i n value done whole within is so_far =
    append_assoc done (bind_line schema n value) _ ∙ ap (λ (vs : List Value). done ++ bind_lines schema n vs) (sym (front values i value within is)) ∙ so_far

pub binds_all : (schema : SchemaView) (values : List Value) (i n : ℕ) (done whole : List ℕ) → length values ≤ i → done ++ bind_lines schema n (drop i values) ≡ whole → done ≡ whole
binds_all schema values i n done whole all so_far = sym (append-nil done) ∙ ap (λ (vs : List Value). done ++ bind_lines schema n vs) (sym (drop_all i values all)) ∙ so_far

-- ---- calls that differ

pub differing_more : (view : ShownView) (lines : List Line) (i : ℕ) (l : Line) (done whole : List ℕ) → i < length lines → l ≡ get_or lines i l → done ++ differing_from view i (drop i lines) ≡ whole → (done ++ differing_line view i l) ++ differing_from view (i + 1) (drop (i + 1) lines) ≡ whole
differing_more view lines i l done whole within is so_far =
    append_assoc done (differing_line view i l) _ ∙ ap (λ (ls : List Line). done ++ differing_from view i ls) (sym (front lines i l within is)) ∙ so_far

pub differing_all : (view : ShownView) (lines : List Line) (i : ℕ) (done whole : List ℕ) → length lines ≤ i → done ++ differing_from view i (drop i lines) ≡ whole → done ≡ whole
differing_all view lines i done whole all so_far = sym (append-nil done) ∙ ap (λ (ls : List Line). done ++ differing_from view i ls) (sym (drop_all i lines all)) ∙ so_far

-- ---- what a journal says

pub answer_here : (k i stamp : ℕ) (events : List Event) (reply : Reply) (whole : Option (ℕ × Reply)) → i < length events → Answer stamp reply ≡ get_or events i (Answer stamp reply) → stamp ≡ k → answer_from k i (drop i events) ≡ whole → whole ≡ Some (i, reply)
answer_here k i stamp events reply whole within is same so_far =
    sym so_far ∙ ap (answer_from k i) (front events i (Answer stamp reply) within is) ∙ ap (λ (b : Bool). cond b (Some (i, reply)) (answer_from k (i + 1) (drop (i + 1) events))) (eq-eqb stamp k same)

pub answer_on : (k i stamp : ℕ) (events : List Event) (reply : Reply) (whole : Option (ℕ × Reply)) → i < length events → Answer stamp reply ≡ get_or events i (Answer stamp reply) → (stamp ≡ k → ⊥) → answer_from k i (drop i events) ≡ whole → answer_from k (i + 1) (drop (i + 1) events) ≡ whole
answer_on k i stamp events reply whole within is apart so_far =
    sym (ap (answer_from k i) (front events i (Answer stamp reply) within is) ∙ ap (λ (b : Bool). cond b (Some (i, reply)) (answer_from k (i + 1) (drop (i + 1) events))) (ne_eqb stamp k apart)) ∙ so_far

pub answer_past : (k i stamp pause : ℕ) (events : List Event) (whole : Option (ℕ × Reply)) → i < length events → Start stamp pause ≡ get_or events i (Start stamp pause) → answer_from k i (drop i events) ≡ whole → answer_from k (i + 1) (drop (i + 1) events) ≡ whole
answer_past k i stamp pause events whole within is so_far = sym (ap (answer_from k i) (front events i (Start stamp pause) within is)) ∙ so_far

pub answer_none : (k i : ℕ) (events : List Event) (whole : Option (ℕ × Reply)) → length events ≤ i → answer_from k i (drop i events) ≡ whole → whole ≡ None
answer_none k i events whole all so_far = sym so_far ∙ ap (answer_from k i) (drop_all i events all)

-- ---- which ids stand for which

pub taught_here : (calls : List Captured) (k i stamp : ℕ) (events : List Event) (reply : Reply) (pairs whole : List IdPair) → i < length events → Answer stamp reply ≡ get_or events i (Answer stamp reply) → stamp ≡ k → pairs_behind calls k pairs (drop i events) ≡ whole → taught_by pairs (slice_get calls stamp) reply ≡ whole
taught_here calls k i stamp events reply pairs whole within is same so_far =
    sym (ap (pairs_behind calls k pairs) (front events i (Answer stamp reply) within is) ∙ ap (λ (b : Bool). cond b (taught_by pairs (slice_get calls stamp) reply) (pairs_behind calls k (taught_by pairs (slice_get calls stamp) reply) (drop (i + 1) events))) (eq-eqb stamp k same)) ∙ so_far

pub taught_on : (calls : List Captured) (k i stamp : ℕ) (events : List Event) (reply : Reply) (pairs whole : List IdPair) → i < length events → Answer stamp reply ≡ get_or events i (Answer stamp reply) → (stamp ≡ k → ⊥) → pairs_behind calls k pairs (drop i events) ≡ whole → pairs_behind calls k (taught_by pairs (slice_get calls stamp) reply) (drop (i + 1) events) ≡ whole
taught_on calls k i stamp events reply pairs whole within is apart so_far =
    sym (ap (pairs_behind calls k pairs) (front events i (Answer stamp reply) within is) ∙ ap (λ (b : Bool). cond b (taught_by pairs (slice_get calls stamp) reply) (pairs_behind calls k (taught_by pairs (slice_get calls stamp) reply) (drop (i + 1) events))) (ne_eqb stamp k apart)) ∙ so_far

pub taught_past : (calls : List Captured) (k i stamp pause : ℕ) (events : List Event) (pairs whole : List IdPair) → i < length events → Start stamp pause ≡ get_or events i (Start stamp pause) → pairs_behind calls k pairs (drop i events) ≡ whole → pairs_behind calls k pairs (drop (i + 1) events) ≡ whole
taught_past calls k i stamp pause events pairs whole within is so_far = sym (ap (pairs_behind calls k pairs) (front events i (Start stamp pause) within is)) ∙ so_far

pub taught_none : (calls : List Captured) (k i : ℕ) (events : List Event) (pairs whole : List IdPair) → length events ≤ i → pairs_behind calls k pairs (drop i events) ≡ whole → pairs ≡ whole
taught_none calls k i events pairs whole all so_far = sym (ap (pairs_behind calls k pairs) (drop_all i events all)) ∙ so_far

-- ---- a transaction

pub later_end : (session k i : ℕ) (calls : List Captured) (call : Captured) (done whole : List Captured) → i < length calls → call ≡ get_or calls i call → is_later session k call ≡ true → is_end call ≡ true → done ++ up_to_end session k (drop i calls) ≡ whole → done ++ call ∷ [] ≡ whole
later_end session k i calls call done whole within is later ends so_far =
    ap (λ (cs : List Captured). done ++ cs) (sym (ap (up_to_end session k) (front calls i call within is) ∙ rw (later, ends) refl)) ∙ so_far

pub later_on : (session k i : ℕ) (calls : List Captured) (call : Captured) (done whole : List Captured) → i < length calls → call ≡ get_or calls i call → is_later session k call ≡ true → is_end call ≡ false → done ++ up_to_end session k (drop i calls) ≡ whole → (done ++ call ∷ []) ++ up_to_end session k (drop (i + 1) calls) ≡ whole
later_on session k i calls call done whole within is later ends so_far =
    append_assoc done (call ∷ []) _ ∙ ap (λ (cs : List Captured). done ++ cs) (sym (ap (up_to_end session k) (front calls i call within is) ∙ rw (later, ends) refl)) ∙ so_far

pub later_past : (session k i : ℕ) (calls : List Captured) (call : Captured) (done whole : List Captured) → i < length calls → call ≡ get_or calls i call → is_later session k call ≡ false → done ++ up_to_end session k (drop i calls) ≡ whole → done ++ up_to_end session k (drop (i + 1) calls) ≡ whole
later_past session k i calls call done whole within is later so_far =
    ap (λ (cs : List Captured). done ++ cs) (sym (ap (up_to_end session k) (front calls i call within is) ∙ rw later refl)) ∙ so_far

pub later_all : (session k i : ℕ) (calls done whole : List Captured) → length calls ≤ i → done ++ up_to_end session k (drop i calls) ≡ whole → done ≡ whole
later_all session k i calls done whole all so_far = sym (append-nil done) ∙ ap (λ (cs : List Captured). done ++ up_to_end session k cs) (sym (drop_all i calls all)) ∙ so_far

-- the last of a call and those behind it is the one at the last place, where there is one
pub last_behind : (call d : Captured) (calls : List Captured) → 1 ≤ length calls → last_call call calls ≡ get_or calls (length calls - 1) d
last_behind call d [] within = absurd (omega arith)
last_behind call d (next ∷ []) within = refl
last_behind call d (next ∷ other ∷ calls) within =
    let next_place : length (next ∷ other ∷ calls) - 1 ≡ suc (length (other ∷ calls) - 1) = omega arith in
    last_behind next d (other ∷ calls) (omega arith) ∙ sym (ap (λ (i : ℕ). get_or (next ∷ other ∷ calls) i d) next_place)
