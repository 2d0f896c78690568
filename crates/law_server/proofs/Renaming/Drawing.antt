-- What two servers draw for one statement, and INSERT.
use Rattle.std.proofs.Common.{◌≡◌, ℕ, ◌+◌, Bool, true, false, ◌||◌, List, [], ◌∷◌, ◌++◌, length, map, if◌then◌else◌, slice_get, Option, None, Some, Result, refl, ap, arith}
use Rattle.std.specs.Prelude.{nat_eq, is_some}
use Rattle.std.specs.List.{AllByRecursion, Contains, list_any}
use Rattle.std.specs.Option.{option_and_then, unwrap_or}
use Rattle.std.proofs.lemmas.Bool.{eq-eqb}
use Rattle.std.proofs.lemmas.List.Elements.{Contains-append_left, Contains-append_right}
use Rattle.desk_values.specs.declared.value.Value.{Value}
use Rattle.desk_values.specs.declared.value.Value.TheVariants.{Null, Draw}
use Rattle.desk_values.specs.declared.value.Image.{Image}
use Rattle.desk_values.specs.declared.fault.Fault.{Fault}
use Rattle.desk_values.specs.declared.call.Reply.{Reply}
use Rattle.desk_schema.specs.declared.schema.Column.{Column}
use Rattle.sql_tree.specs.Plain.{Term, Entry, value, drawn, Plan}
use Rattle.sql_eval.specs.Faults.{any_fault, divides, overflows}
use Rattle.sql_eval.specs.Moved as moved
use Rattle.sql_eval.specs.Totals.{values_in}
use Rattle.sql_eval.specs.Value.{value_of}
use Rattle.server_words.specs.Rows.{row_key}
use Rattle.server_words.specs.Found.{Environment}
use Rattle.server_words.specs.Causes.{no_cause}
use Rattle.server_words.specs.View.{View}
use Rattle.server_words.specs.Draws.{draws_from, draws_of, drawn_from, drawn_value, is_draw_of}
use Rattle.server_words.specs.Writes.{exceeds, input_place, input_value, inputs_for, leaves, row_values, violates_not_null}
use Rattle.server_words.specs.Answer.{insert_causes, is_over, new_row, with_faults}
use Rattle.id_pairs.specs.declared.Id.TheVariants as id
use Rattle.id_pairs.specs.Pairs.{HasNoIdTwice, IdPair, drawn_pair, drawn_pairs, learnt, made_pair}
use Rattle.id_pairs.specs.Renaming.{AreRenamed, IsRenamed}
use Rattle.law_server.specs.Rows.Bags.{AreBags}
use Rattle.law_server.specs.Rows.Images.{IsRenamedImage}
use Rattle.law_server.proofs.Rows.Bags.{bags_length, bags_map}
use Rattle.law_server.proofs.Rows.Expressions.{Twin, null, TwinPart, part, nth_twins, renamed_of, twin_of, value_twins}
use Rattle.law_server.proofs.Rows.Totals.{divides_twins, overflows_twins}
use Rattle.law_server.specs.Renaming.Inputs.{IsInput}
use Rattle.law_server.proofs.Renaming.Matched.{AreMatched}
use Rattle.law_server.specs.Renaming.Replies.{IsRenamedMade}
use Rattle.law_server.proofs.Renaming.Longer.{values_longer}
use Rattle.law_server.proofs.Renaming.Keys.{key_of_image, key_of_values, same_lock, same_repeats}
use Rattle.law_server.proofs.Renaming.Found.{sound_twin}
use Rattle.law_server.proofs.Renaming.Writing.{stored_renamed, same_column, same_length, same_null, same_range}
use Rattle.desk_schema.proofs.Members.{Contains-here}

-- ---- draws of two servers

-- draws of the same sequences, place by place
abbrev pub AreSameDraws : List Value → List Value → Type 0
AreSameDraws [] [] = Unit {0}
AreSameDraws (Draw p m ∷ draws) (Draw q n ∷ others) = (p ≡ q) × AreSameDraws draws others
AreSameDraws draws others = ⊥

same_draws : (test : ℕ → Bool) (sequence : ℕ) (ns ms : List ℕ) → length ns ≡ length ms → AreSameDraws (drawn_from test sequence ns) (drawn_from test sequence ms)
same_draws test sequence [] [] e = tt
same_draws test sequence (n ∷ ns) (m ∷ ms) e = elim (test sequence) as (λ b. AreSameDraws (if b then Draw sequence n ∷ drawn_from test (sequence + 1) ns else drawn_from test (sequence + 1) ns) (if b then Draw sequence m ∷ drawn_from test (sequence + 1) ms else drawn_from test (sequence + 1) ms)) [
  | true ↦ (refl, same_draws test (sequence + 1) ns ms (omega (arith, e)))
  | false ↦ same_draws test (sequence + 1) ns ms (omega (arith, e))
]
same_draws test sequence [] (m ∷ ms) e = absurd (omega (arith, e))
same_draws test sequence (n ∷ ns) [] e = absurd (omega (arith, e))

pub plan_draws : (plan : Plan ℕ) (ns ms : List ℕ) → length ns ≡ length ms → AreSameDraws (draws_of plan ns) (draws_of plan ms)
plan_draws plan ns ms e = same_draws (draws_from plan) 0 ns ms e

-- the pairs of such draws have each
paired : (p m q n : ℕ) (more : List IdPair) → p ≡ q → Contains (drawn_pair (Draw p m) (Draw q n) ++ more) (id.Draw p m, id.Draw q n)
paired p m q n more e = rw (eq-eqb p q e) (Contains-here (id.Draw p m, id.Draw q n) more)

pub draws_renamed : (draws others : List Value) → AreSameDraws draws others → AreRenamed (drawn_pairs draws others) draws others
draws_renamed [] [] s = tt
draws_renamed (Draw p m ∷ draws) (Draw q n ∷ others) s = (paired p m q n (drawn_pairs draws others) s.0, values_longer (drawn_pairs draws others) (drawn_pair (Draw p m) (Draw q n) ++ drawn_pairs draws others) (λ x c. Contains-append_right (drawn_pair (Draw p m) (Draw q n)) (drawn_pairs draws others) x c) draws others (draws_renamed draws others s.1))
draws_renamed draws others s = absurd s

-- ---- the lengthened map

module _ (pairs : List IdPair) (reply other : Reply) where
  pub learnt_before : (p : IdPair) → Contains pairs p → Contains (pairs ++ learnt reply other) p
  learnt_before p c = Contains-append_left pairs (learnt reply other) p c

  pub learnt_draws : AreSameDraws reply.draws other.draws → AreRenamed (pairs ++ learnt reply other) reply.draws other.draws
  learnt_draws same = values_longer (drawn_pairs reply.draws other.draws) (pairs ++ learnt reply other) (λ p c. Contains-append_right pairs (learnt reply other) p (Contains-append_left (drawn_pairs reply.draws other.draws) (made_pair reply.made other.made) p c)) reply.draws other.draws (draws_renamed reply.draws other.draws same)

  both_made : (more : List IdPair) (m n : Option ℕ) → is_some m ≡ is_some n → ((p : IdPair) → Contains (made_pair m n) p → Contains more p) → IsRenamedMade more m n
  both_made more None None e within = tt
  both_made more (Some m) (Some n) e within = within (id.Row m, id.Row n) (Contains-here (id.Row m, id.Row n) [])
  both_made more None (Some n) e within = absurd (cc)
  both_made more (Some m) None e within = absurd (cc)

  pub learnt_made : is_some reply.made ≡ is_some other.made → IsRenamedMade (pairs ++ learnt reply other) reply.made other.made
  learnt_made e = both_made (pairs ++ learnt reply other) reply.made other.made e (λ p c. Contains-append_right pairs (learnt reply other) p (Contains-append_right (drawn_pairs reply.draws other.draws) (made_pair reply.made other.made) p c))

-- ---- INSERT

module _ (pairs : List IdPair) where
  draw_here : (sequence : ℕ) {v w : Value} → Twin pairs v w → is_draw_of sequence v ≡ is_draw_of sequence w → (rest more : Value) → Twin pairs rest more → Twin pairs (if is_draw_of sequence v then v else rest) (if is_draw_of sequence w then w else more)
  draw_here sequence {v} {w} t e rest more s = go (is_draw_of sequence v) (is_draw_of sequence w) e
    where
      go : (b c : Bool) → b ≡ c → Twin pairs (if b then v else rest) (if c then w else more)
      go true true e = t
      go false false e = s
      go true false e = absurd (cc)
      go false true e = absurd (cc)

  drawn_twin : (draws others : List Value) (sequence : ℕ) → AreSameDraws draws others → AreRenamed pairs draws others → Twin pairs (drawn_value draws sequence) (drawn_value others sequence)
  drawn_twin [] [] sequence s t = null
  drawn_twin (Draw p m ∷ draws) (Draw q n ∷ others) sequence s t = draw_here sequence (twin_of pairs (Draw p m) (Draw q n) t.0) (ap (λ k. nat_eq k sequence) s.0) _ _ (drawn_twin draws others sequence s.1 t.1)
  drawn_twin draws others sequence s t = absurd s

  module _ (level : ℕ) (binds sent : List Value) (given : AreRenamed pairs binds sent) where
    given_part : (e : Term ℕ) → IsInput (value e) → TwinPart pairs (value_of level 0 [] binds e) (value_of level 0 [] sent e)
    given_part e s = value_twins pairs level 0 0 [] [] tt binds sent given e (λ t. absurd (cc))

    abbrev one : Environment
    one = record { level = level; binds = binds }

    abbrev two : Environment
    two = record { level = level; binds = sent }

    module _ (draws others : List Value) (same : AreSameDraws draws others) (renamed : AreRenamed pairs draws others) where
      input_part : (entry : Entry ℕ) → IsInput entry → TwinPart pairs (input_value one draws entry) (input_value two others entry)
      input_part (value e) s = given_part e s
      input_part (drawn sequence) s = part _ _ (drawn_twin draws others sequence same renamed)

      inputs_renamed : (entries : List (Entry ℕ)) → AllByRecursion IsInput entries → AreRenamed pairs (inputs_for one draws entries) (inputs_for two others entries)
      inputs_renamed [] s = tt
      inputs_renamed (entry ∷ entries) s = (stored_renamed pairs level _ _ (renamed_of (sound_twin (input_part entry s.0))), inputs_renamed entries s.1)

      any_input : (test : Result Value Fault → Bool) → ((r q : Result Value Fault) → TwinPart pairs r q → test r ≡ test q) → (entries : List (Entry ℕ)) → AllByRecursion IsInput entries → list_any (λ entry. test (input_value one draws entry)) entries ≡ list_any (λ entry. test (input_value two others entry)) entries
      any_input test alike [] s = refl
      any_input test alike (entry ∷ entries) s = λ i. alike _ _ (input_part entry s.0) i || any_input test alike entries s.1 i

      pub input_faults : (entries : List (Entry ℕ)) → AllByRecursion IsInput entries → any_fault (input_value one draws) entries ≡ any_fault (input_value two others) entries
      unfolding any_fault
      input_faults entries s =
          let d = any_input divides (λ r q t. divides_twins t) entries s in
          let o = any_input overflows (λ r q t. overflows_twins t) entries s in
          λ i. record { divides = d i; overflows = o i }

      column_renamed : (inputs more : List Value) → AreRenamed pairs inputs more → (place : Option ℕ) → IsRenamed pairs (unwrap_or (option_and_then (slice_get inputs) place) Null) (unwrap_or (option_and_then (slice_get more) place) Null)
      column_renamed inputs more t None = tt
      column_renamed inputs more t (Some n) = renamed_of (nth_twins pairs inputs more n t)

      row_renamed : (named : Option (List ℕ)) (inputs more : List Value) → AreRenamed pairs inputs more → (number : ℕ) (cs : List Column) → AreRenamed pairs (row_values named inputs number cs) (row_values named more number cs)
      row_renamed named inputs more t number [] = tt
      row_renamed named inputs more t number (c ∷ cs) = (column_renamed inputs more t (input_place named number), row_renamed named inputs more t (number + 1) cs)

      module _ (once : HasNoIdTwice pairs) (view other : View) (twins : AreMatched pairs view other) (cs : List Column) (row made table : ℕ) (named : Option (List ℕ)) (entries : List (Entry ℕ)) (inputs : AllByRecursion IsInput entries) where
        abbrev first_row : Image
        first_row = new_row one cs draws row table named entries

        abbrev second_row : Image
        second_row = new_row two cs others made table named entries

        new_values : AreRenamed pairs (values_in first_row) (values_in second_row)
        new_values = row_renamed named _ _ (inputs_renamed entries inputs) 0 cs

        new_key : IsRenamed pairs (row_key first_row) (row_key second_row)
        new_key = key_of_values pairs _ _ new_values

        keys_with : AreBags (IsRenamed pairs) (row_key first_row ∷ map row_key view.rows) (row_key second_row ∷ map row_key other.rows)
        keys_with =
            let bags = bags_map (IsRenamedImage pairs) (IsRenamed pairs) row_key row_key (key_of_image pairs) twins.rows in
            record { turned = row_key second_row ∷ bags.turned; related = (new_key, bags.related); moved = moved.more (row_key second_row) _ _ bags.moved }

        pub same_insert : insert_causes one cs view draws first_row entries ≡ insert_causes two cs other others second_row entries
        same_insert =
            let f = input_faults entries inputs in
            let m = bags_length (IsRenamedImage pairs) twins.changes in
            let l = same_lock pairs once level view.locked_keys other.locked_keys twins.locked_keys (row_key first_row) (row_key second_row) new_key in
            let n = same_column pairs violates_not_null (same_null pairs) cs _ _ new_values in
            let s = same_column pairs exceeds (same_length pairs) cs _ _ new_values in
            let r = same_column pairs leaves (same_range pairs) cs _ _ new_values in
            let d = same_repeats pairs once level keys_with in
            λ i. record (with_faults (f i) (record no_cause { too_many = is_over (m i + 1); locked = l i })) { null = n i || false; too_long = s i || false; out_of_range = r i || false; duplicate = d i }
