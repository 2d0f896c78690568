-- What stays at level 1 and at version 1.
use Rattle.std.proofs.Common.{◌≡◌, ◌∙◌, ℕ, Bool, true, false, List, refl, ap}
use Rattle.std.specs.Prelude.{if◌then◌else◌, Option, None, Some, Ok}
use Rattle.std.specs.Option.{option_and_then}
use Rattle.std.specs.Ordering.{flip_args, int_cmp, nat_cmp, ordering_reverse, ordering_then, then_cmp}
use Rattle.std.specs.Cmp.Lexicographic.{slice_cmp}
use Rattle.std.specs.declared.cmp.Ordering.{Ordering}
use Rattle.std.specs.declared.cmp.Ordering.TheVariants.{Less, Equal, Greater}
use Rattle.std.proofs.lemmas.Cmp.{nat_list_cmp_total}
use Rattle.desk_values.specs.declared.value.Value.TheVariants.{Null, Int, Text, Row, Draw}
use Rattle.desk_values.specs.Comparison.{text_order}
use Rattle.sql_tree.specs.Plain.{Name, Plan}
use Rattle.sql_reader.specs.Reading.{statement_of}
use Rattle.sql_eval.specs.Totals.{extreme_of, over, part_in, tied_order}
use Rattle.server_words.specs.Request.{known_in, names_savepoint, statement_in}
use Rattle.server_words.proofs.Keeping.{kept_at_one}
use Rattle.law_server.specs.Levels.{GreatestGoesByBytes, KeysCountWhole, LeastGoesByBytes, NewServersKnowAll, OldServersKnowNoSavepoint, OldServersKnowTheRest, QuotientsArePlain, TextsCompareByBytes, ValuesAreStored, plain_extreme}

pub texts_compare_by_bytes : TextsCompareByBytes
unfolding text_order
texts_compare_by_bytes a b = refl

-- ---- MIN and MAX

tied_with_itself : (o : Ordering) → ordering_then o o ≡ o
tied_with_itself Less = refl
tied_with_itself Equal = refl
tied_with_itself Greater = refl

tied_with_back : (o back : Ordering) → back ≡ ordering_reverse o → ordering_then o back ≡ o
tied_with_back Less back is = refl
tied_with_back Equal back is = is
tied_with_back Greater back is = refl

-- a tie by bytes is no tie
least_order : then_cmp (slice_cmp nat_cmp) (slice_cmp nat_cmp) ≡ slice_cmp nat_cmp
least_order = λ i a b. tied_with_itself (slice_cmp nat_cmp a b) i

greatest_order : then_cmp (flip_args (slice_cmp nat_cmp)) (slice_cmp nat_cmp) ≡ flip_args (slice_cmp nat_cmp)
greatest_order = λ i a b. tied_with_back (slice_cmp nat_cmp b a) (slice_cmp nat_cmp a b) (nat_list_cmp_total.antisymm a b) i

pub least_goes_by_bytes : LeastGoesByBytes
unfolding extreme_of tied_order text_order
least_goes_by_bytes binds part rows =
    ap (λ (texts : List ℕ → List ℕ → Ordering). over (λ values. Ok (plain_extreme int_cmp texts values)) (part_in 1 binds part) rows) least_order

pub greatest_goes_by_bytes : GreatestGoesByBytes
unfolding extreme_of tied_order text_order
greatest_goes_by_bytes binds part rows =
    ap (λ (texts : List ℕ → List ℕ → Ordering). over (λ values. Ok (plain_extreme (flip_args int_cmp) texts values)) (part_in 1 binds part) rows) greatest_order

-- ---- values

pub quotients_are_plain : QuotientsArePlain
quotients_are_plain a b = refl

pub keys_count_whole : KeysCountWhole
keys_count_whole Null = refl
keys_count_whole (Int n) = refl
keys_count_whole (Text text) = refl
keys_count_whole (Row n) = refl
keys_count_whole (Draw sequence n) = refl

pub values_are_stored : ValuesAreStored
values_are_stored value = kept_at_one value

-- ---- statements

pub new_servers_know_all : NewServersKnowAll
new_servers_know_all text = known_all (statement_of text)
  where
    known_all : (found : Option (Plan Name)) → option_and_then (known_in 2) found ≡ found
    known_all None = refl
    known_all (Some parsed) = refl

module _ (text : List ℕ) (parsed : Plan Name) (read : statement_of text ≡ Some parsed) where
  known : (names : Bool) → names_savepoint parsed ≡ names → statement_in 1 text ≡ (if names then None else Some parsed)
  known names is = ap (option_and_then (known_in 1)) read ∙ ap (λ (b : Bool). if b then None else Some parsed) is

pub old_servers_know_the_rest : OldServersKnowTheRest
old_servers_know_the_rest text parsed read is = known text parsed read false is

pub old_servers_know_no_savepoint : OldServersKnowNoSavepoint
old_servers_know_no_savepoint text parsed read is = known text parsed read true is
