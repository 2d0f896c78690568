-- The worked cases, by computing them.
use Rattle.std.proofs.Common.{List, [], ◌∷◌, refl, arith}
use Rattle.std.specs.List.{IsDistinct}
use Rattle.desk_values.specs.declared.value.Image.{Image}
use Rattle.sql_eval.specs.Faults.{any_fault, joined}
use Rattle.sql_eval.specs.Moved.{none, more, swapped}
use Rattle.server_words.specs.Causes.{ranked, statement_fault}
use Rattle.server_words.specs.Found.{faults_over, ordered}
use Rattle.server_words.specs.Writes.{repeats_key}
use Rattle.id_pairs.specs.Pairs.{IdPair}
use Rattle.law_server.specs.Rows.Bags.{AreBags}
use Rattle.law_server.specs.Rows.Images.{IsRenamedImage}
use Rattle.law_server.proofs.Renaming.Rising.{bags_sets}
use Rattle.law_server.specs.Renaming.Cases.{EveryIdChanges, OneIdTwice, captured_view, crossed, first_view, replayed_view, row_with, second_view, shifted, view_with}
use Rattle.law_server.specs.Renaming.Twins.{AreSets, AreTwinViews}
use Rattle.desk_schema.proofs.Members.{Contains-none}

empty_sets : {A B : Type 0} (R : A → B → Type 0) → AreSets R [] []
empty_sets R = record { forth = λ x c. absurd (Contains-none x c); back = λ y c. absurd (Contains-none y c) }

-- sessions that hold and have changed nothing
twin_views : (pairs : List IdPair) (rows others : List Image) → AreBags (IsRenamedImage pairs) rows others → AreTwinViews pairs (view_with rows) (view_with others)
twin_views pairs rows others bags = record { rights = refl; reads_only = refl; changes = empty_sets _; own_rows = empty_sets _; own_keys = empty_sets _; savepoints = tt; rows = bags_sets _ _ _ bags; locked = empty_sets _; locked_keys = empty_sets _ }

crossed_rows : AreBags (IsRenamedImage crossed) first_view.rows second_view.rows
crossed_rows = record {
  turned = row_with 2 11 100 ∷ row_with 1 10 200 ∷ [];
  related = (record { row = (0, omega arith, refl); table = refl; left = ((1, omega arith, refl), (refl, tt)) }, (record { row = (2, omega arith, refl); table = refl; left = ((3, omega arith, refl), (refl, tt)) }, tt));
  moved = swapped (row_with 2 11 100) (row_with 1 10 200) [];
}

pub every_id_changes : EveryIdChanges
unfolding IsDistinct any_fault faults_over joined ordered ranked statement_fault
every_id_changes = record {
  map = record { once = record { captured = ((refl, (refl, (refl, tt))), ((refl, (refl, tt)), ((refl, tt), (tt, tt)))); replayed = ((refl, (refl, (refl, tt))), ((refl, (refl, tt)), ((refl, tt), (tt, tt)))) }; like = (tt, (refl, (tt, (refl, tt)))) };
  views = twin_views crossed _ _ crossed_rows;
  rising = (record { changes = tt; rows = (omega arith, (omega arith, tt)) }, record { changes = tt; rows = (omega arith, (omega arith, tt)) });
  binds = ((1, omega arith, refl), tt);
  first = refl;
  second = refl;
}

shifted_rows : AreBags (IsRenamedImage shifted) captured_view.rows replayed_view.rows
shifted_rows = record {
  turned = row_with 1 11 100 ∷ [];
  related = (record { row = (0, omega arith, refl); table = refl; left = ((1, omega arith, refl), (refl, tt)) }, tt);
  moved = more (row_with 1 11 100) [] [] none;
}

pub one_id_twice : OneIdTwice
unfolding IsDistinct any_fault faults_over joined ranked repeats_key statement_fault
one_id_twice = record {
  map = record { once = record { captured = ((refl, tt), (tt, tt)); replayed = ((refl, tt), (tt, tt)) }; like = (tt, (refl, tt)) };
  views = twin_views shifted _ _ shifted_rows;
  rising = (record { changes = tt; rows = (omega arith, tt) }, record { changes = tt; rows = (omega arith, tt) });
  twice = λ once. absurd (cc);
  made = refl;
  refused = refl;
}
