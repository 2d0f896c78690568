-- Two lists whose items belong together, whatever their order.
use Rattle.std.specs.Prelude.{List}
use Rattle.std.specs.List.{AllZip}
use Rattle.sql_eval.specs.Moved.{Moved}

-- the items of both are related one to one, in some order
pub record AreBags {A B : Type 0} (R : A → B → Type 0) (xs : List A) (ys : List B) : Type 0 where
  pub turned : List B
  pub related : AllZip R xs turned
  pub moved : Moved turned ys
