use Rattle.std.proofs.Common.{◌≡◌, ◌∙◌, ℕ, List, Some, sym, ap}
use Rattle.std.specs.Prelude.{Result, Ok, Err, OnErr}
use Rattle.std.specs.BTreeMap.{is_at}
use Rattle.std.specs.Map.{lookup, set_value}
use Rattle.std.specs.declared.cmp.Ordering.{Ordering}
use Rattle.std.proofs.lemmas.Map.Steps.{set_value_same}
use Rattle.key_index.specs.declared.shelf.Group.{Group}
use Rattle.key_index.proofs.stock.Stock.note.Goals as goal

on_err : {A E P Q : Type 0} (r : Result A E) → (P → Q) → OnErr r P → OnErr r Q
on_err (Ok x) f h = tt
on_err (Err e) f h = f h

-- a shelf that is written back as it was leaves all as they were
kept : (compare : ℕ → Ordering) (entries new : List (ℕ × List Group)) (was now : List Group) → Some was ≡ lookup (is_at compare) entries → now ≡ was → new ≡ set_value (is_at compare) entries now → new ≡ entries
kept compare entries new was now found same written = written ∙ set_value_same (is_at compare) entries now (sym found ∙ ap Some (sym same))

pub returns-in-Some-clause-err : goal.returns-in-Some-clause-err
returns-in-Some-clause-err c =
    on_err c.note.result
    (λ same. kept _ c.self.inside.shelves.entries _ c.in-Some.shelf.now c.note.new.self c.in-Some.ensures.value same (c.get_mut.follows.holds c.note.new.self).0 ∙ c.self.view_is)
    c.note.ensures.err
