use Rattle.std.proofs.Common.{◌≡◌, Option, IfOk, Bool, sym, subst}
use Rattle.std.specs.Prelude.{◌↔◌, IsTrue}
use Rattle.desk_values.specs.declared.value.Image.{Image}
use Rattle.std.specs.Option.{option_copied}
use Rattle.twin_tables.specs.Differences.{both_of, captured_told, replayed_told}
use Rattle.twin_tables.specs.Inside.Judging.{AreTwinImages}
use Rattle.twin_tables.proofs.judging.are_alike.Goals as goal

pub row_at-image-requires : goal.row_at-image-requires
row_at-image-requires c = c.requires.captured

pub row_at-twin-requires : goal.row_at-twin-requires
row_at-twin-requires c = c.requires.replayed

pub returns : goal.returns
returns c =
    let both = both_of c.args.with in
    subst (λ (o : Option Image). IfOk c.are_twins.result (λ (alike : Bool). IsTrue alike ↔ AreTwinImages both.pairs o (replayed_told both c.args.other))) c.row_at-image.ensures
    (subst (λ (o : Option Image). IfOk c.are_twins.result (λ (alike : Bool). IsTrue alike ↔ AreTwinImages both.pairs (option_copied c.row_at-image.result) o)) c.row_at-twin.ensures c.are_twins.ensures)
