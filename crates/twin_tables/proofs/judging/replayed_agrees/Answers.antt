use Rattle.std.proofs.Common.{◌≡◌, ◌∙◌, Bool, IfOk, sym}
use Rattle.std.specs.Prelude.{◌↔◌, IsTrue}
use Rattle.std.proofs.lemmas.Result.{IfOk-weaker}
use Rattle.twin_tables.specs.Differences.{both_of, captured_told, replayed_told}
use Rattle.twin_tables.specs.Inside.Judging.{AreTwinImages, ReplayedAgrees}
use Rattle.twin_tables.proofs.Agreeing.{replayed_alone, replayed_by}
use Rattle.twin_tables.proofs.judging.replayed_agrees.Goals as goal

pub returns-in-Some : goal.returns-in-Some
returns-in-Some c =
    let both = both_of c.args.with in
    let row = c.args.row in
    let captured = c.in-Some.captured in
    let same = replayed_by both c.know_map.ensures captured row c.in-Some.ensures.some in
    IfOk-weaker c.are_alike.result
    (λ (alike : Bool). IsTrue alike ↔ AreTwinImages both.pairs (captured_told both captured) (replayed_told both row))
    (λ (agrees : Bool). IsTrue agrees ↔ ReplayedAgrees both row)
    (λ alike is. (λ t. same.0 (is.0 t), λ agrees. is.1 (same.1 agrees))) c.are_alike.ensures

pub row_at-requires : goal.row_at-requires
row_at-requires c = c.requires.replayed

pub returns-in-None : goal.returns-in-None
returns-in-None c =
    let both = both_of c.args.with in
    let same = replayed_alone both c.know_map.ensures c.args.row c.in-None.ensures.none in (
      λ t. same.0 (sym c.row_at.ensures ∙ c.is_gone.ensures.0 t),
      λ agrees. c.is_gone.ensures.1 (c.row_at.ensures ∙ same.1 agrees),
    )
