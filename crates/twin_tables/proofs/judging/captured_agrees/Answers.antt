use Rattle.std.proofs.Common.{◌≡◌, ◌∙◌, Bool, None, Some, IfOk, sym, subst}
use Rattle.std.specs.Prelude.{◌↔◌, IsTrue}
use Rattle.std.proofs.lemmas.Result.{IfOk-weaker}
use Rattle.id_pairs.specs.Pairs.{IdPair}
use Rattle.law_server.specs.Renaming.Twins.{IsRenamedRow}
use Rattle.twin_tables.specs.Differences.{both_of, captured_told, replayed_told}
use Rattle.twin_tables.specs.Inside.Judging.{AreTwinImages, CapturedAgrees}
use Rattle.twin_tables.proofs.Agreeing.{captured_alone, captured_by}
use Rattle.twin_tables.proofs.Renamed.{row_renamed}
use Rattle.twin_tables.proofs.judging.captured_agrees.Goals as goal

pub returns-in-Some : goal.returns-in-Some
returns-in-Some c =
    let both = both_of c.args.with in
    let row = c.args.row in
    let other = c.in-Some.other in
    let pair : IsRenamedRow both.pairs row other = row_renamed both.pairs c.know_map.ensures row other (sym c.in-Some.ensures) in
    let same = captured_by both c.know_map.ensures row other pair in
    IfOk-weaker c.are_alike.result
    (λ (alike : Bool). IsTrue alike ↔ AreTwinImages both.pairs (captured_told both row) (replayed_told both other))
    (λ (agrees : Bool). IsTrue agrees ↔ CapturedAgrees both row)
    (λ alike is. (λ t. same.0 (is.0 t), λ agrees. is.1 (same.1 agrees))) c.are_alike.ensures

pub row_at-requires : goal.row_at-requires
row_at-requires c = c.requires.captured

pub returns-in-None : goal.returns-in-None
returns-in-None c =
    let both = both_of c.args.with in
    let same = captured_alone both c.know_map.ensures c.args.row (sym c.in-None.ensures) in (
      λ t. same.0 (sym c.row_at.ensures ∙ c.is_gone.ensures.0 t),
      λ agrees. c.is_gone.ensures.1 (c.row_at.ensures ∙ same.1 agrees),
    )
