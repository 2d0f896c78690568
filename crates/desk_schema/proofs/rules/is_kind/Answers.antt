use Rattle.std.proofs.Common.{length, sym, subst}
use Rattle.std.proofs.lemmas.Bool.{ltb-true, lt-ltb}
use Rattle.desk_schema.specs.declared.schema.Kind.{Kind}
use Rattle.desk_schema.specs.Line.{with_name}
use Rattle.desk_schema.specs.Rules.{IsKind}
use Rattle.desk_schema.proofs.Fitting.{is_sequence}
use Rattle.desk_schema.proofs.rules.is_kind.Goals as goal

pub returns-in-Seq : goal.returns-in-Seq
returns-in-Seq c =
    let both = is_sequence c.args.sequences.now c.in-Seq.sequence c.requires in
    let P : Kind → Type 0 = λ kind. IsKind c.args.sequences.now (with_name c.args.sequences.now kind) in (
      λ h. subst P (sym c.in-Seq.is) (both.0 (ltb-true c.in-Seq.sequence (length c.args.sequences.now) h)),
      λ is. lt-ltb c.in-Seq.sequence (length c.args.sequences.now) (both.1 (subst P c.in-Seq.is is)),
    )
