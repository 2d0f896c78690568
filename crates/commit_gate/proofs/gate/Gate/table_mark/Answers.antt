use Rattle.std.proofs.Common.{◌≡◌, ◌∙◌, ap, arith}
use Rattle.std.proofs.lemmas.List.{get_or_read}
use Rattle.commit_gate.specs.declared.mark.Mark.{Mark}
use Rattle.commit_gate.specs.declared.mark.Watch.TheVariants.{Table}
use Rattle.commit_gate.specs.Inside.Marks.{mark_at, no_mark}
use Rattle.commit_gate.proofs.Readiness.{front_is_kind}
use Rattle.commit_gate.proofs.gate.Gate.table_mark.Goals as goal

pub returns : goal.returns
returns c =
    let a = c.self.inside in
    let is = c.self.invariant in
    let read : c.index.result.now ≡ mark_at a.tables.items c.args.table = get_or_read a.tables.items c.args.table _ (omega (arith, is.tables_len)) c.index.ensures no_mark in
    rw (← c.self.view_is)
    (c.from.ensures ∙ ap (λ (m : Mark). m.count) read ∙ front_is_kind (Table c.args.table) a.facts a.answered.items (mark_at a.tables.items c.args.table) is.answered_len (is.tables c.args.table c.requires))
