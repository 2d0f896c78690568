use Rattle.std.proofs.Common.{◌∙◌, inl, inr, true, length-set}
use Rattle.std.specs.Ordering.{nat_cmp}
use Rattle.std.specs.BTreeMap.{get}
use Rattle.std.proofs.lemmas.Bool.{cases_eq}
use Rattle.object_depends.specs.Facts.{fact_at}
use Rattle.commit_gate.proofs.Keeping.{start_kept, in_other}
use Rattle.commit_gate.proofs.Sessions.{turn_all}
use Rattle.commit_gate.proofs.gate.Gate.start.Goals as goal

pub invariant_of-self : goal.invariant_of-self
invariant_of-self c =
    let a = c.self.inside in
    let is = c.self.invariant in
    let ready = rw (← c.self.view_is) at c.requires in
    let session = (fact_at a.facts c.args.k).session in
    let turn = turn_all a.facts a.started.items a.answered.items c.args.k (get nat_cmp a.heads session) (is.heads session) is.order ready.stamp ready.turn in
    record {
      few = is.few;
      sound = is.sound;
      started_len = length-set a.started.items c.args.k true ∙ is.started_len;
      answered_len = is.answered_len;
      nexts_len = is.nexts_len;
      every = is.every;
      commits = is.commits;
      tables_len = is.tables_len;
      tables = is.tables;
      heads = is.heads;
      nexts = is.nexts;
      order = start_kept a.facts a.started.items a.answered.items c.args.k is.order turn;
      required = λ j started.
          elim (cases_eq j c.args.k) [
            | inl e ↦ rw e ready.required
            | inr other ↦ is.required j (in_other a.started.items c.args.k j other started)
          ];
    }
