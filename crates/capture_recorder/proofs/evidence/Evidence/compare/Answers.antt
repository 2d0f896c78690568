use Rattle.std.proofs.Common.{◌∙◌, List, map, sym, ap}
use Rattle.desk_values.specs.declared.capture.Captured.{Captured}
use Rattle.capture_recorder.specs.declared.door.Said.{Said}
use Rattle.capture_recorder.specs.Gathering.{difference, lists_of, mismatch_in, said_in, said_of}
use Rattle.capture_recorder.proofs.Comparing.{told_on}
use Rattle.capture_recorder.proofs.evidence.Evidence.compare.Goals as goal

pub loop-session-preserved : goal.loop-session-preserved
loop-session-preserved c =
    let session = c.loop-session.session in
    let lists = lists_of c.args.lists.now in
    told_on (mismatch_in c.args.self.now.calls lists) session c.max-count.result c.loop-session-test.true _
    (ap (λ (kept : List Captured). difference session (map said_of kept) (said_in lists session)) (sym c.own.ensures)
    ∙ ap (λ (said : List Said). difference session (map said_of c.own.result.now) said) (sym c.said_in.ensures) ∙ c.in_ok-compare_in.ensures)
    c.loop-session.invariant
