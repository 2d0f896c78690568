use Rattle.std.proofs.Common.{◌≡◌, ◌∙◌, ◌<◌, ◌+◌, List, length, refl, sym, ap, subst, arith}
use Rattle.std.proofs.lemmas.List.{length-map}
use Rattle.std.proofs.lemmas.Option.{slice_get_within}
use Rattle.twin_tables.specs.declared.differences.Differences.{Differences}
use Rattle.twin_tables.specs.declared.judging.Suspect.TheVariants.{Replayed}
use Rattle.twin_tables.specs.Differences.{both_of, others_of, own_of}
use Rattle.twin_tables.specs.Inside.Judging.{IsJudged}
use Rattle.twin_tables.specs.Ledger.{change_of}
use Rattle.twin_tables.proofs.Keeping.{apart_from, covered_from, covered_more, kept_moved, passed_agreed, passed_covered}
use Rattle.twin_tables.proofs.differences.Differences.pass_replayed.Goals as goal

pub place_behind-next-requires : goal.place_behind-next-requires
place_behind-next-requires c =
    let list = c.args.with.replayed.now.list in
    let within = slice_get_within list c.args.self.now.replayed_place c.requires.next.0 c.requires.next.1 in
    let long = ap length c.changes.ensures.changes ∙ length-map list change_of in
    omega (arith, within, long)

pub returns-in-Agrees-clause-kept : goal.returns-in-Agrees-clause-kept
returns-in-Agrees-clause-kept c =
    let with = c.args.with in
    let both = both_of with in
    let old = c.args.self.now in
    let new : Differences = record old { replayed_place = c.place_behind-next.result } in
    let mid : Differences = record old { replayed_place = old.replayed_place + 1 } in
    let judged = subst (IsJudged both with.table (own_of with) (others_of with) (Replayed c.args.row)) c.in-Agrees.is c.in_ok-judge.ensures in
    kept_moved both.pairs both.captured both.replayed both mid new refl c.place_behind-next.ensures refl (passed_agreed both c.know_map.ensures with.table (own_of with) (others_of with) old c.args.row c.requires.kept c.requires.next judged)

pub returns-in_ok-push-in-Covered-clause-kept : goal.returns-in_ok-push-in-Covered-clause-kept
returns-in_ok-push-in-Covered-clause-kept c =
    let with = c.args.with in
    let old = c.args.self.now in
    let new : Differences = record old { kept = c.push.new.self; replayed_place = c.place_behind-next.result } in
    passed_covered (both_of with) c.know_map.ensures with.table (own_of with) (others_of with) old new c.args.row c.requires.kept c.requires.next c.in_ok-push-in-Covered.ensures.items c.place_behind-next.ensures refl

pub returns-in_ok-push-in-Covered-clause-covered : goal.returns-in_ok-push-in-Covered-clause-covered
returns-in_ok-push-in-Covered-clause-covered c = λ covered.
    let with = c.args.with in
    let both = both_of with in
    let judged = subst (IsJudged both with.table (own_of with) (others_of with) (Replayed c.args.row)) c.in-Covered.is c.in_ok-judge.ensures in
    covered_more both c.know_map.ensures with.table (own_of with) (others_of with) c.args.self.now.kept.items c.push.new.self.items (Replayed c.args.row) c.in_ok-push-in-Covered.ensures.items
    (covered_from both c.know_map.ensures with.table (own_of with) (others_of with) (Replayed c.args.row) judged) covered

pub returns-in-Apart-clause-apart : goal.returns-in-Apart-clause-apart
returns-in-Apart-clause-apart c = λ is.
    let with = c.args.with in
    let both = both_of with in
    apart_from both c.know_map.ensures with.table (own_of with) (others_of with) (Replayed c.args.row)
    (subst (IsJudged both with.table (own_of with) (others_of with) (Replayed c.args.row)) c.in-Apart.is c.in_ok-judge.ensures)
