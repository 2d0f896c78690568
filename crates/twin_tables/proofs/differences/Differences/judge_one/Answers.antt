use Rattle.std.proofs.Common.{◌≡◌, ◌∙◌, ◌<◌, length, refl, rules, sym, subst, arith, vec_len}
use Rattle.std.proofs.lemmas.Option.{get_or_from_slice_get, slice_get_within}
use Rattle.twin_tables.specs.declared.differences.Differences.{Differences}
use Rattle.twin_tables.specs.declared.judging.Suspect.{Suspect}
use Rattle.twin_tables.specs.declared.judging.Suspect.TheVariants.{Captured, Replayed}
use Rattle.twin_tables.specs.declared.judging.Verdict.TheVariants.{Agrees, Covered, Apart}
use Rattle.twin_tables.specs.Differences.{AreKept, both_of, others_of, own_of}
use Rattle.twin_tables.specs.Inside.Judging.{IsCovered, IsJudged}
use Rattle.twin_tables.proofs.Keeping.{apart_from, covered_from, dropped, judged_away, judged_covered}
use Rattle.twin_tables.proofs.differences.Differences.judge_one.Goals as goal

pub remove-requires : goal.remove-requires
remove-requires c =
    let within = slice_get_within c.args.self.now.kept.items c.args.next.now c.args.suspect c.requires.at in
    let long : vec_len c.args.self.now.kept ≡ length c.args.self.now.kept.items = search rules in
    omega (arith, within, long)

pub returns-in-Agrees-clause-kept : goal.returns-in-Agrees-clause-kept
returns-in-Agrees-clause-kept c =
    let with = c.args.with in
    let old = c.args.self.now in
    let new : Differences = record old { kept = c.remove.new.self } in
    let judged = subst (IsJudged (both_of with) with.table (own_of with) (others_of with) c.args.suspect) c.in-Agrees.is c.in_ok-judge.ensures in
    dropped (both_of with) c.know_map.ensures with.table (own_of with) (others_of with) old new c.args.next.now c.args.suspect c.requires.kept c.requires.at c.remove.ensures.items refl refl judged

pub returns-in-Agrees-clause-judged : goal.returns-in-Agrees-clause-judged
returns-in-Agrees-clause-judged c = λ is.
    let with = c.args.with in
    let old = c.args.self.now in
    let new : Differences = record old { kept = c.remove.new.self } in
    let within = slice_get_within old.kept.items c.args.next.now c.args.suspect c.requires.at in
    judged_away (both_of with) c.know_map.ensures with.table (own_of with) (others_of with) old new c.args.next.now within c.remove.ensures.items (let len = c.remove.ensures.len in omega (arith, len))

pub behind-requires : goal.behind-requires
behind-requires c = slice_get_within c.args.self.now.kept.items c.args.next.now c.args.suspect c.requires.at

pub returns-in-Covered-clause-judged : goal.returns-in-Covered-clause-judged
returns-in-Covered-clause-judged c = λ is.
    let with = c.args.with in
    let old = c.args.self.now in
    let at = c.args.next.now in
    let within = slice_get_within old.kept.items at c.args.suspect c.requires.at in
    let read = sym (get_or_from_slice_get old.kept.items at c.args.suspect c.args.suspect c.requires.at) in
    let judged = subst (IsJudged (both_of with) with.table (own_of with) (others_of with) c.args.suspect) c.in-Covered.is c.in_ok-judge.ensures in
    let covered = covered_from (both_of with) c.know_map.ensures with.table (own_of with) (others_of with) c.args.suspect judged in
    let on = judged_covered (both_of with) c.know_map.ensures with.table (own_of with) (others_of with) old old at c.args.suspect within read covered refl in
    rw c.behind.ensures on

pub returns-in-Apart-clause-apart : goal.returns-in-Apart-clause-apart
returns-in-Apart-clause-apart c = λ is.
    let with = c.args.with in
    apart_from (both_of with) c.know_map.ensures with.table (own_of with) (others_of with) c.args.suspect
    (subst (IsJudged (both_of with) with.table (own_of with) (others_of with) c.args.suspect) c.in-Apart.is c.in_ok-judge.ensures)
