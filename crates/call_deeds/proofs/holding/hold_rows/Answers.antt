use Rattle.std.proofs.Common.{◌+◌, ℕ, List, [], drop, get_or, append-nil, refl, sym, ap, ◌∙◌, arith}
use Rattle.std.proofs.lemmas.List.{drop_all, get_or_default}
use Rattle.server_words.specs.Writes.{with_rows}
use Rattle.call_deeds.proofs.Held.{row_more}
use Rattle.server_words.proofs.Looks.{front_of}
use Rattle.call_deeds.proofs.holding.hold_rows.Goals as goal

pub loop-row-init : goal.loop-row-init
loop-row-init c = record { rows = refl; front = ([], sym (append-nil c.args.held.now)); told = λ rest prints are. are }

pub hold_one_row-requires : goal.hold_one_row-requires
hold_one_row-requires c = (c.requires.0, c.requires.1, c.loop-row.invariant.told c.requires.0 c.requires.1 c.requires.2)

pub loop-row-preserved : goal.loop-row-preserved
loop-row-preserved c =
    let row = get_or c.args.rows.now c.loop-row.row-index 0 in
    let more = row_more c.args.held.now c.loop-row.held row c.loop-row.invariant.front in
    let rest = drop (c.loop-row.row-index + 1) c.args.rows.now in
    record {
      rows = ap (λ (l : List ℕ). with_rows l rest) c.in_ok-hold_one_row.ensures.ok
          ∙ sym (ap (with_rows c.loop-row.held) (front_of c.args.rows.now c.loop-row.row-index row (omega arith) (get_or_default c.args.rows.now c.loop-row.row-index 0 row (omega arith)))) ∙ c.loop-row.invariant.rows;
      front = (more.0, c.in_ok-hold_one_row.ensures.ok ∙ more.1);
      told = λ others prints are. c.hold_one_row.ensures.told others prints (c.loop-row.invariant.told others prints are);
    }

pub returns-in_err-hold_one_row-clause-front : goal.returns-in_err-hold_one_row-clause-front
returns-in_err-hold_one_row-clause-front c = (c.loop-row.invariant.front.0, c.in_err-hold_one_row.ensures.err ∙ c.loop-row.invariant.front.1)

pub returns-in_err-hold_one_row-clause-told : goal.returns-in_err-hold_one_row-clause-told
returns-in_err-hold_one_row-clause-told c = λ others prints are. c.hold_one_row.ensures.told others prints (c.loop-row.invariant.told others prints are)

pub returns-clause-ok : goal.returns-clause-ok
returns-clause-ok c = sym (ap (with_rows c.loop-row.held) (drop_all c.loop-row.row-index c.args.rows.now (omega arith))) ∙ c.loop-row.invariant.rows

pub returns-clause-front : goal.returns-clause-front
returns-clause-front c = c.loop-row.invariant.front

pub returns-clause-told : goal.returns-clause-told
returns-clause-told c = c.loop-row.invariant.told
