use Rattle.std.proofs.Common.{sym}
use Rattle.std.proofs.lemmas.List.{take_rest}
use Rattle.desk_values.proofs.Cuts.{found_cut, lacks_found, cut_at-cut, cut_at-none}
use Rattle.desk_values.proofs.fields.cut.Goals as goal

pub returns-in-Some-clause-value : goal.returns-in-Some-clause-value
returns-in-Some-clause-value c =
    let bytes = c.args.bytes.now in
    rw take_rest (sym (cut_at-cut c.args.byte bytes _ _ (found_cut c.args.byte bytes c.memchr.result c.in-Some.place c.in-Some.is c.memchr.ensures)))

pub returns-in-Some-clause-found : goal.returns-in-Some-clause-found
returns-in-Some-clause-found c =
    let bytes = c.args.bytes.now in
    let is = found_cut c.args.byte bytes c.memchr.result c.in-Some.place c.in-Some.is c.memchr.ensures in
    rw take_rest (is.parts, is.lacks)

pub returns-in-None-clause-value : goal.returns-in-None-clause-value
returns-in-None-clause-value c =
    sym (cut_at-none c.args.byte c.args.bytes.now (lacks_found c.args.byte c.args.bytes.now c.memchr.result c.in-None.is c.memchr.ensures))

pub returns-in-None-clause-none : goal.returns-in-None-clause-none
returns-in-None-clause-none c = lacks_found c.args.byte c.args.bytes.now c.memchr.result c.in-None.is c.memchr.ensures
