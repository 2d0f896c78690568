use Rattle.std.proofs.Common.{◌≡◌, sym, arith, true, Some, None}
use Rattle.std.specs.Str.{str_to_ascii_lowercase, str_eq_ignore_ascii_case}
use Rattle.desk_schema.proofs.Places.{one_found, one_passed, all_passed, none_found, same_name, refuted}
use Rattle.desk_schema.proofs.lookup.place_ignoring_case_in.Goals as goal

pub returns-then-eq_ignore_ascii_case-clause-value :
    goal.returns-then-eq_ignore_ascii_case-clause-value
returns-then-eq_ignore_ascii_case-clause-value g c =
    let same : str_to_ascii_lowercase (g.N.Named.name_in c.index-items-i.result) ≡ str_to_ascii_lowercase c.args.name.now =
    cc (c.eq_ignore_ascii_case.ensures.test.0 c.if-eq_ignore_ascii_case.true)
    in cc (one_found g.N.Named.name_in (λ other. str_eq_ignore_ascii_case other c.args.name.now) c.args.items.now c.loop-i.i c.index-items-i.result _
    (omega arith) c.index-items-i.is ((same_name _ _).1 same) c.loop-i.invariant)

pub returns-then-eq_ignore_ascii_case-clause-none : goal.returns-then-eq_ignore_ascii_case-clause-none
returns-then-eq_ignore_ascii_case-clause-none g c = none_found _ _ (Some c.loop-i.i) (returns-then-eq_ignore_ascii_case-clause-value g c)

pub loop-i-preserved : goal.loop-i-preserved
loop-i-preserved g c =
    one_passed g.N.Named.name_in (λ other. str_eq_ignore_ascii_case other c.args.name.now) c.args.items.now c.loop-i.i c.index-items-i.result _
    (omega arith) c.index-items-i.is
    (refuted _ _ (same_name (g.N.Named.name_in c.index-items-i.result) c.args.name.now)
    (λ same. let e : c.eq_ignore_ascii_case.result ≡ true = c.eq_ignore_ascii_case.ensures.test.1 (cc same) in cc))
    c.loop-i.invariant

pub returns-clause-none : goal.returns-clause-none
returns-clause-none g c =
    none_found _ _ None (sym (all_passed g.N.Named.name_in (λ other. str_eq_ignore_ascii_case other c.args.name.now) c.args.items.now c.loop-i.i _ (omega arith) c.loop-i.invariant))
