use Rattle.std.proofs.Common.{◌≡◌, ◌-◌, ◌≤◌, List, length, sym, subst, arith}
use Rattle.row_versions.specs.declared.versions.Version.{Version}
use Rattle.row_versions.specs.History.{seen_of, up_to}
use Rattle.row_versions.specs.Inside.Links.{Ascends}
use Rattle.row_versions.proofs.Chains.{ends_in, up_to_all}
use Rattle.row_versions.proofs.versions.is_last_over.Goals as goal

pub returns-in-Some-clause-none : goal.returns-in-Some-clause-none
returns-in-Some-clause-none c over ascends =
    let list = c.args.list.now in
    let last = c.in-Some.version.now in
    let some = c.in-Some.ensures.item in
    let split = ends_in list (length list - 1) last (omega (arith, some.3.0)) (sym c.in-Some.ensures.value) in
    let below : last.number ≤ c.args.n = grind (arith, over) in
    subst (λ (xs : List Version). up_to c.args.n (seen_of xs) ≡ seen_of xs) (sym split.1) (up_to_all 0 c.args.n split.0 last (subst (λ (xs : List Version). Ascends 0 (seen_of xs)) split.1 ascends) below)
