use Rattle.std.proofs.Common.{◌<◌, length, sym, subst, ◌∙◌, arith}
use Rattle.std.specs.Prelude.{IfSome}
use Rattle.std.proofs.lemmas.List.{length-map}
use Rattle.std.specs.Str.{str_eq_ignore_ascii_case}
use Rattle.desk_schema.specs.declared.schema.Table.{Table}
use Rattle.desk_schema.specs.Schema.{table_names}
use Rattle.prepare_plan.proofs.Places.{place_within}
use Rattle.prepare_plan.proofs.facts.table_named.Goals as goal

pub only-requires : goal.only-requires
only-requires c =
    let names = table_names c.args.schema.now.tables in
    let within : c.in-Some.table < length names = subst (λ o. IfSome o (λ place. place < length names)) (sym c.table_named.ensures.value ∙ c.in-Some.is) (place_within (λ other. str_eq_ignore_ascii_case other c.args.name.now) names) in
    omega (arith, c.requires, length-map c.args.schema.now.tables (λ (table : Table). table.name), within)
