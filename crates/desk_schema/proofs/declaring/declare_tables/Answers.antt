use Rattle.std.proofs.Common.{◌≡◌, ◌∙◌, List, ℕ, ap, arith, subst, Err}
use Rattle.std.specs.List.{flat_map}
use Rattle.desk_schema.specs.Start.{table_lines}
use Rattle.desk_schema.specs.State.{State, state_after}
use Rattle.desk_schema.specs.Rules.{AreLinesFrom}
use Rattle.desk_schema.specs.Inside.Declaring.{Declares}
use Rattle.desk_schema.proofs.LinesSaid.{IsOnTheWay, front_many, lines_refused, passes, refused_on, table_keeps_names}
use Rattle.desk_schema.proofs.declaring.declare_tables.Goals as goal

pub returns-in_err-declare_table : goal.returns-in_err-declare_table
returns-in_err-declare_table c =
    let old = c.args.draft.now in
    let now = c.loop-table.draft in
    let names = old.start.schema.sequences in
    let all = flat_map (table_lines names) c.args.tables.now in
    let error = c.in_err-declare_table.field-0.0 in
    let way = subst (IsOnTheWay old all now) (front_many (table_lines names) c.args.tables.now c.loop-table.table-index c.table-item.result (omega arith) c.table-item.is) c.loop-table.invariant.way in
    let said = subst (λ (ns : List (List ℕ)). Declares (Err error) now (table_lines ns c.table-item.result) c.declare_table.new.draft) c.loop-table.invariant.names c.in_err-declare_table.ensures in
    refused_on c.from_residual.result error old c.declare_table.new.draft all c.from_residual.ensures (lines_refused old now c.declare_table.new.draft all (table_lines names c.table-item.result) _ error way said)

pub loop-table-preserved : goal.loop-table-preserved
loop-table-preserved c =
    let old = c.args.draft.now in
    let now = c.loop-table.draft in
    let names = old.start.schema.sequences in
    let table = c.table-item.result in
    let all = flat_map (table_lines names) c.args.tables.now in
    let way = subst (IsOnTheWay old all now) (front_many (table_lines names) c.args.tables.now c.loop-table.table-index table (omega arith) c.table-item.is) c.loop-table.invariant.way in
    let said = subst (λ (ns : List (List ℕ)). AreLinesFrom now (table_lines ns table) × (c.declare_table.new.draft ≡ state_after now (table_lines ns table))) c.loop-table.invariant.names c.in_ok-declare_table.ensures in
    record {
      way = passes old now all c.declare_table.new.draft (table_lines names table) _ way said;
      names = ap (λ (s : State). s.start.schema.sequences) said.1 ∙ table_keeps_names now names table ∙ c.loop-table.invariant.names;
    }
