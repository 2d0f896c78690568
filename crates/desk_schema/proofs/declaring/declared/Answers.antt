use Rattle.std.proofs.Common.{◌≡◌, List, [], ◌∷◌, ◌++◌, map, ℕ, subst, Err}
use Rattle.std.specs.List.{flat_map}
use Rattle.desk_schema.specs.declared.line.StartLine.TheVariants.{NextRow}
use Rattle.desk_schema.specs.Start.{lines_of, row_line, sequence_lines, service_line, table_lines}
use Rattle.desk_schema.specs.State.{nothing, state_after}
use Rattle.desk_schema.specs.Rules.{AreLinesFrom}
use Rattle.desk_schema.specs.Inside.Declaring.{Declares, start_of}
use Rattle.desk_schema.proofs.LinesSaid.{ended_rule, ended_start, from_level, names_stand, part_refused, passes}
use Rattle.desk_schema.proofs.declaring.declared.Goals as goal

pub returns-in_err-declare_sequences-clause-rule : goal.returns-in_err-declare_sequences-clause-rule
returns-in_err-declare_sequences-clause-rule c =
    let start = start_of c.args.parts in
    let names = start.schema.sequences in
    let a = sequence_lines names start.next_values in
    let b = map service_line start.schema.services in
    let c_ = flat_map (table_lines names) start.schema.tables in
    let d = map row_line start.rows in
    let n = NextRow start.next_row ∷ [] in
    let way = from_level start c.in_ok-draft.draft c.in_ok-draft.ensures.rule c.in_ok-draft.ensures.ok in
    part_refused start c.in_ok-draft.draft c.declare_sequences.new.draft a (b ++ (c_ ++ (d ++ n))) c.from_residual-in_err-declare_sequences.result c.in_err-declare_sequences.field-0.0 way c.in_err-declare_sequences.ensures c.from_residual-in_err-declare_sequences.ensures

pub returns-in_err-declare_services-clause-rule : goal.returns-in_err-declare_services-clause-rule
returns-in_err-declare_services-clause-rule c =
    let start = start_of c.args.parts in
    let names = start.schema.sequences in
    let a = sequence_lines names start.next_values in
    let b = map service_line start.schema.services in
    let c_ = flat_map (table_lines names) start.schema.tables in
    let d = map row_line start.rows in
    let n = NextRow start.next_row ∷ [] in
    let way = from_level start c.in_ok-draft.draft c.in_ok-draft.ensures.rule c.in_ok-draft.ensures.ok in
    let one = passes nothing c.in_ok-draft.draft (lines_of start) c.declare_sequences.new.draft a (b ++ (c_ ++ (d ++ n))) way c.in_ok-declare_sequences.ensures in
    part_refused start c.declare_sequences.new.draft c.declare_services.new.draft b (c_ ++ (d ++ n)) c.from_residual-in_err-declare_services.result c.in_err-declare_services.field-0.0 one c.in_err-declare_services.ensures c.from_residual-in_err-declare_services.ensures

pub returns-in_err-declare_tables-clause-rule : goal.returns-in_err-declare_tables-clause-rule
returns-in_err-declare_tables-clause-rule c =
    let start = start_of c.args.parts in
    let names = start.schema.sequences in
    let a = sequence_lines names start.next_values in
    let b = map service_line start.schema.services in
    let c_ = flat_map (table_lines names) start.schema.tables in
    let d = map row_line start.rows in
    let n = NextRow start.next_row ∷ [] in
    let way = from_level start c.in_ok-draft.draft c.in_ok-draft.ensures.rule c.in_ok-draft.ensures.ok in
    let one = passes nothing c.in_ok-draft.draft (lines_of start) c.declare_sequences.new.draft a (b ++ (c_ ++ (d ++ n))) way c.in_ok-declare_sequences.ensures in
    let two = passes nothing c.declare_sequences.new.draft (lines_of start) c.declare_services.new.draft b (c_ ++ (d ++ n)) one c.in_ok-declare_services.ensures in
    let same = names_stand start c.in_ok-draft.draft c.declare_sequences.new.draft c.declare_services.new.draft c.requires c.in_ok-draft.ensures.ok c.in_ok-declare_sequences.ensures.1 c.in_ok-declare_services.ensures.1 in
    let error = c.in_err-declare_tables.field-0.0 in
    let said = subst (λ (ns : List (List ℕ)). Declares (Err error) c.declare_services.new.draft (flat_map (table_lines ns) start.schema.tables) c.declare_tables.new.draft) same c.in_err-declare_tables.ensures in
    part_refused start c.declare_services.new.draft c.declare_tables.new.draft c_ (d ++ n) c.from_residual-in_err-declare_tables.result error two said c.from_residual-in_err-declare_tables.ensures

pub returns-in_err-declare_rows-clause-rule : goal.returns-in_err-declare_rows-clause-rule
returns-in_err-declare_rows-clause-rule c =
    let start = start_of c.args.parts in
    let names = start.schema.sequences in
    let a = sequence_lines names start.next_values in
    let b = map service_line start.schema.services in
    let c_ = flat_map (table_lines names) start.schema.tables in
    let d = map row_line start.rows in
    let n = NextRow start.next_row ∷ [] in
    let way = from_level start c.in_ok-draft.draft c.in_ok-draft.ensures.rule c.in_ok-draft.ensures.ok in
    let one = passes nothing c.in_ok-draft.draft (lines_of start) c.declare_sequences.new.draft a (b ++ (c_ ++ (d ++ n))) way c.in_ok-declare_sequences.ensures in
    let two = passes nothing c.declare_sequences.new.draft (lines_of start) c.declare_services.new.draft b (c_ ++ (d ++ n)) one c.in_ok-declare_services.ensures in
    let same = names_stand start c.in_ok-draft.draft c.declare_sequences.new.draft c.declare_services.new.draft c.requires c.in_ok-draft.ensures.ok c.in_ok-declare_sequences.ensures.1 c.in_ok-declare_services.ensures.1 in
    let said = subst (λ (ns : List (List ℕ)). AreLinesFrom c.declare_services.new.draft (flat_map (table_lines ns) start.schema.tables) × (c.declare_tables.new.draft ≡ state_after c.declare_services.new.draft (flat_map (table_lines ns) start.schema.tables))) same c.in_ok-declare_tables.ensures in
    let three = passes nothing c.declare_services.new.draft (lines_of start) c.declare_tables.new.draft c_ (d ++ n) two said in
    part_refused start c.declare_tables.new.draft c.declare_rows.new.draft d n c.from_residual-in_err-declare_rows.result c.in_err-declare_rows.field-0.0 three c.in_err-declare_rows.ensures c.from_residual-in_err-declare_rows.ensures

pub returns-clause-start : goal.returns-clause-start
returns-clause-start c =
    let start = start_of c.args.parts in
    let names = start.schema.sequences in
    let a = sequence_lines names start.next_values in
    let b = map service_line start.schema.services in
    let c_ = flat_map (table_lines names) start.schema.tables in
    let d = map row_line start.rows in
    let n = NextRow start.next_row ∷ [] in
    let way = from_level start c.in_ok-draft.draft c.in_ok-draft.ensures.rule c.in_ok-draft.ensures.ok in
    let one = passes nothing c.in_ok-draft.draft (lines_of start) c.declare_sequences.new.draft a (b ++ (c_ ++ (d ++ n))) way c.in_ok-declare_sequences.ensures in
    let two = passes nothing c.declare_sequences.new.draft (lines_of start) c.declare_services.new.draft b (c_ ++ (d ++ n)) one c.in_ok-declare_services.ensures in
    let same = names_stand start c.in_ok-draft.draft c.declare_sequences.new.draft c.declare_services.new.draft c.requires c.in_ok-draft.ensures.ok c.in_ok-declare_sequences.ensures.1 c.in_ok-declare_services.ensures.1 in
    let said = subst (λ (ns : List (List ℕ)). AreLinesFrom c.declare_services.new.draft (flat_map (table_lines ns) start.schema.tables) × (c.declare_tables.new.draft ≡ state_after c.declare_services.new.draft (flat_map (table_lines ns) start.schema.tables))) same c.in_ok-declare_tables.ensures in
    let three = passes nothing c.declare_services.new.draft (lines_of start) c.declare_tables.new.draft c_ (d ++ n) two said in
    let four = passes nothing c.declare_tables.new.draft (lines_of start) c.declare_rows.new.draft d n three c.in_ok-declare_rows.ensures in
    ended_start start c.declare_rows.new.draft c.requires four c.finish.result c.finish.ensures.ok c.finish.ensures.rule

pub returns-clause-rule : goal.returns-clause-rule
returns-clause-rule c =
    let start = start_of c.args.parts in
    let names = start.schema.sequences in
    let a = sequence_lines names start.next_values in
    let b = map service_line start.schema.services in
    let c_ = flat_map (table_lines names) start.schema.tables in
    let d = map row_line start.rows in
    let n = NextRow start.next_row ∷ [] in
    let way = from_level start c.in_ok-draft.draft c.in_ok-draft.ensures.rule c.in_ok-draft.ensures.ok in
    let one = passes nothing c.in_ok-draft.draft (lines_of start) c.declare_sequences.new.draft a (b ++ (c_ ++ (d ++ n))) way c.in_ok-declare_sequences.ensures in
    let two = passes nothing c.declare_sequences.new.draft (lines_of start) c.declare_services.new.draft b (c_ ++ (d ++ n)) one c.in_ok-declare_services.ensures in
    let same = names_stand start c.in_ok-draft.draft c.declare_sequences.new.draft c.declare_services.new.draft c.requires c.in_ok-draft.ensures.ok c.in_ok-declare_sequences.ensures.1 c.in_ok-declare_services.ensures.1 in
    let said = subst (λ (ns : List (List ℕ)). AreLinesFrom c.declare_services.new.draft (flat_map (table_lines ns) start.schema.tables) × (c.declare_tables.new.draft ≡ state_after c.declare_services.new.draft (flat_map (table_lines ns) start.schema.tables))) same c.in_ok-declare_tables.ensures in
    let three = passes nothing c.declare_services.new.draft (lines_of start) c.declare_tables.new.draft c_ (d ++ n) two said in
    let four = passes nothing c.declare_tables.new.draft (lines_of start) c.declare_rows.new.draft d n three c.in_ok-declare_rows.ensures in
    ended_rule start c.declare_rows.new.draft c.requires four c.finish.result c.finish.ensures.ok c.finish.ensures.rule
