use Rattle.std.proofs.Common.{map}
use Rattle.std.specs.List.{flat_map}
use Rattle.desk_schema.specs.Start.{row_line, sequence_lines, service_line, table_lines}
use Rattle.capture_format.proofs.Writing.{parts}
use Rattle.capture_format.proofs.start_writer.push_parts.Goals as goal

pub returns : goal.returns
returns c =
    let start = c.args.start.now in
    let names = start.schema.sequences in
    rw (c.in_ok-push_rows.ensures, c.in_ok-push_tables.ensures, c.in_ok-push_services.ensures, c.in_ok-push_sequences.ensures, c.in_ok-push_number-2.ensures, c.in_ok-push_number.ensures, c.as_slice.ensures, c.rows.ensures.value, c.tables.ensures, c.sequences-2.ensures, c.services.ensures, c.next_values.ensures, c.sequences.ensures, c.from-2.ensures, c.from.ensures, c.level.ensures.value, c.version.ensures.value, c.schema-schema.ensures.value)
    (parts c.args.to.now start.schema.version start.schema.level (sequence_lines names start.next_values) (map service_line start.schema.services) (flat_map (table_lines names) start.schema.tables) (map row_line start.rows))
