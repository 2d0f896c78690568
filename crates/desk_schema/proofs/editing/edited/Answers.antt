use Rattle.std.proofs.Common.{◌∙◌, ◌<◌, List, ℕ, length, ap, sym, subst}
use Rattle.desk_schema.specs.declared.edit.Edit.TheVariants.{Level, Shape, Next, Grant, Add, Withdraw}
use Rattle.desk_schema.specs.declared.schema.Service.{Service}
use Rattle.desk_schema.specs.declared.schema.Table.{Table}
use Rattle.desk_schema.specs.Schema.{columns_of}
use Rattle.desk_schema.specs.Start.{StartView}
use Rattle.desk_schema.specs.Inside.Declaring.{EditFits, IsSayable, start_of}
use Rattle.desk_schema.proofs.Targets.{parts_sayable, table_within, within}
use Rattle.desk_schema.proofs.editing.edited.Goals as goal

pub declared-requires : goal.declared-requires
declared-requires c = parts_sayable c.args.start.now (start_of c.of-parts.result) c.of-parts.ensures.value c.of-parts.ensures.valid c.args.edit (Level c.in-Level.level) c.in-Level.is c.requires

pub with_shape-requires-clause-table : goal.with_shape-requires-clause-table
with_shape-requires-clause-table c =
    let fits = subst (EditFits c.args.start.now) c.in-Shape.is c.requires in
    subst (λ (tables : List Table). c.in-Shape.table < length tables) (sym (ap (λ (s : StartView). s.schema.tables) c.of-parts.ensures.value)) (table_within c.args.start.now.schema.tables c.in-Shape.table c.in-Shape.column fits.0 fits.1)

pub with_shape-requires-clause-column : goal.with_shape-requires-clause-column
with_shape-requires-clause-column c =
    let fits = subst (EditFits c.args.start.now) c.in-Shape.is c.requires in
    subst (λ (tables : List Table). c.in-Shape.column < length (columns_of tables c.in-Shape.table)) (sym (ap (λ (s : StartView). s.schema.tables) c.of-parts.ensures.value))
    (within (columns_of c.args.start.now.schema.tables c.in-Shape.table) c.in-Shape.column fits.0 fits.1)

pub declared-requires-in-Shape : goal.declared-requires-in-Shape
declared-requires-in-Shape c =
    let parts = start_of c.of-parts.result in
    let made = parts_sayable c.args.start.now parts c.of-parts.ensures.value c.of-parts.ensures.valid c.args.edit (Shape c.in-Shape.table c.in-Shape.column c.in-Shape.kind c.in-Shape.not_null) c.in-Shape.is c.requires in
    subst (λ (tables : List Table). IsSayable (record parts { schema = record parts.schema { tables = tables } })) (sym (c.as_slice-tables.ensures ∙ c.in_ok-tables-in-Shape.ensures)) made

pub with_next-requires : goal.with_next-requires
with_next-requires c =
    let fits = subst (EditFits c.args.start.now) c.in-Next.is c.requires in
    subst (λ (nexts : List ℕ). c.in-Next.sequence < length nexts) (sym (ap (λ (s : StartView). s.next_values) c.of-parts.ensures.value)) (within c.args.start.now.next_values c.in-Next.sequence fits.0 fits.1)

pub declared-requires-in-Next : goal.declared-requires-in-Next
declared-requires-in-Next c =
    let parts = start_of c.of-parts.result in
    let made = parts_sayable c.args.start.now parts c.of-parts.ensures.value c.of-parts.ensures.valid c.args.edit (Next c.in-Next.sequence c.in-Next.next) c.in-Next.is c.requires in
    subst (λ (nexts : List ℕ). IsSayable (record parts { next_values = nexts })) (sym (c.as_slice-next_values.ensures.value ∙ c.in_ok-next_values-in-Next.ensures)) made

pub declared-requires-in-Grant : goal.declared-requires-in-Grant
declared-requires-in-Grant c =
    let parts = start_of c.of-parts.result in
    let made = parts_sayable c.args.start.now parts c.of-parts.ensures.value c.of-parts.ensures.valid c.args.edit (Grant c.in-Grant.place c.in-Grant.rights) c.in-Grant.is c.requires in
    subst (λ (services : List Service). IsSayable (record parts { schema = record parts.schema { services = services } })) (sym (c.as_slice-services.ensures ∙ c.in_ok-services-in-Grant.ensures)) made

pub declared-requires-in-Add : goal.declared-requires-in-Add
declared-requires-in-Add c =
    let parts = start_of c.of-parts.result in
    let made = parts_sayable c.args.start.now parts c.of-parts.ensures.value c.of-parts.ensures.valid c.args.edit (Add c.in-Add.name c.in-Add.rights) c.in-Add.is c.requires in
    subst (λ (services : List Service). IsSayable (record parts { schema = record parts.schema { services = services } })) (sym (c.as_slice-services-in-Add.ensures ∙ c.in_ok-services-in-Add.ensures)) made

pub declared-requires-in-Withdraw : goal.declared-requires-in-Withdraw
declared-requires-in-Withdraw c =
    let parts = start_of c.of-parts.result in
    let made = parts_sayable c.args.start.now parts c.of-parts.ensures.value c.of-parts.ensures.valid c.args.edit (Withdraw c.in-Withdraw.place) c.in-Withdraw.is c.requires in
    subst (λ (services : List Service). IsSayable (record parts { schema = record parts.schema { services = services } })) (sym (c.as_slice-services-in-Withdraw.ensures ∙ c.in_ok-services-in-Withdraw.ensures)) made
