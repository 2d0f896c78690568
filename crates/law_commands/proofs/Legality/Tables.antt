-- The sets of tables of a call have just the tables that it speaks of.
use Rattle.std.proofs.Common.{◌≡◌, ℕ, ◌<◌, ◌^◌, ◌⊎◌, ◌∙◌, inl, inr, true, false, List, [], ◌∷◌, refl, sym, ap, subst, arith, ltb, ltb-true, ltb-false}
use Rattle.std.specs.Prelude.{◌↔◌, Bool, Option, None, Some, if◌then◌else◌}
use Rattle.std.specs.Int.{bit_at}
use Rattle.std.specs.List.{fold}
use Rattle.std.proofs.lemmas.Bool.{cases_Bool, cases_eq, eqb-true}
use Rattle.std.proofs.lemmas.Nat.Bits.{bit_at_or, bit_at-lt, bit_at-zero, bit_at-pow_same, bit_at-pow_other, bit_at_ones, bit_at_ones_above}
use Rattle.desk_values.specs.declared.value.Image.{Image}
use Rattle.desk_values.specs.declared.capture.Captured.{Captured}
use Rattle.desk_schema.specs.Schema.{SchemaView}
use Rattle.desk_values.specs.declared.call.Call.{Call}
use Rattle.desk_values.specs.declared.call.Call.TheVariants.{Connect, Sql, Disconnect}
use Rattle.replay_history.specs.Capture.{commits}
use Rattle.sql_reader.specs.Reading.{statement_of}
use Rattle.sql_tree.specs.Plain.{Name, Plan, select, next, insert, update, delete, commit, rollback, set_read_only, savepoint, rollback_to}
use Rattle.server_words.specs.Request.{table_named}
use Rattle.server_words.specs.Step.{committed_in}
use Rattle.object_depends.specs.Facts.{has_table}
use Rattle.captured_calls.specs.Facts.{all_tables, fact_of, only_table, refs_of_call, refs_of_statement, tables_of_images, with_table}
use Rattle.law_commands.specs.Legality.Tables.{AsksFor, IsAmong, References, SpeaksOf, Writes}

-- ---- bits

tells : (tables table : ℕ) → has_table tables table ≡ true → bit_at tables table ≡ 1
tells tables table has = eqb-true (bit_at tables table) 1 has

told : (tables table : ℕ) → bit_at tables table ≡ 1 → has_table tables table ≡ true
told tables table one = rw one refl

-- ---- images

abbrev laid : ℕ → List Image → ℕ
laid tables images = fold (λ (all : ℕ) (image : Image). with_table all image.table) tables images

laid_has : (table tables : ℕ) (images : List Image) → bit_at (laid tables images) table ≡ 1 → (bit_at tables table ≡ 1) ⊎ IsAmong table images
laid_has table tables [] one = inl one
laid_has table tables (image ∷ images) one = elim (laid_has table (with_table tables image.table) images one) [
  | inr later ↦ inr (inr later)
  | inl now ↦ elim (cases_eq image.table table) [
    | inl same ↦ inr (inl same)
    | inr other ↦
        let both = bit_at_or tables (2 ^ image.table) table in
        let none = bit_at-pow_other image.table table (λ (e : table ≡ image.table). other (sym e)) in
        inl (omega (arith, now, both, none))
  ]
]

has_laid : (table tables : ℕ) (images : List Image) → (bit_at tables table ≡ 1) ⊎ IsAmong table images → bit_at (laid tables images) table ≡ 1
has_laid table tables [] (inl one) = one
has_laid table tables [] (inr never) = absurd never
has_laid table tables (image ∷ images) (inl one) =
    let both = bit_at_or tables (2 ^ image.table) table in
    let small = bit_at-lt (with_table tables image.table) table in
    has_laid table (with_table tables image.table) images (inl (omega (arith, one, both, small)))
has_laid table tables (image ∷ images) (inr (inl same)) =
    let both = bit_at_or tables (2 ^ image.table) table in
    let own : bit_at (2 ^ image.table) table ≡ 1 = rw same (bit_at-pow_same table) in
    let small = bit_at-lt (with_table tables image.table) table in
    has_laid table (with_table tables image.table) images (inl (omega (arith, own, both, small)))
has_laid table tables (image ∷ images) (inr (inr later)) = has_laid table (with_table tables image.table) images (inr later)

pub images_told : (images : List Image) (table : ℕ) → (has_table (tables_of_images images) table ≡ true) ↔ IsAmong table images
images_told images table = (
  λ has. elim (laid_has table 0 images (tells (tables_of_images images) table has)) [
    | inl zero ↦ let none = bit_at-zero table in absurd (omega (arith, zero, none))
    | inr among ↦ among
  ],
  λ among. told (tables_of_images images) table (has_laid table 0 images (inr among)),
)

-- ---- statements

pub one_told : (named : Option ℕ) (table : ℕ) → (has_table (only_table named) table ≡ true) ↔ (named ≡ Some table)
one_told None table = (λ has. let none = bit_at-zero table in let one = tells 0 table has in absurd (omega (arith, one, none)), λ e. absurd cc)
one_told (Some own) table = (
  λ has. elim (cases_eq own table) [
    | inl same ↦ ap (λ (n : ℕ). Some n) same
    | inr other ↦ let none = bit_at-pow_other own table (λ (e : table ≡ own). other (sym e)) in let one = tells (2 ^ own) table has in absurd (omega (arith, one, none))
  ],
  λ e. let same : own ≡ table = cc in told (2 ^ own) table (rw same (bit_at-pow_same table)),
)

pub all_told : (table : ℕ) → (has_table all_tables table ≡ true) ↔ (table < 32)
all_told table = (
  λ has. elim (cases_Bool (ltb table 32)) [
    | inl less ↦ ltb-true table 32 less
    | inr more ↦ let above = ltb-false table 32 more in let none = bit_at_ones_above 32 table above in let one = tells all_tables table has in absurd (omega (arith, one, none))
  ],
  λ less. told all_tables table (bit_at_ones 32 table less),
)

speaks_told : (schema : SchemaView) (statement : Plan Name) (table : ℕ) → (has_table (refs_of_statement schema (Some statement)) table ≡ true) ↔ SpeaksOf schema statement table
speaks_told schema set_read_only table = all_told table
speaks_told schema (select from asked test order lock) table = one_told (table_named schema (select from asked test order lock)) table
speaks_told schema (next sequence) table = one_told (table_named schema (next sequence)) table
speaks_told schema (insert into columns entries) table = one_told (table_named schema (insert into columns entries)) table
speaks_told schema (update own changes test) table = one_told (table_named schema (update own changes test)) table
speaks_told schema (delete from test) table = one_told (table_named schema (delete from test)) table
speaks_told schema commit table = one_told (table_named schema commit) table
speaks_told schema rollback table = one_told (table_named schema rollback) table
speaks_told schema (savepoint name) table = one_told (table_named schema (savepoint name)) table
speaks_told schema (rollback_to name) table = one_told (table_named schema (rollback_to name)) table

nothing_told : (table : ℕ) → has_table 0 table ≡ true → ⊥
nothing_told table has = let none = bit_at-zero table in let one = tells 0 table has in absurd (omega (arith, one, none))

read_told : (schema : SchemaView) (read : Option (Plan Name)) (table : ℕ) → (has_table (refs_of_statement schema read) table ≡ true) ↔ ((statement : Plan Name) × (read ≡ Some statement) × SpeaksOf schema statement table)
read_told schema None table = (λ has. absurd (nothing_told table has), λ found. absurd (let never = found.1 in cc))
read_told schema (Some statement) table = (
  λ has. (statement, refl, (speaks_told schema statement table).0 has),
  λ found. let same : found.0 ≡ statement = (let is = found.1 in cc) in (speaks_told schema statement table).1 (subst (λ (s : Plan Name). SpeaksOf schema s table) same found.2),
)

asks_told : (schema : SchemaView) (call : Call) (table : ℕ) → (has_table (refs_of_call schema call) table ≡ true) ↔ AsksFor schema call table
asks_told schema (Sql text binds) table = read_told schema (statement_of text) table
asks_told schema (Connect service) table = (λ has. absurd (nothing_told table has), λ never. absurd never)
asks_told schema Disconnect table = (λ has. absurd (nothing_told table has), λ never. absurd never)

pub writes_told : (schema : SchemaView) (call : Captured) (table : ℕ) → (has_table (fact_of schema call).writes table ≡ true) ↔ Writes call table
writes_told schema call table = images_told (committed_in call.reply.outcome) table

-- by whether the call is a numbered commit
choice_told : (schema : SchemaView) (call : Captured) (table : ℕ) (numbered : Bool) → commits call.reply.outcome ≡ numbered
    → (has_table (if numbered then tables_of_images (committed_in call.reply.outcome) else refs_of_call schema call.call) table ≡ true) ↔ References schema call table
choice_told schema call table true is = (
  λ has. inl (is, (writes_told schema call table).0 has),
  λ speaks. elim speaks [
    | inl wrote ↦ (writes_told schema call table).1 wrote.1
    | inr asked ↦ absurd (let never = sym is ∙ asked.0 in cc)
  ],
)
choice_told schema call table false is = (
  λ has. inr (is, (asks_told schema call.call table).0 has),
  λ speaks. elim speaks [
    | inl wrote ↦ absurd (let never = sym is ∙ wrote.0 in cc)
    | inr asked ↦ (asks_told schema call.call table).1 asked.1
  ],
)

pub references_told : (schema : SchemaView) (call : Captured) (table : ℕ) → (has_table (fact_of schema call).refs table ≡ true) ↔ References schema call table
references_told schema call table = choice_told schema call table (commits call.reply.outcome) refl
