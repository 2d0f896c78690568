-- An engine may go from one thread to another. The trees of statements hold themselves, so that is shown of them layer by layer.
use denote.Param.Send.{IsSend, sendable}
use denote.Param.SendFields.{variants_send}
use denote.RattleType.{RattleType}
use denote.Hole.FixSend.{fix_send, Sends}
use denote.Hole.Fix.{whole}
use denote.Plain.{UInt}
use mir.Syntax.{w32}
use Rattle.std.proofs.Crossing.{crosses}
use Rattle.sql_tree.specs.contracts.tree.Expr as Expr
use Rattle.sql_tree.specs.contracts.tree.Expr.TheKnot.{layers, type-Expr}
use Rattle.sql_tree.specs.contracts.tree.Op as Op
use Rattle.sql_tree.specs.contracts.tree.Agg as Agg
use Rattle.sql_tree.specs.contracts.tree.Items as Items
use Rattle.sql_tree.specs.contracts.tree.Input as Input
use Rattle.sql_tree.specs.contracts.tree.Key as Key
use Rattle.sql_tree.specs.contracts.tree.Setting as Setting
use Rattle.sql_tree.specs.contracts.tree.Statement as Statement
use Rattle.desk_values.specs.contracts.fault.Fault as Fault
use Rattle.desk_values.specs.contracts.list.List as List
use Rattle.desk_values.specs.contracts.value.Image as Image
use Rattle.desk_values.specs.contracts.value.Value as Value
use Rattle.desk_schema.specs.contracts.start.Start as Start
use Rattle.std.proofs.MapsCrossing.{crosses as maps}
use Rattle.statement_cache.specs.contracts.kept.Kept as Kept
use Rattle.statement_cache.specs.contracts.statements.Known as Known
use Rattle.statement_cache.specs.contracts.statements.Statements as Statements
use Rattle.machine_stores.specs.contracts.index.KeyIndex as KeyIndex
use Rattle.machine_stores.specs.contracts.stores.Stores as Stores
use Rattle.machine_model.specs.contracts.machine.PlainMachine as PlainMachine
use Rattle.server_words.specs.contracts.rows.Rows as Rows
use Rattle.row_versions.specs.contracts.versions.Versions as Versions
use Rattle.hold_index.specs.contracts.index.HoldIndex as HoldIndex
use Rattle.hold_index.specs.contracts.numbers.Numbers as Numbers
use Rattle.server_words.specs.contracts.session.Session as Session
use Rattle.txn_engine.specs.contracts.Engine as Engine
use Rattle.sql_tree.specs.declared.tree.Expr.TheBlock.{the_members, member-Expr}

op_send : IsSend Op.the_field.row
op_send = search (crosses, sendable) depth 80

module _ (h : the_members (UInt w32).Denot → RattleType) where
  layer_send : ((j : the_members (UInt w32).Denot) → IsSend (h j)) → IsSend (whole _ ((layers (UInt w32) member-Expr).layer h))
  layer_send all =
      let inner = all member-Expr in
      let r = h member-Expr in
      variants_send (type-Expr (UInt w32) r r r r r r) (
        tt,
        (
          (search (crosses, sendable) depth 30, tt),
          (
            (search (crosses, sendable) depth 30, tt),
            (
              (search (crosses, sendable) depth 30, tt),
              (
                (search (crosses, sendable) depth 30, tt),
                (
                  tt,
                  ((search (inner, crosses, sendable) depth 30, tt), ((search (inner, crosses, sendable) depth 30, tt), ((search (op_send, sendable) depth 20, (search (inner, crosses, sendable) depth 30, (search (inner, crosses, sendable) depth 30, tt))), ((search (inner, crosses, sendable) depth 30, tt), ((search (inner, crosses, sendable) depth 30, tt), tt))))),
                ),
              ),
            ),
          ),
        ),
      )

step : (i : the_members (UInt w32).Denot) → Sends (Expr.the_ring (UInt w32)) i
step member-Expr = record { send = λ h all. let s = layer_send h all in record { owned = s.owned; leaving = s.leaving } }

hole_send : IsSend (Expr.the_hole (UInt w32))
hole_send = fix_send (Expr.the_ring (UInt w32)) step member-Expr

pub expr_send : IsSend (Expr.the_field (UInt w32)).row
expr_send = search (hole_send, op_send, crosses, sendable) depth 60

agg_send : IsSend (Agg.the_field (UInt w32)).row
agg_send = search (expr_send, crosses, sendable) depth 40

items_send : IsSend (Items.the_field (UInt w32)).row
items_send = search (expr_send, agg_send, crosses, sendable) depth 40

input_send : IsSend (Input.the_field (UInt w32)).row
input_send = search (expr_send, crosses, sendable) depth 40

key_send : IsSend (Key.the_field (UInt w32)).row
key_send = search (crosses, sendable) depth 40

setting_send : IsSend (Setting.the_field (UInt w32)).row
setting_send = search (expr_send, crosses, sendable) depth 40

statement_send : IsSend (Statement.the_field (UInt w32)).row
statement_send = search (items_send, input_send, key_send, setting_send, expr_send, crosses, sendable) depth 60

fault_send : IsSend Fault.the_field.row
fault_send = search sendable depth 80

kept_send : IsSend Kept.the_field.row
kept_send = search (statement_send, fault_send, crosses, sendable) depth 30

known_send : IsSend Known.the_field.row
known_send = search (kept_send, maps, crosses, sendable) depth 40

pub statements_send : IsSend Statements.the_field.row
statements_send = search (known_send, maps, crosses, sendable) depth 40

-- ---- what a machine keeps beside them

value_send : IsSend Value.the_field.row
value_send = search (crosses, sendable) depth 20

values_send : IsSend (List.the_field Value.the_row).row
values_send = search (value_send, crosses, sendable) depth 20

image_send : IsSend Image.the_field.row
image_send = search (value_send, crosses, sendable) depth 20

pub start_send : IsSend Start.the_field.row
start_send = search (image_send, values_send, crosses, sendable) depth 60 fits 100000

rows_send : IsSend Rows.the_field.row
rows_send = search (image_send, crosses, sendable) depth 30

versions_send : IsSend Versions.the_field.row
versions_send = search (image_send, maps, crosses, sendable) depth 40 fits 100000

index_send : IsSend KeyIndex.the_field.row
index_send = search (maps, crosses, sendable) depth 30

numbers_send : IsSend Numbers.the_field.row
numbers_send = search (maps, crosses, sendable) depth 30

holds_send : IsSend HoldIndex.the_field.row
holds_send = search (numbers_send, crosses, sendable) depth 30

session_send : IsSend Session.the_field.row
session_send = search (rows_send, value_send, crosses, sendable) depth 60 fits 100000

stores_send : IsSend Stores.the_field.row
stores_send = search (rows_send, versions_send, index_send, session_send, holds_send, crosses, sendable) depth 40

machine_send : IsSend PlainMachine.the_field.row
machine_send = search (start_send, stores_send, statements_send, values_send, value_send, crosses, sendable) depth 40

pub engine_send : IsSend Engine.the_field.row
engine_send = search (machine_send, crosses, sendable) depth 20
