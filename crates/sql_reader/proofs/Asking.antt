-- No list of items is empty.
use Rattle.std.proofs.Common.{◌≡◌, ℕ, ◌<◌, List, length, arith}
use Rattle.std.specs.Prelude.{Some}
use Rattle.sql_tree.specs.Plain.{Asked, Name, Plan}
use Rattle.sql_reader.specs.declared.token.Token.{Token}
use Rattle.sql_reader.specs.Grammar as g
use Rattle.sql_reader.specs.Grammar.{IsBody, IsSelection, IsStatementOf, Joined}
use Rattle.sql_reader.specs.Reading.{statement_of}
use Rattle.sql_reader.specs.Asking.{Asks, AsksIfSelect}
use Rattle.sql_reader.proofs.Complete.{read_sound}

some_joined : {A : Type 0} {Is : List Token → A → Type 0} {ts : List Token} {xs : List A} → Joined Is ts xs → 0 < length xs
some_joined (g.last member) = omega arith
some_joined (g.more member others) = omega arith

selection_asks : {ts : List Token} {asked : Asked Name} → IsSelection ts asked → Asks asked
selection_asks g.star = tt
selection_asks (g.list items) = some_joined items.0

body_asks : {ts : List Token} {plan : Plan Name} → IsBody ts plan → AsksIfSelect plan
body_asks (g.select_ items condition order for_update) = selection_asks items
body_asks (g.aggregate_ items condition) = some_joined items.0
body_asks (g.draw_) = tt
body_asks (g.insert_ named inputs) = tt
body_asks (g.update_ settings condition) = tt
body_asks (g.delete_ condition) = tt
body_asks g.commit_ = tt
body_asks g.rollback_ = tt
body_asks g.set_read_only_ = tt
body_asks g.savepoint_ = tt
body_asks g.rollback_to_ = tt
body_asks g.rollback_to_savepoint_ = tt

statement_asks : {ts : List Token} {plan : Plan Name} → IsStatementOf ts plan → AsksIfSelect plan
statement_asks (g.bare is) = body_asks is
statement_asks (g.ended is) = body_asks is

pub read_asks : (text : List ℕ) (plan : Plan Name) → statement_of text ≡ Some plan → AsksIfSelect plan
read_asks text plan is = statement_asks (read_sound text plan is).2
