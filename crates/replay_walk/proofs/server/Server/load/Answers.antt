use Rattle.std.proofs.Common.{◌≡◌, [], List, subst, sym, ◌∙◌}
use Rattle.desk_values.specs.declared.value.Image.{Image}
use Rattle.machine_stores.specs.Tables.{AreTold}
use Rattle.server_words.specs.Sound.{AreStanding}
use Rattle.server_words.specs.State.{opening}
use Rattle.server_words.proofs.SoundSteps.{opening_sound, tables_stand}
use Rattle.replay_walk.proofs.server.Server.load.Goals as goal

pub ledgers_of-requires : goal.ledgers_of-requires
ledgers_of-requires c = subst AreStanding (sym (c.as_slice.ensures ∙ c.rows.ensures.value)) (tables_stand (opening c.args.start.now) 0 (opening_sound c.args.start.now c.know_rules.ensures))

pub returns-clause-told : goal.returns-clause-told
returns-clause-told c = subst (λ (rows : List Image). AreTold 0 rows [] c.in_ok-ledgers.ledgers.items) (c.as_slice.ensures ∙ c.rows.ensures.value) c.in_ok-ledgers.ensures.told
