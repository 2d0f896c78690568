use Rattle.std.proofs.Common.{◌≡◌, ◌∙◌, [], ℕ, List, length, ap, rules, subst, sym}
use Rattle.std.proofs.lemmas.Result.{on_ok_weaker}
use Rattle.row_versions.specs.History.{History}
use Rattle.desk_values.specs.declared.value.Image.{Image}
use Rattle.server_words.specs.Step.{committed_in}
use Rattle.machine_stores.specs.Tables.{ArePut, AreWithin}
use Rattle.machine_stores.proofs.Storing.{put_nothing, written_back}
use Rattle.replay_walk.proofs.server.Server.note.Goals as goal

pub put_images-requires : goal.put_images-requires
put_images-requires c =
    subst (λ (l : List History). AreWithin c.commits-number.result l) (sym c.deref_mut.ensures.value)
    (subst (λ (n : ℕ). AreWithin n c.args.self.now.ledgers.items) (sym c.commits-number.ensures) c.requires)

pub returns-in-Committed-clause-put : goal.returns-in-Committed-clause-put
returns-in-Committed-clause-put c =
    let ledgers = c.args.self.now.ledgers in
    let number = length c.args.self.now.engine.state.commits in
    let images = c.in-Committed.images in
    let after = c.put_images.new.ledgers in
    let old : length ledgers.items ≡ ledgers.len = ap length (sym c.deref_mut.ensures.value) ∙ c.deref_mut.ensures.len in
    rw (ap committed_in c.in-Committed.is)
    (on_ok_weaker c.put_images.result
    (λ put.
    let new : length after ≡ ledgers.len = put.count ∙ c.deref_mut.ensures.len in
    subst (ArePut number images ledgers.items) (sym (written_back ledgers.len after ledgers.items new old))
    (subst (λ (l : List History). ArePut number images l after) c.deref_mut.ensures.value
    (subst (λ (l : List Image). ArePut number l c.deref_mut.result.now after) c.as_slice.ensures
    (subst (λ (n : ℕ). ArePut n c.as_slice.result.now c.deref_mut.result.now after) c.commits-number.ensures put))))
    c.put_images.ensures)

pub returns-in_default-clause-put : goal.returns-in_default-clause-put
returns-in_default-clause-put c =
    let number = length c.args.self.now.engine.state.commits in
    let ledgers = c.args.self.now.ledgers.items in
    let none : committed_in c.args.outcome.now ≡ [] = search rules in
    subst (λ (images : List Image). ArePut number images ledgers ledgers) (sym none) (put_nothing number ledgers)
