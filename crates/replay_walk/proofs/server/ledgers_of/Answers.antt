use Rattle.std.proofs.Common.{◌≡◌, [], List, length, ap, subst, sym, ◌∙◌}
use Rattle.std.proofs.lemmas.List.{length-replicate}
use Rattle.row_versions.specs.History.{History}
use Rattle.machine_stores.specs.Tables.{ArePut, AreTold, AreWithin}
use Rattle.machine_stores.proofs.Storing.{none_within, told_start, written_back}
use Rattle.twin_tables.specs.Ledger.{nothing_written}
use Rattle.replay_walk.proofs.server.ledgers_of.Goals as goal

pub put_images-requires : goal.put_images-requires
put_images-requires c = subst (AreWithin 0) (sym (c.deref_mut.ensures.value ∙ c.in_ok-ledgers.ensures)) (none_within c.args.count)

pub returns-clause-told : goal.returns-clause-told
returns-clause-told c =
    let ledgers = c.in_ok-ledgers.ledgers in
    let old : length ledgers.items ≡ ledgers.len = ap length (sym c.deref_mut.ensures.value) ∙ c.deref_mut.ensures.len in
    let put = subst (λ (l : List History). ArePut 0 c.args.images.now l c.put_images.new.ledgers) (c.deref_mut.ensures.value ∙ c.in_ok-ledgers.ensures) c.in_ok-put_images.ensures in
    let new : length c.put_images.new.ledgers ≡ ledgers.len = c.in_ok-put_images.ensures.count ∙ c.deref_mut.ensures.len in
    subst (AreTold 0 c.args.images.now []) (sym (written_back ledgers.len c.put_images.new.ledgers ledgers.items new old)) (told_start c.args.images.now c.args.count c.put_images.new.ledgers c.requires put)

pub returns-clause-count : goal.returns-clause-count
returns-clause-count c =
    let ledgers = c.in_ok-ledgers.ledgers in
    let old : length ledgers.items ≡ ledgers.len = ap length (sym c.deref_mut.ensures.value) ∙ c.deref_mut.ensures.len in
    let new : length c.put_images.new.ledgers ≡ ledgers.len = c.in_ok-put_images.ensures.count ∙ c.deref_mut.ensures.len in
    ap length (written_back ledgers.len c.put_images.new.ledgers ledgers.items new old) ∙ new ∙ sym old ∙ ap length c.in_ok-ledgers.ensures ∙ length-replicate c.args.count nothing_written
