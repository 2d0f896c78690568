use Rattle.std.proofs.Common.{◌≡◌, [], List, length, ap, subst, sym, ◌∙◌}
use Rattle.row_versions.specs.History.{History}
use Rattle.machine_stores.specs.Tables.{ArePut, AreTold, AreWithin}
use Rattle.machine_stores.proofs.Storing.{none_within, told_start, written_back}
use Rattle.machine_stores.proofs.tables.tables_of.Goals as goal

pub put_images-requires : goal.put_images-requires
put_images-requires c = subst (AreWithin 0) (sym (c.deref_mut.ensures.value ∙ c.in_ok-tables.ensures)) (none_within c.args.count)

pub returns : goal.returns
returns c =
    let tables = c.in_ok-tables.tables in
    let old : length tables.items ≡ tables.len = ap length (sym c.deref_mut.ensures.value) ∙ c.deref_mut.ensures.len in
    let put = subst (λ (l : List History). ArePut 0 c.args.images.now l c.put_images.new.tables) (c.deref_mut.ensures.value ∙ c.in_ok-tables.ensures) c.in_ok-put_images.ensures.ok in
    let new : length c.put_images.new.tables ≡ tables.len = c.in_ok-put_images.ensures.ok.count ∙ c.deref_mut.ensures.len in
    subst (AreTold 0 c.args.images.now []) (sym (written_back tables.len c.put_images.new.tables tables.items new old)) (told_start c.args.images.now c.args.count c.put_images.new.tables c.requires put)
