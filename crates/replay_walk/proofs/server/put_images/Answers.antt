use Rattle.std.proofs.Common.{◌≡◌, [], ◌∷◌, ◌++◌, ◌+◌, List, take, get_or, sym, ap, subst, ◌∙◌, arith}
use Rattle.std.proofs.lemmas.List.{take_all, take_more}
use Rattle.desk_values.specs.declared.value.Image.{Image}
use Rattle.machine_stores.specs.Tables.{ArePut}
use Rattle.machine_stores.proofs.Storing.{put_more, put_nothing, put_within}
use Rattle.replay_walk.proofs.server.put_images.Goals as goal

pub loop-image-init : goal.loop-image-init
loop-image-init c = put_nothing c.args.number c.args.ledgers.now

pub put_image-requires : goal.put_image-requires
put_image-requires c = put_within c.args.number (take c.loop-image.image-index c.args.images.now) c.args.ledgers.now c.loop-image.ledgers c.loop-image.invariant c.requires

pub loop-image-preserved : goal.loop-image-preserved
loop-image-preserved c =
    let done = take c.loop-image.image-index c.args.images.now in
    let item : c.in_ok-copy.field-0 ≡ get_or c.args.images.now c.loop-image.image-index c.image-item.result = c.in_ok-copy.ensures ∙ c.image-item.is in
    let more : done ++ c.in_ok-copy.field-0 ∷ [] ≡ take (c.loop-image.image-index + 1) c.args.images.now = ap (λ (x : Image). done ++ x ∷ []) item ∙ sym (take_more c.args.images.now c.loop-image.image-index c.image-item.result (omega arith)) in
    subst (λ (l : List Image). ArePut c.args.number l c.args.ledgers.now c.put_image.new.ledgers) more (put_more c.args.number done (c.in_ok-copy.field-0 ∷ []) c.args.ledgers.now c.loop-image.ledgers c.put_image.new.ledgers c.loop-image.invariant c.in_ok-put_image.ensures)

pub returns : goal.returns
returns c = subst (λ (l : List Image). ArePut c.args.number l c.args.ledgers.now c.loop-image.ledgers) (take_all c.loop-image.image-index c.args.images.now (omega arith)) c.loop-image.invariant
