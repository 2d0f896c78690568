use Rattle.call_json.proofs.SpelledTexts.{images_are}
use Rattle.call_json.proofs.spelled_reply.committed_front.Goals as goal

pub returns : goal.returns
returns c =
    images_are c.args.bytes.now c.in_ok-opened.opened.now c.in_ok-images.after_images.now c.in_ok-rest.rest.now c.in_ok-images.images c.in_ok-opened.ensures c.in_ok-images.ensures c.in_ok-rest.ensures
