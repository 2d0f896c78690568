use Rattle.call_json.specs.Forms.{image_data}
use Rattle.call_json.proofs.Written.{array_written}
use Rattle.call_json.proofs.reply_writing.push_images.Goals as goal

pub returns-clause-tokens : goal.returns-clause-tokens
returns-clause-tokens c =
    array_written image_data c.args.images.now c.args.to.now.tokens c.in_ok-begin_array.ensures.ok c.in_ok-push_each_image.ensures.tokens c.in_ok-end_array.ensures.ok
