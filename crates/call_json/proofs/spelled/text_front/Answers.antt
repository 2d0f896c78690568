use Rattle.call_json.proofs.SpelledTexts.{text_is}
use Rattle.call_json.proofs.spelled.text_front.Goals as goal

pub returns : goal.returns
returns c =
    text_is c.args.bytes.now c.in_ok-opened.opened.now c.in_ok-content.content.now c.in_ok-content.rest.now c.in_ok-text.text
    c.in_ok-opened.ensures c.in_ok-content.ensures.found.0 c.in_ok-text.ensures
