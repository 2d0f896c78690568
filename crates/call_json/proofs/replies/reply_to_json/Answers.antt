use Rattle.std.proofs.Common.{List, ◌++◌, ap, ◌∙◌}
use Rattle.json.specs.Token.{Token}
use Rattle.call_json.specs.Forms.{reply_data}
use Rattle.call_json.specs.Inside.Tokens.{data_tokens}
use Rattle.call_json.proofs.Written.{reply_written, text_written}
use Rattle.call_json.proofs.replies.reply_to_json.Goals as goal

pub returns-clause-text : goal.returns-clause-text
returns-clause-text c =
    let d = reply_data c.args.reply.now in
    text_written _ _ d (c.in_ok-push_reply.ensures.before ∙ c.new-text.ensures.before ∙ c.in_ok-room.ensures.items)
    (c.in_ok-push_reply.ensures.tokens ∙ ap (λ (ts : List Token). ts ++ data_tokens d) c.new-text.ensures.tokens)
    _ _ c.from_vec.ensures c.into_inner.ensures.items

pub returns-clause-reads_back : goal.returns-clause-reads_back
returns-clause-reads_back c =
    let d = reply_data c.args.reply.now in
    λ good. reply_written _ _ c.args.reply.now (c.in_ok-push_reply.ensures.before ∙ c.new-text.ensures.before ∙ c.in_ok-room.ensures.items)
    (c.in_ok-push_reply.ensures.tokens ∙ ap (λ (ts : List Token). ts ++ data_tokens d) c.new-text.ensures.tokens)
    _ _ c.from_vec.ensures c.into_inner.ensures.items c.into_inner.ensures.reads_back c.into_inner.ensures.utf8 good
