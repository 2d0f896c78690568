use Rattle.std.proofs.Common.{List, ◌++◌, ap, ◌∙◌}
use Rattle.json.specs.Token.{Token}
use Rattle.call_json.specs.Forms.{call_data}
use Rattle.call_json.specs.Inside.Tokens.{data_tokens}
use Rattle.call_json.proofs.Written.{call_written, text_written}
use Rattle.call_json.proofs.calls.call_to_json.Goals as goal

pub returns-clause-text : goal.returns-clause-text
returns-clause-text c =
    let d = call_data c.args.call.now in
    text_written _ _ d (c.in_ok-push_call.ensures.before ∙ c.new-text.ensures.before ∙ c.in_ok-room.ensures.items)
    (c.in_ok-push_call.ensures.tokens ∙ ap (λ (ts : List Token). ts ++ data_tokens d) c.new-text.ensures.tokens)
    _ _ c.from_vec.ensures c.into_inner.ensures.items

pub returns-clause-reads_back : goal.returns-clause-reads_back
returns-clause-reads_back c =
    let d = call_data c.args.call.now in
    call_written _ _ c.args.call.now (c.in_ok-push_call.ensures.before ∙ c.new-text.ensures.before ∙ c.in_ok-room.ensures.items)
    (c.in_ok-push_call.ensures.tokens ∙ ap (λ (ts : List Token). ts ++ data_tokens d) c.new-text.ensures.tokens)
    _ _ c.from_vec.ensures c.into_inner.ensures.items c.into_inner.ensures.reads_back c.into_inner.ensures.utf8 c.has_limits.ensures.limits
