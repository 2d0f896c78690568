use Rattle.std.proofs.Common.{◌≡◌, List, sym, subst}
use Rattle.desk_values.specs.declared.value.Value.{Value}
use Rattle.desk_values.specs.declared.call.Call.TheVariants.{Sql}
use Rattle.call_json.specs.Forms.{call_text}
use Rattle.call_json.proofs.SpelledTexts.{statement_is}
use Rattle.call_json.proofs.spelled_call.statement_as_written.Goals as goal

pub returns : goal.returns
returns c =
    let bytes = c.args.bytes.now in
    let text = c.in_ok-text.text in (
      c.in-Ok.ensures.cases.1,
      subst (λ (vs : List Value). bytes ≡ call_text (Sql text vs)) (sym c.from_values.ensures)
          (statement_is bytes c.in_ok-opened.opened.now c.in_ok-binds.after_binds.now c.in_ok-before_text.before_text.now c.in_ok-text.after_text.now text c.in_ok-binds.binds
          c.in_ok-opened.ensures c.in_ok-binds.ensures c.in_ok-before_text.ensures c.in_ok-text.ensures c.in_ok-ends.ensures),
    )
