use Rattle.std.proofs.Common.{rules, ℕ, List, [], ◌∷◌, ◌++◌, SFits, to_z-of_z, w64, sym, ap, ◌∙◌}
use Rattle.std.proofs.lemmas.Result.{on_ok_weaker}
use Rattle.std.specs.Fmt.{signed_decimal}
use Rattle.json.specs.Token.{number}
use Rattle.call_json.proofs.Written.{integer_text}
use Rattle.call_json.proofs.writing.push_value.Goals as goal

pub returns-in-Int-clause-tokens : goal.returns-in-Int-clause-tokens
returns-in-Int-clause-tokens c =
    let fits : SFits w64 c.in-Int.number = search rules in
    let text = ap signed_decimal (to_z-of_z fits) ∙ sym (integer_text c.in-Int.number) in
    rw c.in-Int.is (on_ok_weaker c.i64.result (λ e. e ∙ ap (λ (written : List ℕ). c.args.to.now.tokens ++ number written ∷ []) text) c.i64.ensures.ok)
