use Rattle.std.proofs.Common.{◌≡◌, ◌∙◌, ℕ, List, subst, arith}
use Rattle.std.specs.Prelude.{IfOk}
use Rattle.std.specs.Cow.{cow_str_bytes}
use Rattle.desk_values.proofs.Escapes.{percent_encode-escaped, small_from_places}
use Rattle.desk_values.proofs.escape.escaped.Goals as goal

pub returns : goal.returns
returns c =
    let small = small_from_places c.args.bytes.now (λ k. omega (arith, c.type_inv.bytes k)) in
    subst (λ (bytes : List ℕ). IfOk c.into_cow.result (λ text. cow_str_bytes text ≡ bytes)) (c.percent_encode.ensures.text ∙ percent_encode-escaped c.args.bytes.now small) c.into_cow.ensures.value
