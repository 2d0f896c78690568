use Rattle.std.proofs.Common.{◌≡◌, ◌∙◌, List, Option, None, Some, ap, map, arith}
use Rattle.std.proofs.lemmas.Result.{err_from_is_err_and}
use Rattle.clap.specs.Words.{Row, Text}
use Rattle.desk_values.specs.declared.read_err.ReadErr.TheVariants.{Bad}
use Rattle.desk_words.specs.Inside.Finding.{values_in}
use Rattle.desk_words.proofs.Finds.{found_behind, not_found}
use Rattle.desk_words.proofs.words.read.Goals as goal

pub returns-in_err-found : goal.returns-in_err-found
returns-in_err-found c =
    let p = err_from_is_err_and c.from_residual-in_err-found.result c.from_residual-in_err-found.ensures.1 in
    let same = ap (map (λ word. word.now)) c.as_slice.ensures.value ∙ c.in_ok-texts.ensures in
    rw (p.1, p.2) (not_found c.args.words.now c.in_err-found.field-0.0 (rw same at c.in_err-found.ensures))

pub returns-in_err-name : goal.returns-in_err-name
returns-in_err-name c =
    let p = err_from_is_err_and c.from_residual-in_err-name.result c.from_residual-in_err-name.ensures.1 in
    let same = ap (map (λ word. word.now)) c.as_slice.ensures.value ∙ c.in_ok-texts.ensures in
    let none : c.behind_first.result ≡ None = grind arith in
    let bad : c.in_err-name.field-0.0 ≡ Bad = grind arith in
    rw (p.1, p.2, bad) (found_behind c.args.words.now c.in_ok-found.found None (rw same at c.in_ok-found.ensures) (rw none at c.behind_first.ensures))

pub returns : goal.returns
returns c =
    let same = ap (map (λ word. word.now)) c.as_slice.ensures.value ∙ c.in_ok-texts.ensures in
    let some : c.behind_first.result ≡ Some (c.in_ok-name.name, c.in_ok-name.values) = grind arith in
    let behind : Option (Text × List Row) = Some (c.in_ok-name.name.now, values_in c.in_ok-name.values.now) in
    rw (found_behind c.args.words.now c.in_ok-found.found behind (rw same at c.in_ok-found.ensures) (rw some at c.behind_first.ensures)) c.command_in.ensures
