use Rattle.std.proofs.Common.{List, ℕ, ◌++◌, length, take, drop, take-append-drop, sym, ap, ◌∙◌}
use Rattle.std.proofs.lemmas.Slice.Eq.{bytes_eq-Decides}
use Rattle.call_json.proofs.spelled.behind.Goals as goal

pub returns : goal.returns
returns c =
    let bytes = c.args.bytes.now in
    let front = c.args.front.now in
    let found = c.in_ok-rest.ensures.cases in
    sym (take-append-drop (length front) bytes) ∙ ap (λ (bs : List ℕ). bs ++ drop (length front) bytes) ((bytes_eq-Decides (take (length front) bytes) front).0 found.0)
    ∙ ap (λ (bs : List ℕ). front ++ bs) (sym found.1)
