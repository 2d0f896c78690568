use Rattle.std.proofs.Common.{◌≡◌, ◌∷◌, ◌++◌, ◌+◌, ℕ, List, [], None, take, get_or, refl, sym, subst, arith}
use Rattle.std.specs.Prelude.{nat_eq, if◌then◌else◌}
use Rattle.std.specs.List.{list_any}
use Rattle.std.proofs.lemmas.List.{take_all, take_more}
use Rattle.hold_index.specs.Inside.Numbers.{session_of}
use Rattle.hold_index.proofs.Telling.{one_taken}
use Rattle.hold_index.proofs.index.take_all_out.Goals as goal

pub loop-number-init : goal.loop-number-init
loop-number-init c = λ n. refl

pub loop-number-preserved : goal.loop-number-preserved
loop-number-preserved c = λ n.
    let done = take c.loop-number.number-index c.args.taken.now in
    let number = get_or c.args.taken.now c.loop-number.number-index 0 in
    let more : done ++ number ∷ [] ≡ take (c.loop-number.number-index + 1) c.args.taken.now = sym (take_more c.args.taken.now c.loop-number.number-index 0 (omega arith)) in
    subst (λ (l : List ℕ). session_of c.take_out.new.self n ≡ (if list_any (nat_eq n) l then None else session_of c.args.numbers.now n)) more
    (one_taken n number done (session_of c.args.numbers.now) (session_of c.loop-number.numbers) (session_of c.take_out.new.self) c.loop-number.invariant c.take_out.ensures)

pub returns : goal.returns
returns c = λ n. subst (λ (l : List ℕ). session_of c.loop-number.numbers n ≡ (if list_any (nat_eq n) l then None else session_of c.args.numbers.now n)) (take_all c.loop-number.number-index c.args.taken.now (omega arith)) (c.loop-number.invariant n)
