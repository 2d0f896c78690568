use Rattle.std.proofs.Common.{ℕ, ◌+◌, ◌||◌, Bool, Option, length, sym, ap, ◌∙◌}
use Rattle.machine_stores.specs.Inside.Holds.{is_within}
use Rattle.machine_stores.proofs.Held.{free_key}
use Rattle.machine_stores.proofs.holds.is_told_of_key.Goals as goal

pub returns : goal.returns
returns c =
    let others = c.args.others in
    let within : Option ℕ → Bool = λ (holder : Option ℕ). is_within 0 (length others.before.now) holder || is_within (length others.before.now + 1) (length others.after.now) holder in
    sym (free_key c.args.level others c.args.table c.args.key.now c.requires.beside c.requires.kept (sym (c.is_anothers.ensures ∙ ap within c.holder_of_key.ensures) ∙ c.if-is_anothers.false))
