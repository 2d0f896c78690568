use Rattle.std.proofs.Common.{◌+◌, ◌≤◌, ℕ, refl, subst, arith}
use Rattle.std.proofs.lemmas.Result.{err_from_is_err_and}
use Rattle.replay_core.proofs.desk.Parts.of.Goals as goal

pub returns-in_err-engine : goal.returns-in_err-engine
returns-in_err-engine c = let p = err_from_is_err_and c.from_residual.result c.from_residual.ensures.1 in rw p.1 tt

pub sheet_of-requires : goal.sheet_of-requires
sheet_of-requires c = omega (arith, c.len.ensures, c.requires.legal.count)

pub returns-in_err-history : goal.returns-in_err-history
returns-in_err-history c = let p = err_from_is_err_and c.from_residual-in_err-history.result c.from_residual-in_err-history.ensures.1 in rw p.1 tt

pub same-engine : goal.same-engine
same-engine c = refl

pub same-map : goal.same-map
same-map c = refl

pub returns : goal.returns
returns c = record {
  opened = c.in_ok-engine.ensures.engine;
  pairs_are = c.in_ok-engine.ensures.pairs;
  own_are = c.in_ok-engine.ensures.own;
  no_event = c.in_ok-history.ensures.history;
  room = subst (λ (n : ℕ). n + n ≤ c.in_ok-history.history.spare) c.len.ensures c.in_ok-history.ensures.room;
}
