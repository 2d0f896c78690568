use Rattle.std.proofs.Common.{◌≡◌, ℕ, List, [], take, refl, subst, ◌∙◌, arith}
use Rattle.std.proofs.lemmas.List.{take_all}
use Rattle.hold_index.specs.Told.{PrintsMove, session_in}
use Rattle.hold_index.proofs.Telling.{prints_freed}
use Rattle.server_words.specs.declared.session.HeldKey.{HeldKey}
use Rattle.machine_stores.specs.Holds.{prints_of}
use Rattle.call_deeds.proofs.Held.{taken_more}
use Rattle.call_deeds.proofs.holding.free_keys.Goals as goal

pub loop-held-init : goal.loop-held-init
loop-held-init c = record { kept = refl; rows = refl; prints = λ n. refl }

pub loop-held-preserved : goal.loop-held-preserved
loop-held-preserved c = record {
  kept = c.free_key.ensures.kept ∙ c.loop-held.invariant.kept;
  rows = c.free_key.ensures.rows ∙ c.loop-held.invariant.rows;
  prints = λ n. taken_more c.args.keys.now c.loop-held.held-index c.held-item.result (omega arith) c.held-item.is n (session_in c.args.holds.now.prints) (session_in c.loop-held.holds.prints) (session_in c.free_key.new.self.prints) c.loop-held.invariant.prints c.free_key.ensures.prints;
}

pub returns : goal.returns
returns c =
    let all : take c.loop-held.held-index c.args.keys.now ≡ c.args.keys.now = take_all c.loop-held.held-index c.args.keys.now (omega arith) in
    subst (λ (l : List HeldKey). (session : ℕ) → PrintsMove c.args.holds.now c.loop-held.holds session (prints_of l) []) all
    (prints_freed c.args.holds.now c.loop-held.holds (prints_of (take c.loop-held.held-index c.args.keys.now)) c.loop-held.invariant.kept c.loop-held.invariant.prints c.loop-held.invariant.rows)
