use Rattle.std.proofs.Common.{◌≡◌, ◌∙◌, ◌+◌, ◌++◌, ◌∷◌, [], false, sym, ap, arith, length, length-append}
use Rattle.id_pairs.specs.Pairs.{is_known, with_new}
use Rattle.remap_ids.specs.Inside.{PairsView}
use Rattle.remap_ids.proofs.Entries.{goes_last, grows, keys_go_last, one_more, replayed_of}
use Rattle.remap_ids.proofs.pairs.Pairs.add.Goals as goal

pub invariant_of-self : goal.invariant_of-self
invariant_of-self c =
    let unknown : is_known c.self.inside.by_captured.entries (c.args.captured, c.args.replayed) ≡ false = ap (λ (view : PairsView). is_known view.pairs (c.args.captured, c.args.replayed)) c.self.view_is ∙ sym c.has_either.ensures ∙ c.if-has_either.false in
    let grown : c.insert.new.self.entries ≡ c.self.inside.by_captured.entries ++ (c.args.captured, c.args.replayed) ∷ [] = rw c.unwrap.ensures at c.insert.ensures.entries ∙ goes_last c.self.inside.by_captured c.args.captured c.args.replayed unknown in
    let keys : c.insert-2.new.self.keys ≡ replayed_of c.insert.new.self.entries = rw c.unwrap-2.ensures at c.insert-2.ensures.keys ∙ keys_go_last c.self.inside.by_captured c.args.captured c.args.replayed unknown c.self.inside.replayed.keys c.self.invariant.1 ∙ ap replayed_of (sym grown) in
    (one_more c.self.inside.by_captured.entries c.insert.new.self.entries (c.args.captured, c.args.replayed) c.insert-2.new.self.keys c.self.invariant.0 c.requires.like grown c.insert.ensures.unique c.insert-2.ensures.unique keys, keys)

pub returns-clause-pairs : goal.returns-clause-pairs
returns-clause-pairs c =
    let unknown : is_known c.self.inside.by_captured.entries (c.args.captured, c.args.replayed) ≡ false = ap (λ (view : PairsView). is_known view.pairs (c.args.captured, c.args.replayed)) c.self.view_is ∙ sym c.has_either.ensures ∙ c.if-has_either.false in
    rw c.unwrap.ensures at c.insert.ensures.entries ∙ goes_last c.self.inside.by_captured c.args.captured c.args.replayed unknown ∙ grows c.self.inside.by_captured c.args.captured c.args.replayed unknown ∙ ap (λ (view : PairsView). with_new view.pairs (c.args.captured, c.args.replayed)) c.self.view_is

pub returns-clause-whole : goal.returns-clause-whole
returns-clause-whole c =
    let unknown : is_known c.self.inside.by_captured.entries (c.args.captured, c.args.replayed) ≡ false = ap (λ (view : PairsView). is_known view.pairs (c.args.captured, c.args.replayed)) c.self.view_is ∙ sym c.has_either.ensures ∙ c.if-has_either.false in
    let grown : c.insert.new.self.entries ≡ c.self.inside.by_captured.entries ++ (c.args.captured, c.args.replayed) ∷ [] = rw c.unwrap.ensures at c.insert.ensures.entries ∙ goes_last c.self.inside.by_captured c.args.captured c.args.replayed unknown in
    let long : length c.insert.new.self.entries ≡ length c.self.inside.by_captured.entries + 1 = ap length grown ∙ length-append c.self.inside.by_captured.entries ((c.args.captured, c.args.replayed) ∷ []) in
    let was = ap (λ (view : PairsView). length view.pairs) c.self.view_is in
    let room = ap (λ (view : PairsView). view.spare) c.self.view_is in
    omega (arith, long, was, room, c.insert.ensures.spare, c.insert-2.ensures.spare)
