use Rattle.std.proofs.Common.{◌≡◌, ◌∙◌, ◌<◌, ap, arith, length}
use Rattle.std.proofs.lemmas.List.{get_or_read, with_items_is}
use Rattle.object_depends.specs.declared.tally.Group.{Group}
use Rattle.object_depends.specs.Tallies.{tally_of}
use Rattle.object_depends.specs.Inside.{group_at, no_group}
use Rattle.object_depends.proofs.Sound.{alike_is}
use Rattle.object_depends.proofs.tally.pass.Goals as goal

pub returns : goal.returns
returns c =
    let groups = c.place_for.new.groups in
    let place = c.in_ok-place.place in
    let found = c.in_ok-place.ensures.place in
    let lt : place < length groups.items = omega (arith, found.0, groups.ok.0) in
    let read : c.index.result.now ≡ group_at groups.items place = get_or_read groups.items place _ lt c.index.ensures no_group in
    let tally = c.in_ok-place.ensures.tallied place lt in
    let alike = alike_is c.args.mode c.args.facts.now c.requires.sound (group_at groups.items place).call c.args.k c.requires.k found.1 in
    let items = with_items_is groups c.note.new.groups (c.note.auto.groups ∙ c.as_mut_slice.ensures.len) in
    record {
      tally = ap (λ (g : Group). g.tally) read ∙ tally ∙ ap tally_of alike;
      tallied = rw items c.note.ensures;
    }
