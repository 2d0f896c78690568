use Rattle.std.proofs.Common.{◌≡◌, ◌≤◌, length, ltb, arith, ◌∙◌}
use Rattle.std.proofs.lemmas.List.Sums.{prefix_len-le-length}
use Rattle.desk_values.specs.declared.value.Image.{Image}
use Rattle.server_words.specs.Rows.{one, placed}
use Rattle.server_words.specs.Inside.Rows.{place}
use Rattle.server_words.proofs.Laying.{put_over, put_between, put_last, rising_put}
use Rattle.server_words.proofs.rows.put_within.Goals as goal
use Rattle.server_words.proofs.rows.put_within.Goals.{else-at-len-via-then-at-len+else-index-image, else-at-len-via-else-at-len}

pub insert-requires : goal.insert-requires
insert-requires c = let le : place c.args.image.row c.args.images.now.items ≤ length c.args.images.now.items = prefix_len-le-length (λ (image : Image). ltb image.row c.args.image.row) c.args.images.now.items in grind (arith, c.place_of-at.ensures, c.deref.ensures.value)

pub returns-then-index-image-clause-items : goal.returns-then-index-image-clause-items
returns-then-index-image-clause-items c = put_over c.args.image c.index.result.now c.args.images.now.items _ (cc) (omega arith) c.index.ensures c.if-index-image.true

pub returns-then-index-image-clause-rising : goal.returns-then-index-image-clause-rising
returns-then-index-image-clause-rising c = rw (put_over c.args.image c.index.result.now c.args.images.now.items c.place_of-at.result (cc) (omega arith) c.index.ensures c.if-index-image.true) (rising_put _ _ c.requires.rising)

inserted : (c : goal.After-unwrap) → c.insert.new.self.items ≡ placed one c.args.image c.args.images.now.items
inserted c =
    let items = rw c.unwrap.ensures at c.insert.ensures.items in
    items ∙ elim c.else-at-len.branch [
      | else-at-len-via-then-at-len+else-index-image w ↦ put_between c.args.image w.index.result.now c.args.images.now.items _ (cc) w.index.ensures w.if-index-image.false
      | else-at-len-via-else-at-len w ↦ put_last c.args.image c.args.images.now.items _ (cc) (omega arith)
    ]

pub returns-else-at-len-clause-items : goal.returns-else-at-len-clause-items
returns-else-at-len-clause-items c = inserted c

pub returns-else-at-len-clause-rising : goal.returns-else-at-len-clause-rising
returns-else-at-len-clause-rising c = rw (inserted c) (rising_put _ _ c.requires.rising)
