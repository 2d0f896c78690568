use Rattle.sql_reader.specs.Reading.{content_at}
use Rattle.sql_reader.proofs.Loops.{content_twice, content_other, content_end, content_none}
use Rattle.sql_reader.proofs.scanner.content.Goals as goal
use Rattle.sql_reader.proofs.scanner.content.Goals.{then-first-ne39, else-first-ne39+in-Some-after_quote}

pub returns-in_default-after_quote : goal.returns-in_default-after_quote
returns-in_default-after_quote c = content_end c.loop-first.content.items c.loop-first.rest.now c.in-Some.after.now c.in-Some.first.now (content_at c.args.bytes.now) c.in-Some.ensures.cases.0 c.if-first-ne39.false c.in_default-after_quote.ensures c.loop-first.invariant

pub loop-first-preserved : goal.loop-first-preserved
loop-first-preserved c =
    elim c.if-first-ne39.branch [
      | then-first-ne39 w ↦ rw (c.in_ok-push.ensures.items, w.rest-is) (content_other c.loop-first.content.items c.loop-first.rest.now c.in-Some.after.now c.in-Some.first.now (content_at c.args.bytes.now) c.in-Some.ensures.cases.0 w.if-first-ne39.true c.loop-first.invariant)
      | else-first-ne39+in-Some-after_quote w ↦ rw (c.in_ok-push.ensures.items, w.rest-is) (content_twice c.loop-first.content.items c.loop-first.rest.now c.in-Some.after.now c.in-Some.first.now w.in-Some-after_quote.after_pair.now (content_at c.args.bytes.now) c.in-Some.ensures.cases.0 w.if-first-ne39.false w.in-Some-after_quote.ensures c.loop-first.invariant)
    ]

pub returns : goal.returns
returns c = content_none c.loop-first.content.items c.loop-first.rest.now (content_at c.args.bytes.now) c.in_default.ensures.cases c.loop-first.invariant
