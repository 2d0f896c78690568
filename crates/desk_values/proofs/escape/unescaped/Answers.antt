use Rattle.std.proofs.Common.{ℕ, List, ◌++◌, sym, ap, subst, ◌∙◌}
use Rattle.std.proofs.lemmas.Bool.{eqb-true, eqb-false}
use Rattle.desk_values.specs.Text.{escaped}
use Rattle.desk_values.proofs.Escapes.{AllSmall, first_shorter, unescaped_more, small_more, unescaped_all, unescaped_never}
use Rattle.desk_values.proofs.escape.unescaped.Goals as goal

pub loop-byte-init : goal.loop-byte-init
loop-byte-init c = record {
  spelled = ap (λ (text : List ℕ). escaped text ++ c.args.bytes.now) (sym c.in_ok-text.ensures);
  small = subst AllSmall (sym c.in_ok-text.ensures) tt;
}

pub loop-byte-smaller : goal.loop-byte-smaller
loop-byte-smaller c = first_shorter c.loop-byte.rest.now (c.in-Some.byte, c.in-Some.after.now) (sym c.in-Some.ensures)

pub loop-byte-preserved : goal.loop-byte-preserved
loop-byte-preserved c =
    let l = c.loop-byte in
    record {
      spelled = rw c.in_ok-push.ensures.ok (unescaped_more c.args.bytes.now l.text l.rest.now (c.in-Some.byte, c.in-Some.after.now) l.invariant.spelled (sym c.in-Some.ensures));
      small = rw c.in_ok-push.ensures.ok (small_more l.text l.rest.now (c.in-Some.byte, c.in-Some.after.now) l.invariant.small (sym c.in-Some.ensures));
    }

pub returns-then-is_empty : goal.returns-then-is_empty
returns-then-is_empty c =
    let l = c.loop-byte in
    unescaped_all c.args.bytes.now l.text l.rest.now l.invariant.spelled l.invariant.small (eqb-true _ 0 (sym c.is_empty.ensures ∙ c.if-is_empty.true))

pub returns-else-is_empty : goal.returns-else-is_empty
returns-else-is_empty c =
    let l = c.loop-byte in
    λ text is. unescaped_never c.args.bytes.now l.text l.rest.now text l.invariant.spelled l.invariant.small (sym c.in_default.ensures) (eqb-false _ 0 (sym c.is_empty.ensures ∙ c.if-is_empty.false)) is
