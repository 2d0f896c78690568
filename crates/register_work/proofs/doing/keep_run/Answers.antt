use Rattle.std.proofs.Common.{◌∙◌}
use Rattle.register_work.proofs.Runs.{other_kept, other_stays}
use Rattle.register_work.proofs.doing.keep_run.Goals as goal

pub returns-in-Err-Other-clause-fails : goal.returns-in-Err-Other-clause-fails
returns-in-Err-Other-clause-fails g c =
    let runs = (g.K.Keeper.account c.args.keeper.now).runs in
    let says = rw (c.in-Err-Other.field-0-is, c.as_slice.ensures) at c.in-Err-Other.ensures.says in
    let after = rw (c.in-Err-Other.field-0-is, c.as_slice.ensures) at c.in-Err-Other.ensures.runs in (
      (c.in_ok-copy-in-Err-Other.ensures, other_kept runs c.args.name.now c.args.bytes.now c.in-Err-Other.field-0-0 says),
      record {
        runs = after ∙ other_stays runs c.args.name.now c.args.bytes.now c.in-Err-Other.field-0-0 says;
        divergences = c.in-Err-Other.ensures.divergences;
        faults = (let counts = c.in-Err-Other.ensures.faults in rw c.in-Err-Other.field-0-is at counts);
      },
    )
