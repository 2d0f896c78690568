use Rattle.std.proofs.Common.{[], ◌∷◌, ◌++◌, append_assoc}
use Rattle.std.specs.Prelude.{codes}
use Rattle.desk_files.specs.declared.writes.Write.{Write}
use Rattle.divergence_cause.specs.Text.{causes_text}
use Rattle.replay_cli.specs.Done.{fence_files}
use Rattle.replay_cli.proofs.told.append_told.Goals as goal

pub returns : goal.returns
returns c =
    let causes : Write = record { name = c.args.out.now ++ codes "/causes.csv"; bytes = causes_text c.args.told.now.causes } in
    rw (c.in_ok-push.ensures.ok, c.in_ok-append_reads.ensures, c.in_ok-write_in.ensures, c.in_ok-text.ensures) (append_assoc c.args.writes.now (fence_files c.args.out.now c.args.told.now.reads) (causes ∷ []))
