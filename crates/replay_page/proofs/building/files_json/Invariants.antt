use Rattle.std.proofs.Common.{◌≡◌, ◌++◌}
use Rattle.std.specs.List.{AllByRecursion, fold}
use Rattle.std.specs.Vec.Iter.{into_iter_items}
use Rattle.serde_json.specs.Data.{no_members}
use Rattle.serde_json.specs.View.{members_view}
use Rattle.replay_page.specs.Data.{IsQuietFile, with_file}
use Rattle.replay_page.proofs.building.files_json.Given as goal

abbrev pub invariant-loop-file : goal.invariant-loop-file
invariant-loop-file l = record {
  rest : l.yielded ++ into_iter_items l.file-iterator ≡ l.fn.files;
  members : members_view l.members.entries ≡ fold with_file no_members l.yielded;
  quiet : AllByRecursion IsQuietFile (into_iter_items l.file-iterator);
}
