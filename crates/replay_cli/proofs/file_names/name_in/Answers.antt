use Rattle.std.proofs.Common.{◌≡◌, ◌++◌, Err, ap, sym, subst, ◌∙◌, arith}
use Rattle.std.specs.Str.{IsUtf8}
use Rattle.std.proofs.lemmas.Str.{IsUtf8-append}
use Rattle.std.proofs.lemmas.Grind.{common_steps}
use Rattle.replay_cli.proofs.file_names.name_in.Goals as goal

pub unreachable-requires-in-Err-NotUtf8 : goal.unreachable-requires-in-Err-NotUtf8
unreachable-requires-in-Err-NotUtf8 c =
    let e : c.as_slice.result.now ≡ c.args.folder.now ++ c.args.file.now = grind (arith, common_steps) in
    let bad = c.from_bytes.ensures.not_utf8.0 (c.in-Err-NotUtf8.is ∙ ap Err c.in-Err-NotUtf8.field-0-is) in
    bad.1 (subst IsUtf8 (sym e) (IsUtf8-append c.args.folder.now c.args.file.now c.as_str.ensures.utf8 c.utf8.file))
