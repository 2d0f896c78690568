use Rattle.std.proofs.Common.{◌≡◌, ◌≤◌, ◌++◌, ◌∙◌, ℕ, List, length, sym, subst}
use Rattle.std.specs.Prelude.{IfOk}
use Rattle.replay_cli.proofs.Sessions.{short_name}
use Rattle.replay_cli.proofs.file_names.session_name.Goals as goal

pub name_in-requires-clause-file : goal.name_in-requires-clause-file
name_in-requires-clause-file c = subst (λ (file : List ℕ). length file ≤ 100) (sym (c.as_str.ensures.value ∙ c.in_ok-file.ensures.ok)) (short_name c.args.session c.requires.session)

pub returns : goal.returns
returns c = subst (λ (file : List ℕ). IfOk c.name_in.result (λ found. found ≡ c.args.folder.now ++ file)) (c.as_str.ensures.value ∙ c.in_ok-file.ensures.ok) c.name_in.ensures
