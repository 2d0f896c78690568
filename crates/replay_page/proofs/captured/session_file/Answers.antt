use Rattle.std.proofs.Common.{◌≡◌, ◌≤◌, ◌∙◌, ℕ, List, length, sym, subst}
use Rattle.std.specs.Prelude.{IfOk}
use Rattle.capture_format.specs.SessionFile.{session_text}
use Rattle.replay_page.specs.declared.page.NamedText.{NamedText}
use Rattle.replay_page.proofs.Names.{short_name}
use Rattle.replay_page.proofs.captured.session_file.Goals as goal

pub named-requires : goal.named-requires
named-requires c = subst (λ (name : List ℕ). length name ≤ 1000) (sym (c.as_str.ensures.value ∙ c.in_ok-name.ensures.ok)) (short_name c.args.session c.requires.session)

pub returns : goal.returns
returns c = subst (λ (name : List ℕ). IfOk c.named.result (λ (file : NamedText). file ≡ record { name = name; bytes = session_text c.args.session c.args.version c.args.calls.now.items })) (c.as_str.ensures.value ∙ c.in_ok-name.ensures.ok) (rw c.in_ok-bytes.ensures at c.named.ensures)
