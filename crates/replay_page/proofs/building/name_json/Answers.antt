use Rattle.std.proofs.Common.{List, ℕ, sym, subst, ap, ◌∙◌, ◌++◌}
use Rattle.desk_values.specs.Text.{txt_text}
use Rattle.replay_page.specs.Quiet.{AreQuiet}
use Rattle.replay_page.proofs.Quiets.{quiet_txt}
use Rattle.replay_page.proofs.building.name_json.Goals as goal

pub text_json-requires : goal.text_json-requires
text_json-requires c =
    subst (λ (bytes : List ℕ). AreQuiet bytes) (sym (c.in_ok-append_text.ensures.ok ∙ ap (λ (bytes : List ℕ). bytes ++ txt_text c.args.name.now) c.new-text.ensures)) (quiet_txt c.args.name.now c.has_text.ensures.limits)
