use Rattle.std.proofs.Common.{List, ◌∷◌, [], ◌++◌, append_assoc, ap, sym, subst, ◌∙◌}
use Rattle.std.specs.List.{AllByRecursion}
use Rattle.std.specs.Vec.Iter.{into_iter_items}
use Rattle.serde_json.specs.Data.{no_members}
use Rattle.replay_page.specs.Data.{IsQuietFile}
use Rattle.replay_page.specs.declared.page.NamedText.{NamedText}
use Rattle.replay_page.proofs.Datas.{one_more_file}
use Rattle.replay_page.proofs.building.files_json.Goals as goal

pub text_json-text-requires : goal.text_json-text-requires
text_json-text-requires c = (subst (AllByRecursion IsQuietFile) c.in-Some.ensures.steps.0 c.loop-file.invariant.quiet).0.bytes

pub loop-file-preserved : goal.loop-file-preserved
loop-file-preserved c =
    let l = c.loop-file in
    record {
      rest = append_assoc l.yielded (c.in-Some.file ∷ []) (into_iter_items c.next.new.self) ∙ ap (λ (fs : List NamedText). l.yielded ++ fs) (sym c.in-Some.ensures.steps.0) ∙ l.invariant.rest;
      members = rw (c.in_ok-put.ensures.ok, c.text_json-text.ensures, c.as_str.ensures.value, l.invariant.members) (sym (one_more_file l.yielded c.in-Some.file no_members));
      quiet = (subst (AllByRecursion IsQuietFile) c.in-Some.ensures.steps.0 l.invariant.quiet).1;
    }
