use Rattle.std.proofs.Common.{◌≡◌, List, refl, sym, subst, arith}
use Rattle.std.specs.List.{AllByRecursion}
use Rattle.prepare_plan.specs.Lists.{lists_of}
use Rattle.replay_page.specs.Captured.{captured_files}
use Rattle.replay_page.specs.Data.{IsQuietFile}
use Rattle.replay_page.proofs.Captures.{count_lists}
use Rattle.replay_page.proofs.Spelled.{quiet_captured}
use Rattle.replay_page.specs.declared.page.NamedText.{NamedText}
use Rattle.replay_page.proofs.captured.captured_files.Goals as goal

pub returns-clause-files : goal.returns-clause-files
returns-clause-files c =
    rw (c.in_ok-push.ensures.ok, c.in_ok-files.ensures, c.in_ok-named.ensures, c.in_ok-bytes.ensures, count_lists c.args.sessions.now, c.version-version.ensures.value, c.schema.ensures.value) refl

pub returns-clause-quiet : goal.returns-clause-quiet
returns-clause-quiet c =
    let count = count_lists c.args.sessions.now in
    let most = c.version-version.ensures.valid.most in
    let same = rw c.schema.ensures.value at c.version-version.ensures.value in
    let files : c.push.new.self ≡ captured_files c.args.start.now (lists_of c.args.sessions.now) = rw (c.in_ok-push.ensures.ok, c.in_ok-files.ensures, c.in_ok-named.ensures, c.in_ok-bytes.ensures, count, c.version-version.ensures.value, c.schema.ensures.value) refl in
    subst (λ (fs : List NamedText). AllByRecursion IsQuietFile fs) (sym files)
    (quiet_captured c.args.start.now (lists_of c.args.sessions.now) c.schema.ensures.valid (omega (arith, most, same)) (let within = c.requires.count in omega (arith, within, count)) c.requires.lists c.requires.spelled)
