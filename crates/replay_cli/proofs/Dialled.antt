-- A server is dialled no more often than there are sessions with a call, and each line is given back, however a replay against it ends.
use Rattle.std.proofs.Common.{◌≡◌, ◌≤◌, ◌∙◌, ◌++◌, ℕ, List, [], length, Option, None, Some, Ok, Err, inl, inr, refl, sym, ap, arith}
use Rattle.std.proofs.lemmas.List.{append-nil}
use Rattle.desk_values.specs.declared.capture.Captured.{Captured}
use Rattle.desk_files.proofs.WriteLaws.{told}
use Rattle.desk_files.specs.Outside.{Told}
use Rattle.replay_lanes.specs.Sessions.{sessions}
use Rattle.remote_link.specs.declared.heard.Heard.{Heard}
use Rattle.remote_link.specs.Dials.{DialAccount}
use Rattle.remote_desk.specs.Desk.{RemoteView}
use Rattle.remote_target.specs.declared.remote_err.RemoteErr.{RemoteErr}
use Rattle.remote_target.specs.declared.remote_err.RemoteErr.TheVariants as remote
use Rattle.remote_target.specs.Dialled.{AreAllOnce, AreTold, DialsOnce, IsOnceEach}
use Rattle.replay_cli.specs.Decision.{Task, ToKeep, ToMake, ToPage, ToReplay, ToSend, ToServe, ToShow, ToTell, ToTry}
use Rattle.replay_cli.specs.Ending.{HasDialled}
use Rattle.replay_cli.specs.Hosting.{Dialling}

all_short : (calls : List Captured) (dials lines : ℕ) → AreAllOnce calls dials lines → (lines ≡ dials) × (dials ≤ length (sessions calls))
all_short calls dials lines all = (all.1, omega (arith, all.0))

as_few : (n m : ℕ) → n ≡ m → n ≤ m
as_few n m same = omega (arith, same)

module _ (calls : List Captured) (before after : Option (List (List Heard))) (old new : DialAccount) where
  short_once : (error : RemoteErr) (dials lines : ℕ) → IsOnceEach calls (Err error) dials lines old.faults new.faults → IsOnceEach calls (Err remote.Memory) dials lines old.faults new.faults
  short_once remote.Link dials lines (inl all) = inl (all_short calls dials lines all)
  short_once remote.Link dials lines (inr cut) = inr cut
  short_once (remote.OtherJob kept) dials lines all = inl (all_short calls dials lines all)
  short_once (remote.Mismatch session place kept answered) dials lines all = inl (all_short calls dials lines all)
  short_once remote.Memory dials lines few = few

  few_told : (error : RemoteErr) (told lines : ℕ) → AreTold (Err error) told lines → told ≤ lines
  few_told remote.Link told lines are = as_few told lines are
  few_told (remote.OtherJob kept) told lines are = as_few told lines are
  few_told (remote.Mismatch session place kept answered) told lines are = as_few told lines are
  few_told remote.Memory told lines are = are

  -- to no end
  pub few_dialled : (error : RemoteErr) → DialsOnce calls (Err error) before after old new → DialsOnce calls (Err remote.Memory) before after old new
  few_dialled error is = record {
    dials = is.dials;
    lines = is.lines;
    counted = is.counted;
    returned = is.returned;
    once = short_once error is.dials is.lines is.once;
    given = told before (λ lists g. (g.0, few_told error (length g.0) is.lines g.1, g.2)) is.given;
  }

  -- to its end
  pub all_dialled : (desk : RemoteView) → DialsOnce calls (Ok desk) before after old new → DialsOnce calls (Err remote.Memory) before after old new
  all_dialled desk is = record {
    dials = is.dials;
    lines = is.lines;
    counted = is.counted;
    returned = is.returned;
    once = inl (all_short calls is.dials is.lines is.once);
    given = told before (λ lists g. (g.0, as_few (length g.0) is.lines g.1, g.2)) is.given;
  }

-- not at all
none_told : (before after : Option (List (List Heard))) → after ≡ before → Told before (λ told. (lists : List (List Heard)) × AreTold (Err remote.Memory) (length lists) 0 × (after ≡ Some (told ++ lists)))
none_told None after same = tt
none_told (Some lists) after same = ([], omega arith, same ∙ ap (λ (all : List (List Heard)). Some all) (sym (append-nil lists)))

none_dialled : (calls : List Captured) (before after : Option (List (List Heard))) (old new : DialAccount) → after ≡ before → new ≡ old → DialsOnce calls (Err remote.Memory) before after old new
none_dialled calls before after old new same stands = record {
  dials = 0;
  lines = 0;
  counted = ap (λ (counts : DialAccount). counts.dials) stands;
  returned = ap (λ (counts : DialAccount). counts.backs) stands;
  once = inl (refl, omega arith);
  given = none_told before after same;
}

pub undialled : (task : Task) (dial : Dialling) → dial.after ≡ dial.before → dial.counts_after ≡ dial.counts_before → HasDialled task dial
undialled (ToSend out job port) dial same stands = none_dialled job.calls dial.before dial.after dial.counts_before dial.counts_after same stands
undialled (ToReplay out job) dial same stands = tt
undialled (ToTell out facts) dial same stands = tt
undialled (ToServe out start most port) dial same stands = tt
undialled (ToMake n out) dial same stands = tt
undialled (ToTry n) dial same stands = tt
undialled (ToKeep errand) dial same stands = tt
undialled (ToPage page calls divergent) dial same stands = tt
undialled (ToShow view asked) dial same stands = tt
