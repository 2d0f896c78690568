-- How often it was dialled, by how a replay ends.
use Rattle.std.proofs.Common.{◌≡◌, ◌∙◌, ℕ, ◌+◌, ◌≤◌, List, [], ◌++◌, inl, inr, length, map, Option, None, Some, Result, Ok, Err, refl, sym, ap, subst, append-nil, add-one, arith}
use Rattle.std.proofs.lemmas.List.{length-map}
use Rattle.desk_files.specs.Outside.{HasRisen, Told, raised, risen_by}
use Rattle.desk_files.proofs.WriteLaws.{told}
use Rattle.desk_values.specs.declared.memory.Memory.{Memory as NoMemory}
use Rattle.desk_values.specs.declared.capture.Captured.{Captured}
use Rattle.remote_link.specs.declared.heard.Heard.{Heard}
use Rattle.remote_link.specs.Dials.{DialAccount}
use Rattle.replay_lanes.specs.Sessions.{sessions}
use Rattle.remote_desk.specs.Desk.{RemoteView}
use Rattle.remote_target.specs.declared.line.Line.{Line}
use Rattle.remote_target.specs.declared.remote_err.RemoteErr.{RemoteErr}
use Rattle.remote_target.specs.declared.remote_err.RemoteErr.TheVariants.{Link, OtherJob, Mismatch, Memory}
use Rattle.remote_target.specs.Dialled.{AreTold, DialsOnce, IsCutShort, IsHandedBack, IsOnceEach, asked_for}
use Rattle.remote_target.specs.Inside.{GivesLines, IsReturned, SaidView, said_on, session_on}
use Rattle.remote_target.proofs.Giving.{as_many}

pub asked_more : (k port : ℕ) (last : Option ℕ) → asked_for (k + 1) port last ≡ Some port
asked_more k port last = rw add-one refl

module _ (calls : List Captured) (before after : Option (List (List Heard))) (old new : DialAccount) where
  abbrev dials_so : Result RemoteView RemoteErr → Type 0
  dials_so result = DialsOnce calls result before after old new

  abbrev once_so : Result RemoteView RemoteErr → ℕ → ℕ → Type 0
  once_so result dials lines = IsOnceEach calls result dials lines old.faults new.faults

  once_all : (result : Result RemoteView RemoteErr) (n : ℕ) → n ≡ length (sessions calls) → once_so result n n
  once_all (Ok desk) n same = (same, refl)
  once_all (Err Link) n same = inl (same, refl)
  once_all (Err (OtherJob kept)) n same = (same, refl)
  once_all (Err (Mismatch session place kept answered)) n same = (same, refl)
  once_all (Err Memory) n same = inl (refl, omega (arith, same))

  all_told : (result : Result RemoteView RemoteErr) (n m : ℕ) → n ≡ m → AreTold result n m
  all_told (Ok desk) n m same = same
  all_told (Err Link) n m same = same
  all_told (Err (OtherJob kept)) n m same = same
  all_told (Err (Mismatch session place kept answered)) n m same = same
  all_told (Err Memory) n m same = omega (arith, same)

  module _ (saids : List SaidView) (dials : ℕ) (counted : new.dials ≡ risen_by dials old.dials) (returned : new.backs ≡ risen_by (length saids) old.backs) where
    -- each line that was dialled is told
    whole_once : (result : Result RemoteView RemoteErr) → once_so result dials (length saids) → GivesLines saids (Ok tt) before after → dials_so result
    whole_once result once gives = record {
      dials = dials;
      lines = length saids;
      counted = counted;
      returned = returned;
      once = once;
      given = told before (λ lists g. (g.0, all_told result (length g.0) (length saids) (as_many saids g.0 g.1), g.2)) gives;
    }

    -- memory was short
    short_once : (memory : NoMemory) → once_so (Err Memory) dials (length saids) → GivesLines saids (Err memory) before after → dials_so (Err Memory)
    short_once memory once gives =
        record { dials = dials; lines = length saids; counted = counted; returned = returned; once = once; given = told before (λ lists g. (g.0, g.1, g.2)) gives }

  module _ {L : Type 0} (lines : List (Line L)) (result : Result RemoteView RemoteErr) (returned : new.backs ≡ risen_by (length lines) old.backs) where
    abbrev saids : List SaidView
    saids = map said_on lines

    many : length saids ≡ length lines
    many = length-map lines said_on

    each_returned : new.backs ≡ risen_by (length saids) old.backs
    each_returned = returned ∙ ap (λ (n : ℕ). risen_by n old.backs) (sym many)

    -- each session was dialled
    pub all_once : (outcome : Result RemoteView RemoteErr) → map session_on lines ≡ sessions calls → new.dials ≡ risen_by (length (sessions calls)) old.dials → IsReturned outcome saids result before after → dials_so result
    all_once outcome its counted back =
        let same : length (sessions calls) ≡ length saids = sym (ap length its) ∙ length-map lines session_on ∙ sym many in
        let dialled : new.dials ≡ risen_by (length saids) old.dials = counted ∙ ap (λ (n : ℕ). risen_by n old.dials) same in
        elim back [
          | inl whole ↦ subst dials_so (sym whole.0) (whole_once saids (length saids) dialled each_returned outcome (once_all outcome (length saids) (sym same)) whole.1)
          | inr short ↦ subst dials_so (sym short.0) (short_once saids (length saids) dialled each_returned short.1.0 (once_all (Err Memory) (length saids) (sym same)) short.1.1)
        ]

    -- a dial failed
    pub first_once : length lines + 1 ≤ length (sessions calls) → new.dials ≡ risen_by (length lines + 1) old.dials → HasRisen old.faults new.faults → IsReturned (Err Link) saids result before after → dials_so result
    first_once more counted risen back =
        let cut : IsCutShort calls (length lines + 1) (length saids) old.faults new.faults = record { but_one = omega (arith, many); few = more; risen = risen } in
        elim back [
          | inl whole ↦ subst dials_so (sym whole.0) (whole_once saids (length lines + 1) counted each_returned (Err Link) (inr cut) whole.1)
          | inr short ↦ subst dials_so (sym short.0) (short_once saids (length lines + 1) counted each_returned short.1.0 (inr cut) short.1.1)
        ]

-- no line was dialled
none_told : (before : Option (List (List Heard))) → Told before (λ told. (lists : List (List Heard)) × AreTold (Err Memory) (length lists) 0 × (before ≡ Some (told ++ lists)))
none_told None = tt
none_told (Some lists) = ([], omega arith, ap (λ (all : List (List Heard)). Some all) (sym (append-nil lists)))

pub none_once : (calls : List Captured) (before : Option (List (List Heard))) (counts : DialAccount) → DialsOnce calls (Err Memory) before before counts counts
none_once calls before counts = record { dials = 0; lines = 0; counted = refl; returned = refl; once = inl (refl, omega arith); given = none_told before }

-- ---- what was had, and given back

-- nothing was asked
pub none_handed : (calls : List Captured) (port : ℕ) (account : DialAccount) → IsHandedBack calls port account account
none_handed calls port account = record { lines = 0; failed = 0; few = omega arith; dialled = refl; refused = refl; returned = refl; asked = refl }

module _ (calls : List Captured) (port n : ℕ) (old new : DialAccount) (returned : new.backs ≡ risen_by n old.backs) where
  -- each dial gave a line
  pub all_handed : n ≡ length (sessions calls) → new.dials ≡ risen_by n old.dials → new.failed ≡ old.failed → new.port ≡ asked_for n port old.port → IsHandedBack calls port old new
  all_handed same dialled refused asked =
      let own : n ≡ n + 0 = omega arith in
      record {
        lines = n;
        failed = 0;
        few = omega (arith, same);
        dialled = dialled ∙ ap (λ (k : ℕ). risen_by k old.dials) own;
        refused = refused;
        returned = returned;
        asked = asked ∙ ap (λ (k : ℕ). asked_for k port old.port) own;
      }

  -- the last one failed
  pub but_one_handed : n + 1 ≤ length (sessions calls) → new.dials ≡ risen_by (n + 1) old.dials → new.failed ≡ raised old.failed → new.port ≡ Some port → IsHandedBack calls port old new
  but_one_handed few dialled refused asked =
      record { lines = n; failed = 1; few = few; dialled = dialled; refused = refused; returned = returned; asked = asked ∙ sym (asked_more n port old.port) }
