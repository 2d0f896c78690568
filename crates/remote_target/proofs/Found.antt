-- Where a desk and its lines were found to differ.
use Rattle.std.proofs.Common.{◌≡◌, ℕ, suc, List, [], ◌∷◌, map, inl, inr, slice_get, Option, Some, refl, sym, ap, subst}
use Rattle.replay_job.specs.Job.{JobView}
use Rattle.replay_lanes.specs.Sessions.{sessions}
use Rattle.remote_link.specs.declared.heard.Heard.{Heard}
use Rattle.remote_desk.specs.Desk.{RemoteView}
use Rattle.remote_target.specs.declared.line.Line.{Line}
use Rattle.remote_target.specs.Agreement.{DiffersAt, DiffersOn, heard_on, kept_of}
use Rattle.remote_target.specs.Ends.{IsFound, IsFoundIn}
use Rattle.remote_target.specs.Inside.{AreToldOf, HasFound, said_on, session_on}
use Rattle.remote_target.specs.Spoken.{IsOwn}

-- some line heard otherwise
record IsOn (desk : RemoteView) (its : List ℕ) (session place : ℕ) (one other : Option Heard) : Type 0 where
  line : ℕ
  own : List Heard
  session_is : slice_get its line ≡ Some session
  differs : DiffersAt desk.stopped (kept_of desk session) own place one other

on : {L : Type 0} (desk : RemoteView) (lines : List (Line L)) (session place : ℕ) (one other : Option Heard) → DiffersOn desk (map heard_on lines) session place one other → IsOn desk (map session_on lines) session place one other
on desk [] session place one other differs = absurd differs
on desk (line ∷ lines) session place one other (inl here) = record {
  line = 0;
  own = line.spoken.heard;
  session_is = ap (λ (s : ℕ). Some s) (sym here.0);
  differs = subst (λ (s : ℕ). DiffersAt desk.stopped (kept_of desk s) line.spoken.heard place one other) (sym here.0) here.1;
}
on desk (line ∷ lines) session place one other (inr later) =
    let rest = on desk lines session place one other later.1 in
    record { line = suc rest.line; own = rest.own; session_is = rest.session_is; differs = rest.differs }

pub found : {L : Type 0} (job : JobView) (lines : List (Line L)) (session place : ℕ) (one other : Option Heard) → map session_on lines ≡ sessions job.calls → HasFound job (map heard_on lines) session place one other
    → IsFound job session place one other
found job lines session place one other its has =
    let line = on has.desk lines session place one other has.differs in
    record {
      desk = has.desk;
      line = line.line;
      heard = line.own;
      job_is = has.job_is;
      is_kept = has.is_kept;
      session_is = subst (λ (of : List ℕ). slice_get of line.line ≡ Some session) its line.session_is;
      differs = line.differs;
    }

-- the line that did, with what it tells
pub record IsThere (desk : RemoteView) (its : List ℕ) (lists : List (List Heard)) (session place : ℕ) (one other : Option Heard) : Type 0 where
  pub line : ℕ
  pub own : List Heard
  pub list : List Heard
  pub session_is : slice_get its line ≡ Some session
  pub list_is : slice_get lists line ≡ Some list
  pub told : IsOwn own list
  pub differs : DiffersAt desk.stopped (kept_of desk session) own place one other

there : {L : Type 0} (desk : RemoteView) (lines : List (Line L)) (lists : List (List Heard)) (session place : ℕ) (one other : Option Heard) → AreToldOf (map said_on lines) lists → DiffersOn desk (map heard_on lines) session place one other
    → IsThere desk (map session_on lines) lists session place one other
there desk [] lists session place one other are differs = absurd differs
there desk (line ∷ lines) [] session place one other are differs = absurd are
there desk (line ∷ lines) (list ∷ lists) session place one other are (inl here) = record {
  line = 0;
  own = line.spoken.heard;
  list = list;
  session_is = ap (λ (s : ℕ). Some s) (sym here.0);
  list_is = refl;
  told = are.0.own;
  differs = subst (λ (s : ℕ). DiffersAt desk.stopped (kept_of desk s) line.spoken.heard place one other) (sym here.0) here.1;
}
there desk (line ∷ lines) (list ∷ lists) session place one other are (inr later) =
    let rest = there desk lines lists session place one other are.1 later.1 in
    record { line = suc rest.line; own = rest.own; list = rest.list; session_is = rest.session_is; list_is = rest.list_is; told = rest.told; differs = rest.differs }

pub found_in : {L : Type 0} (job : JobView) (lines : List (Line L)) (lists : List (List Heard)) (session place : ℕ) (one other : Option Heard) → map session_on lines ≡ sessions job.calls → AreToldOf (map said_on lines) lists
    → HasFound job (map heard_on lines) session place one other → IsFoundIn job lists session place one other
found_in job lines lists session place one other its are has =
    let line = there has.desk lines lists session place one other are has.differs in
    record {
      desk = has.desk;
      job_is = has.job_is;
      is_kept = has.is_kept;
      line = line.line;
      own = line.own;
      list = line.list;
      session_is = subst (λ (of : List ℕ). slice_get of line.line ≡ Some session) its line.session_is;
      list_is = line.list_is;
      told = line.told;
      differs = line.differs;
    }
