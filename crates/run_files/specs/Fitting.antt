-- Whether the files of a run go together with the calls of a capture, by stamp: a list of tests, of which the first that fails decides.
use Rattle.std.specs.Prelude.{ℕ, ◌&&◌, nat_eq, nat_lt, not, if◌then◌else◌, Bool, false, List, length, count_by, slice_get, is_some, Option, None, Some}
use Rattle.std.specs.Option.{option_map, option_or}
use Rattle.std.specs.List.{find, range_with_len}
use Rattle.desk_values.specs.declared.capture.Captured.{Captured}
use Rattle.desk_values.specs.declared.capture.Event.{Event}
use Rattle.desk_values.specs.declared.capture.Event.TheVariants.{Start, Answer}
use Rattle.replay_history.specs.declared.mode.Mode.{Mode}
use Rattle.replay_history.specs.declared.mode.Mode.TheVariants.{Order, Scn, Fence, Object, Off}
use Rattle.replay_history.specs.declared.report.Line.{Line}
use Rattle.replay_history.specs.declared.report.Report.{Report}
use Rattle.divergence_cause.specs.declared.cause.CauseLine.{CauseLine}
use Rattle.run_files.specs.declared.fitting.RunFiles.{RunFiles}
use Rattle.run_files.specs.declared.misfit.Kind.{Kind}
use Rattle.run_files.specs.declared.misfit.Kind.TheVariants.{Answer as AnAnswer, Start as AStart}
use Rattle.run_files.specs.declared.misfit.Misfit.{Misfit}
use Rattle.run_files.specs.declared.misfit.Misfit.TheVariants as misfit

-- what the files of a run say
pub record RunView : Type 0 where
  -- the journal
  pub mode : Mode
  pub history : List Event
  pub report : Report
  -- where they are there
  pub causes : Option (List CauseLine)
  pub reads : Option (List ℕ)

-- all of them but their room to spare
abbrev pub seen : RunFiles → RunView
seen run = record { mode = run.mode; history = run.history.items; report = run.report; causes = run.causes; reads = run.reads }

-- ---- the journal starts each call once, and answers it once

-- the stamp of the call that an event of this kind is of
abbrev pub stamp_in : Kind → Event → Option ℕ
stamp_in AStart (Start stamp pause) = Some stamp
stamp_in AStart (Answer stamp reply) = None
stamp_in AnAnswer (Start stamp pause) = None
stamp_in AnAnswer (Answer stamp reply) = Some stamp

abbrev pub is_stamp : ℕ → Option ℕ → Bool
is_stamp k None = false
is_stamp k (Some stamp) = nat_eq stamp k

-- how many events there are of a kind
abbrev pub count_in : Kind → List Event → ℕ
count_in kind history = count_by (λ event. is_some (stamp_in kind event)) history

-- and how many of them are of the call with this stamp
abbrev pub times_in : Kind → List Event → ℕ → ℕ
times_in kind history k = count_by (λ event. is_stamp k (stamp_in kind event)) history

-- the least stamp below this number of calls that has not just one
abbrev pub not_once : Kind → List Event → ℕ → Option ℕ
not_once kind history n = find (λ k. not (nat_eq (times_in kind history k) 1)) (range_with_len 0 n)

-- there are as many as calls, and one of each
abbrev pub kind_misfit : Kind → ℕ → List Event → Option Misfit
kind_misfit kind n history =
    if nat_eq (count_in kind history) n then option_map (λ k. misfit.Event kind k) (not_once kind history n)
    else Some (misfit.Events kind (count_in kind history) n)

abbrev pub journal_misfit : ℕ → List Event → Option Misfit
journal_misfit n history = option_or (kind_misfit AStart n history) (kind_misfit AnAnswer n history)

-- ---- the report is on these calls, each where it stands

abbrev pub stands_so : Line → Option Captured → Bool
stands_so line None = false
stands_so line (Some call) = nat_eq call.session line.session && nat_eq call.place line.place

abbrev pub stands : List Captured → Line → Bool
stands calls line = stands_so line (slice_get calls line.stamp)

-- the first line whose call stands elsewhere
abbrev pub misplaced : List Captured → List Line → Option Line
misplaced calls lines = find (λ line. not (stands calls line)) lines

abbrev pub report_misfit : List Captured → Report → Option Misfit
report_misfit calls report =
    if nat_eq report.calls (length calls) then option_map (λ line. misfit.Place line.stamp) (misplaced calls report.lines)
    else Some (misfit.Calls report.calls (length calls))

-- ---- the plain reads are calls, and are told of the mode fence alone

abbrev pub stray : ℕ → List ℕ → Option ℕ
stray n stamps = find (λ stamp. not (nat_lt stamp n)) stamps

abbrev pub reads_misfit : Mode → ℕ → Option (List ℕ) → Option Misfit
reads_misfit mode n None = None
reads_misfit Order n (Some stamps) = Some misfit.Reads
reads_misfit Scn n (Some stamps) = Some misfit.Reads
reads_misfit Fence n (Some stamps) = option_map (λ stamp. misfit.Read stamp) (stray n stamps)
reads_misfit Object n (Some stamps) = Some misfit.Reads
reads_misfit Off n (Some stamps) = Some misfit.Reads

-- ---- all of it

abbrev pub misfit_of : List Captured → RunView → Option Misfit
misfit_of calls run = option_or (journal_misfit (length calls) run.history) (option_or (report_misfit calls run.report) (reads_misfit run.mode (length calls) run.reads))
