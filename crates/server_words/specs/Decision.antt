-- What a decision comes to: the same answer, without its parts that stay in the session.
use Rattle.std.specs.Prelude.{◌≡◌, ℕ, take, Bool, false, true, List, [], Option, None, Some}
use Rattle.desk_values.specs.declared.value.Image.{Image}
use Rattle.desk_values.specs.declared.call.Reply.{Reply}
use Rattle.server_words.specs.declared.effect.Deed.{Deed}
use Rattle.server_words.specs.declared.effect.Deed.TheVariants.{Nothing, Connects, Disconnects, Commits, RollsBack, ReadsOnly, Writes, Marks, RollsBackTo}
use Rattle.server_words.specs.declared.effect.Decision.{Decision}
use Rattle.desk_schema.specs.declared.schema.Rights.{Rights}
use Rattle.server_words.specs.declared.session.Session.{Session}
use Rattle.server_words.specs.declared.session.Transaction.{Transaction}
use Rattle.server_words.specs.declared.session.Savepoint.{Savepoint}
use Rattle.server_words.specs.Savepoints.{with_savepoint}
use Rattle.server_words.specs.State.{nothing}
use Rattle.server_words.specs.View.{View, plain_view}
use Rattle.server_words.specs.Step.{committed_in, snapshot_after}
use Rattle.server_words.specs.Writes.{holding}
use Rattle.server_words.specs.Answer.{Answer}

-- ---- what a deed leaves of a session

abbrev pub rights_left : View → Deed → Option Rights
rights_left view (Connects rights) = Some rights
rights_left view Disconnects = None
rights_left view other = view.rights

abbrev pub reads_only_left : View → Deed → Bool
reads_only_left view Nothing = view.reads_only
reads_only_left view (Connects rights) = view.reads_only
reads_only_left view Disconnects = false
reads_only_left view Commits = false
reads_only_left view RollsBack = false
reads_only_left view ReadsOnly = true
reads_only_left view (Writes table writing) = view.reads_only
reads_only_left view (Marks savepoint) = view.reads_only
reads_only_left view (RollsBackTo count own) = view.reads_only

abbrev pub own_left : View → Deed → Transaction
own_left view Nothing = view.own
own_left view (Connects rights) = view.own
own_left view Disconnects = nothing
own_left view Commits = nothing
own_left view RollsBack = nothing
own_left view ReadsOnly = view.own
own_left view (Writes table writing) = holding table view.own writing
own_left view (Marks savepoint) = view.own
own_left view (RollsBackTo count own) = own

abbrev pub savepoints_left : View → Deed → List Savepoint
savepoints_left view Nothing = view.savepoints
savepoints_left view (Connects rights) = view.savepoints
savepoints_left view Disconnects = []
savepoints_left view Commits = []
savepoints_left view RollsBack = []
savepoints_left view ReadsOnly = view.savepoints
savepoints_left view (Writes table writing) = view.savepoints
savepoints_left view (Marks savepoint) = with_savepoint view.savepoints savepoint
savepoints_left view (RollsBackTo count own) = take count view.savepoints

-- the answer that a reply and a deed come to
abbrev pub done_so : View → Reply → Deed → Answer
done_so view reply deed =
    record {
      reply = reply;
      rights = rights_left view deed;
      reads_only = reads_only_left view deed;
      own = own_left view deed;
      savepoints = savepoints_left view deed;
    }

-- the session afterwards, where there were so many commits before
abbrev pub session_left : Session → ℕ → Deed → Session
session_left session commits deed = record {
  rights = rights_left (plain_view session) deed;
  snapshot = snapshot_after (reads_only_left (plain_view session) deed) session.snapshot commits;
  own = own_left (plain_view session) deed;
  savepoints = savepoints_left (plain_view session) deed;
}

-- what a deed commits
abbrev pub committed_by : View → Deed → List Image
committed_by view Commits = view.own.changes
committed_by view other = []

-- the decision is this answer, and its reply tells what its deed commits
pub record Decides (view : View) (answer : Answer) (decision : Decision) : Type 0 where
  pub answers : done_so view decision.reply decision.deed ≡ answer
  pub commits : committed_in decision.reply.outcome ≡ committed_by view decision.deed
