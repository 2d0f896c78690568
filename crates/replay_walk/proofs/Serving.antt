-- A server goes on: its ledgers tell its tables, and what is kept of them stays right.
use Rattle.std.proofs.Common.{◌≡◌, ◌∙◌, ℕ, ◌+◌, ◌<◌, ◌≤◌, List, [], ◌∷◌, ◌++◌, length, map, take, get_or, append-nil, append_assoc, length-append, refl, sym, ap, subst, arith}
use Rattle.std.proofs.lemmas.List.{take-append-le}
use Rattle.desk_values.specs.declared.value.Image.{Image}
use Rattle.desk_values.specs.declared.call.Call.{Call}
use Rattle.desk_values.specs.declared.call.Outcome.{Outcome}
use Rattle.desk_values.specs.declared.call.Reply.{Reply}
use Rattle.server_words.specs.Rows.{IsRising, of_table}
use Rattle.server_words.specs.Sound.{IsSoundState}
use Rattle.server_words.specs.State.{State, opening}
use Rattle.server_words.specs.Step.{Gives, committed_in, run, step, with_commit}
use Rattle.machine_stores.specs.Tables.{ArePut, AreTold, AreWithin, IsPut, written}
use Rattle.server_words.proofs.SoundRows.{ascending_rises}
use Rattle.server_words.proofs.SoundSteps.{opening_sound, step_sound}
use Rattle.machine_stores.proofs.Storing.{put_nothing_same, told_after, told_within, within_later}
use Rattle.id_pairs.specs.Pairs.{IdPair}
use Rattle.row_versions.specs.History.{History, Written}
use Rattle.law_replays.proofs.End.Ends.{reply_rises}
use Rattle.txn_engine.specs.Reached.{IsReached}
use Rattle.twin_tables.specs.declared.differences.Differences.{Differences}
use Rattle.twin_tables.specs.Differences.{Follows, stood_at}
use Rattle.twin_tables.specs.Ledger.{nothing_written}
use Rattle.twin_tables.proofs.Keeping.{kept_captured, kept_replayed}
use Rattle.replay_walk.specs.declared.server.Server.{Server}
use Rattle.replay_walk.specs.Inside.Serving.{GoesOn, IsKept, IsTelling, StaysKept, list_in}

-- ---- states that calls lead to are sound

runs_sound : (state : State) (calls : List (ℕ × Call)) → IsSoundState state → IsSoundState (run state calls)
runs_sound state [] sound = sound
runs_sound state (call ∷ calls) sound = runs_sound (step state call.0 call.1) calls (step_sound state call.0 call.1 sound)

pub reached_sound : (state : State) → IsReached state → IsSoundState state
reached_sound state reached = subst IsSoundState (sym reached.3) (runs_sound (opening reached.0) reached.1 (opening_sound reached.0 reached.2))

-- ---- commits

count_after : (commits : List (List Image)) (image : Image) (images : List Image) → length (with_commit commits (image ∷ images)) ≡ length commits + 1
count_after commits image images = length-append commits ((image ∷ images) ∷ [])

-- what is put with the number of the commits there are then is put with the number after those before
pub put_so : (commits : List (List Image)) (images : List Image) (old new : List History) → ArePut (length (with_commit commits images)) images old new → ArePut (length commits + 1) images old new
put_so commits [] old new put = record { count = put.count; each = λ table h within. let one = put.each table h within in record { list = one.list; floor = one.floor } }
put_so commits (image ∷ images) old new put = subst (λ (n : ℕ). ArePut n (image ∷ images) old new) (count_after commits image images) put

grows : (commits : List (List Image)) (images : List Image) → length commits ≤ length (with_commit commits images)
grows commits [] = omega arith
grows commits (image ∷ images) = let n = count_after commits image images in omega (arith, n)

front : (commits : List (List Image)) (images : List Image) (n : ℕ) → n ≤ length commits → take n (with_commit commits images) ≡ take n commits
front commits [] n within = refl
front commits (image ∷ images) n within = take-append-le n commits ((image ∷ images) ∷ []) within

-- ---- what is kept

module _ (pairs : List IdPair) (other : List Written) (n : ℕ) (d : Differences) (count : ℕ) where
  -- one more is written
  captured_push : (list : List Written) (image : Image) → d.captured_at ≤ count → Follows pairs list other d → Follows pairs (list ++ written (count + 1) image ∷ []) other d
  captured_push list image at follows = kept_captured (stood_at pairs list other d) d (written (count + 1) image) follows (omega (arith, at))

  replayed_push : (list : List Written) (image : Image) → d.replayed_at ≤ count → Follows pairs other list d → Follows pairs other (list ++ written (count + 1) image ∷ []) d
  replayed_push list image at follows = kept_replayed (stood_at pairs other list d) d (written (count + 1) image) follows (omega (arith, at))

  -- all images of a commit are
  captured_more : (list : List Written) (images : List Image) → d.captured_at ≤ count → Follows pairs list other d → Follows pairs (list ++ map (written (count + 1)) images) other d
  captured_more list [] at follows = subst (λ (l : List Written). Follows pairs l other d) (sym (append-nil list)) follows
  captured_more list (image ∷ images) at follows =
      subst (λ (l : List Written). Follows pairs l other d) (append_assoc list (written (count + 1) image ∷ []) (map (written (count + 1)) images))
      (captured_more (list ++ written (count + 1) image ∷ []) images at (captured_push list image at follows))

  replayed_more : (list : List Written) (images : List Image) → d.replayed_at ≤ count → Follows pairs other list d → Follows pairs other (list ++ map (written (count + 1)) images) d
  replayed_more list [] at follows = subst (λ (l : List Written). Follows pairs other l d) (sym (append-nil list)) follows
  replayed_more list (image ∷ images) at follows =
      subst (λ (l : List Written). Follows pairs other l d) (append_assoc list (written (count + 1) image ∷ []) (map (written (count + 1)) images))
      (replayed_more (list ++ written (count + 1) image ∷ []) images at (replayed_push list image at follows))

-- ---- a step

module _ (old new : Server) (images : List Image) (commits : new.engine.state.commits ≡ with_commit old.engine.state.commits images)
    (put : ArePut (length old.engine.state.commits + 1) images old.ledgers.items new.ledgers.items) where
  count_more : length old.engine.state.commits ≤ length new.engine.state.commits
  count_more = subst (λ (cs : List (List Image)). length old.engine.state.commits ≤ length cs) (sym commits) (grows old.engine.state.commits images)

  stays : (table : ℕ) → table < length old.ledgers.items → StaysKept old new table
  stays table within pairs other n d =
      let count = length old.engine.state.commits in
      let one : IsPut (count + 1) (of_table table images) (get_or old.ledgers.items table nothing_written) (get_or new.ledgers.items table nothing_written) = put.each table nothing_written within in (
        λ kept. record {
          follows = subst (λ (l : List Written). Follows pairs l other d) (sym one.list) (captured_more pairs other n d count (list_in old.ledgers.items table) (of_table table images) kept.captured_at kept.follows);
          captured_at = (let at = kept.captured_at in omega (arith, at, count_more));
          replayed_at = kept.replayed_at;
        },
        λ kept. record {
          follows = subst (λ (l : List Written). Follows pairs other l d) (sym one.list) (replayed_more pairs other n d count (list_in old.ledgers.items table) (of_table table images) kept.replayed_at kept.follows);
          captured_at = kept.captured_at;
          replayed_at = (let at = kept.replayed_at in omega (arith, at, count_more));
        },
      )

  pub goes_on : GoesOn old new
  goes_on = record {
    count = put.count;
    more = count_more;
    front = λ n within. ap (take n) commits ∙ front old.engine.state.commits images n within;
    kept = stays;
  }

-- the ledgers still tell the tables
module _ (old next : State) (session : ℕ) (call : Call) (reply : Reply) (sound : IsSoundState old) (gives : Gives old session call reply next) (ledgers after : List History)
    (put : ArePut (length next.commits) (committed_in reply.outcome) ledgers after) where
  pub commits_are : next.commits ≡ with_commit old.commits (committed_in reply.outcome)
  commits_are = ap (λ (s : State). s.commits) gives.1 ∙ ap (λ (r : Reply). with_commit old.commits (committed_in r.outcome)) (sym gives.0)

  pub put_is : ArePut (length old.commits + 1) (committed_in reply.outcome) ledgers after
  put_is = put_so old.commits (committed_in reply.outcome) ledgers after (subst (λ (cs : List (List Image)). ArePut (length cs) (committed_in reply.outcome) ledgers after) commits_are put)

  pub told_on : AreTold 0 old.start.rows old.commits ledgers → AreTold 0 next.start.rows next.commits after
  told_on told =
      let start : next.start.rows ≡ old.start.rows = ap (λ (s : State). s.start.rows) gives.1 in
      let up : IsRising old.start.rows = ascending_rises old.start.rows sound.start.sound.sound_rows.rising in
      let on = told_after 0 old.start.rows old.commits (committed_in reply.outcome) ledgers after up (reply_rises old next session call reply sound gives) (omega arith) told put_is in
      subst (λ (rows : List Image). AreTold 0 rows next.commits after) (sym start) (subst (λ (cs : List (List Image)). AreTold 0 old.start.rows cs after) (sym commits_are) on)

-- how the ledgers stand before
pub within_next : (old next : State) (session : ℕ) (call : Call) (reply : Reply) (ledgers : List History) → Gives old session call reply next → AreTold 0 old.start.rows old.commits ledgers → AreWithin (length next.commits) ledgers
within_next old next session call reply ledgers gives told =
    let are : next.commits ≡ with_commit old.commits (committed_in reply.outcome) = ap (λ (s : State). s.commits) gives.1 ∙ ap (λ (r : Reply). with_commit old.commits (committed_in r.outcome)) (sym gives.0) in
    let more = subst (λ (cs : List (List Image)). length old.commits ≤ length cs) (sym are) (grows old.commits (committed_in reply.outcome)) in
    within_later (length old.commits) (length next.commits) ledgers more (told_within 0 old.start.rows old.commits ledgers (omega arith) told)

-- ---- several steps

pub stands_still : (server : Server) → GoesOn server server
stands_still server = record {
  count = refl;
  more = omega arith;
  front = λ n within. refl;
  kept = λ table within pairs other n d. (λ kept. kept, λ kept. kept);
}

pub goes_further : (first mid last : Server) → GoesOn first mid → GoesOn mid last → GoesOn first last
goes_further first mid last one two = record {
  count = two.count ∙ one.count;
  more = omega (arith, one.more, two.more);
  front = λ n within. two.front n (let more = one.more in omega (arith, within, more)) ∙ one.front n within;
  kept = λ table within pairs other n d.
      let a = one.kept table within pairs other n d in
      let b = two.kept table (subst (λ (m : ℕ). table < m) (sym one.count) within) pairs other n d in
      (λ kept. b.0 (a.0 kept), λ kept. b.1 (a.1 kept));
}
