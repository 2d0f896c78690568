-- By which numbers sessions read, and what versions tell once earlier ones are forgotten.
use Rattle.std.proofs.Common.{◌≡◌, ℕ, ◌<◌, ◌≤◌, Bool, true, false, List, [], ◌∷◌, length, length-append, get_or, set, Option, None, Some, refl, sym, subst, ◌∙◌, inl, inr, arith}
use Rattle.std.specs.List.{AllByRecursion}
use Rattle.std.proofs.lemmas.Bool.{cases_lt, le-ltb, lt-ltb}
use Rattle.desk_values.specs.declared.value.Image.{Image}
use Rattle.row_versions.specs.History.{History, IsPartOf, Written}
use Rattle.machine_stores.specs.declared.index.KeyIndex.{KeyIndex}
use Rattle.server_words.specs.declared.session.Session.{Session}
use Rattle.server_words.specs.Answer.{Answer}
use Rattle.server_words.specs.State.{State, disconnected}
use Rattle.server_words.specs.Step.{after, committed_in, session_after, snapshot_after, with_commit}
use Rattle.machine_stores.specs.Index.{AreIndexes}
use Rattle.machine_stores.specs.Tables.{AreForgot, AreFrom, AreTold, count_seen, is_within, least_seen}
use Rattle.server_words.proofs.Members.{each_set, one_of}
use Rattle.row_versions.proofs.Needing.{whole_part}
use Rattle.machine_stores.proofs.Storing.{count_most}

-- ---- by which numbers sessions read

-- the snapshot is at this number or a later one, where there is one
abbrev pub ReadsFrom : ℕ → Option ℕ → Type 0
ReadsFrom low None = Unit {0}
ReadsFrom low (Some n) = low ≤ n

abbrev SessionReadsFrom : ℕ → Session → Type 0
SessionReadsFrom low session = ReadsFrom low session.snapshot

seen_most : (n count : ℕ) → count_seen (Some n) count ≤ n
seen_most n count = elim (cases_lt n count) [
  | inl below ↦ rw (lt-ltb n count below) (omega arith)
  | inr above ↦ rw (le-ltb n count above) above
]

from_count : (low count : ℕ) (snapshot : Option ℕ) → low ≤ count → ReadsFrom low snapshot → low ≤ count_seen snapshot count
from_count low count None le reads = le
from_count low count (Some n) le reads = elim (cases_lt n count) [
  | inl below ↦ rw (lt-ltb n count below) reads
  | inr above ↦ rw (le-ltb n count above) le
]

pub least_most : (count : ℕ) (sessions : List Session) → least_seen count sessions ≤ count
least_most count [] = omega arith
least_most count (s ∷ sessions) = omega (arith, least_most (count_seen s.snapshot count) sessions, count_most s.snapshot count)

least_each : (count : ℕ) (sessions : List Session) → AllByRecursion (SessionReadsFrom (least_seen count sessions)) sessions
least_each count [] = tt
least_each count (s ∷ sessions) = (first s.snapshot refl, least_each (count_seen s.snapshot count) sessions)
  where
    first : (snapshot : Option ℕ) → s.snapshot ≡ snapshot → ReadsFrom (least_seen (count_seen s.snapshot count) sessions) s.snapshot
    first None is = subst (ReadsFrom (least_seen (count_seen s.snapshot count) sessions)) (sym is) tt
    first (Some n) is =
        let most : least_seen (count_seen s.snapshot count) sessions ≤ count_seen s.snapshot count = least_most (count_seen s.snapshot count) sessions in
        let own : count_seen s.snapshot count ≤ n = subst (λ (o : Option ℕ). count_seen o count ≤ n) (sym is) (seen_most n count) in
        let le : least_seen (count_seen s.snapshot count) sessions ≤ n = omega arith in
        subst (ReadsFrom (least_seen (count_seen s.snapshot count) sessions)) (sym is) le

least_from : (low count : ℕ) (sessions : List Session) → low ≤ count → AllByRecursion (SessionReadsFrom low) sessions → low ≤ least_seen count sessions
least_from low count [] le all = le
least_from low count (s ∷ sessions) le all = least_from low (count_seen s.snapshot count) sessions (from_count low count s.snapshot le all.0) all.1

module _ (count : ℕ) (sessions : List Session) (session : ℕ) where
  own_reads : ReadsFrom (least_seen count sessions) (get_or sessions session disconnected).snapshot
  own_reads = one_of (SessionReadsFrom (least_seen count sessions)) sessions session disconnected tt (least_each count sessions)

  -- a session sees the least or more
  pub least_seen_by : least_seen count sessions ≤ count_seen (get_or sessions session disconnected).snapshot count
  least_seen_by = from_count (least_seen count sessions) count (get_or sessions session disconnected).snapshot (least_most count sessions) own_reads

  next_reads : (only : Bool) (snapshot : Option ℕ) → ReadsFrom (least_seen count sessions) snapshot → ReadsFrom (least_seen count sessions) (snapshot_after only snapshot count)
  next_reads false snapshot reads = tt
  next_reads true None reads = least_most count sessions
  next_reads true (Some n) reads = reads

  pub least_next : (a : Answer) (later : ℕ) → count ≤ later → least_seen count sessions ≤ least_seen later (set sessions session (session_after (get_or sessions session disconnected) count a))
  least_next a later le =
      let left = session_after (get_or sessions session disconnected) count a in
      least_from (least_seen count sessions) later (set sessions session left) (omega (arith, least_most count sessions))
      (each_set (SessionReadsFrom (least_seen count sessions)) sessions session left (next_reads a.reads_only (get_or sessions session disconnected).snapshot own_reads) (least_each count sessions))

-- ---- what is told afterwards

fewer_within : (number : ℕ) (new old : List Written) → IsPartOf new old → AllByRecursion (is_within number) old → AllByRecursion (is_within number) new
fewer_within number [] old part all = tt
fewer_within number (w ∷ new) [] part all = absurd part
fewer_within number (w ∷ new) (v ∷ old) (inl p) all = (subst (is_within number) (sym p.0) all.0, fewer_within number new old p.1 all.1)
fewer_within number (w ∷ new) (v ∷ old) (inr p) all = fewer_within number (w ∷ new) old p all.1

pub told_forgot : (low later : ℕ) (start : List Image) (commits : List (List Image)) (old new : List History) → low ≤ later → AreForgot later old new → AreTold low start commits old → AreTold later start commits new
told_forgot low later start commits old new le forgot told table h within =
    let there : table < length old = subst (λ (n : ℕ). table < n) forgot.count within in
    let each = forgot.each table h there in
    let was = told table h there in
    record {
      floor = each.floor;
      list = fewer_within (length commits) (get_or new table h).list (get_or old table h).list each.fewer was.list;
      each = λ row n from to. each.reads row n from ∙ was.each row n (omega arith) to;
    }

pub indexes_forgot : (indexes : List KeyIndex) (number later : ℕ) (old new : List History) → later ≤ number → AreForgot later old new → AreIndexes indexes old number [] → AreIndexes indexes new number []
indexes_forgot indexes number later old new le forgot are table i h some within kept image at none =
    let there : table < length old = subst (λ (n : ℕ). table < n) forgot.count within in
    are table i h some there kept image (sym ((forgot.each table h there).reads image.row number le) ∙ at) none

pub forgot_same : (number : ℕ) (tables : List History) → AreFrom number tables → AreForgot number tables tables
forgot_same number tables floors = record { count = refl; each = λ table h within. record { reads = λ row later le. refl; fewer = whole_part (get_or tables table h).list; floor = floors table h within } }

pub floors_told : (low later : ℕ) (start : List Image) (commits : List (List Image)) (tables : List History) → low ≤ later → AreTold low start commits tables → AreFrom later tables
floors_told low later start commits tables le told table h within = omega (arith, (told table h within).floor)

-- a step goes on to read by what it read by, or later
pub least_after : (state : State) (session : ℕ) (a : Answer) → least_seen (length state.commits) state.sessions ≤ least_seen (length (after state session a).commits) (after state session a).sessions
least_after state session a = least_next (length state.commits) state.sessions session a (length (with_commit state.commits (committed_in a.reply.outcome))) (more state.commits (committed_in a.reply.outcome))
  where
    more : (commits : List (List Image)) (changes : List Image) → length commits ≤ length (with_commit commits changes)
    more commits [] = omega arith
    more commits (change ∷ changes) = omega (arith, length-append commits ((change ∷ changes) ∷ []))
