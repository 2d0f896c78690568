-- When the calls that a call requires are answered, by the marks.
use Rattle.std.proofs.Common.{◌≡◌, ℕ, ◌<◌, ◌≤◌, Bool, true, false, List, length, take, refl, sym, ap, ◌∙◌, zero-add, arith, inl, inr, cond, [], ◌∷◌, zero, suc, replicate}
use Rattle.std.specs.Prelude.{◌↔◌, ◌⊎◌, count_by}
use Rattle.std.specs.Ordering.{nat_cmp}
use Rattle.std.specs.BTreeMap.{get}
use Rattle.std.proofs.lemmas.List.{get_or-replicate, get_or_past, length-replicate}
use Rattle.std.proofs.lemmas.Bool.{false≢true, both_ways, cases_Bool, cases_lt, and_parts, and_from}
use Rattle.std.proofs.lemmas.List.Sums.{sum_by-cons}
use Rattle.replay_history.specs.declared.mode.Mode.{Mode}
use Rattle.replay_history.specs.declared.mode.Mode.TheVariants.{Scn, Object, Order, Fence}
use Rattle.object_depends.specs.declared.fact.Fact.{Fact}
use Rattle.object_depends.specs.Facts.{fact_at, is_commit, AreSound}
use Rattle.object_depends.specs.Inside.{awaits}
use Rattle.object_depends.proofs.Sound.{required_before, required_awaited, awaited_required}
use Rattle.object_depends.proofs.Sharing.{shares_from, shares_some}
use Rattle.commit_gate.specs.declared.mark.Watch.{Watch}
use Rattle.commit_gate.specs.declared.mark.Watch.TheVariants.{Every, Commits, Table}
use Rattle.commit_gate.specs.declared.mark.Mark.{Mark}
use Rattle.commit_gate.specs.declared.gate.Gate.TheInside.{Inside}
use Rattle.commit_gate.specs.Inside.Heads.{IsHead, AreFirstHeads, AreNexts}
use Rattle.commit_gate.specs.Inside.Marks.{IsMark, mark_at, AreTableMarks, AreTablesPassed}
use Rattle.commit_gate.specs.Inside.Gate.{IsGate}
use Rattle.commit_gate.specs.View.{view_of}
use Rattle.commit_gate.specs.Gates.{AreRequiredAnswered, IsReady, GateView, IsFirstOpen, front, is_in, watches}
use Rattle.commit_gate.proofs.Sessions.{turn_by_head, first_are_heads}

-- each watched call below a stamp is answered exactly where the mark is at that stamp or above it
passed_from : (watch : Watch) (facts : List Fact) (answered : List Bool) (mark : Mark) → IsMark watch facts answered mark → (k : ℕ) → k ≤ length facts → ((j : ℕ) → j < k → watches watch (fact_at facts j) ≡ true → is_in answered j ≡ true) → k ≤ mark.at
passed_from watch facts answered mark is k le all =
    elim (cases_lt mark.at k) [
      | inl lt ↦ let here = is.here (omega arith) in absurd (both_ways (is_in answered mark.at) here.1 (all mark.at lt here.0))
      | inr over ↦ over
    ]

-- where the mode awaits just what the mark watches, one mark is enough
by_mark : (mode : Mode) (watch : Watch) (facts : List Fact) (answered : List Bool) (mark : Mark) (k : ℕ) → ((j : ℕ) → awaits mode (fact_at facts k) (fact_at facts j) ≡ watches watch (fact_at facts j)) → AreSound facts → IsMark watch facts answered mark → k < length facts → (k ≤ mark.at) ↔ AreRequiredAnswered mode facts answered k
by_mark mode watch facts answered mark k same sound is lt = (
  λ passed j required. let less = required_before mode facts sound k j lt required in is.passed.below j (omega arith) (sym (same j) ∙ required_awaited mode facts k j required),
  λ all. passed_from watch facts answered mark is k (omega arith) (λ j less watched. all j (awaited_required mode facts sound k j lt less (same j ∙ watched))),
)

by_tables : (facts : List Fact) (answered : List Bool) (marks : List Mark) → AreSound facts → AreTableMarks facts answered marks 32 → (k : ℕ) → k < length facts → AreTablesPassed marks (fact_at facts k).refs k ↔ AreRequiredAnswered Object facts answered k
by_tables facts answered marks sound are k lt = (
  λ passed j required.
      let awaited = and_parts _ _ (required_awaited Object facts k j required) in
      let some = shares_some (fact_at facts j).writes (fact_at facts k).refs 32 awaited.1 in
      let less = required_before Object facts sound k j lt required in
      let up = passed some.0 some.1 some.3 in
      (are some.0 some.1).passed.below j (omega arith) (and_from _ _ awaited.0 some.2),
  λ all table small referenced.
      passed_from (Table table) facts answered (mark_at marks table) (are table small) k (omega arith)
      (λ j less watched.
      let parts = and_parts _ _ watched in
      let shared = shares_from (fact_at facts j).writes (fact_at facts k).refs 32 table small (and_from _ _ parts.1 referenced) in
      all j (awaited_required Object facts sound k j lt less (and_from _ _ parts.0 shared))),
)

pub by_scn : (a : Inside) → IsGate a → (k : ℕ) → k < length a.facts → (k ≤ a.commits.at) ↔ AreRequiredAnswered Scn a.facts a.answered.items k
by_scn a is k lt = by_mark Scn Commits a.facts a.answered.items a.commits k (λ j. refl) is.sound is.commits lt

pub by_object : (a : Inside) → IsGate a → (k : ℕ) → k < length a.facts → AreTablesPassed a.tables.items (fact_at a.facts k).refs k ↔ AreRequiredAnswered Object a.facts a.answered.items k
by_object a is k lt = by_tables a.facts a.answered.items a.tables.items is.sound is.tables k lt

pub by_order : (a : Inside) → IsGate a → (k : ℕ) → k < length a.facts → (k ≤ a.every.at) ↔ AreRequiredAnswered Order a.facts a.answered.items k
by_order a is k lt = by_mark Order Every a.facts a.answered.items a.every k (λ j. refl) is.sound is.every lt

pub by_fence : (a : Inside) → IsGate a → (k : ℕ) → k < length a.facts → is_commit (fact_at a.facts k) ≡ true → (k ≤ a.every.at) ↔ AreRequiredAnswered Fence a.facts a.answered.items k
by_fence a is k lt commit = by_mark Fence Every a.facts a.answered.items a.every k (λ j. rw commit refl) is.sound is.every lt

pub by_fence_seen : (a : Inside) → IsGate a → (k : ℕ) → k < length a.facts → is_commit (fact_at a.facts k) ≡ false → (k ≤ a.commits.at) ↔ AreRequiredAnswered Fence a.facts a.answered.items k
by_fence_seen a is k lt none = by_mark Fence Commits a.facts a.answered.items a.commits k (λ j. rw none refl) is.sound is.commits lt

-- a gate is never stuck
pub first_is_ready : (gate : GateView) → AreSound gate.facts → (k : ℕ) → IsFirstOpen gate k → (is_in gate.started k ≡ true) ⊎ IsReady gate k
first_is_ready gate sound k first =
    elim (cases_Bool (is_in gate.started k)) [
      | inl is ↦ inl is
      | inr not ↦
          inr
          (record {
            stamp = first.stamp;
            fresh = not;
            turn = λ j before. first.least j before.below;
            required = λ j required. first.least j (required_before gate.mode gate.facts sound k j first.stamp required);
          })
    ]

-- how many watched calls are answered before the first that is not
pub front_is : (test : Fact → Bool) (facts : List Fact) (answered : List Bool) (at : ℕ) → length answered ≡ length facts → at ≤ length facts → ((j : ℕ) → j < at → test (fact_at facts j) ≡ true → is_in answered j ≡ true) → (at < length facts → (test (fact_at facts at) ≡ true) × (is_in answered at ≡ false)) → count_by test (take at facts) ≡ front test facts answered
front_is test [] answered zero len within below here = refl
front_is test [] answered (suc at) len within below here = refl
front_is test (fact ∷ facts) [] at len within below here = absurd (omega arith)
front_is test (fact ∷ facts) (done ∷ answered) zero len within below here =
    let is = here (omega arith) in
    let watched : test fact ≡ true = is.0 in
    let not : done ≡ false = is.1 in
    rw (watched, not) refl
front_is test (fact ∷ facts) (done ∷ answered) (suc at) len within below here =
    let more = front_is test facts answered at (omega arith) (omega arith) (λ j lt watched. below (suc j) (omega arith) watched) (λ lt. here (omega arith)) in
    elim (cases_Bool (test fact)) [
      | inl watched ↦ let passed : done ≡ true = below 0 (omega arith) watched in rw (sum_by-cons (λ x. cond (test x) 1 0) fact (take at facts), watched, passed, more) refl
      | inr not ↦ rw (sum_by-cons (λ x. cond (test x) 1 0) fact (take at facts), not, more) (zero-add _)
    ]

pub front_is_kind : (watch : Watch) (facts : List Fact) (answered : List Bool) (mark : Mark) → length answered ≡ length facts → IsMark watch facts answered mark → mark.count ≡ front (watches watch) facts answered
front_is_kind watch facts answered mark len is = is.passed.counted ∙ front_is (watches watch) facts answered mark.at len is.passed.within is.passed.below is.here

-- the mark of every call is at the first open one
pub first_by_mark : (a : Inside) → IsGate a → a.every.at < length a.facts → IsFirstOpen (view_of a) a.every.at
first_by_mark a is lt = record { stamp = lt; unanswered = (is.every.here lt).1; least = λ j less. is.every.passed.below j less refl }

-- the only call of a session that can be ready is the first that is not answered
pub ready_at_head : (a : Inside) → IsGate a → (k at : ℕ) → IsHead a.facts a.answered.items (fact_at a.facts k).session at → IsReady (view_of a) k → k ≡ at
ready_at_head a is k at head ready =
    let up = (turn_by_head a.facts a.started.items a.answered.items k at head is.order ready.stamp).1 ready.turn in
    elim (cases_lt k at) [
      | inl lt ↦ absurd (both_ways (is_in a.started.items k) ready.fresh (is.order.after k (head.below k lt refl)))
      | inr over ↦ omega arith
    ]

none_in : (n k : ℕ) → is_in (replicate n false) k ≡ true → ⊥
none_in n k is =
    elim (cases_lt k n) [
      | inl lt ↦ false≢true (sym (get_or-replicate n k false false lt) ∙ is)
      | inr over ↦ false≢true (sym (get_or_past (replicate n false) k false (omega (arith, length-replicate n false))) ∙ is)
    ]

-- a gate where no call is started
pub fresh_is_gate : (a : Inside) → AreSound a.facts → length a.facts ≤ 100000 → a.started.items ≡ replicate (length a.facts) false → a.answered.items ≡ replicate (length a.facts) false → length a.nexts.items ≡ length a.facts → IsMark Every a.facts a.answered.items a.every → IsMark Commits a.facts a.answered.items a.commits → length a.tables.items ≡ 32 → AreTableMarks a.facts a.answered.items a.tables.items 32 → AreFirstHeads a.facts (get nat_cmp a.heads) 0 → AreNexts a.facts a.nexts.items 0 → IsGate a
fresh_is_gate a sound few started answered nexts_len every commits tables_len tables heads nexts =
    let none_started : (k : ℕ) → is_in a.started.items k ≡ true → ⊥ = λ k is. none_in (length a.facts) k (ap (λ xs. is_in xs k) (sym started) ∙ is) in
    let none_answered : (k : ℕ) → is_in a.answered.items k ≡ true → ⊥ = λ k is. none_in (length a.facts) k (ap (λ xs. is_in xs k) (sym answered) ∙ is) in
    record {
      few = few;
      sound = sound;
      started_len = ap length started ∙ length-replicate (length a.facts) false;
      answered_len = ap length answered ∙ length-replicate (length a.facts) false;
      nexts_len = nexts_len;
      every = every;
      commits = commits;
      tables_len = tables_len;
      tables = tables;
      heads = rw answered (first_are_heads a.facts (get nat_cmp a.heads) heads);
      nexts = nexts;
      order = record { after = λ j is. absurd (none_answered j is); turn = λ i j less same is. absurd (none_started j is) };
      required = λ k is. absurd (none_started k is);
    }
