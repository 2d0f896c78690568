-- From the tests that pass to a plan, and what a plan is: a legal capture with sound facts.
use Rattle.std.proofs.Common.{◌≡◌, ℕ, ◌+◌, ◌<◌, ◌≤◌, List, [], ◌∷◌, length, refl, sym, ap, subst, ◌∙◌, arith, suc, Bool, true, false, map, get_or, ◌++◌, take}
use Rattle.std.specs.Prelude.{Option, None, Some, Result, Ok, option_map, slice_get, nat_le}
use Rattle.std.specs.List.{AllByRecursion, list_any}
use Rattle.std.proofs.lemmas.List.Elements.{All-from_recursion, recursion_from_All}
use Rattle.std.proofs.lemmas.List.Sorted.{All-permutation}
use Rattle.std.proofs.lemmas.Bool.{eqb-true, leb-true, or_parts, and_parts, not-true}
use Rattle.std.proofs.lemmas.List.{length-map, map-append}
use Rattle.desk_values.specs.declared.capture.Captured.{Captured}
use Rattle.capture_format.specs.SessionFile.{AreCallsFrom}
use Rattle.object_depends.specs.declared.fact.Fact.{Fact}
use Rattle.captured_calls.specs.Sessions.{AreSessionsFrom}
use Rattle.captured_calls.specs.Stamps.{HasEach, all_calls, by_stamp}
use Rattle.captured_calls.proofs.Members.{some_is, each_get}
use Rattle.captured_calls.proofs.Permuted.{stamped_are_all}
use Rattle.captured_calls.proofs.Stamping.{by_stamp_len, has_each, stamp_is}
use Rattle.captured_calls.specs.declared.refusal.Refusal.{Refusal}
use Rattle.captured_calls.specs.declared.refusal.Refusal.TheVariants.{Stamp}
use Rattle.captured_calls.specs.Inside.{IsFit}
use Rattle.captured_calls.specs.Tests.{bad_stamp, bad_ids, bad_number, bad_reply, bad_seen, bad_times, first_refused, unless, asked, too_many}
use Rattle.captured_calls.specs.Verdict.{Preparation, fault_of, IsLegal, or_else, verdict, verdict_of}
use Rattle.desk_schema.specs.Schema.{SchemaView}
use Rattle.desk_schema.specs.Start.{StartView}
use Rattle.object_depends.specs.Facts.{AreSound, no_fact}
use Rattle.captured_calls.specs.Numbered.{AreKnown, AreNumbered}
use Rattle.captured_calls.proofs.Scanning.{both_none, none_told}
use Rattle.captured_calls.proofs.Sound.{known_sound}
use Rattle.captured_calls.specs.Facts.{fact_of, facts_of}
use Rattle.desk_values.specs.declared.value.Value.{Value}
use Rattle.desk_values.specs.declared.value.Image.{Image}
use Rattle.desk_values.specs.Good.{IsGoodReply}
use Rattle.desk_values.specs.declared.call.Call.{Call}
use Rattle.server_words.specs.State.{State, opening}
use Rattle.server_words.specs.Step.{Gives, reply_in, run, step}
use Rattle.replay_history.specs.Capture.{FitsIn, IsKnown, IsRun, binds_of}
use Rattle.replay_history.specs.Gap.{IsCallAt}
use Rattle.captured_calls.specs.Known.{ids_known, is_stranger}
use Rattle.captured_calls.specs.Stamped.{ArePlaced}
use Rattle.captured_calls.proofs.Following.{follows}
use Rattle.captured_calls.proofs.Places.{place_is}
use Rattle.captured_calls.proofs.Sameness.{reply_is}
use Rattle.captured_calls.proofs.Strangers.{known_tells}
use Rattle.replay_history.specs.Limits.{call_limit}
use Rattle.capture_format.proofs.Cuts.{all_append, all_weaker}

fit_calls : (session place least : ℕ) (calls : List Captured) → session < 64 → AreCallsFrom session place least calls → AllByRecursion IsFit calls
fit_calls session place least [] lt are = tt
fit_calls session place least (call ∷ calls) lt are = (record { session = omega (arith, lt, are.0.session_is); reply = are.0.reply }, fit_calls session (place + 1) (call.stamp + 1) calls lt are.1)

pub fit_lists : (session : ℕ) (lists : List (List Captured)) → session + length lists ≤ 64 → AreSessionsFrom session lists → AllByRecursion IsFit (all_calls lists)
fit_lists session [] few are = tt
fit_lists session (calls ∷ lists) few are = all_append IsFit calls (all_calls lists) (fit_calls session 0 0 calls (omega (arith, few)) are.0) (fit_lists (session + 1) lists (omega (arith, few)) are.1)

nothing_bad : (o : Option ℕ) → option_map Stamp o ≡ None → o ≡ None
nothing_bad None e = refl
nothing_bad (Some n) e = cc

pub all_stamped : (calls : List Captured) → bad_stamp calls ≡ None → HasEach calls
all_stamped calls none = has_each calls (nothing_bad _ none)

pub fit_by_stamp : (calls : List Captured) → HasEach calls → AllByRecursion IsFit calls → AllByRecursion IsFit (by_stamp calls)
fit_by_stamp calls has fit = recursion_from_All IsFit (by_stamp calls) (All-permutation IsFit calls (by_stamp calls) (stamped_are_all calls has) (All-from_recursion IsFit calls fit))

pub unless_none : (b : Bool) (refusal : Refusal) → unless b refusal ≡ None → b ≡ true
unless_none true refusal e = refl
unless_none false refusal e = cc

pub record Passes (start : StartView) (calls : List Captured) : Type 0 where
  pub numbers : first_refused bad_number [] calls ≡ None
  pub seen : first_refused bad_seen [] calls ≡ None
  pub times : first_refused bad_times [] calls ≡ None
  pub ids : first_refused (bad_ids start.rows) [] calls ≡ None
  pub replies : first_refused (bad_reply start) [] calls ≡ None

pub passes_all : (start : StartView) (calls : List Captured) → fault_of start calls ≡ None → Passes start calls
passes_all start calls none =
    let one = both_none (first_refused bad_number [] calls) _ none in
    let two = both_none (first_refused bad_seen [] calls) _ one.1 in
    let three = both_none (first_refused bad_times [] calls) _ two.1 in
    let four = both_none (first_refused (bad_ids start.rows) [] calls) _ three.1 in
    record { numbers = one.0; seen = two.0; times = three.0; ids = four.0; replies = four.1 }

pub numbered : (start : StartView) (calls : List Captured) → Passes start calls → AreNumbered calls
numbered start calls passes k call there = (eqb-true _ _ (unless_none _ _ (none_told bad_seen [] calls passes.seen k call there)), eqb-true _ _ (unless_none _ _ (none_told bad_number [] calls passes.numbers k call there)))

mapped_get : {X Y : Type 0} (f : X → Y) (xs : List X) (k : ℕ) (x : X) (d : Y) → slice_get xs k ≡ Some x → get_or (map f xs) k d ≡ f x
mapped_get f [] k x d there = cc
mapped_get f (y ∷ ys) Prim.Native.Nat.zero x d there = ap f (some_is there)
mapped_get f (y ∷ ys) (suc k) x d there = mapped_get f ys k x d there

pub facts_known : (schema : SchemaView) (calls : List Captured) → AreKnown calls (facts_of schema calls)
unfolding facts_of
facts_known schema calls = record {
  count = length-map calls (fact_of schema);
  each = λ k call there. (let at = mapped_get (fact_of schema) calls k call no_fact there in (ap (λ (f : Fact). f.seen) at, ap (λ (f : Fact). f.number) at));
}

pub facts_sound : (start : StartView) (schema : SchemaView) (calls : List Captured) → Passes start calls → AreSound (facts_of schema calls)
facts_sound start schema calls passes = known_sound calls (facts_of schema calls) (numbered start calls passes) (facts_known schema calls)

pub run_more : (state : State) (calls : List (ℕ × Call)) (session : ℕ) (call : Call) → run state (calls ++ (session, call) ∷ []) ≡ step (run state calls) session call
run_more state [] session call = refl
run_more state (first ∷ calls) session call = run_more (step state first.0 first.1) calls session call

runs : (start : StartView) (before calls : List Captured) → first_refused (bad_reply start) before calls ≡ None → (last : State) × IsRun Gives (run (opening start) (asked before)) calls last
runs start before [] none = (run (opening start) (asked before), refl)
runs start before (call ∷ calls) none =
    let two = both_none (bad_reply start before call) _ none in
    let state = run (opening start) (asked before) in
    let right = reply_in state call.session call.call in
    let same : call.reply ≡ right = reply_is call.reply right (unless_none _ _ two.0) in
    let next : run (opening start) (asked (before ++ call ∷ [])) ≡ step state call.session call.call = ap (run (opening start)) (map-append (λ (c : Captured). (c.session, c.call)) before (call ∷ [])) ∙ run_more (opening start) (asked before) call.session call.call in
    let rest = runs start (before ++ call ∷ []) calls two.1 in
    (rest.0, (run (opening start) (asked (before ++ call ∷ [])), (same, next), rest.1))

known_each : (rows : List Image) (calls : List Captured) (k : ℕ) → AllByRecursion IsFit calls → (values : List Value) → list_any (is_stranger (ids_known rows (take k calls))) values ≡ false → AllByRecursion (IsKnown rows calls k) values
known_each rows calls k fit [] none = tt
known_each rows calls k fit (v ∷ values) none =
    let two = or_parts (is_stranger (ids_known rows (take k calls)) v) _ none in
    ((known_tells rows calls (all_weaker IsFit (λ (call : Captured). IsGoodReply call.reply) (λ call is. is.reply) calls fit) k v).0 two.0, known_each rows calls k fit values two.1)

pub legal : (start : StartView) (lists : List (List Captured)) → AreSessionsFrom 0 lists → AllByRecursion IsFit (by_stamp (all_calls lists)) → length (by_stamp (all_calls lists)) ≤ 100000 → bad_stamp (all_calls lists) ≡ None → Passes start (by_stamp (all_calls lists)) → IsLegal start (by_stamp (all_calls lists))
legal start lists are fit few stamps passes = record { count = few; each = each; replies = runs start [] calls passes.replies }
  where
    calls : List Captured
    calls = by_stamp (all_calls lists)

    has : HasEach (all_calls lists)
    has = all_stamped (all_calls lists) stamps

    placed : ArePlaced calls
    placed = place_is lists are has

    each : (k : ℕ) (call : Captured) → IsCallAt calls k call → FitsIn start.rows calls k call
    each k call there =
        let times = and_parts (nat_le call.began call.ended) _ (unless_none _ _ (none_told bad_times [] calls passes.times k call there)) in
        record {
          stamp = stamp_is (all_calls lists) has k call there;
          session = (each_get IsFit calls k call fit there).session;
          place = placed k call there;
          number = (numbered start calls passes k call there).1;
          seen = (numbered start calls passes k call there).0;
          ends = leb-true _ _ times.0;
          follows = follows calls k call placed (placed k call there) (leb-true _ _ times.1);
          known = known_each start.rows calls k fit (binds_of call.call) (not-true _ (unless_none _ _ (none_told (bad_ids start.rows) [] calls passes.ids k call there)));
        }

pub passed : (fault : Option Refusal) (others : Result Preparation Refusal) (plan : Preparation) → or_else fault others ≡ Ok plan → (fault ≡ None) × (others ≡ Ok plan)
passed None others plan is = (refl, is)
passed (Some fault) others plan is = cc

pub ok_is : {X : Type 0} (a b : X) → ◌≡◌ {A = Result X Refusal} (Ok a) (Ok b) → b ≡ a
ok_is a b e = cc

module _ (start : StartView) (lists : List (List Captured)) (plan : Preparation) (is : verdict start lists ≡ Ok plan) where
  abbrev pub calls : List Captured
  calls = by_stamp (all_calls lists)

  few : (too_many (all_calls lists) ≡ None) × (or_else (bad_stamp (all_calls lists)) (verdict_of start calls) ≡ Ok plan)
  unfolding verdict
  few = passed (too_many (all_calls lists)) (or_else (bad_stamp (all_calls lists)) (verdict_of start calls)) plan is

  stamps : (bad_stamp (all_calls lists) ≡ None) × (or_else (fault_of start calls) (Ok (record { calls = calls; facts = facts_of start.schema calls })) ≡ Ok plan)
  stamps = passed (bad_stamp (all_calls lists)) (verdict_of start calls) plan few.1

  tests : (fault_of start calls ≡ None) × (◌≡◌ {A = Result Preparation Refusal} (Ok (record { calls = calls; facts = facts_of start.schema calls })) (Ok plan))
  tests = passed (fault_of start calls) _ plan stamps.1

  plan_is : plan ≡ record { calls = calls; facts = facts_of start.schema calls }
  plan_is = ok_is _ plan tests.1

  pub plan_calls : plan.calls ≡ calls
  plan_calls = ap (λ (p : Preparation). p.calls) plan_is

  pub has : HasEach (all_calls lists)
  has = all_stamped (all_calls lists) stamps.0

  pub plan_few : length plan.calls ≤ 100000
  plan_few = omega (arith, leb-true (length (all_calls lists)) call_limit (unless_none _ _ few.0), by_stamp_len (all_calls lists) has, ap length plan_calls)

  pub plan_legal : AreSessionsFrom 0 lists → length lists ≤ 64 → IsLegal start plan.calls
  plan_legal are count =
      subst (IsLegal start) (sym plan_calls) (legal start lists are (fit_by_stamp (all_calls lists) has (fit_lists 0 lists (omega (arith, count)) are)) (omega (arith, plan_few, ap length plan_calls)) stamps.0 (passes_all start calls tests.0))

  pub plan_sound : AreSound plan.facts
  plan_sound = subst AreSound (sym (ap (λ (p : Preparation). p.facts) plan_is)) (facts_sound start start.schema calls (passes_all start calls tests.0))

  pub plan_facts : length plan.facts ≡ length plan.calls
  plan_facts = ap (λ (p : Preparation). length p.facts) plan_is ∙ (facts_known start.schema calls).count ∙ sym (ap length plan_calls)
