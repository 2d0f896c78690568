-- The whole service, put together.
use Rattle.std.proofs.Common.{◌≡◌, ◌∙◌, ℕ, suc, ◌+◌, ◌≤◌, inl, inr, Bool, true, List, [], ◌∷◌, ◌++◌, length, map, min, Option, Some, None, IsSomeAnd, Result, Ok, Err, IfOk, refl, sym, ap, subst, arith, slice_get, if◌then◌else◌}
use Rattle.std.specs.Prelude.{count_by, false, is_err, not, IfErr}
use Rattle.std.specs.List.{AllByRecursion}
use mathlib.Core.Bool.{true≢false}
use Rattle.std.proofs.lemmas.List.{append-nil, length-append, length-map}
use Rattle.std.proofs.lemmas.Result.{IfErr-weaker, IfOk-at_ok, IfOk-weaker}
use Rattle.std.proofs.lemmas.List.Folds.{fold-map}
use Rattle.desk_files.specs.Answers.{print_ending}
use Rattle.desk_files.specs.declared.fault.Failed.{Failed}
use Rattle.desk_files.specs.Outside.{Counts, Ending, Told, risen_by}
use Rattle.desk_files.specs.Hosts.{Connections, Handed, Returned, after_listen}
use Rattle.desk_values.specs.declared.memory.Memory.{Memory}
use Rattle.desk_schema.specs.Start.{StartView}
use Rattle.capture_recorder.specs.declared.door.Said.{Said}
use Rattle.capture_recorder.specs.declared.door.Turned.{Turned}
use Rattle.capture_recorder.specs.Agreement.{IsBorneOut}
use Rattle.capture_recorder.specs.declared.gathering.GatherErr.{GatherErr}
use Rattle.capture_recorder.specs.declared.gathering.GatherErr.TheVariants as gather
use Rattle.capture_recorder.specs.Gathering.{Gathers, kept_in, said_in}
use Rattle.capture_recorder.specs.Recording.{IsRecording, Recording}
use Rattle.capture_http.specs.declared.conn_end.ConnEnd.{ConnEnd}
use Rattle.capture_serve.specs.Connections.{EachFrom, IsConnection, IsGivenBack, comes}
use Rattle.capture_serve.specs.Service.{AreAllGivenBack, AreGivenBack, AreServed, CaptureView, HasGivenBack, HasGivenBackAll, HasLost, IsHandedBack, IsService, is_short}
use Rattle.capture_serve.specs.Failing.{Fails, GivesBack, err_of, serve_ending}
use Rattle.capture_serve.specs.declared.failing.ServeErr.{ServeErr}
use Rattle.capture_serve.specs.declared.halt.Halt.{Halt}
use Rattle.capture_serve.specs.declared.failing.ServeErr.TheVariants as serve
use Rattle.capture_serve.specs.declared.returning.Notes.{Notes}
use Rattle.capture_serve.specs.Inside.Passing.{AreBack, AreClosed, Came, Connected, Gave, HasNoted, IsCapturedOf, IsFaultless, IsOutcome, IsPassed, IsPlain, Moment, Passed, PassedThrough, Took, arrivals_from, halt_ending, moment_of}
use Rattle.capture_serve.specs.Inside.Handing.{HasReturned, HasTaken}
use Rattle.capture_serve.proofs.Going.{GaveSo, LostSo}

abbrev said_after : Passed → List Said
said_after p = p.after.said

abbrev turned_after : Passed → List Turned
turned_after p = p.after.turned

abbrev end_of : Passed → ConnEnd
end_of p = p.end

given_one : (n : ℕ) (p : Passed) (sent : List ℕ) (back : Returned) → IsPassed p → moment_of p ≡ record { session = n; ends = comes sent } → AreBack (p ∷ []) (back ∷ []) → IsGivenBack n sent p.end back
given_one n p sent back passed came given = record {
  input_faults = p.after.input_faults;
  output_faults = p.after.output_faults;
  said = p.after.said;
  turned = p.after.turned;
  conversation = rw (← session, ← before, ← given.0, ← given.1) passed;
  failed = given.2;
} where
  session : p.session ≡ n
  session = ap (λ (m : Moment). m.session) came

  before : p.before ≡ comes sent
  before = ap (λ (m : Moment). m.ends) came

given_each : (n : ℕ) (passes : List Passed) (sents : List (List ℕ)) (backs : List Returned) → AllByRecursion IsPassed passes → map moment_of passes ≡ arrivals_from n sents → AreBack passes backs → EachFrom IsGivenBack n sents (map end_of passes) backs
given_each n [] [] [] passed came given = tt
given_each n [] [] (back ∷ backs) passed came given = absurd given
given_each n [] (sent ∷ sents) backs passed came given = absurd (cc came)
given_each n (p ∷ passes) [] backs passed came given = absurd (cc came)
given_each n (p ∷ passes) (sent ∷ sents) [] passed came given = absurd given
given_each n (p ∷ passes) (sent ∷ sents) (back ∷ backs) passed came given = (given_one n p sent back passed.0 (cc came) (given.0, given.1, given.2, tt), given_each (n + 1) passes sents backs passed.1 (cc came) given.3)

module _ (r : Recording) where
  -- what is recorded of the sessions from this number on is what was said in these lists
  abbrev Records : ℕ → List (List Said) → Type 0
  Records n lists = (k : ℕ) → said_in lists k ≡ kept_in r.calls (n + k)

  abbrev BearsOut : ℕ → List (List Turned) → Type 0
  BearsOut n turned = (k m : ℕ) (entries : List Turned) (entry : Turned) → slice_get turned k ≡ Some entries → slice_get entries m ≡ Some entry → IsBorneOut r.start.rows r.calls (n + k) entry

  one_connection : (n : ℕ) (p : Passed) (sent : List ℕ) (back : Returned) (said' : List Said) → IsPassed p → moment_of p ≡ record { session = n; ends = comes sent } → AreBack (p ∷ []) (back ∷ [])
      → AreClosed (p.after.said ∷ []) (said' ∷ []) → said' ≡ kept_in r.calls n → ((m : ℕ) (entry : Turned) → slice_get p.after.turned m ≡ Some entry → IsBorneOut r.start.rows r.calls n entry) → IsConnection r n sent p.end back
  unfolding given_one
  one_connection n p sent back said' passed came given closed recorded borne = record {
    served = given_one n p sent back passed came given;
    more = closed.0.0;
    closing = closed.0.1;
    once = closed.0.2;
    recorded = sym recorded ∙ closed.0.3;
    borne_out = borne;
  }

  each : (n : ℕ) (passes : List Passed) (sents : List (List ℕ)) (backs : List Returned) (lists : List (List Said)) → AllByRecursion IsPassed passes → map moment_of passes ≡ arrivals_from n sents → AreBack passes backs
      → AreClosed (map said_after passes) lists → Records n lists → BearsOut n (map turned_after passes) → EachFrom (IsConnection r) n sents (map end_of passes) backs
  each n [] [] [] lists passed came given closed records bears = tt
  each n [] [] (back ∷ backs) lists passed came given closed records bears = absurd given
  each n [] (sent ∷ sents) backs lists passed came given closed records bears = absurd (cc came)
  each n (p ∷ passes) [] backs lists passed came given closed records bears = absurd (cc came)
  each n (p ∷ passes) (sent ∷ sents) [] lists passed came given closed records bears = absurd given
  each n (p ∷ passes) (sent ∷ sents) (back ∷ backs) [] passed came given closed records bears = absurd closed
  each n (p ∷ passes) (sent ∷ sents) (back ∷ backs) (said' ∷ lists) passed came given closed records bears = (
    one_connection n p sent back said' passed.0 (cc came) (given.0, given.1, given.2, tt) (closed.0, tt) (records 0 ∙ ap (kept_in r.calls) (omega arith)) (λ m entry at. subst (λ (k : ℕ). IsBorneOut r.start.rows r.calls k entry) (omega arith) (bears 0 m p.after.turned entry refl at)),
    each (n + 1) passes sents backs lists passed.1 (cc came) given.3 closed.1 (λ k. records (suc k) ∙ ap (kept_in r.calls) (omega arith)) (λ k m entries entry at in_. subst (λ (j : ℕ). IsBorneOut r.start.rows r.calls j entry) (omega arith) (bears (suc k) m entries entry at in_)),
  )

-- what was served
served : (start : StartView) (most : ℕ) (notes : Notes) (c : CaptureView) (before : Connections) (after : Connections) (of : IsCapturedOf start notes c) (passes : List Passed) → HasNoted notes passes → AllByRecursion IsPassed passes
    → PassedThrough most passes before after → AreServed most of.recording (map end_of passes) before after
served start most notes c before after of passes noted passed through = record {
  sent = through.sent;
  back = through.back;
  taken = through.taken;
  count = through.count;
  returned = through.returned;
  each = each of.recording 0 passes through.sent through.back of.said passed through.arrive through.are_back (subst (λ (l : List (List Said)). AreClosed l of.said) noted.said of.closed)
      (λ k. of.agrees.said k ∙ ap (kept_in of.recording.calls) (omega arith))
      (λ k m entries entry at in_. subst (λ (j : ℕ). IsBorneOut of.recording.start.rows of.recording.calls j entry) (omega arith) (of.agrees.refused k m entries entry (rw noted.turned at) in_));
}

said_each : (notes : Notes) (passes : List Passed) → HasNoted notes passes → length notes.said ≡ length passes
said_each notes passes noted = sym (length-map notes.said (λ list. list.items)) ∙ ap (λ (l : List (List Said)). length l) noted.said ∙ length-map passes said_after

pub few_said : (most : ℕ) (notes : Notes) (before after : Option Connections) → Connected most notes before after → length notes.said ≤ most
few_said most notes before after connected = omega (arith, said_each notes connected.passes connected.noted, connected.few)

pub service : (start : StartView) (most : ℕ) (notes : Notes) (c : CaptureView) (before after : Option Connections) → Connected most notes before after → IsCapturedOf start notes c → IsService start most c before after
service start most notes c before after connected of = record {
  recording = of.recording;
  ends = map end_of connected.passes;
  capture = of.capture;
  count = length-map connected.passes end_of ∙ sym as_many;
  few = omega (arith, as_many, connected.few);
  short = of.short ∙ connected.noted.short ∙ short_ends connected.passes;
  served = all_served before after connected.through;
} where
  as_many : c.connections ≡ length connected.passes
  as_many = of.connections ∙ said_each notes connected.passes connected.noted

  short_ends : (passes : List Passed) → count_by (λ (p : Passed). is_short p.end) passes ≡ count_by is_short (map end_of passes)
  short_ends passes = sym (fold-map (λ (n : ℕ) (end : ConnEnd). n + (if is_short end then 1 else 0)) end_of 0 passes)

  all_served : (before after : Option Connections) → Told before (λ b. IsSomeAnd after (PassedThrough most connected.passes b)) → Told before (λ b. IsSomeAnd after (AreServed most of.recording (map end_of connected.passes) b))
  all_served None after through = tt
  all_served (Some b) None through = absurd through
  all_served (Some b) (Some a) through = served start most notes c b a of connected.passes connected.noted connected.each through

-- ---- connections that came, were served and were given back

through_both : (most : ℕ) (passes : List Passed) (before mid : Connections) (after : Option Connections) → (sent : List (List ℕ)) × Took (map moment_of passes) sent before mid × (length sent ≡ min most (length before.waiting))
    → IsSomeAnd after (Gave passes mid) → IsSomeAnd after (PassedThrough most passes before)
through_both most passes before mid None came gave = absurd gave
through_both most passes before mid (Some after) came gave = record {
  sent = came.0;
  back = gave.back;
  taken = came.1.taken ∙ ap (λ (l : List (List ℕ)). came.0 ++ l) (sym gave.waiting);
  count = came.2;
  arrive = came.1.arrive;
  returned = gave.returned ∙ ap (λ (l : List Returned). l ++ gave.back) came.1.returned;
  are_back = gave.are_back;
}

connected : (most : ℕ) (notes : Notes) (before mid after : Option Connections) (passes : List Passed) → Came (Ok tt) most (map moment_of passes) before mid
    → GaveSo passes mid after → HasNoted notes passes → AllByRecursion IsPassed passes → length passes ≤ most → Connected most notes before after
connected most notes before mid after passes came gave noted each few = record {
  passes = passes;
  noted = noted;
  each = each;
  few = few;
  through = all_through before mid came gave;
} where
  all_through : (before mid : Option Connections) → Came (Ok tt) most (map moment_of passes) before mid → GaveSo passes mid after → Told before (λ c. IsSomeAnd after (PassedThrough most passes c))
  all_through None mid came gave = tt
  all_through (Some b) None came gave = absurd came
  all_through (Some b) (Some m) came gave = through_both most passes b m after came gave

told_of : (told : Bool) → not told ≡ false → told ≡ true
told_of true is = refl
told_of false is = absurd (true≢false is)

lost_of : (told : Bool) → not told ≡ true → told ≡ false
lost_of true is = absurd (true≢false (sym is))
lost_of false is = refl

sents_length : (n : ℕ) (sents : List (List ℕ)) → length (arrivals_from n sents) ≡ length sents
sents_length n [] = refl
sents_length n (sent ∷ sents) = ap (λ (k : ℕ). suc k) (sents_length (n + 1) sents)

given_from : (most : ℕ) (passes : List Passed) (sent : List (List ℕ)) (before mid after : Connections) → AllByRecursion IsPassed passes → length passes ≤ most → Took (map moment_of passes) sent before mid → Gave passes mid after → AreGivenBack most before after
given_from most passes sent before mid after each few took gave = record {
  sent = sent;
  ends = map end_of passes;
  back = gave.back;
  taken = took.taken ∙ ap (λ (l : List (List ℕ)). sent ++ l) (sym gave.waiting);
  few = omega (arith, few, sym (sents_length 0 sent) ∙ ap (λ (l : List Moment). length l) (sym took.arrive) ∙ length-map passes moment_of);
  returned = gave.returned ∙ ap (λ (l : List Returned). l ++ gave.back) took.returned;
  each = given_each 0 passes sent gave.back each took.arrive gave.are_back;
}

-- also where the host failed or memory was short while they came
given_halted : (halted : Result (Unit {0}) Halt) (most : ℕ) (before mid after : Option Connections) (passes : List Passed) → Came halted most (map moment_of passes) before mid → GaveSo passes mid after
    → AllByRecursion IsPassed passes → length passes ≤ most → HasGivenBack most before after
given_halted halted most None mid after passes came gave each few = tt
given_halted halted most (Some b) None after passes came gave each few = absurd came
given_halted halted most (Some b) (Some m) None passes came gave each few = absurd gave
given_halted halted most (Some b) (Some m) (Some a) passes came gave each few = given_from most passes came.0 b m a each few came.1 gave

-- where not each is told as given back, some are lost
lost_halted : (halted : Result (Unit {0}) Halt) (most : ℕ) (before mid after : Option Connections) (passes : List Passed) → Came halted most (map moment_of passes) before mid → LostSo (length passes) mid after → HasLost before after
lost_halted halted most None mid after passes came lost = tt
lost_halted halted most (Some b) None after passes came lost = absurd came
lost_halted halted most (Some b) (Some m) None passes came lost = absurd lost
lost_halted halted most (Some b) (Some m) (Some a) passes came lost =
    let took = came.1 in
    let many : length came.0 ≡ length passes = sym (sents_length 0 came.0) ∙ ap (λ (l : List Moment). length l) (sym took.arrive) ∙ length-map passes moment_of in
    let taken = ap (λ (l : List (List ℕ)). length l) took.taken ∙ length-append came.0 m.waiting in
    omega (arith, lost.fewer, ap (λ (l : List (List ℕ)). length l) lost.waiting, ap (λ (l : List Returned). length l) took.returned, taken, many)

module _ (most : ℕ) (halted : Result (Unit {0}) Halt) (told : Bool) (noted : Result Notes Memory) (result : Result Notes ServeErr) (before mid after : Option Connections) (passes : List Passed) (came : Came halted most (map moment_of passes) before mid)
    (gave : told ≡ true → GaveSo passes mid after) (each : AllByRecursion IsPassed passes) (few : length passes ≤ most) where
  pub connected_by : IfOk noted (λ n. HasNoted n passes) → IfOk result (λ n. (halted ≡ Ok tt) × (told ≡ true) × (noted ≡ Ok n)) → IfOk result (λ notes. Connected most notes before after)
  connected_by has ok = IfOk-weaker result _ _ (λ notes both. connected most notes before mid after passes (subst (λ (r : Result (Unit {0}) Halt). Came r most (map moment_of passes) before mid) both.0 came) (gave both.1) (IfOk-at_ok (λ n. HasNoted n passes) both.2 has) each few) ok

  halted_so : (error : ServeErr) → (told ≡ false → LostSo (length passes) mid after) → IsOutcome halted told error → GivesBack most before after error
  halted_so (serve.Failed short) lost outcome =
      (λ well. given_halted halted most before mid after passes came (gave (told_of told (sym outcome.1 ∙ well))) each few, λ is. lost_halted halted most before mid after passes came (lost (lost_of told (sym outcome.1 ∙ is))))
  halted_so (serve.Differs finding) lost outcome = absurd outcome
  halted_so serve.Memory lost outcome = tt

  pub halted_by : (told ≡ false → LostSo (length passes) mid after) → IfErr result (IsOutcome halted told) → IfErr result (GivesBack most before after)
  halted_by lost fails = IfErr-weaker result _ _ (λ error outcome. halted_so error lost outcome) fails

-- none came
pub none_back : (most : ℕ) (before : Option Connections) → HasGivenBack most before before
none_back most None = tt
none_back most (Some b) = record { sent = []; ends = []; back = []; taken = refl; few = omega arith; returned = sym (append-nil b.returned); each = tt }

all_given : (most : ℕ) (passes : List Passed) (before after : Connections) → AllByRecursion IsPassed passes → length passes ≤ most → PassedThrough most passes before after → AreAllGivenBack most before after
unfolding given_from
all_given most passes before after each few through = record {
  given = given_from most passes through.sent before (record { waiting = after.waiting; returned = before.returned }) after each few
      (record { taken = through.taken; returned = refl; arrive = through.arrive }) (record { back = through.back; waiting = refl; returned = through.returned; are_back = through.are_back });
  count = through.count;
}

pub given_back : (most : ℕ) (notes : Notes) (before after : Option Connections) → Connected most notes before after → HasGivenBackAll most before after
given_back most notes before after connected = all before after connected.through where
  all : (before after : Option Connections) → Told before (λ b. IsSomeAnd after (PassedThrough most connected.passes b)) → HasGivenBackAll most before after
  all None after through = tt
  all (Some b) None through = absurd through
  all (Some b) (Some a) through = all_given most connected.passes b a connected.each connected.few through

-- a recorder and doors that differ are a finding, and no fault
pub found_fails : (start : StartView) (recording : Recording) (said : List (List Said)) (turned : List (List Turned)) (error : GatherErr) (result : ServeErr) → IsRecording recording → Gathers start recording said turned (Err error) → result ≡ err_of error
    → Fails start result × IsFaultless result
found_fails start recording said turned error result is gathers told = subst (λ (e : ServeErr). Fails start e × IsFaultless e) (sym told) (each error gathers) where
  each : (error : GatherErr) → Gathers start recording said turned (Err error) → Fails start (err_of error) × IsFaultless (err_of error)
  each (gather.OtherStart kept) gathers = (record { recording = recording; said = said; turned = turned; error = gather.OtherStart kept; is_recording = is; gathers = gathers; told = refl }, tt)
  each (gather.Mismatch session place kept answered) gathers = (record { recording = recording; said = said; turned = turned; error = gather.Mismatch session place kept answered; is_recording = is; gathers = gathers; told = refl }, tt)
  each (gather.Refusal session n entry) gathers = (record { recording = recording; said = said; turned = turned; error = gather.Refusal session n entry; is_recording = is; gathers = gathers; told = refl }, tt)
  each gather.Memory gathers = (tt, tt)

-- a failure of which no more is known is a fault or want of memory
pub plain_by : {X : Type 0} (halted : Result (Unit {0}) Halt) (told : Bool) (result : Result X ServeErr) → IfErr result (IsOutcome halted told) → IfErr result IsPlain
plain_by halted told (Ok value) fails = tt
plain_by halted told (Err (serve.Failed short)) fails = tt
plain_by halted told (Err (serve.Differs finding)) fails = absurd fails
plain_by halted told (Err serve.Memory) fails = tt

-- ---- what was handed out

-- nothing was asked
pub none_handed : (most port : ℕ) (handed : Handed) → IsHandedBack most port handed handed
none_handed most port handed = record { count = 0; few = omega arith; taken = refl; backs = refl; listens = inr (refl, refl) }

-- the host does not listen
pub none_listening : (listened : Result (Unit {0}) Failed) (most port : ℕ) (old new : Handed) → is_err listened ≡ true → new ≡ after_listen listened port old → IsHandedBack most port old new
none_listening (Ok done) most port old new is moves = absurd (true≢false (sym is))
none_listening (Err failed) most port old new is moves = record {
  count = 0;
  few = omega arith;
  taken = ap (λ (h : Handed). h.taken) moves;
  backs = ap (λ (h : Handed). h.backs) moves;
  listens = inr (ap (λ (h : Handed). h.port) moves, refl);
}

pub all_handed : (listened : Result (Unit {0}) Failed) (most port n : ℕ) (old now mid new : Handed) → is_err listened ≡ false → now ≡ after_listen listened port old → HasTaken n now mid → HasReturned n mid new → n ≤ most → IsHandedBack most port old new
all_handed (Err failed) most port n old now mid new is listens took gave few = absurd (true≢false is)
all_handed (Ok done) most port n old now mid new is listens took gave few = record {
  count = n;
  few = few;
  taken = ap (λ (h : Handed). h.taken) gave ∙ ap (λ (h : Handed). h.taken) took ∙ ap (λ (h : Handed). risen_by n h.taken) listens;
  backs = ap (λ (h : Handed). h.backs) gave ∙ ap (λ (h : Handed). risen_by n h.backs) took ∙ ap (λ (h : Handed). risen_by n h.backs) listens;
  listens = inl (ap (λ (h : Handed). h.port) gave ∙ ap (λ (h : Handed). h.port) took ∙ ap (λ (h : Handed). h.port) listens);
}

-- ---- counts of faults

-- the host listens, and what comes of it ends as the taking of connections did
pub counts_on : (listened : Result (Unit {0}) Failed) (halted : Result (Unit {0}) Halt) (result : Result Notes ServeErr) (f0 f1 f2 f3 : ℕ) → is_err listened ≡ false → Counts (print_ending listened) f0 f1 → Counts (halt_ending halted) f1 f2 → f3 ≡ f2
    → serve_ending result ≡ halt_ending halted → Counts (serve_ending result) f0 f3
counts_on (Err failed) halted result f0 f1 f2 f3 is same counts still ending = absurd (true≢false is)
counts_on (Ok done) halted result f0 f1 f2 f3 is same counts still ending =
    subst (λ (e : Ending). Counts e f0 f3) (sym ending) (subst (λ (n : ℕ). Counts (halt_ending halted) f0 n) (sym still) (subst (λ (n : ℕ). Counts (halt_ending halted) n f2) same counts))

-- where no device failed, the count of faults is as it was
pub counts_of : {X : Type 0} (result : Result X ServeErr) (before after : ℕ) → after ≡ before → IfErr result (λ error. IsFaultless error) → Counts (serve_ending result) before after
counts_of (Ok done) before after same none = same
counts_of (Err (serve.Failed short)) before after same none = absurd none
counts_of (Err (serve.Differs finding)) before after same none = same
counts_of (Err serve.Memory) before after same none = same

pub gives_back : {X : Type 0} (most : ℕ) (before after : Option Connections) (result : Result X ServeErr) → HasGivenBackAll most before after → IfErr result (λ error. IsFaultless error) → IfErr result (GivesBack most before after)
gives_back most before after (Ok done) all none = tt
gives_back most before after (Err (serve.Failed short)) all none = absurd none
gives_back most before after (Err (serve.Differs finding)) all none = all
gives_back most before after (Err serve.Memory) all none = tt
