-- What comes of an errand once the keeper is closed behind it.
use Rattle.std.proofs.Common.{◌≡◌, ◌∙◌, ℕ, inl, inr, Result, Ok, Err, IfOk, refl, sym, subst, arith}
use Rattle.std.specs.Prelude.{IfErr}
use Rattle.desk_files.specs.Outside.{Answered, Counts, DeviceFailed, MemoryShort}
use Rattle.run_register.specs.declared.kept.KeepErr.{KeepErr}
use Rattle.run_register.specs.declared.kept.KeepErr.TheVariants as keep_err
use Rattle.run_register.specs.Register.{KeeperAccount, keeper_ending}
use Rattle.register_work.specs.declared.errand.Answer.{Answer}
use Rattle.register_work.specs.declared.errand.Errand.{Errand}
use Rattle.register_work.specs.declared.errand.ErrandErr.{ErrandErr}
use Rattle.register_work.specs.declared.errand.ErrandErr.TheVariants as errand_err
use Rattle.register_work.specs.Errand.{IsAnswered, IsNotDone, unfailed}
use Rattle.register_work.specs.Keeping.{KeepsAll, Keeping, keeping}
use Rattle.replay_cli.specs.Done.{IsKept}
use Rattle.replay_cli.specs.Inside.Serving.{KeepFails, settled, unclosed}
use Rattle.replay_cli.proofs.Asked.{no_fault}

-- an account before the errand, one behind it, and one behind closing
module _ (errand : Errand) (old now new : KeeperAccount) (runs : new.runs ≡ now.runs) (divergences : new.divergences ≡ now.divergences) where
  -- as the errand left it, but for faults of closing
  answered_so : (answer : Answer) → IsAnswered errand (keeping old now) answer → IsAnswered errand (unfailed (keeping old new)) answer
  answered_so answer is =
      let faults : old.faults ≡ now.faults = sym (no_fault errand (keeping old now) answer is) in
      let same : unfailed (keeping old new) ≡ keeping old now =
      λ i. record { runs_before = old.runs; runs_after = runs i; divergences_before = old.divergences; divergences_after = divergences i; faults_before = old.faults; faults_after = faults i } in
      subst (λ (k : Keeping). IsAnswered errand k answer) (sym same) is

  answered_all : (answer : Answer) → new.faults ≡ now.faults → IsAnswered errand (keeping old now) answer → IsAnswered errand (keeping old new) answer
  answered_all answer faults is =
      let same : keeping old new ≡ keeping old now =
      λ i. record { runs_before = old.runs; runs_after = runs i; divergences_before = old.divergences; divergences_after = divergences i; faults_before = old.faults; faults_after = faults i } in
      subst (λ (k : Keeping). IsAnswered errand k answer) (sym same) is

  -- an answer, with a keeper that could not be closed
  unclosed_so : (answer : Answer) (error : KeepErr) → IsAnswered errand (keeping old now) answer → Counts (keeper_ending {T = Unit {0}} (Err error)) now.faults new.faults → KeepFails errand (keeping old new) (unclosed error)
  unclosed_so answer keep_err.Failed is counts =
      inr (record { answer = answer; answered = answered_so answer is; faults = subst (λ (n : ℕ). Counts DeviceFailed n new.faults) (no_fault errand (keeping old now) answer is) counts })
  unclosed_so answer keep_err.Memory is counts =
      inr (record { answer = answer; answered = answered_so answer is; faults = counts ∙ no_fault errand (keeping old now) answer is })

  -- no answer and no fault so far, and then none or one
  stood_so : KeepsAll (keeping old now) Answered → new.faults ≡ now.faults → KeepsAll (keeping old new) Answered
  stood_so keeps counts = record { runs = runs ∙ keeps.runs; divergences = divergences ∙ keeps.divergences; faults = counts ∙ keeps.faults }

  failed_then : KeepsAll (keeping old now) Answered → Counts DeviceFailed now.faults new.faults → KeepsAll (keeping old new) DeviceFailed
  failed_then keeps counts =
      record { runs = runs ∙ keeps.runs; divergences = divergences ∙ keeps.divergences; faults = subst (λ (n : ℕ). Counts DeviceFailed n new.faults) keeps.faults counts }

  short_so : (error : KeepErr) → KeepsAll (keeping old now) MemoryShort → Counts (keeper_ending {T = Unit {0}} (Err error)) now.faults new.faults → KeepFails errand (keeping old new) (unclosed error)
  short_so keep_err.Failed keeps counts =
      inl (record { runs = runs ∙ keeps.runs; divergences = divergences ∙ keeps.divergences; faults = subst (λ (n : ℕ). Counts DeviceFailed n new.faults) keeps.faults counts })
  short_so keep_err.Memory keeps counts = inl (record { runs = runs ∙ keeps.runs; divergences = divergences ∙ keeps.divergences; faults = counts ∙ keeps.faults })

  -- a fault so far, and maybe one more
  failed_so : (closed : Result (Unit {0}) KeepErr) → KeepsAll (keeping old now) DeviceFailed → Counts (keeper_ending closed) now.faults new.faults → KeepsAll (keeping old new) DeviceFailed
  failed_so (Ok done) keeps counts =
      record { runs = runs ∙ keeps.runs; divergences = divergences ∙ keeps.divergences; faults = subst (λ (n : ℕ). Counts DeviceFailed old.faults n) (sym counts) keeps.faults }
  failed_so (Err keep_err.Memory) keeps counts =
      record { runs = runs ∙ keeps.runs; divergences = divergences ∙ keeps.divergences; faults = subst (λ (n : ℕ). Counts DeviceFailed old.faults n) (sym counts) keeps.faults }
  failed_so (Err keep_err.Failed) keeps counts = record {
    runs = runs ∙ keeps.runs;
    divergences = divergences ∙ keeps.divergences;
    faults = (λ apart. let up = counts.0 apart in omega (arith, up, keeps.faults.1), omega (arith, counts.1, keeps.faults.1));
  }

  pub settled_done : (done : Result Answer ErrandErr) (closed : Result (Unit {0}) KeepErr) → IfOk done (IsAnswered errand (keeping old now)) → Counts (keeper_ending closed) now.faults new.faults → IfOk (settled done closed) (IsKept errand (keeping old new))
  settled_done (Ok answer) (Ok shut) is counts = (answered_all answer counts is, refl)
  settled_done (Ok answer) (Err error) is counts = tt
  settled_done (Err (errand_err.NotDone cause)) (Ok shut) is counts = tt
  settled_done (Err (errand_err.NotDone cause)) (Err keep_err.Failed) is counts = tt
  settled_done (Err (errand_err.NotDone cause)) (Err keep_err.Memory) is counts = tt
  settled_done (Err errand_err.Failed) closed is counts = tt
  settled_done (Err errand_err.Memory) (Ok shut) is counts = tt
  settled_done (Err errand_err.Memory) (Err error) is counts = tt

  pub settled_fails : (done : Result Answer ErrandErr) (closed : Result (Unit {0}) KeepErr) → IfOk done (IsAnswered errand (keeping old now)) → IfErr done (IsNotDone errand (keeping old now)) → Counts (keeper_ending closed) now.faults new.faults → IfErr (settled done closed) (KeepFails errand (keeping old new))
  settled_fails (Ok answer) (Ok shut) is fails counts = tt
  settled_fails (Ok answer) (Err error) is fails counts = unclosed_so answer error is counts
  settled_fails (Err (errand_err.NotDone cause)) (Ok shut) is fails counts = (fails.0, stood_so fails.1 counts)
  settled_fails (Err (errand_err.NotDone cause)) (Err keep_err.Failed) is fails counts = inl (failed_then fails.1 counts)
  settled_fails (Err (errand_err.NotDone cause)) (Err keep_err.Memory) is fails counts = (fails.0, stood_so fails.1 counts)
  settled_fails (Err errand_err.Failed) closed is fails counts = inl (failed_so closed fails counts)
  settled_fails (Err errand_err.Memory) (Ok shut) is fails counts =
      inl (record { runs = runs ∙ fails.runs; divergences = divergences ∙ fails.divergences; faults = counts ∙ fails.faults })
  settled_fails (Err errand_err.Memory) (Err error) is fails counts = short_so error fails counts
