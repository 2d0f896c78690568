-- How errands to a register of reports end.
use Rattle.std.proofs.Common.{◌≡◌, ℕ, inl, inr, Bool, true, false, List, Option, Some, subst, ap, ◌∙◌}
use Rattle.run_register.specs.Register.{RunMap}
use Rattle.register_work.specs.declared.errand.Errand.{Errand}
use Rattle.register_work.specs.declared.errand.Errand.TheVariants as errand
use Rattle.register_work.specs.declared.unkept.Unkept.{Unkept}
use Rattle.register_work.specs.declared.unkept.Unkept.TheVariants.{NoRun, OtherRun, BadRun, NoCall, OtherCapture}
use Rattle.register_work.specs.Errand.{AreGood, IsCause}
use Rattle.register_work.specs.Keeping.{Keeping}
use Rattle.register_work.specs.Lines.{unkept_status}
use Rattle.law_commands.proofs.Register.OneEnd.{good_alone}
use Rattle.replay_cli.specs.declared.plan.Plan.{Plan}
use Rattle.replay_cli.specs.Done.{IsKept}
use Rattle.replay_cli.specs.Lines.{done_status}
use Rattle.law_commands.specs.Commands.Complete.{ErrandsEndSo, MayEnd}

-- ---- one that is done

pub quiet_end : (differs : Bool) (result : ℕ) → differs ≡ false → result ≡ done_status differs → result ≡ 0
quiet_end differs result quiet is = is ∙ ap done_status quiet

compared_end : (a b : List ℕ) (differs : Bool) (result : ℕ) → result ≡ done_status differs → MayEnd (errand.Compare a b) result
compared_end a b true result is = inr (inl is)
compared_end a b false result is = inl is

pub done_end : (asked : Errand) (k : Keeping) (plan : Plan) (result : ℕ) → IsKept asked k plan → result ≡ done_status plan.differs → MayEnd asked result
done_end (errand.Register name bytes report) k plan result kept is = inl (quiet_end plan.differs result kept.0.news is)
done_end errand.Runs k plan result kept is = inl (quiet_end plan.differs result kept.0.news is)
done_end (errand.Accept name stamp class) k plan result kept is = inl (quiet_end plan.differs result kept.0.news is)
done_end (errand.Compare a b) k plan result kept is = compared_end a b plan.differs result is

-- ---- one that is not, for its causes

cause_end : (asked : Errand) (runs : RunMap) (cause : Unkept) (result : ℕ) → AreGood runs → IsCause asked (Some runs) cause → result ≡ unkept_status cause → MayEnd asked result
cause_end (errand.Register name bytes report) runs (OtherRun other) result good caused is = inr (inr is)
cause_end (errand.Register name bytes report) runs (NoRun other) result good caused is = absurd caused
cause_end (errand.Register name bytes report) runs (BadRun other line) result good caused is = absurd caused
cause_end (errand.Register name bytes report) runs (NoCall other) result good caused is = absurd caused
cause_end (errand.Register name bytes report) runs (OtherCapture one n other m) result good caused is = absurd caused
cause_end errand.Runs runs (BadRun name line) result good caused is = absurd (good_alone errand.Runs runs name line good caused)
cause_end errand.Runs runs (NoRun other) result good caused is = absurd caused
cause_end errand.Runs runs (OtherRun other) result good caused is = absurd caused
cause_end errand.Runs runs (NoCall other) result good caused is = absurd caused
cause_end errand.Runs runs (OtherCapture one n other m) result good caused is = absurd caused
cause_end (errand.Accept name stamp class) runs (NoRun other) result good caused is = inr (inr (inl is))
cause_end (errand.Accept name stamp class) runs (NoCall other) result good caused is = inr (inr (inr is))
cause_end (errand.Accept name stamp class) runs (BadRun other line) result good caused is = absurd (good_alone (errand.Accept name stamp class) runs other line good caused)
cause_end (errand.Accept name stamp class) runs (OtherRun other) result good caused is = absurd caused
cause_end (errand.Accept name stamp class) runs (OtherCapture one n other m) result good caused is = absurd caused
cause_end (errand.Compare a b) runs (NoRun other) result good caused is = inr (inr (inr (inl is)))
cause_end (errand.Compare a b) runs (OtherCapture one n other m) result good caused is = inr (inr (inr (inr is)))
cause_end (errand.Compare a b) runs (BadRun other line) result good caused is = absurd (good_alone (errand.Compare a b) runs other line good caused)
cause_end (errand.Compare a b) runs (OtherRun other) result good caused is = absurd caused
cause_end (errand.Compare a b) runs (NoCall other) result good caused is = absurd caused

-- ---- and one for which memory is short

short_end : (asked : Errand) (result : ℕ) → result ≡ 6 → MayEnd asked result
short_end (errand.Register name bytes report) result is = inr (inl is)
short_end errand.Runs result is = inr is
short_end (errand.Accept name stamp class) result is = inr (inl is)
short_end (errand.Compare a b) result is = inr (inr (inl is))

pub errands_end : ErrandsEndSo
errands_end asked files after fb fa h result before printed tells (inl done) unfailed = done_end asked h.keeper done.0 result done.1.0 done.3
errands_end asked files after fb fa h result before printed tells (inr (inl found)) unfailed = absurd found.1
errands_end asked files after fb fa h result before printed tells (inr (inr (inl undone))) unfailed =
    cause_end asked tells.0 undone.0 result tells.2 (subst (λ (runs : Option RunMap). IsCause asked runs undone.0) tells.1 undone.1.0) undone.3
errands_end asked files after fb fa h result before printed tells (inr (inr (inr (inl unsent)))) unfailed = absurd unsent.1
errands_end asked files after fb fa h result before printed tells (inr (inr (inr (inr outside)))) unfailed = elim outside.0 as (λ _. MayEnd asked result) [
  | inl five ↦ absurd (unfailed five)
  | inr six ↦ short_end asked result six
]
