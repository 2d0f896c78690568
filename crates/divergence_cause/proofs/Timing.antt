-- Where both servers have one schema no call differs for the server.
use Rattle.std.proofs.Common.{◌≡◌, ◌∙◌, ℕ, List, [], ◌∷◌, map, refl, sym, subst}
use Rattle.std.specs.List.{AllByRecursion, Contains}
use Rattle.desk_schema.proofs.Members.{Contains-here, Contains-there}
use Rattle.desk_values.specs.declared.capture.Event.{Event}
use Rattle.replay_history.specs.declared.report.Line.{Line}
use Rattle.replay_job.specs.Job.{JobView}
use Rattle.replay_job.specs.Runs.{Stage}
use Rattle.replay_report.specs.Report.{report_in}
use Rattle.law_replays.specs.End.Answers.{IsReplay}
use Rattle.law_replays.specs.Reports.Laws.{IsNamed}
use Rattle.law_replays.proofs.Reports.Named.{twins_not_named}
use Rattle.divergence_cause.specs.declared.cause.Cause.{Cause}
use Rattle.divergence_cause.specs.declared.cause.Cause.TheVariants.{Timing, Upgrade}
use Rattle.divergence_cause.specs.declared.cause.CauseLine.{CauseLine}
use Rattle.divergence_cause.specs.Causes.{AllAreTiming, IsCause}
use Rattle.divergence_cause.specs.Laws.{NoUpgradeWhereUnchanged, OneListOfCauses}

module _ (job : JobView) (history : List Event) where
  abbrev stamps_of : List CauseLine → List ℕ
  stamps_of lines = map (λ (line : CauseLine). line.stamp) lines

  abbrev named_stamps : List Line → List ℕ
  named_stamps lines = map (λ (line : Line). line.stamp) lines

  abbrev AreKnown : List CauseLine → Type 0
  AreKnown lines = AllByRecursion (λ (line : CauseLine). IsCause job history line.stamp line.cause) lines

  module _ (last : Stage) (replay : IsReplay job history last) (schemas : job.target.schema ≡ job.start.schema) where
    one_timing : (k : ℕ) (cause : Cause) → IsNamed job history k → IsCause job history k cause → cause ≡ Timing
    one_timing k Timing named is = refl
    one_timing k Upgrade named is = absurd (twins_not_named job history last is.captured replay schemas is.place k is.call is.reply is.before is.after is.there is.came is.twin named)

    each_timing : (lines : List CauseLine) (named : List Line) → stamps_of lines ≡ named_stamps named → ((n : Line) → Contains named n → Contains (report_in job history).lines n) → AreKnown lines → AllAreTiming lines
    each_timing [] named e within known = tt
    each_timing (c ∷ lines) [] e within known = absurd cc
    each_timing (c ∷ lines) (n ∷ named) e within known =
        let first : c.stamp ≡ n.stamp = cc in
        let rest : stamps_of lines ≡ named_stamps named = cc in (
          one_timing c.stamp c.cause (n, within n (Contains-here n named), sym first) known.0,
          each_timing lines named rest (λ m there. within m (Contains-there n named m there)) known.1,
        )

  -- of one stamp there is one cause
  one_cause : (k : ℕ) (cause other : Cause) → IsCause job history k cause → IsCause job history k other → cause ≡ other
  one_cause k Timing Timing is also = refl
  one_cause k Upgrade Upgrade is also = refl
  one_cause k Timing Upgrade is also = absurd (is also)
  one_cause k Upgrade Timing is also = absurd (also is)

  same_line : (c d : CauseLine) → c.stamp ≡ d.stamp → c.cause ≡ d.cause → c ≡ d
  same_line c d stamp cause = λ i. record { stamp = stamp i; cause = cause i }

  one_list : (lines others : List CauseLine) → stamps_of lines ≡ stamps_of others → AreKnown lines → AreKnown others → lines ≡ others
  one_list [] [] e known also = refl
  one_list [] (d ∷ others) e known also = absurd cc
  one_list (c ∷ lines) [] e known also = absurd cc
  one_list (c ∷ lines) (d ∷ others) e known also =
      let stamp : c.stamp ≡ d.stamp = cc in
      let rest : stamps_of lines ≡ stamps_of others = cc in
      let cause = one_cause d.stamp c.cause d.cause (subst (λ (k : ℕ). IsCause job history k c.cause) stamp known.0) also.0 in
      let first = same_line c d stamp cause in
      let more = one_list lines others rest known.1 also.1 in
      λ i. first i ∷ more i

pub all_timing : NoUpgradeWhereUnchanged
all_timing job history last lines replay schemas are = each_timing job history last replay schemas lines (report_in job history).lines are.stamps (λ n there. there) are.causes

pub one_list_of : OneListOfCauses
one_list_of job history lines others are also = one_list job history lines others (are.stamps ∙ sym also.stamps) are.causes also.causes
