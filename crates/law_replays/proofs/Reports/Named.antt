-- Which calls the report names.
use Rattle.std.proofs.Common.{◌≡◌, ℕ, suc, Bool, true, false, if◌then◌else◌, ◌*◌, List, [], ◌∷◌, ◌++◌, cond, length, map, replicate, Option, Some, refl, sym, ap, subst, ◌∙◌, arith}
use Rattle.std.specs.Prelude.{not, ◌&&◌, ◌||◌, ◌==◌, slice_get, count_by}
use Rattle.std.specs.List.{Contains, flat_map}
use Rattle.std.proofs.lemmas.List.Folds.{sum_by-replicate}
use Rattle.std.proofs.lemmas.Option.{same_Some}
use Rattle.desk_values.specs.declared.capture.Captured.{Captured}
use Rattle.desk_schema.proofs.Members.{Contains-none}
use Rattle.replay_history.specs.declared.report.Class.{Class}
use Rattle.replay_history.specs.declared.report.Class.TheVariants.{Same, NewError, GoneError, MutatedError, RowsModified, RowsFetched, RowContents, Images, Shape}
use Rattle.replay_history.specs.declared.report.Line.{Line}
use Rattle.replay_history.specs.Class.{all_classes, class_number}
use Rattle.replay_history.specs.Gap.{IsCallAt, IsStamped}
use Rattle.divergence.specs.Class.{is_committed}
use Rattle.replay_report.specs.Report.{class_of, counts_of, difference, is_class, report_in}
use Rattle.replay_report.proofs.Reports.{stand_where}
use Rattle.law_replays.specs.End.Answers.{class_after}
use Rattle.law_replays.proofs.End.Stages.{one_call}
use Rattle.law_replays.proofs.End.Whole.{again_as_captured, each_once, twins_same}
use Rattle.law_replays.specs.Reports.Laws.{AgainIsClean, LinesNameWhatDiffers, NoLineNoWriteDivergence, TwinsAreNotNamed}
use Rattle.law_replays.proofs.Reports.Classed.{each_classed}

-- ---- lines

pub lines_name : LinesNameWhatDiffers
lines_name job history last replay i k call reply before after there =
    let class = class_after after call reply in
    let classed = each_classed job history last replay i k call reply before after there in
    let stamps : IsStamped job.calls = λ n c at. (replay.sound.replayable.legal.each n c at).stamp in
    let stamp = stamps k call there.is_call in (
      λ named same.
          let t = (stand_where job history named.0 stamps).0 named.1 in
          let is = one_call job.calls k call t.call there.is_call (subst (λ (n : ℕ). IsCallAt job.calls n t.call) named.2 t.at) in
          t.differs (sym (same_Some class named.0.class (sym classed ∙ ap (class_of job history) (sym is) ∙ t.class)) ∙ same),
      λ apart.
          let line : Line = record { stamp = call.stamp; session = call.session; place = call.place; class = class } in
          (line, (stand_where job history line stamps).1 (record { call = call; at = subst (λ (n : ℕ). IsCallAt job.calls n call) (sym stamp) there.is_call; session = refl; place = refl; class = classed; differs = apart }), stamp),
    )

pub no_line_none : NoLineNoWriteDivergence
no_line_none job history last replay empty i k call reply before after there =
    let class = class_after after call reply in
    let writes = is_committed call.reply.outcome || is_committed reply.outcome in
    elim (class_number class == class_number Same) as (λ b. class_number class == class_number Same ≡ b → (not b && writes) ≡ false) [
      | true ↦ λ same. refl
      | false ↦ λ other. absurd (
          let named = (lines_name job history last replay i k call reply before after there).1 (λ e. let f : class_number class == class_number Same ≡ true = ap (λ (x : Class). class_number x == class_number Same) e in let g : true ≡ false = sym f ∙ other in cc) in
          Contains-none named.0 (subst (λ (lines : List Line). Contains lines named.0) empty named.1))
    ] refl

pub twins_not_named : TwinsAreNotNamed
twins_not_named job history last captured replay schemas i k call reply before after there came twin named =
    (lines_name job history last replay i k call reply before after there).0 named (twins_same job history last captured replay schemas i k call reply before after there came twin)

-- ---- a clean report

map_all : {A B : Type 0} (f : A → B) (y : B) (xs : List A) → ((k : ℕ) (x : A) → slice_get xs k ≡ Some x → f x ≡ y) → map f xs ≡ replicate (length xs) y
map_all f y [] all = refl
map_all {A} {B} f y (x ∷ xs) all = ap (λ (z : B). z ∷ map f xs) (all 0 x refl) ∙ ap (λ (l : List B). y ∷ l) (map_all f y xs (λ k z e. all (suc k) z e))

flat_none : {A B : Type 0} (f : A → List B) (xs : List A) → ((k : ℕ) (x : A) → slice_get xs k ≡ Some x → f x ≡ []) → flat_map f xs ≡ []
flat_none f [] none = refl
flat_none {A} {B} f (x ∷ xs) none = ap (λ (l : List B). l ++ flat_map f xs) (none 0 x refl) ∙ flat_none f xs (λ k z e. none (suc k) z e)

count_same : (class : Class) (n : ℕ) → count_by (is_class class) (replicate n (Some Same)) ≡ n * cond (is_class class (Some Same)) 1 0
count_same class n = sum_by-replicate (λ (o : Option Class). cond (is_class class o) 1 0) n (Some Same)

clean_counts : (n : ℕ) → counts_of (replicate n (Some Same)) ≡ map (λ class. if class_number class == class_number Same then n else 0) all_classes
clean_counts n =
    let all : count_by (is_class Same) (replicate n (Some Same)) ≡ n = count_same Same n ∙ omega arith in
    let none : (class : Class) → is_class class (Some Same) ≡ false → count_by (is_class class) (replicate n (Some Same)) ≡ 0 = λ class e. count_same class n ∙ ap (λ (b : Bool). n * cond b 1 0) e ∙ omega arith in
    λ i. all i ∷ none NewError refl i ∷ none GoneError refl i ∷ none MutatedError refl i ∷ none RowsModified refl i ∷ none RowsFetched refl i ∷ none RowContents refl i ∷ none Images refl i ∷ none Shape refl i ∷ []

pub again_clean : AgainIsClean
again_clean job history last replay again =
    let same : (k : ℕ) (call : Captured) → IsCallAt job.calls k call → class_of job history call ≡ Some Same = λ k call at.
    let once = each_once job history last replay.complete k call at in
    each_classed job history last replay once.place k call once.reply once.before once.after once.there ∙ ap (λ (c : Class). Some c) ((again_as_captured job history last replay again).classes once.place k call once.reply once.before once.after once.there) in
    let counts = ap counts_of (map_all (class_of job history) (Some Same) job.calls same) ∙ clean_counts (length job.calls) in
    let lines : (report_in job history).lines ≡ [] = flat_none (λ call. difference call (class_of job history call)) job.calls (λ k call at. ap (difference call) (same k call at)) in
    λ i. record { calls = length job.calls; counts = counts i; lines = lines i }
