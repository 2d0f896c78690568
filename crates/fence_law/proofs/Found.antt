-- The plain reads are those calls before which nothing stood and whose texts spell plain SELECTs.
use Rattle.std.proofs.Common.{◌≡◌, ◌∙◌, ℕ, ◌+◌, ◌<◌, Bool, true, false, ◌&&◌, List, [], ◌∷◌, ◌++◌, length, get_or, refl, sym, ap, subst, ⊎_elim, arith}
use Rattle.std.specs.Prelude.{◌↔◌}
use Rattle.std.proofs.lemmas.Bool.{and_from, and_parts, cases_lt, cases_order, true≢false}
use Rattle.std.proofs.lemmas.List.{get_or_append_left, get_or_past, get_or_push, length_push}
use Rattle.std.proofs.lemmas.Option.{slice_get-get_or, slice_get_within}
use Rattle.desk_values.specs.declared.capture.Captured.{Captured}
use Rattle.desk_values.specs.declared.capture.Event.{Event}
use Rattle.replay_history.specs.Gap.{IsCallAt}
use Rattle.replay_job.specs.Job.{JobView}
use Rattle.law_replays.proofs.End.Stages.{one_call}
use Rattle.replay_walk.specs.Walked.{AreOpen, IsOpen, marked_at}
use Rattle.fence_law.specs.Inside.{AreReadMarks, stamps_in}
use Rattle.fence_law.specs.Plain.{ArePlainReads, IsPlainRead, is_plain_select}
use Rattle.fence_law.proofs.Marked.{each_marked, stamps_rise}

abbrev unmarked : Bool
unmarked = false

module _ (calls : List Captured) (open_calls : List Bool) where
  pub no_marks : AreReadMarks calls open_calls 0 []
  no_marks = record { count = refl; each = λ k call within at. absurd (omega (arith, within)) }

  pub read_more : (n : ℕ) (marks : List Bool) (call : Captured) → IsCallAt calls n call → (read : Bool) → read ≡ (marked_at open_calls n && is_plain_select call.call) → AreReadMarks calls open_calls n marks
      → AreReadMarks calls open_calls (n + 1) (marks ++ read ∷ [])
  read_more n marks call at read is are = record {
    count = let grown = length_push marks read in omega (arith, grown, are.count);
    each = λ k other less there. ⊎_elim
        (λ same.
        let call_is = one_call calls n call other at (subst (λ (m : ℕ). IsCallAt calls m other) same there) in
        get_or_push marks read unmarked k (are.count ∙ sym same) ∙ is ∙ (λ i. marked_at open_calls (sym same i) && is_plain_select (sym call_is i).call))
        (λ apart. ⊎_elim
        (λ before. get_or_append_left marks (read ∷ []) unmarked k (omega (arith, before, are.count)) ∙ are.each k other before there)
        (λ behind. absurd (omega (arith, less, behind)))
        apart)
        (cases_order k n);
  }

module _ (job : JobView) (history : List Event) (open_calls marks : List Bool) (are_open : AreOpen job history open_calls) (are : AreReadMarks job.calls open_calls (length job.calls) marks) where
  -- a plain read is a call before which nothing stood, and a plain SELECT
  read_is : (k : ℕ) → (marked_at marks k ≡ true) ↔ IsPlainRead job history k
  read_is k = (
    λ marked. ⊎_elim
        (λ within. marked_read k (subst (λ (n : ℕ). k < n) are.count within) marked)
        (λ past. absurd (true≢false (sym marked ∙ get_or_past marks k unmarked past)))
        (cases_lt k (length marks)),
    λ read.
        let p = read.6 in
        let within = slice_get_within job.calls k read.1 p.there.is_call in
        let is_open : marked_at open_calls k ≡ true = (are_open.each k).1 (read.0, read.1, read.2, read.3, read.4, read.5, record { there = p.there; came = p.came; clean = p.clean; still_clean = p.still_clean; images = p.images; quiet = p.quiet }) in
        are.each k read.1 within p.there.is_call ∙ and_from _ _ is_open p.reads,
  )
    where
      call_of : (calls : List Captured) (k : ℕ) → k < length calls → (call : Captured) × IsCallAt calls k call
      call_of [] k within = absurd (omega (arith, within))
      call_of (c ∷ calls) k within = (get_or (c ∷ calls) k c, slice_get-get_or (c ∷ calls) k c within)

      marked_read : (k : ℕ) → k < length job.calls → marked_at marks k ≡ true → IsPlainRead job history k
      marked_read k within marked =
          let open_of = λ (call : Captured) (at : IsCallAt job.calls k call). and_parts (marked_at open_calls k) (is_plain_select call.call) (sym (are.each k call within at) ∙ marked) in
          let some = call_of job.calls k within in
          let o = (are_open.each k).0 (open_of some.0 some.1).0 in
          let q = o.6 in
          (o.0, o.1, o.2, o.3, o.4, o.5, record { there = q.there; came = q.came; reads = (open_of o.1 q.there.is_call).1; clean = q.clean; still_clean = q.still_clean; images = q.images; quiet = q.quiet })

  pub are_plain_reads : ArePlainReads job history (stamps_in 0 marks)
  are_plain_reads = record {
    rise = stamps_rise 0 marks;
    each = λ k.
        let marked = each_marked marks k in
        let plain = read_is k in
        (λ there. plain.0 (marked.0 there), λ read. marked.1 (plain.1 read));
  }
