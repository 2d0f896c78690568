-- What is known of the lines that were given back.
use Rattle.std.proofs.Common.{◌≡◌, ℕ, zero, suc, List, [], ◌∷◌, length, map, take, Option, None, refl, sym, ap, subst, ◌∙◌, arith}
use Rattle.std.specs.List.{AllByRecursion}
use Rattle.desk_values.specs.declared.capture.Captured.{Captured}
use Rattle.captured_calls.specs.Sessions.{calls_of}
use Rattle.replay_job.specs.Job.{JobView}
use Rattle.remote_link.specs.declared.heard.Heard.{Heard}
use Rattle.remote_link.specs.declared.link_err.LinkErr.{LinkErr}
use Rattle.remote_target.specs.declared.line.Line.{Line}
use Rattle.remote_target.specs.Agreement.{OfLine, heard_on}
use Rattle.remote_target.specs.Inside.{AreSentInOrder, AreToldOf, IsFresh, SaidView, refusal_on, said_on, session_on}
use Rattle.remote_target.specs.Lines.{AreLinesInOrder, IsInOrder}
use Rattle.remote_target.specs.Spoken.{IsUnbroken}
use Rattle.remote_target.proofs.Ordered.{own_in_order}

pub as_many : (saids : List SaidView) (lists : List (List Heard)) → AreToldOf saids lists → length lists ≡ length saids
as_many [] [] are = refl
as_many [] (list ∷ lists) are = absurd are
as_many (said ∷ saids) [] are = absurd are
as_many (said ∷ saids) (list ∷ lists) are = let rest = as_many saids lists are.1 in omega (arith, rest)

pub all_unbroken : (saids : List SaidView) (lists : List (List Heard)) → AreToldOf saids lists → AllByRecursion IsUnbroken lists
all_unbroken [] [] are = tt
all_unbroken [] (list ∷ lists) are = absurd are
all_unbroken (said ∷ saids) [] are = absurd are
all_unbroken (said ∷ saids) (list ∷ lists) are = (are.0.unbroken, all_unbroken saids lists are.1)

module _ {L : Type 0} where
  -- lines that refused nothing tell just what was kept
  pub told_same : (of : ℕ → List Heard) (lines : List (Line L)) (lists : List (List Heard)) → AreToldOf (map said_on lines) lists → AllByRecursion (λ (r : Option LinkErr). r ≡ None) (map refusal_on lines)
      → AllByRecursion (λ (line : OfLine). line.1 ≡ of line.0) (map heard_on lines) → lists ≡ map of (map session_on lines)
  told_same of [] [] are fair same = refl
  told_same of [] (list ∷ lists) are fair same = absurd are
  told_same of (line ∷ lines) [] are fair same = absurd are
  told_same of (line ∷ lines) (list ∷ lists) are fair same =
      let head : list ≡ of line.session = sym (are.0.fair fair.0) ∙ same.0 in
      let tail = told_same of lines lists are.1 fair.1 same.1 in
      ap (λ (l : List Heard). l ∷ lists) head ∙ ap (λ (ls : List (List Heard)). of line.session ∷ ls) tail

  -- and all of them calls in order, where what was kept is
  pub told_in_order : (job : JobView) (lines : List (Line L)) (lists : List (List Heard)) → AreToldOf (map said_on lines) lists → AreSentInOrder job (map heard_on lines) → AreLinesInOrder job.calls (map session_on lines) lists
  told_in_order job [] [] are order = tt
  told_in_order job [] (list ∷ lists) are order = absurd are
  told_in_order job (line ∷ lines) [] are order = absurd are
  told_in_order job (line ∷ lines) (list ∷ lists) are order =
      (own_in_order (calls_of line.session job.calls) line.spoken.heard list order.0 are.0.own, told_in_order job lines lists are.1 order.1)

  -- and so where nothing was said
  pub fresh_in_order : (job : JobView) (lines : List (Line L)) → AllByRecursion IsFresh (map said_on lines) → AreSentInOrder job (map heard_on lines)
  fresh_in_order job [] fresh = tt
  fresh_in_order job (line ∷ lines) fresh = (subst (IsInOrder (calls_of line.session job.calls)) (sym fresh.0.0) (λ i one at. absurd cc), fresh_in_order job lines fresh.1)

  pub fresh_fair : (lines : List (Line L)) → AllByRecursion IsFresh (map said_on lines) → AllByRecursion (λ (r : Option LinkErr). r ≡ None) (map refusal_on lines)
  fresh_fair [] fresh = tt
  fresh_fair (line ∷ lines) fresh = (fresh.0.1, fresh_fair lines fresh.1)

-- on lines that are fresh nothing was said
pub fresh_empty : {L : Type 0} (lines : List (Line L)) (lists : List (List Heard)) → AreToldOf (map said_on lines) lists → AllByRecursion IsFresh (map said_on lines) → AllByRecursion (λ (list : List Heard). list ≡ []) lists
fresh_empty [] [] are fresh = tt
fresh_empty [] (list ∷ lists) are fresh = absurd are
fresh_empty (line ∷ lines) [] are fresh = absurd are
fresh_empty (line ∷ lines) (list ∷ lists) are fresh = (sym (are.0.fair fresh.0.1) ∙ fresh.0.0, fresh_empty lines lists are.1 fresh.1)

-- those of the first sessions are those of sessions
pub in_order_of : (calls : List Captured) (n : ℕ) (its : List ℕ) (lists : List (List Heard)) → AreLinesInOrder calls (take n its) lists → AreLinesInOrder calls its lists
in_order_of calls n its [] order = tt
in_order_of calls zero its (list ∷ lists) order = absurd order
in_order_of calls (suc n) [] (list ∷ lists) order = absurd order
in_order_of calls (suc n) (session ∷ its) (list ∷ lists) order = (order.0, in_order_of calls n its lists order.1)
