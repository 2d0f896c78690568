-- A line with what was said on it, and with one call more.
use Rattle.std.proofs.Common.{◌≡◌, ◌∙◌, ◌<◌, ℕ, suc, ◌-◌, inl, inr, List, [], ◌∷◌, ◌++◌, length, get_or, Option, None, Some, IfSome, Result, Ok, Err, IsOk, OnOk, refl, sym, ap, subst, arith}
use Rattle.std.specs.List.{AllByRecursion}
use Rattle.std.proofs.lemmas.Bool.{cases_eq}
use Rattle.desk_values.specs.Good.{IsGoodReply}
use Rattle.desk_values.specs.declared.call.Call.{Call}
use Rattle.desk_values.specs.declared.call.Reply.{Reply}
use Rattle.desk_schema.proofs.Distinct.{all-push}
use Rattle.desk_files.specs.Outside.{Counts, HasRisen, Told, last_count}
use Rattle.remote_link.specs.declared.heard.Heard.{Heard}
use Rattle.remote_link.specs.declared.link_err.LinkErr.{LinkErr}
use Rattle.remote_link.specs.declared.link_err.LinkErr.TheVariants.{Failed, Memory}
use Rattle.remote_link.specs.Dials.{IsNew}
use Rattle.remote_link.specs.Heard.{AreGood, Notes, heard, link_ending}
use Rattle.remote_target.specs.Spoken.{IsLastReply, IsOwn, HasReply, IsSpoken}

pub succeeds : {E : Type 0} {P : Type 0} (result : Result (Unit {0}) E) → IsOk result → OnOk result P → P
succeeds (Ok done) ok gives = gives
succeeds (Err error) ok gives = absurd (cc ok)

-- ---- a new line

pub new_spoken : (told : Option (List Heard)) (faults : ℕ) → IsNew told faults → IsSpoken told faults [] None
new_spoken None faults new = record { own = tt; fair = λ none. tt; replies = tt; good = tt; faultless = λ none. new.faultless; failed = λ failed. absurd cc }
new_spoken (Some list) faults new = record { own = inl (sym new.silent); fair = λ none. sym new.silent; replies = tt; good = tt; faultless = λ none. new.faultless; failed = λ failed. absurd cc }

-- ---- one call more

good_more : (list : List Heard) (one : Heard) → AreGood list → IfSome one.reply IsGoodReply → AreGood (list ++ one ∷ [])
good_more list one are is = all-push (λ (h : Heard). IfSome h.reply IsGoodReply) list one are is

module _ (call : Call) (list : List Heard) (faults faults' : ℕ) where
  -- the line gave its reply
  pub said_ok : (told told' : Option (List Heard)) (reply : Reply) → IsSpoken told faults list None → Notes call (Ok reply) told told' → IsGoodReply reply → faults' ≡ faults → IsSpoken told' faults' (list ++ heard call (Some reply) ∷ []) None
  said_ok None told' reply is notes good same = subst (λ (t : Option (List Heard)). IsSpoken t faults' (list ++ heard call (Some reply) ∷ []) None) (sym notes) (record {
    own = tt;
    fair = λ none. tt;
    replies = all-push HasReply list (heard call (Some reply)) is.replies (reply, refl);
    good = good_more list (heard call (Some reply)) is.good good;
    faultless = λ none. same ∙ is.faultless refl;
    failed = λ failed. absurd cc;
  })
  said_ok (Some told) told' reply is notes good same =
      let more = ap (λ (l : List Heard). l ++ heard call (Some reply) ∷ []) (is.fair refl) in
      subst (λ (t : Option (List Heard)). IsSpoken t faults' (list ++ heard call (Some reply) ∷ []) None) (sym notes) (record {
        own = inl more;
        fair = λ none. more;
        replies = all-push HasReply list (heard call (Some reply)) is.replies (reply, refl);
        good = good_more list (heard call (Some reply)) is.good good;
        faultless = λ none. same ∙ is.faultless refl;
        failed = λ failed. absurd cc;
      })

  -- a count that rose from none is above it
  above : HasRisen faults faults' → faults ≡ 0 → 0 < faults'
  above risen none = elim (cases_eq faults' last_count) [
    | inl stands ↦ omega (arith, stands)
    | inr more ↦ let less = risen more in omega (arith, less)
  ]

  failed_by : (error : LinkErr) → Counts (link_ending (Err error)) faults faults' → faults ≡ 0 → Some error ≡ Some Failed → 0 < faults'
  failed_by Failed counts none is = above counts.0 none
  failed_by Memory counts none is = absurd cc

  module _ (error : LinkErr) where
    refused_with : (told' : Option (List Heard)) → Told told' (IsOwn (list ++ heard call None ∷ [])) → AllByRecursion HasReply list → AreGood list → faults ≡ 0 → Counts (link_ending (Err error)) faults faults' → IsSpoken told' faults' (list ++ heard call None ∷ []) (Some error)
    refused_with told' own replied good none counts = record {
      own = own;
      fair = λ never. absurd cc;
      replies = record { front = list; call = call; replied = replied; last = refl };
      good = good_more list (heard call None) good tt;
      faultless = λ never. absurd cc;
      failed = λ failed. failed_by error counts none failed;
    }

    -- the line refused it
    pub said_err : (told told' : Option (List Heard)) → IsSpoken told faults list None → Notes call (Err error) told told' → Counts (link_ending (Err error)) faults faults' → IsSpoken told' faults' (list ++ heard call None ∷ []) (Some error)
    said_err None told' is notes counts = subst (λ (t : Option (List Heard)). IsSpoken t faults' (list ++ heard call None ∷ []) (Some error)) (sym notes) (refused_with None tt is.replies is.good (is.faultless refl) counts)
    said_err (Some told) told' is (inl same) counts = subst (λ (t : Option (List Heard)). IsSpoken t faults' (list ++ heard call None ∷ []) (Some error)) (sym same)
        (refused_with (Some told) (inr (call, ap (λ (l : List Heard). l ++ heard call None ∷ []) (is.fair refl))) is.replies is.good (is.faultless refl) counts)
    said_err (Some told) told' is (inr more) counts = subst (λ (t : Option (List Heard)). IsSpoken t faults' (list ++ heard call None ∷ []) (Some error)) (sym more)
        (refused_with (Some (told ++ heard call None ∷ [])) (inl (ap (λ (l : List Heard). l ++ heard call None ∷ []) (is.fair refl))) is.replies is.good (is.faultless refl) counts)

-- ---- the last reply

pub last_is : (list : List Heard) (one : Heard) → IsLastReply (list ++ one ∷ []) one.reply
last_is [] one = refl
last_is (first ∷ []) one = refl
last_is (first ∷ second ∷ list) one = last_is (second ∷ list) one

pub last_found : (list : List Heard) (one : Heard) → 0 < length list → one ≡ get_or list (length list - 1) one → IsLastReply list one.reply
last_found [] one some is = absurd (omega (arith, some))
last_found (first ∷ []) one some is = ap (λ (h : Heard). h.reply) is
last_found (first ∷ second ∷ list) one some is =
    let next : length (first ∷ second ∷ list) - 1 ≡ suc (length (second ∷ list) - 1) = omega arith in
    last_found (second ∷ list) one (omega arith) (is ∙ ap (λ (i : ℕ). get_or (first ∷ second ∷ list) i one) next)

-- there is one last reply
pub one_last : (list : List Heard) (a b : Option Reply) → IsLastReply list a → IsLastReply list b → a ≡ b
one_last [] a b x y = x ∙ sym y
one_last (one ∷ []) a b x y = x ∙ sym y
one_last (one ∷ other ∷ others) a b x y = one_last (other ∷ others) a b x y

-- and it can be written
pub last_good : (list : List Heard) (found : Option Reply) → AreGood list → IsLastReply list found → IfSome found IsGoodReply
last_good [] found good is = rw is tt
last_good (one ∷ []) found good is = rw is good.0
last_good (one ∷ other ∷ others) found good is = last_good (other ∷ others) found good.1 is

-- the reply that is found is the one that was said
pub said_last : (list list' : List Heard) (call : Call) (said found : Reply) → list' ≡ list ++ heard call (Some said) ∷ [] → IsLastReply list' (Some found) → list' ≡ list ++ heard call (Some found) ∷ []
said_last list list' call said found is last =
    let own : IsLastReply list' (Some said) = subst (λ (l : List Heard). IsLastReply l (Some said)) (sym is) (last_is list (heard call (Some said))) in
    is ∙ ap (λ (r : Option Reply). list ++ heard call r ∷ []) (one_last list' (Some said) (Some found) own last)
