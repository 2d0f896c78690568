-- What a line tells has a reply at each place, but for the last one at most.
use Rattle.std.proofs.Common.{◌≡◌, ◌∙◌, ℕ, List, [], ◌∷◌, ◌++◌, drop, get_or, inl, inr, length, length-append, Option, None, Some, refl, sym, ap, subst, arith}
use Rattle.std.specs.List.{AllByRecursion}
use Rattle.remote_link.specs.declared.heard.Heard.{Heard}
use Rattle.remote_link.specs.declared.link_err.LinkErr.{LinkErr}
use Rattle.remote_target.specs.Spoken.{HasReply, IsCutOff, IsList, IsOwn, IsUnbroken}

all_front : (list more : List Heard) → AllByRecursion HasReply (list ++ more) → AllByRecursion HasReply list
all_front [] more all = tt
all_front (one ∷ list) more all = (all.0, all_front list more all.1)

-- what is one with a last call more on each side is one without it
same_front : (list front : List Heard) (a b : Heard) → list ++ a ∷ [] ≡ front ++ b ∷ [] → list ≡ front
same_front [] [] a b same = refl
same_front [] (other ∷ front) a b same = absurd (let sizes = ap length same in omega (arith, sizes, length-append front (b ∷ [])))
same_front (one ∷ list) [] a b same = absurd (let sizes = ap length same in omega (arith, sizes, length-append list (a ∷ [])))
same_front (one ∷ list) (other ∷ front) a b same =
    let heads : one ≡ other = ap (λ (l : List Heard). get_or l 0 one) same in
    let tails : list ≡ front = same_front list front a b (ap (λ (l : List Heard). drop 1 l) same) in
    ap (λ (h : Heard). h ∷ list) heads ∙ ap (λ (t : List Heard). other ∷ t) tails

pub unbroken_of : (heard list : List Heard) (refusal : Option LinkErr) → IsList heard refusal → IsOwn heard list → IsUnbroken list
unbroken_of heard list None replies (inl same) = inl (subst (AllByRecursion HasReply) same replies)
unbroken_of heard list None replies (inr cut) = inl (all_front list _ (subst (AllByRecursion HasReply) cut.1 replies))
unbroken_of heard list (Some refusal) replies (inl same) = inr (subst IsCutOff same replies)
unbroken_of heard list (Some refusal) replies (inr cut) = inl (subst (AllByRecursion HasReply) (sym (same_front list replies.front _ _ (sym cut.1 ∙ replies.last))) replies.replied)
