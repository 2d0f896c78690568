-- Bytes begin with one answer at most.
use Rattle.std.proofs.Common.{◌≡◌, ℕ, ◌+◌, List, [], ◌++◌, length, take, refl, sym, ap, ◌∙◌, arith, append_assoc}
use Rattle.std.proofs.lemmas.List.{append_cancel_left, length-append, take_all, take-append-le, take_at}
use Rattle.std.proofs.lemmas.Option.{same_Some}
use Rattle.httparse.specs.Grammar.{HasNoResponse, ReadsResponse, ResponseHead, status_code}
use Rattle.httparse.proofs.GrammarLemmas.{ReadsResponse-append, response_unique}
use Rattle.http_answers.specs.Answers.{IsAnswer, IsHead, IsUnfinished, body_length}

-- a head, and other bytes behind it
pub reads_on : (text more : List ℕ) (head : ResponseHead) → IsHead text head → ReadsResponse (text ++ more) head more
reads_on text more head is = ReadsResponse-append text head [] more is.reads

one_head : (a b : ResponseHead) (t u r s : List ℕ) → IsHead t a → IsHead u b → t ++ r ≡ u ++ s → (a ≡ b) × (r ≡ s)
one_head a b t u r s x y same = response_unique (t ++ r) a b r s (reads_on t r a x) (rw same (reads_on u s b y))

-- of two fronts of the same bytes that are as long as each other both are one
as_long : (t u r s : List ℕ) → t ++ r ≡ u ++ s → length t ≡ length u → (t ≡ u) × (r ≡ s)
as_long t u r s same long =
    let front : t ≡ u =
    sym (take_at t r (length t) refl) ∙ ap (take (length t)) same ∙ take-append-le (length t) u s (omega (arith, long)) ∙ take_all (length t) u (omega (arith, long)) in
    (front, append_cancel_left u r s (ap (λ (l : List ℕ). l ++ r) (sym front) ∙ same))

-- what an answer is behind other bytes' front
pub parted : (own rest : List ℕ) (status : ℕ) (body : List ℕ) → (a : IsAnswer own status body) → own ++ rest ≡ a.text ++ (body ++ rest)
parted own rest status body a = ap (λ (l : List ℕ). l ++ rest) a.parts ∙ append_assoc a.text body rest

pub agree : (own other : List ℕ) (status code : ℕ) (body text rest more : List ℕ) → IsAnswer own status body → IsAnswer other code text → own ++ rest ≡ other ++ more → (own ≡ other) × (status ≡ code) × (body ≡ text) × (rest ≡ more)
agree own other status code body text rest more a b same =
    let parts = sym (parted own rest status body a) ∙ same ∙ parted other more code text b in
    let heads = one_head a.head b.head a.text b.text (body ++ rest) (text ++ more) a.is_head b.is_head parts in
    let long = same_Some (length body) (length text) (sym a.whole ∙ ap body_length heads.0 ∙ b.whole) in
    let bodies = as_long body text rest more heads.1 long in
    let whole = as_long own other rest more same (omega (arith, ap length same, length-append own rest, length-append other more, ap length bodies.1)) in
    (whole.0, a.status_is ∙ ap status_code heads.0 ∙ sym b.status_is, bodies.0, bodies.1)

-- bytes of which no front is a head begin with no answer
pub headless : (bytes : List ℕ) → HasNoResponse bytes → IsUnfinished bytes
headless bytes none own rest status body a same =
    none a.head (body ++ rest) (rw (same ∙ parted own rest status body a) (reads_on a.text (body ++ rest) a.head a.is_head))
