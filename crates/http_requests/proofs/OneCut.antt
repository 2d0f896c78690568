-- Bytes are cut into requests in one way.
use Rattle.std.proofs.Common.{◌≡◌, ℕ, ◌+◌, ◌<◌, ◌≤◌, true, false, inl, inr, List, [], ◌∷◌, ◌++◌, length, take, Option, None, Some, refl, sym, ap, ◌∙◌, arith, append_assoc}
use Rattle.std.proofs.lemmas.List.{append_cancel_left, length-append, take_all, take-append-le, take_at}
use Rattle.httparse.proofs.GrammarLemmas.{request_unique}
use Rattle.http_requests.specs.declared.decision.Decision.{Decision}
use Rattle.http_requests.specs.Decisions.{decision_of}
use Rattle.http_requests.specs.Heads.{Head, HasNoEnd, IsHeadText, Reads, ends_head, parts_of}
use Rattle.http_requests.specs.Requests.{AreRequests, Cut, Decides, IsOne, IsUnfinished, own_of}

-- ---- one head

-- bytes that end a head are no front that does not
clash : (xs ys : List ℕ) (n : ℕ) → xs ≡ take n ys → ends_head xs ≡ true → ends_head (take n ys) ≡ false → ⊥
clash xs ys n same ends none = let e : true ≡ false = sym ends ∙ ap ends_head same ∙ none in cc

-- of two fronts of the same bytes the shorter is a front of the longer
front : (t u r s : List ℕ) → t ++ r ≡ u ++ s → length t ≤ length u → t ≡ take (length t) u
front t u r s same short = sym (take_at t r (length t) refl) ∙ ap (take (length t)) same ∙ take-append-le (length t) u s short

as_long : (t u r s : List ℕ) → t ++ r ≡ u ++ s → length t ≡ length u → t ≡ u
as_long t u r s same long = front t u r s same (omega (arith, long)) ∙ take_all (length t) u (omega (arith, long))

no_longer : (t u r s : List ℕ) → IsHeadText t → IsHeadText u → t ++ r ≡ u ++ s → length u ≤ length t
no_longer t u r s a b same =
    let never : length t < length u → ⊥ = λ less. clash t u (length t) (front t u r s same (omega (arith, less))) a.ends (b.first (length t) less) in
    omega (arith, never)

one_head : (t u r s : List ℕ) → IsHeadText t → IsHeadText u → t ++ r ≡ u ++ s → t ≡ u
one_head t u r s a b same = as_long t u r s same (omega (arith, no_longer t u r s a b same, no_longer u t s r b a (sym same)))

no_head : (t u r s : List ℕ) → HasNoEnd t → length t ≡ 8192 → IsHeadText u → t ++ r ≡ u ++ s → ⊥
no_head t u r s endless long head same = clash u t (length u) (front u t s r (sym same) (omega (arith, long, head.limit))) head.ends (endless (length u))

one_reading : (text : List ℕ) (a b : Option Head) → Reads text a → Reads text b → a ≡ b
one_reading text None None x y = refl
one_reading text None (Some b) x y = absurd (x y.0 y.1)
one_reading text (Some a) None x y = absurd (y x.0 x.1)
one_reading text (Some a) (Some b) x y = ap (λ (h : Head). Some h) (x.2 ∙ ap parts_of (request_unique text x.0 y.0 [] [] x.1.reads y.1.reads).0 ∙ sym y.2)

one_decision : (t u r s : List ℕ) (d e : Decision) → Decides t d → Decides u e → t ++ r ≡ u ++ s → (t ≡ u) × (d ≡ e)
one_decision t u r s d e (inl a) (inl b) same = (as_long t u r s same (a.limit ∙ sym b.limit), a.refused ∙ sym b.refused)
one_decision t u r s d e (inl a) (inr b) same = absurd (no_head t u r s a.endless a.limit b.head same)
one_decision t u r s d e (inr a) (inl b) same = absurd (no_head u t s r b.endless b.limit a.head (sym same))
one_decision t u r s d e (inr a) (inr b) same =
    let text : t ≡ u = one_head t u r s a.head b.head same in
    (text, a.judged ∙ ap decision_of (one_reading u a.read b.read (rw text at a.reads) b.reads) ∙ sym b.judged)

-- ---- one request

same_cut : (x y : Cut) → x.own ≡ y.own → x.body ≡ y.body → x.decision ≡ y.decision → x ≡ y
same_cut x y own body decision =
    ap (λ (o : List ℕ). record x { own = o }) own
    ∙ ap (λ (b : List ℕ). record { own = y.own; body = b; decision = x.decision }) body
    ∙ ap (λ (d : Decision). record y { decision = d }) decision

-- where the parts before the bodies are the same, and the bodies as long as each other
one_body : (t a b r s : List ℕ) → t ++ a ++ r ≡ t ++ b ++ s → length a ≡ length b → (a ≡ b) × (r ≡ s)
one_body t a b r s same long =
    let behind : a ++ r ≡ b ++ s = append_cancel_left t (a ++ r) (b ++ s) (sym (append_assoc t a r) ∙ same ∙ append_assoc t b s) in
    let body : a ≡ b = as_long a b r s behind long in
    (body, append_cancel_left b r s (ap (λ (l : List ℕ). l ++ r) (sym body) ∙ behind))

one_request : (x y : Cut) (r s : List ℕ) → IsOne x → IsOne y → x.own ++ r ≡ y.own ++ s → (x ≡ y) × (r ≡ s)
one_request x y r s a b same =
    let parts : a.text ++ x.body ++ r ≡ b.text ++ y.body ++ s = rw (a.parts, b.parts) at same in
    let decided = one_decision a.text b.text (x.body ++ r) (y.body ++ s) x.decision y.decision a.decides b.decides (sym (append_assoc a.text x.body r) ∙ parts ∙ append_assoc b.text y.body s) in
    let rest = one_body b.text x.body y.body r s (ap (λ (t : List ℕ). t ++ x.body ++ r) (sym decided.0) ∙ parts) (a.whole ∙ ap (λ (d : Decision). d.body) decided.1 ∙ sym b.whole) in
    (same_cut x y (a.parts ∙ ap (λ (t : List ℕ). t ++ x.body) decided.0 ∙ ap (λ (l : List ℕ). b.text ++ l) rest.0 ∙ sym b.parts) rest.0 decided.1, rest.1)

-- less than a request begins with none
no_request : (bytes : List ℕ) (x : Cut) (more : List ℕ) → IsUnfinished bytes → IsOne x → bytes ≡ x.own ++ more → ⊥
no_request bytes x more unfinished one same = by unfinished one.decides where
  parts : bytes ≡ one.text ++ (x.body ++ more)
  parts = same ∙ ap (λ (l : List ℕ). l ++ more) one.parts ∙ append_assoc one.text x.body more

  by : IsUnfinished bytes → Decides one.text x.decision → ⊥
  by (inl short) (inl long) = absurd (omega (arith, ap length parts, length-append one.text (x.body ++ more), short.short, long.limit))
  by (inl short) (inr judged) = clash one.text bytes (length one.text) (sym (take_at one.text (x.body ++ more) (length one.text) refl) ∙ ap (take (length one.text)) (sym parts)) judged.head.ends (short.endless (length one.text))
  by (inr short) decides =
      let decided = one_decision short.text one.text short.body (x.body ++ more) short.decision x.decision short.decides decides (sym short.parts ∙ parts) in
      let body : short.body ≡ x.body ++ more = append_cancel_left one.text short.body (x.body ++ more) (ap (λ (t : List ℕ). t ++ short.body) (sym decided.0) ∙ sym short.parts ∙ parts) in
      absurd (omega (arith, short.short, ap length body, length-append x.body more, one.whole, ap (λ (d : Decision). d.body) decided.1))

-- ---- one cut

-- the bytes behind the first request of each
behind : (x y : Cut) (a b : List Cut) (r q : List ℕ) → IsOne x → IsOne y → own_of (x ∷ a) ++ r ≡ own_of (y ∷ b) ++ q → (x ≡ y) × (own_of a ++ r ≡ own_of b ++ q)
behind x y a b r q one other same = one_request x y (own_of a ++ r) (own_of b ++ q) one other (sym (append_assoc x.own (own_of a) r) ∙ same ∙ append_assoc y.own (own_of b) q)

pub agree : (a b : List Cut) (r q : List ℕ) → AreRequests a → AreRequests b → own_of a ++ r ≡ own_of b ++ q → length a ≤ length b → a ≡ take (length a) b
agree [] b r q are others same short = refl
agree (x ∷ a) [] r q are others same short = absurd (omega (arith, short))
agree (x ∷ a) (y ∷ b) r q are others same short =
    let rest = behind x y a b r q are.0 others.0 same in
    ap (λ (c : Cut). c ∷ a) rest.0 ∙ ap (λ (l : List Cut). y ∷ l) (agree a b r q are.1 others.1 rest.1 (omega (arith, short)))

pub same_cuts : (a b : List Cut) (r q : List ℕ) → AreRequests a → AreRequests b → IsUnfinished r → IsUnfinished q → own_of a ++ r ≡ own_of b ++ q → (a ≡ b) × (r ≡ q)
same_cuts [] [] r q are others left over same = (refl, same)
same_cuts [] (y ∷ b) r q are others left over same = absurd (no_request r y (own_of b ++ q) left others.0 (same ∙ append_assoc y.own (own_of b) q))
same_cuts (x ∷ a) [] r q are others left over same = absurd (no_request q x (own_of a ++ r) over are.0 (sym same ∙ append_assoc x.own (own_of a) r))
same_cuts (x ∷ a) (y ∷ b) r q are others left over same =
    let rest = behind x y a b r q are.0 others.0 same in
    let both = same_cuts a b r q are.1 others.1 left over rest.1 in
    (ap (λ (c : Cut). c ∷ a) rest.0 ∙ ap (λ (l : List Cut). y ∷ l) both.0, both.1)
