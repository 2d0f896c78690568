-- Loops that read: what was read before, and what is still read.
use Rattle.std.proofs.Common.{◌≡◌, ℕ, suc, ◌-◌, ◌+◌, ◌≤◌, ◌<◌, ◌≢◌, Bool, false, eqb, get_or, drop, drop-cons, add-one, List, [], ◌∷◌, ◌++◌, length, Option, Some, None, refl, sym, ap, ◌∙◌, append_assoc, arith}
use Rattle.std.specs.List.{cons_option, find}
use Rattle.std.proofs.lemmas.Bool.Decides.{nat_tests}
use Rattle.std.proofs.lemmas.List.{append-nil}
use Rattle.sql_reader.specs.declared.token.Token.{Token}
use Rattle.sql_reader.specs.declared.error.SqlErr.{SqlErr}
use Rattle.sql_reader.specs.declared.error.SqlErr.TheVariants as error
use Rattle.desk_values.specs.Answers.{IsTold}
use Rattle.sql_reader.specs.Spelling.{told}
use Rattle.desk_values.specs.Reading.{◌>>=◌}
use Rattle.sql_reader.specs.Reading.{keep, content_at, step_at, tokens_at, operator_at, more_at, chain_at, inner_at, part_at, after_sign, list_at}
use Rattle.sql_reader.specs.Inside.{begins_quote}
use Rattle.sql_tree.specs.declared.tree.Op.{Op}
use Rattle.sql_reader.specs.declared.part.Part.{Part}
use Rattle.sql_tree.specs.Plain.{Term, bin, Name}
use Rattle.sql_reader.specs.declared.token.Sign.TheVariants as sign

-- the error tells what was to be read, if it tells anything
abbrev pub Fails : {Y : Type 0} → SqlErr → Option Y → Type 0
Fails e read = IsTold (told e) read

-- ---- What was read before, and what is still read.

-- bytes before those that are read
abbrev pub content_front : List ℕ → Option (List ℕ × List ℕ) → Option (List ℕ × List ℕ)
content_front front read = read >>= λ x. Some (front ++ x.0, x.1)

pub content_keep : (front : List ℕ) (b : ℕ) (read : Option (List ℕ × List ℕ)) → content_front front (keep b read) ≡ content_front (front ++ b ∷ []) read
content_keep front b None = refl
content_keep front b (Some x) = ap (λ (bs : List ℕ). Some (bs, x.1)) (simp append_assoc)

pub content_twice : (front rest after : List ℕ) (a : ℕ) (behind : List ℕ) (total : Option (List ℕ × List ℕ)) → rest ≡ a ∷ after → a ≡ 39 → after ≡ 39 ∷ behind → content_front front (content_at rest) ≡ total → content_front (front ++ a ∷ []) (content_at behind) ≡ total
unfolding content_at
content_twice front rest after a behind total e q f so_far =
    let all : rest ≡ 39 ∷ 39 ∷ behind = cc in
    let one : content_front front (content_at rest) ≡ content_front front (keep 39 (content_at behind)) = ap (λ (r : List ℕ). content_front front (content_at r)) all in
    rw q (sym (content_keep front 39 (content_at behind)) ∙ sym one ∙ so_far)

differs : (a b : ℕ) → a ≢ b → eqb a b ≡ false
differs a b h = grind (arith, nat_tests)

pub content_next : (a : ℕ) (bytes : List ℕ) → eqb a 39 ≡ false → content_at (a ∷ bytes) ≡ keep a (content_at bytes)
unfolding content_at
content_next a [] e = rw e refl
content_next a (b ∷ bytes) e = rw e refl

pub content_other : (front rest after : List ℕ) (a : ℕ) (total : Option (List ℕ × List ℕ)) → rest ≡ a ∷ after → a ≢ 39 → content_front front (content_at rest) ≡ total → content_front (front ++ a ∷ []) (content_at after) ≡ total
content_other front rest after a total e h so_far =
    let q : eqb a 39 ≡ false = differs a 39 h in
    let one : content_front front (content_at rest) ≡ content_front front (keep a (content_at after)) = ap (λ (r : List ℕ). content_front front (content_at r)) e ∙ ap (λ (r : Option (List ℕ × List ℕ)). content_front front r) (content_next a after q) in
    sym (content_keep front a (content_at after)) ∙ sym one ∙ so_far

content_ends : (bytes : List ℕ) → begins_quote bytes ≡ false → content_at (39 ∷ bytes) ≡ Some ([], bytes)
unfolding content_at
content_ends [] e = refl
content_ends (b ∷ bytes) e = rw e refl

pub content_end : (front rest after : List ℕ) (a : ℕ) (total : Option (List ℕ × List ℕ)) → rest ≡ a ∷ after → a ≡ 39 → begins_quote after ≡ false → content_front front (content_at rest) ≡ total → total ≡ Some (front, after)
content_end front rest after a total e q f so_far =
    let all : rest ≡ 39 ∷ after = cc in
    let one : content_front front (content_at rest) ≡ Some (front, after) = ap (λ (r : List ℕ). content_front front (content_at r)) all ∙ ap (λ (r : Option (List ℕ × List ℕ)). content_front front r) (content_ends after f) ∙ ap (λ (bs : List ℕ). Some (bs, after)) (append-nil front) in
    sym so_far ∙ one

pub content_none : (front rest : List ℕ) (total : Option (List ℕ × List ℕ)) → length rest ≡ 0 → content_front front (content_at rest) ≡ total → total ≡ None
unfolding content_at
content_none front [] total empty so_far = sym so_far
content_none front (a ∷ rest) total empty so_far = absurd (omega arith)

pub find_next : {X : Type 0} (p : X → Bool) (xs : List X) (i : ℕ) (d : X) → i < length xs → p (get_or xs i d) ≡ false → find p (drop (i + 1) xs) ≡ find p (drop i xs)
find_next p xs i d lt missed = rw (add-one, drop-cons xs i d, missed) refl

-- tokens before those that are read
abbrev pub tokens_front : List Token → Option (List Token) → Option (List Token)
tokens_front front read = read >>= λ tokens. Some (front ++ tokens)

tokens_regroup : (front : List Token) (t : Option Token) (read : Option (List Token)) → tokens_front front (read >>= λ ts. Some (cons_option t ts)) ≡ tokens_front (front ++ cons_option t []) read
tokens_regroup front None None = refl
tokens_regroup front (Some t) None = refl
tokens_regroup front None (Some ts) = ap (λ (x : List Token). Some (x ++ ts)) (sym (append-nil front))
tokens_regroup front (Some t) (Some ts) = ap (λ (x : List Token). Some x) (simp append_assoc)

pub tokens_go_on : (front : List Token) (count i : ℕ) (bytes : List ℕ) (t : Option Token) (after : List ℕ) (total : Option (List Token)) → i < count → step_at bytes ≡ Some (t, after)
    → tokens_front front (tokens_at (count - i) bytes) ≡ total → tokens_front (front ++ cons_option t []) (tokens_at (count - (i + 1)) after) ≡ total
unfolding tokens_at
tokens_go_on front count i bytes t after total lt h so_far =
    let k : count - i ≡ suc (count - (i + 1)) = omega arith in
    let one : tokens_front front (tokens_at (count - i) bytes) ≡ tokens_front (front ++ cons_option t []) (tokens_at (count - (i + 1)) after) = rw (k, h) (tokens_regroup front t (tokens_at (count - (i + 1)) after)) in
    sym one ∙ so_far

pub tokens_fail : (e : SqlErr) (front : List Token) (count i : ℕ) (bytes : List ℕ) (total : Option (List Token)) → i < count → Fails e (step_at bytes)
    → tokens_front front (tokens_at (count - i) bytes) ≡ total → Fails e total
unfolding tokens_at
tokens_fail error.Memory front count i bytes total lt h so_far = tt
tokens_fail error.Syntax front count i bytes total lt h so_far =
    let k : count - i ≡ suc (count - (i + 1)) = omega arith in
    let one : tokens_front front (tokens_at (count - i) bytes) ≡ None = rw (k, h) refl in
    sym so_far ∙ one

pub tokens_done : (front : List Token) (count i : ℕ) (bytes : List ℕ) (total : Option (List Token)) → count ≤ i → length bytes ≡ 0 → tokens_front front (tokens_at (count - i) bytes) ≡ total → total ≡ Some front
unfolding tokens_at
tokens_done front count i [] total le empty so_far =
    let k : count - i ≡ 0 = omega arith in
    let one : tokens_front front (tokens_at (count - i) []) ≡ Some front = rw k (ap (λ (ts : List Token). Some ts) (append-nil front)) in
    sym so_far ∙ one
tokens_done front count i (b ∷ bytes) total le empty so_far = absurd (omega arith)

pub tokens_left : (front : List Token) (count i : ℕ) (bytes : List ℕ) (total : Option (List Token)) → count ≤ i → (length bytes ≡ 0 → ⊥) → tokens_front front (tokens_at (count - i) bytes) ≡ total → total ≡ None
unfolding tokens_at
tokens_left front count i [] total le full so_far = absurd (full refl)
tokens_left front count i (b ∷ bytes) total le full so_far =
    let k : count - i ≡ 0 = omega arith in
    let one : tokens_front front (tokens_at (count - i) (b ∷ bytes)) ≡ None = rw k refl in
    sym so_far ∙ one

-- ---- Steps of the descent, as a loop takes them.

module _ (operand : List Token → Option (Term Name × List Token)) (part : Part) where
  pub chain_begins : (ts : List Token) (left : Term Name) (after : List Token) → operand ts ≡ Some (left, after) → more_at operand part (length ts - 0) left after ≡ chain_at operand part ts
  unfolding chain_at
  chain_begins ts left after e =
      let k : length ts - 0 ≡ length ts = omega arith in
      rw (k, e) refl

  pub chain_fails : (e : SqlErr) (ts : List Token) → Fails e (operand ts) → Fails e (chain_at operand part ts)
  unfolding chain_at
  chain_fails error.Memory ts h = tt
  chain_fails error.Syntax ts h = rw h refl

  pub chain_goes_on : (count i : ℕ) (left : Term Name) (ts : List Token) (o : Op) (behind : List Token) (right : Term Name) (after : List Token) (total : Option (Term Name × List Token)) → i < count → operator_at part ts ≡ Some (o, behind) → operand behind ≡ Some (right, after) → more_at operand part (count - i) left ts ≡ total → more_at operand part (count - (i + 1)) (bin o left right) after ≡ total
  chain_goes_on count i left ts o behind right after total lt e f so_far =
      let k : count - i ≡ suc (count - (i + 1)) = omega arith in
      let one : more_at operand part (count - i) left ts ≡ more_at operand part (count - (i + 1)) (bin o left right) after = rw (k, e, f) refl in
      sym one ∙ so_far

pub nothing_nests : (depth : ℕ) (part : Part) (ts : List Token) → depth ≡ 0 → inner_at depth part ts ≡ None
unfolding inner_at
nothing_nests depth part ts e = rw e refl

nests : (depth : ℕ) (part : Part) (ts : List Token) → inner_at (suc depth) part ts ≡ part_at depth part ts
unfolding inner_at part_at
nests depth part ts = refl

pub one_level : (depth : ℕ) (part : Part) (ts : List Token) → depth ≢ 0 → part_at (depth - 1) part ts ≡ inner_at depth part ts
one_level depth part ts h =
    let e : depth ≡ suc (depth - 1) = omega arith in
    sym (nests (depth - 1) part ts) ∙ ap (λ (d : ℕ). inner_at d part ts) (sym e)

-- ---- Reading the members of a list one after the other, as a loop does.

module _ {A : Type 0} (read : List Token → Option (A × List Token)) where
  -- members before those that are read
  abbrev pub list_front : List A → Option (List A × List Token) → Option (List A × List Token)
  list_front front got = got >>= λ x. Some (front ++ x.0, x.1)

  regroup : (front : List A) (x : A) (got : Option (List A × List Token)) → list_front front (got >>= λ xs. Some (x ∷ xs.0, xs.1)) ≡ list_front (front ++ x ∷ []) got
  regroup front x None = refl
  regroup front x (Some xs) = ap (λ (ys : List A). Some (ys, xs.1)) (simp append_assoc)

  pub nothing_before : (got total : Option (List A × List Token)) → got ≡ total → list_front [] got ≡ total
  nothing_before None total e = e
  nothing_before (Some x) total e = e

  pub list_goes_on : (front : List A) (count i : ℕ) (ts : List Token) (x : A) (after more : List Token) (total : Option (List A × List Token)) → i < count → read ts ≡ Some (x, after) → after_sign sign.Comma after ≡ Some more
      → list_front front (list_at read (count - i) ts) ≡ total → list_front (front ++ x ∷ []) (list_at read (count - (i + 1)) more) ≡ total
  unfolding list_at
  list_goes_on front count i ts x after more total lt e f so_far =
      let k : count - i ≡ suc (count - (i + 1)) = omega arith in
      let one : list_front front (list_at read (count - i) ts) ≡ list_front (front ++ x ∷ []) (list_at read (count - (i + 1)) more) = rw (k, e, f) (regroup front x (list_at read (count - (i + 1)) more)) in
      sym one ∙ so_far

  pub list_ends : (front : List A) (count i : ℕ) (ts : List Token) (x : A) (after : List Token) (total : Option (List A × List Token)) → i < count → read ts ≡ Some (x, after) → after_sign sign.Comma after ≡ None
      → list_front front (list_at read (count - i) ts) ≡ total → total ≡ Some (front ++ x ∷ [], after)
  unfolding list_at
  list_ends front count i ts x after total lt e f so_far =
      let k : count - i ≡ suc (count - (i + 1)) = omega arith in
      let one : list_front front (list_at read (count - i) ts) ≡ Some (front ++ x ∷ [], after) = rw (k, e, f) refl in
      sym so_far ∙ one

  pub list_fails : (e : SqlErr) (front : List A) (count i : ℕ) (ts : List Token) (total : Option (List A × List Token)) → i < count → Fails e (read ts) → list_front front (list_at read (count - i) ts) ≡ total → Fails e total
  unfolding list_at
  list_fails error.Memory front count i ts total lt h so_far = tt
  list_fails error.Syntax front count i ts total lt h so_far =
      let k : count - i ≡ suc (count - (i + 1)) = omega arith in
      let one : list_front front (list_at read (count - i) ts) ≡ None = rw (k, h) refl in
      sym so_far ∙ one

  pub list_full : (front : List A) (count i : ℕ) (ts : List Token) (total : Option (List A × List Token)) → count ≤ i → list_front front (list_at read (count - i) ts) ≡ total → total ≡ None
  unfolding list_at
  list_full front count i ts total le so_far =
      let k : count - i ≡ 0 = omega arith in
      let one : list_front front (list_at read (count - i) ts) ≡ None = rw k refl in
      sym so_far ∙ one
