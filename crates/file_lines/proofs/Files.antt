-- Reading a file line by line.
use Rattle.std.proofs.Common.{◌≡◌, ◌≢◌, ℕ, ◌+◌, Bool, true, false, List, [], ◌∷◌, ◌++◌, length, Option, Some, None, Result, Ok, Err, refl, sym, ap, subst, ◌∙◌, arith, append_assoc, append-nil, length-append}
use Rattle.std.specs.Prelude.{◌==◌}
use Rattle.std.proofs.lemmas.Bool.{eqb-true}
use Rattle.std.proofs.lemmas.List.Concat.{flat_map-append}
use Rattle.std.proofs.lemmas.Option.{same_Some}
use Rattle.desk_values.specs.Fields.{Lacks, cut_at}
use Rattle.desk_values.proofs.Cuts.{cut_at-joined, cut_at-none}
use Rattle.file_lines.specs.File.{lines_text, Goes, Lead, IsStuck, IsBadAt, Is, SaysOne}

-- ---- one cut

pub record SameCut (text after text2 after2 : List ℕ) : Type 0 where
  pub texts : text ≡ text2
  pub afters : after ≡ after2

pub same_cut : (text after text2 after2 : List ℕ) → Lacks 10 text → Lacks 10 text2 → text ++ 10 ∷ after ≡ text2 ++ 10 ∷ after2 → SameCut text after text2 after2
same_cut text after text2 after2 lacks lacks2 e =
    let both : ◌≡◌ {A = Option (List ℕ × List ℕ)} (Some (text, after)) (Some (text2, after2)) = sym (cut_at-joined 10 text after lacks) ∙ ap (cut_at 10) e ∙ cut_at-joined 10 text2 after2 lacks2 in
    let parts = same_Some (text, after) (text2, after2) both in
    record { texts = ap (λ (p : List ℕ × List ℕ). p.0) parts; afters = ap (λ (p : List ℕ × List ℕ). p.1) parts }

no_line : (last text after : List ℕ) → Lacks 10 last → Lacks 10 text → last ≡ text ++ 10 ∷ after → ⊥
no_line last text after lacks lacks2 e =
    let both : ◌≡◌ {A = Option (List ℕ × List ℕ)} None (Some (text, after)) = sym (cut_at-none 10 last lacks) ∙ ap (cut_at 10) e ∙ cut_at-joined 10 text after lacks2 in
    cc

not_none : (text after : List ℕ) → text ++ 10 ∷ after ≢ []
not_none [] after e = cc
not_none (first ∷ text) after e = cc

pub none_of : (bytes : List ℕ) → (length bytes == 0) ≡ true → bytes ≡ []
none_of [] e = refl
none_of (first ∷ bytes) e = absurd (let zero_is = eqb-true (length (first ∷ bytes)) 0 e in omega (arith, zero_is))

pub none_length : (bytes : List ℕ) → (length bytes == 0) ≡ false → bytes ≢ []
none_length [] e is = cc
none_length (first ∷ bytes) e is = cc

module _ {S : Type 0} (Comes : S → List ℕ → S → Type 0) (done : S → Bool) where
  -- ---- the loop

  -- these lines were read, and the rest is left
  pub record SoFar (s : S) (bytes : List ℕ) (t : S) (n : ℕ) (rest : List ℕ) : Type 0 where
    pub texts : List (List ℕ)
    pub lead : Lead Comes done s texts t
    pub number : n ≡ 1 + length texts
    pub text : bytes ≡ lines_text texts ++ rest

  lead_more : (s t u : S) (texts : List (List ℕ)) (text : List ℕ) → Lead Comes done s texts t → Goes Comes done t text u → Lead Comes done s (texts ++ text ∷ []) u
  lead_more s t u [] text lead goes = (u, subst (λ (v : S). Goes Comes done v text u) lead goes, refl)
  lead_more s t u (first ∷ texts) text lead goes = (lead.0, lead.1, lead_more lead.0 t u texts text lead.2 goes)

  pub more_so_far : (s : S) (bytes : List ℕ) (t u : S) (n : ℕ) (rest text after : List ℕ) → SoFar s bytes t n rest → rest ≡ text ++ 10 ∷ after → Goes Comes done t text u → SoFar s bytes u (n + 1) after
  more_so_far s bytes t u n rest text after so_far cut goes = let number = so_far.number in record {
    texts = so_far.texts ++ text ∷ [];
    lead = lead_more s t u so_far.texts text so_far.lead goes;
    number = omega (arith, number, length-append so_far.texts (text ∷ []));
    text = so_far.text ∙ ap (λ (r : List ℕ). lines_text so_far.texts ++ r) (cut ∙ sym (append_assoc text (10 ∷ []) after)) ∙ sym (append_assoc (lines_text so_far.texts) (text ++ 10 ∷ []) after) ∙ ap (λ (bs : List ℕ). bs ++ after) (sym (flat_map-append (λ (x : List ℕ). x ++ 10 ∷ []) so_far.texts (text ∷ []) ∙ ap (λ (bs : List ℕ). lines_text so_far.texts ++ bs) (append-nil (text ++ 10 ∷ []))));
  }

  bad_here : (s : S) (bytes : List ℕ) (t : S) (n : ℕ) (rest : List ℕ) → SoFar s bytes t n rest → IsStuck Comes done t rest → IsBadAt Comes done s 1 bytes n
  bad_here s bytes t n rest so_far stuck = record { texts = so_far.texts; before = t; rest = rest; lead = so_far.lead; number = so_far.number; text = so_far.text; stuck = stuck }

  pub bad_next : (s : S) (bytes : List ℕ) (t : S) (n : ℕ) (rest text after : List ℕ) → SoFar s bytes t n rest → rest ≡ text ++ 10 ∷ after → Lacks 10 text → ((u : S) → ¬ (Comes t text u)) → IsBadAt Comes done s 1 bytes n
  bad_next s bytes t n rest text after so_far cut lacks never = bad_here s bytes t n rest so_far (record {
    line = λ text2 after2 u e goes. never u (subst (λ (x : List ℕ). Comes t x u) (sym (same_cut text after text2 after2 lacks goes.lacks (sym cut ∙ e)).texts) goes.comes);
    ended = λ _. subst (λ (r : List ℕ). r ≢ []) (sym cut) (not_none text after);
  })

  pub too_early : (s : S) (bytes : List ℕ) (t : S) (n : ℕ) (rest : List ℕ) → SoFar s bytes t n rest → Lacks 10 rest → (done t ≡ true → rest ≢ []) → IsBadAt Comes done s 1 bytes n
  too_early s bytes t n rest so_far lacks some = bad_here s bytes t n rest so_far (record { line = λ text after u e goes. no_line rest text after lacks goes.lacks e; ended = some })

  -- ---- at most one

  module _ (one : SaysOne Comes) where
    Stops : ℕ → List (List ℕ) → S → List ℕ → Result S ℕ → Type 0
    Stops k texts t rest (Ok after) = (after ≡ t) × (rest ≡ []) × (done t ≡ true)
    Stops k texts t rest (Err m) = (m ≡ k + length texts) × IsStuck Comes done t rest

    here : (k : ℕ) (t t2 : S) (rest rest2 : List ℕ) (v w : Result S ℕ) → t ≡ t2 → rest ≡ rest2 → Stops k [] t rest v → Stops k [] t2 rest2 w → v ≡ w
    unfolding Stops
    here k t t2 rest rest2 (Ok after) (Ok after2) same e is other = ap (λ (x : S). Ok x) (is.0 ∙ same ∙ sym other.0)
    here k t t2 rest rest2 (Ok after) (Err m) same e is other = absurd (other.1.ended (subst (λ (x : S). done x ≡ true) same is.2) (sym e ∙ is.1))
    here k t t2 rest rest2 (Err m) (Ok after2) same e is other = absurd (is.1.ended (subst (λ (x : S). done x ≡ true) (sym same) other.2) (e ∙ other.1))
    here k t t2 rest rest2 (Err m) (Err m2) same e is other = ap (λ (x : ℕ). Err x) (is.0 ∙ sym other.0)

    goes_on : (k : ℕ) (texts : List (List ℕ)) (t u : S) (rest text more : List ℕ) (v : Result S ℕ) → rest ≡ text ++ 10 ∷ more → Goes Comes done t text u → Stops k texts t rest v → ⊥
    unfolding Stops
    goes_on k texts t u rest text more (Ok after) e goes is = not_none text more (sym e ∙ is.1)
    goes_on k texts t u rest text more (Err m) e goes is = is.1.line text more u e goes

    stops_later : (k : ℕ) (text : List ℕ) (texts : List (List ℕ)) (t : S) (rest : List ℕ) (v : Result S ℕ) → Stops k (text ∷ texts) t rest v → Stops (k + 1) texts t rest v
    unfolding Stops
    stops_later k text texts t rest (Ok after) is = is
    stops_later k text texts t rest (Err m) is = let number = is.0 in (omega (arith, number), is.1)

    front : (text : List ℕ) (texts : List (List ℕ)) (rest : List ℕ) → lines_text (text ∷ texts) ++ rest ≡ text ++ 10 ∷ (lines_text texts ++ rest)
    front text texts rest = ap (λ (bs : List ℕ). bs ++ rest) (append_assoc text (10 ∷ []) (lines_text texts)) ∙ append_assoc text (10 ∷ lines_text texts) rest

    same : (s s2 : S) (k : ℕ) (texts texts2 : List (List ℕ)) (t t2 : S) (rest rest2 : List ℕ) (v w : Result S ℕ) → s ≡ s2 → Lead Comes done s texts t → Lead Comes done s2 texts2 t2 → lines_text texts ++ rest ≡ lines_text texts2 ++ rest2 → Stops k texts t rest v → Stops k texts2 t2 rest2 w → v ≡ w
    same s s2 k [] [] t t2 rest rest2 v w start lead lead2 e is other = here k t t2 rest rest2 v w (lead ∙ start ∙ sym lead2) e is other
    same s s2 k [] (text2 ∷ texts2) t t2 rest rest2 v w start lead lead2 e is other = absurd (goes_on k [] t lead2.0 rest text2 (lines_text texts2 ++ rest2) v (e ∙ front text2 texts2 rest2) (subst (λ (x : S). Goes Comes done x text2 lead2.0) (sym (lead ∙ start)) lead2.1) is)
    same s s2 k (text ∷ texts) [] t t2 rest rest2 v w start lead lead2 e is other = absurd (goes_on k [] t2 lead.0 rest2 text (lines_text texts ++ rest) w (sym e ∙ front text texts rest) (subst (λ (x : S). Goes Comes done x text lead.0) (start ∙ sym lead2) lead.1) other)
    same s s2 k (text ∷ texts) (text2 ∷ texts2) t t2 rest rest2 v w start lead lead2 e is other =
        let cut = same_cut text (lines_text texts ++ rest) text2 (lines_text texts2 ++ rest2) lead.1.lacks lead2.1.lacks (sym (front text texts rest) ∙ e ∙ front text2 texts2 rest2) in
        let comes : Comes s2 text2 lead.0 = subst (λ (x : List ℕ). Comes s2 x lead.0) cut.texts (subst (λ (x : S). Comes x text lead.0) start lead.1.comes) in
        same lead.0 lead2.0 (k + 1) texts texts2 t t2 rest rest2 v w (one s2 text2 lead.0 lead2.0 comes lead2.1.comes) lead.2 lead2.2 cut.afters (stops_later k text texts t rest v is) (stops_later k text2 texts2 t2 rest2 w other)

    record Stopped (s : S) (k : ℕ) (bytes : List ℕ) (v : Result S ℕ) : Type 0 where
      texts : List (List ℕ)
      state : S
      rest : List ℕ
      lead : Lead Comes done s texts state
      text : bytes ≡ lines_text texts ++ rest
      stops : Stops k texts state rest v

    stopped : (s : S) (k : ℕ) (bytes : List ℕ) (v : Result S ℕ) → Is Comes done s k bytes v → Stopped s k bytes v
    unfolding Stops
    stopped s k bytes (Ok after) is = record { texts = is.texts; state = after; rest = []; lead = is.lead; text = is.text ∙ sym (append-nil (lines_text is.texts)); stops = (refl, refl, is.ended) }
    stopped s k bytes (Err m) is = record { texts = is.texts; state = is.before; rest = is.rest; lead = is.lead; text = is.text; stops = (is.number, is.stuck) }

    -- bytes come to one thing alone
    pub once : (s : S) (k : ℕ) (bytes : List ℕ) (v w : Result S ℕ) → Is Comes done s k bytes v → Is Comes done s k bytes w → v ≡ w
    once s k bytes v w is other =
        let one = stopped s k bytes v is in
        let two = stopped s k bytes w other in
        same s s k one.texts two.texts one.state two.state one.rest two.rest v w refl one.lead two.lead (sym one.text ∙ two.text) one.stops two.stops
