-- The causes: what was read is the text of causes of the lines, and it is read so.
use Rattle.std.proofs.Common.{◌≡◌, ℕ, suc, ◌+◌, ◌<◌, ◌≤◌, ◌^◌, get_or, List, [], ◌∷◌, ◌++◌, length, drop, map, Option, Some, None, Result, Ok, Err, refl, ap, sym, subst, ◌∙◌, append_assoc, append-nil, arith, lit≤}
use Rattle.std.specs.Prelude.{codes, IfOk, IsErrOf}
use Rattle.std.specs.List.{AllByRecursion, flat_map}
use Rattle.std.specs.Option.{option_and_then, option_map}
use Rattle.std.specs.Fmt.{decimal}
use Rattle.std.specs.Str.{bytes_eq}
use Rattle.std.proofs.lemmas.Bool.{eq-eqb, eqb-true}
use Rattle.std.proofs.lemmas.List.{drop_all}
use Rattle.std.proofs.lemmas.Option.{same_Some}
use Rattle.std.proofs.Math.Seq.{drop-cons}
use Rattle.std.proofs.lemmas.Slice.Eq.{bytes_eq-Decides}
use Rattle.desk_values.specs.Fields.{Lacks, cut_at}
use Rattle.desk_values.specs.Reading.{Reads, at_end, number_below}
use Rattle.desk_values.specs.declared.read_err.ReadErr.{ReadErr}
use Rattle.desk_values.specs.declared.read_err.ReadErr.TheVariants.{Bad, Memory}
use Rattle.desk_values.proofs.Cuts.{cut_at-joined, cut_at_parts}
use Rattle.desk_values.proofs.Numbers.{numbers_below}
use Rattle.desk_values.proofs.Options.{bind_some, when_some}
use Rattle.desk_values.proofs.Readers.{IsReader}
use Rattle.desk_values.proofs.Words.{member_with_word_law}
use Rattle.desk_values.proofs.Bytes.{decimal-Lacks}
use Rattle.capture_format.specs.Inside.Fields.{two_of}
use Rattle.capture_format.proofs.Alphabet.{text_decimal, text_then, text_word, AreTextBytes}
use Rattle.capture_format.proofs.Fields.{two_reader}
use Rattle.capture_format.proofs.SessionTexts.{visible_all}
use Rattle.replay_history.specs.declared.report.Line.{Line}
use Rattle.replay_history.specs.Texts.{line}
use Rattle.divergence_cause.specs.Cause.{all_causes, cause_word, causes_have_own_words}
use Rattle.divergence_cause.specs.Text.{cause_line}
use Rattle.divergence_cause.specs.declared.cause.Cause.{Cause}
use Rattle.divergence_cause.specs.declared.cause.Cause.TheVariants.{Timing, Upgrade}
use Rattle.divergence_cause.specs.declared.cause.CauseLine.{CauseLine}
use Rattle.run_files.specs.CausesFile.{AreCausesFor, stamps_of}
use Rattle.run_files.specs.Inside.Reading.{cause_at, cause_in, cause_named, cause_of_stamp, causes_behind, causes_of, onto}

-- ---- a record

stamps : IsReader (number_below (2 ^ 32)) (λ n. n < 2 ^ 32) decimal
stamps = numbers_below (2 ^ 32) (lit≤ tt)

causes : IsReader cause_named (λ c. Unit {0}) cause_word
causes = record {
  takes = λ bytes c e. (tt, sym ((member_with_word_law cause_word all_causes causes_have_own_words bytes c).0 e));
  again = λ c fits. causes_have_own_words c;
}

no_comma : (n : ℕ) → n < 2 ^ 32 → Lacks 44 (decimal n)
no_comma n few = decimal-Lacks 44 n refl (omega (arith, few))

fields : IsReader (two_of 44 (number_below (2 ^ 32)) cause_named) (λ p. (p.0 < 2 ^ 32) × Unit {0}) (λ p. decimal p.0 ++ 44 ∷ cause_word p.1)
fields = two_reader 44 stamps causes no_comma

-- the text of a record, without its line feed
abbrev record_text : ℕ → Cause → List ℕ
record_text stamp cause = decimal stamp ++ 44 ∷ cause_word cause

cause_taken : (stamp : ℕ) (bytes : List ℕ) (cause : Cause) → cause_in stamp bytes ≡ Some cause → (stamp < 2 ^ 32) × (bytes ≡ record_text stamp cause)
unfolding cause_in
cause_taken stamp bytes cause e =
    let found = bind_some (two_of 44 (number_below (2 ^ 32)) cause_named bytes) (cause_of_stamp stamp) cause e in
    let test = when_some _ (Some found.0.1) cause found.2 in
    let same : found.0.0 ≡ stamp = eqb-true found.0.0 stamp test.0 in
    let taken = fields.takes bytes found.0 found.1 in
    (subst (λ (n : ℕ). n < 2 ^ 32) same taken.0.0, taken.1 ∙ ap (λ (n : ℕ). record_text n found.0.1) same ∙ ap (record_text stamp) (same_Some found.0.1 cause test.1))

cause_again : (stamp : ℕ) (cause : Cause) → stamp < 2 ^ 32 → cause_in stamp (record_text stamp cause) ≡ Some cause
unfolding cause_in
cause_again stamp cause few = rw (fields.again (stamp, cause) (few, tt), eq-eqb stamp stamp refl) refl

-- ---- a line and what stands behind it

cause_bytes : (cause : Cause) → AreTextBytes (cause_word cause)
cause_bytes Timing = text_word (codes "timing") refl
cause_bytes Upgrade = text_word (codes "upgrade") refl

record_lacks : (stamp : ℕ) (cause : Cause) → stamp < 2 ^ 32 → Lacks 10 (record_text stamp cause)
record_lacks stamp cause few = visible_all (record_text stamp cause) (text_then (decimal stamp) (44 ∷ cause_word cause) (text_decimal stamp (omega (arith, few))) (refl, cause_bytes cause))

-- the line of a stamp's cause
abbrev made : ℕ → Cause → CauseLine
made stamp cause = record { stamp = stamp; cause = cause }

line_joined : (text rest : List ℕ) → line text ++ rest ≡ text ++ 10 ∷ rest
line_joined text rest = append_assoc text (10 ∷ []) rest

at_taken : (stamp : ℕ) (bytes : List ℕ) (p : Cause × List ℕ) → cause_at stamp bytes ≡ Some p → (stamp < 2 ^ 32) × (bytes ≡ cause_line (made stamp p.0) ++ p.1)
unfolding cause_at
at_taken stamp bytes p e =
    let parts = bind_some (cut_at 10 bytes) _ p e in
    let cause = bind_some (cause_in stamp parts.0.0) (λ (c : Cause). Some (c, parts.0.1)) p parts.2 in
    let taken = cause_taken stamp parts.0.0 cause.0 cause.1 in
    let whole : bytes ≡ cause_line (made stamp cause.0) ++ parts.0.1 =
    (cut_at_parts 10 bytes parts.0 parts.1).parts ∙ ap (λ (t : List ℕ). t ++ 10 ∷ parts.0.1) taken.1 ∙ sym (line_joined (record_text stamp cause.0) parts.0.1) in
    (taken.0, whole ∙ ap (λ (q : Cause × List ℕ). cause_line (made stamp q.0) ++ q.1) (same_Some (cause.0, parts.0.1) p cause.2))

at_again : (stamp : ℕ) (cause : Cause) (rest : List ℕ) → stamp < 2 ^ 32 → cause_at stamp (cause_line (made stamp cause) ++ rest) ≡ Some (cause, rest)
unfolding cause_at
at_again stamp cause rest few =
    rw (line_joined (record_text stamp cause) rest, cut_at-joined 10 (record_text stamp cause) rest (record_lacks stamp cause few), cause_again stamp cause few) refl

-- ---- lines

abbrev AllFit : List CauseLine → Type 0
AllFit lines = AllByRecursion (λ (l : CauseLine). l.stamp < 2 ^ 32) lines

abbrev stamps_in : List CauseLine → List ℕ
stamps_in lines = map (λ (l : CauseLine). l.stamp) lines

record AreBehind (ks : List ℕ) (bytes : List ℕ) (lines : List CauseLine) : Type 0 where
  fit : AllFit lines
  stamps_are : stamps_in lines ≡ ks
  text : bytes ≡ flat_map cause_line lines

ended_taken : (bytes : List ℕ) (lines : List CauseLine) → at_end {T = List CauseLine} bytes [] ≡ Some lines → AreBehind [] bytes lines
ended_taken [] lines e = subst (AreBehind [] []) (same_Some [] lines e) (record { fit = tt; stamps_are = refl; text = refl })
ended_taken (byte ∷ bytes) lines e = absurd cc

behind_taken : (ks : List ℕ) (bytes : List ℕ) (lines : List CauseLine) → causes_behind ks bytes ≡ Some lines → AreBehind ks bytes lines
behind_taken [] bytes lines e = ended_taken bytes lines e
behind_taken (k ∷ ks) bytes lines e =
    let first = bind_some (cause_at k bytes) _ lines e in
    let others = bind_some (causes_behind ks first.0.1) (λ (os : List CauseLine). Some (made k first.0.0 ∷ os)) lines first.2 in
    let taken = at_taken k bytes first.0 first.1 in
    let rest = behind_taken ks first.0.1 others.0 others.1 in
    subst (AreBehind (k ∷ ks) bytes) (same_Some (made k first.0.0 ∷ others.0) lines others.2) (record {
      fit = (taken.0, rest.fit);
      stamps_are = ap (λ (ns : List ℕ). k ∷ ns) rest.stamps_are;
      text = taken.1 ∙ ap (λ (t : List ℕ). cause_line (made k first.0.0) ++ t) rest.text;
    })

behind_again : (lines : List CauseLine) → AllFit lines → causes_behind (stamps_in lines) (flat_map cause_line lines) ≡ Some lines
behind_again [] fit = refl
behind_again (l ∷ lines) fit = rw (at_again l.stamp l.cause (flat_map cause_line lines) fit.0, behind_again lines fit.1) refl

pub causes_taken : (lines : List Line) (bytes : List ℕ) (found : List CauseLine) → causes_of (stamps_of lines) bytes ≡ Some found → AreCausesFor lines bytes found
unfolding causes_of
causes_taken lines bytes found e =
    let parts = bind_some (cut_at 10 bytes) _ found e in
    let head = when_some (bytes_eq parts.0.0 (codes "stamp,cause")) (causes_behind (stamps_of lines) parts.0.1) found parts.2 in
    let behind = behind_taken (stamps_of lines) parts.0.1 found head.1 in
    record {
      fit = behind.fit;
      stamps = behind.stamps_are;
      text = (cut_at_parts 10 bytes parts.0 parts.1).parts ∙ ap (λ (t : List ℕ). t ++ 10 ∷ parts.0.1) ((bytes_eq-Decides parts.0.0 (codes "stamp,cause")).0 head.0)
          ∙ sym (line_joined (codes "stamp,cause") parts.0.1) ∙ ap (λ (t : List ℕ). line (codes "stamp,cause") ++ t) behind.text;
    }

pub causes_again : (lines : List Line) (bytes : List ℕ) (found : List CauseLine) → AreCausesFor lines bytes found → causes_of (stamps_of lines) bytes ≡ Some found
unfolding causes_of
causes_again lines bytes found are =
    rw (are.text, ← are.stamps) (behind_again found are.fit)

-- ---- what a reader answers

pub reads_ok : (lines : List Line) (bytes : List ℕ) (result : Result (List CauseLine) ReadErr) → Reads result (causes_of (stamps_of lines) bytes) → IfOk result (AreCausesFor lines bytes)
reads_ok lines bytes (Ok found) e = causes_taken lines bytes found e
reads_ok lines bytes (Err error) e = tt

abbrev is_err : ReadErr → Result (List CauseLine) ReadErr
is_err error = Err error

pub reads_bad : (lines : List Line) (bytes : List ℕ) (result : Result (List CauseLine) ReadErr) → Reads result (causes_of (stamps_of lines) bytes) → IsErrOf result Bad → (found : List CauseLine) → ¬ AreCausesFor lines bytes found
reads_bad lines bytes (Ok found) e is other are = let never : Ok found ≡ is_err Bad = is in cc
reads_bad lines bytes (Err Bad) none is other are = let never = sym none ∙ causes_again lines bytes other are in cc
reads_bad lines bytes (Err Memory) none is other are = let never : is_err Memory ≡ is_err Bad = is in cc

-- ---- along the lines

onto_more : (done : List CauseLine) (l : CauseLine) (rest : Option (List CauseLine)) → onto (done ++ l ∷ []) rest ≡ onto done (option_map (λ (others : List CauseLine). l ∷ others) rest)
onto_more done l None = refl
onto_more done l (Some others) = ap Some (append_assoc done (l ∷ []) others)

step : (k : ℕ) (ks : List ℕ) (cause : Cause) (bytes behind : List ℕ) → cause_at k bytes ≡ Some (cause, behind) → causes_behind (k ∷ ks) bytes ≡ option_map (λ (others : List CauseLine). made k cause ∷ others) (causes_behind ks behind)
step k ks cause bytes behind e = rw e (by (causes_behind ks behind))
  where
    by : (found : Option (List CauseLine)) → option_and_then (λ (others : List CauseLine). Some (made k cause ∷ others)) found ≡ option_map (λ (others : List CauseLine). made k cause ∷ others) found
    by None = refl
    by (Some others) = refl

line_here : (lines : List Line) (i : ℕ) (l : Line) → i < length lines → l ≡ get_or lines i l → drop i lines ≡ l ∷ drop (i + 1) lines
line_here lines i l within is = drop-cons lines i l within ∙ (let next : suc i ≡ i + 1 = omega arith in rw (← is, next) refl)

-- one more cause was read
pub one_more : (lines : List Line) (i : ℕ) (l : Line) (done : List CauseLine) (rest behind : List ℕ) (cause : Cause) (whole : Option (List CauseLine)) → i < length lines → l ≡ get_or lines i l → cause_at l.stamp rest ≡ Some (cause, behind)
    → onto done (causes_behind (stamps_of (drop i lines)) rest) ≡ whole → onto (done ++ made l.stamp cause ∷ []) (causes_behind (stamps_of (drop (i + 1) lines)) behind) ≡ whole
one_more lines i l done rest behind cause whole within is found so_far =
    onto_more done (made l.stamp cause) _ ∙ ap (onto done) (sym (ap (λ (ls : List Line). causes_behind (stamps_of ls) rest) (line_here lines i l within is) ∙ step l.stamp (stamps_of (drop (i + 1) lines)) cause rest behind found)) ∙ so_far

-- there is none
pub no_more : (lines : List Line) (i : ℕ) (l : Line) (done : List CauseLine) (rest : List ℕ) (whole : Option (List CauseLine)) → i < length lines → l ≡ get_or lines i l → cause_at l.stamp rest ≡ None
    → onto done (causes_behind (stamps_of (drop i lines)) rest) ≡ whole → whole ≡ None
no_more lines i l done rest whole within is none so_far =
    sym so_far ∙ ap (λ (ls : List Line). onto done (causes_behind (stamps_of ls) rest)) (line_here lines i l within is) ∙ rw none refl

-- all were read
pub at_last : (lines : List Line) (i : ℕ) (done : List CauseLine) (whole : Option (List CauseLine)) → length lines ≤ i → onto done (causes_behind (stamps_of (drop i lines)) []) ≡ whole → whole ≡ Some done
at_last lines i done whole all so_far =
    sym so_far ∙ ap (λ (ls : List Line). onto done (causes_behind (stamps_of ls) [])) (drop_all i lines all) ∙ ap Some (append-nil done)

-- and more stands behind them
pub too_many : (lines : List Line) (i : ℕ) (done : List CauseLine) (byte : ℕ) (bytes : List ℕ) (whole : Option (List CauseLine)) → length lines ≤ i → onto done (causes_behind (stamps_of (drop i lines)) (byte ∷ bytes)) ≡ whole → whole ≡ None
too_many lines i done byte bytes whole all so_far = sym so_far ∙ ap (λ (ls : List Line). onto done (causes_behind (stamps_of ls) (byte ∷ bytes))) (drop_all i lines all)
