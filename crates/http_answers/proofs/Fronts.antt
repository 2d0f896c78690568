-- What a parse of the front of bytes says of the answer there.
use Rattle.std.proofs.Common.{◌≡◌, ℕ, ◌+◌, ◌-◌, ◌<◌, ◌≤◌, false, List, [], ◌∷◌, ◌++◌, length, take, drop, map, slice_range, IsTrue, Bool, true, codes, IfSome, if◌then◌else◌, Option, None, Some, refl, sym, ap, subst, ◌∙◌, arith, leb-true, append_assoc, append-nil}
use Rattle.std.specs.Prelude.{nat_le}
use Rattle.std.specs.Option.{option_and_then}
use Rattle.std.proofs.Math.Seq.{take-add}
use Rattle.std.proofs.lemmas.Bool.Decides.{nat_tests}
use Rattle.std.proofs.lemmas.Option.{same_Some}
use Rattle.std.proofs.lemmas.List.{length-append, length-drop, length-map, length-take, length-take-le, take_all, take_at, take-append-drop, take-append-le, take-take}
use Rattle.httparse.specs.declared.spans.HeaderSpan.{HeaderSpan}
use Rattle.httparse.specs.declared.spans.ResponseSpans.{ResponseSpans}
use Rattle.httparse.specs.Grammar.{HasNoResponse, MayBecomeResponse, ReadsResponse, ResponseHead, print_response}
use Rattle.httparse.specs.Spans.{IsResponseAt, IsResponseOf, ResponseOverflows, header_bytes, name_and_value}
use Rattle.httparse.proofs.GrammarLemmas.{ReadsResponse-append, response_unique}
use Rattle.http_requests.specs.Decisions.{values_of}
use Rattle.http_requests.specs.Fields.{length_in}
use Rattle.http_answers.specs.declared.answer.Answer.{Answer}
use Rattle.http_answers.specs.declared.answer.Front.TheVariants.{Short}
use Rattle.http_answers.specs.Answers.{Begins, IsAnswer, IsBodyShort, IsUnfinished, IsWholeAt, NeverAnswers, Shows, body_length, content_length, length_by, within}
use Rattle.http_answers.specs.Inside.{body_by}
use Rattle.http_answers.proofs.Answering.{headless, parted, reads_on}

-- ---- all of an answer, or less

pub whole-at : (bytes : List ℕ) (answer : Answer) → Begins bytes answer → IsTrue (nat_le answer.body (length bytes - answer.head)) → IsWholeAt bytes answer
whole-at bytes answer begins fits =
    let enough : answer.body ≤ length bytes - answer.head = grind (arith, nat_tests) in
    let long : length (slice_range bytes answer.head (answer.head + answer.body)) ≡ answer.body =
    omega (arith, begins.within, enough, length-take (answer.head + answer.body - answer.head) (drop answer.head bytes), length-drop answer.head bytes) in
    record {
      within = omega (arith, begins.within, enough);
      is = record {
        text = take answer.head bytes;
        head = begins.head;
        is_head = begins.is_head;
        status_is = begins.status_is;
        parts = take-add answer.head answer.body bytes ∙ ap (λ (n : ℕ). take answer.head bytes ++ take n (drop answer.head bytes)) (omega arith);
        whole = begins.body_is ∙ ap (λ (n : ℕ). Some n) (sym long);
      };
    }

pub short-at : (bytes : List ℕ) (answer : Answer) → Begins bytes answer → nat_le answer.body (length bytes - answer.head) ≡ false → IsBodyShort bytes answer
short-at bytes answer begins over =
    let short : length bytes - answer.head < answer.body = grind (arith, nat_tests) in
    record { begins = begins; short = omega (arith, short, begins.within) }

-- less than all of an answer is no answer
pub short_unfinished : (bytes : List ℕ) (answer : Answer) → IsBodyShort bytes answer → IsUnfinished bytes
short_unfinished bytes answer short own rest status body a same =
    let begins = short.begins in
    let front = take answer.head bytes in
    let left = drop answer.head bytes in
    let here : ReadsResponse bytes begins.head left = subst (λ (l : List ℕ). ReadsResponse l begins.head left) (take-append-drop answer.head bytes) (reads_on front left begins.head begins.is_head) in
    let there : ReadsResponse bytes a.head (body ++ rest) = rw (same ∙ parted own rest status body a) (reads_on a.text (body ++ rest) a.head a.is_head) in
    let one = response_unique bytes begins.head a.head left (body ++ rest) here there in
    let long = same_Some answer.body (length body) (sym begins.body_is ∙ ap body_length one.0 ∙ a.whole) in
    let lefts = ap length one.1 in
    absurd (omega (arith, short.short, begins.within, long, lefts, length-drop answer.head bytes, length-append body rest))

-- ---- no answer

-- the bytes as a front of at most so many, and the rest
cut : (n : ℕ) (bytes more : List ℕ) → bytes ++ more ≡ take n bytes ++ (drop n bytes ++ more)
cut n bytes more = ap (λ (l : List ℕ). l ++ more) (sym (take-append-drop n bytes)) ∙ append_assoc (take n bytes) (drop n bytes) more

-- the head of any answer there is read from the whole
read_there : (bytes more own rest : List ℕ) (status : ℕ) (body : List ℕ) → (a : IsAnswer own status body) → bytes ++ more ≡ own ++ rest → ReadsResponse (bytes ++ more) a.head (body ++ rest)
read_there bytes more own rest status body a same = rw (same ∙ parted own rest status body a) (reads_on a.text (body ++ rest) a.head a.is_head)

pub overflowing : (n : ℕ) (bytes : List ℕ) → ResponseOverflows 64 (take n bytes) → NeverAnswers bytes
overflowing n bytes over more own rest status body a same =
    let many = over (drop n bytes ++ more) a.head (body ++ rest) (rw (sym (cut n bytes more)) (read_there bytes more own rest status body a same)) in
    let few = a.is_head.few in
    absurd (omega (arith, many, few))

-- as many bytes as a head may have, of which no front is one
pub endless : (bytes : List ℕ) → 8192 ≤ length bytes → HasNoResponse (take 8192 bytes) → NeverAnswers bytes
endless bytes many none more own rest status body a same =
    let whole : take 8192 bytes ++ (drop 8192 bytes ++ more) ≡ a.text ++ (body ++ rest) = sym (cut 8192 bytes more) ∙ same ∙ parted own rest status body a in
    let within : length a.text ≤ length (take 8192 bytes) = omega (arith, a.is_head.limit, length-take-le 8192 bytes many) in
    let front : take (length a.text) (take 8192 bytes) ≡ a.text =
    sym (take-append-le (length a.text) (take 8192 bytes) (drop 8192 bytes ++ more) within) ∙ ap (take (length a.text)) whole ∙ take_at a.text (body ++ rest) (length a.text) refl in
    let left = drop (length a.text) (take 8192 bytes) in
    let parts : take 8192 bytes ≡ a.text ++ left = sym (take-append-drop (length a.text) (take 8192 bytes)) ∙ ap (λ (l : List ℕ). l ++ left) front in
    none a.head left (subst (λ (l : List ℕ). ReadsResponse l a.head left) (sym parts) (reads_on a.text left a.head a.is_head))

-- bytes that were read whole and are no head yet
pub shows_short : (n : ℕ) (bytes : List ℕ) → n ≡ length bytes → length bytes < 8192 → HasNoResponse (take n bytes) → MayBecomeResponse (take n bytes) → Shows bytes Short
shows_short n bytes all few none may =
    let whole : take n bytes ≡ bytes = take_all n bytes (omega (arith, all)) in
    (headless bytes (subst HasNoResponse whole none), few, subst MayBecomeResponse whole may)

-- ---- a head

module _ (n : ℕ) (bytes : List ℕ) (spans : List HeaderSpan) (found : ResponseSpans) (h : ResponseHead) (at : IsResponseAt (take n bytes) spans found h) where
  -- the fields that the spans show are those of the head
  shown : content_length (map (header_bytes (take n bytes)) (take found.headers spans)) ≡ body_length h
  shown = ap content_length at.fields

  -- no answer of another length begins there
  pub lengthless : body_length h ≡ None → NeverAnswers bytes
  lengthless none more own rest status body a same =
      let here = ReadsResponse-append (take n bytes) h (drop found.len (take n bytes)) (drop n bytes ++ more) at.reads in
      let there : ReadsResponse (take n bytes ++ (drop n bytes ++ more)) a.head (body ++ rest) = subst (λ (l : List ℕ). ReadsResponse l a.head (body ++ rest)) (cut n bytes more) (read_there bytes more own rest status body a same) in
      let one = (response_unique (take n bytes ++ (drop n bytes ++ more)) h a.head _ _ here there).0 in
      let clash : None ≡ Some (length body) = sym none ∙ ap body_length one ∙ a.whole in
      cc

  few : length spans ≡ 64 → length h.fields ≤ 64
  few room =
      let same : length (map (header_bytes (take n bytes)) (take found.headers spans)) ≡ length (map name_and_value h.fields) = ap length at.fields in
      omega (arith, length-map (take found.headers spans) (header_bytes (take n bytes)), length-map h.fields name_and_value, length-take found.headers spans, same)

  pub begun : n ≤ 8192 → found.len ≤ length (take n bytes) → length spans ≡ 64 → (body : ℕ) → body ≤ 134217728 → body_length h ≡ Some body → Begins bytes (record { head = found.len; body = body; status = found.code })
  begun small within room body limit is =
      let short = length-take n bytes in
      let front : take found.len (take n bytes) ≡ print_response h =
      ap (take found.len) at.reads.1 ∙ take_at (print_response h) (drop found.len (take n bytes)) found.len (sym at.len) in
      let text : take found.len bytes ≡ print_response h ++ [] =
      sym (take-take found.len n bytes (omega (arith, within, short))) ∙ front ∙ sym (append-nil (print_response h)) in
      record {
        within = omega (arith, within, short);
        limits = (omega (arith, within, short, small), limit);
        head = h;
        is_head = record {
          reads = (at.reads.0, text);
          few = few room;
          limit = omega (arith, within, short, small, length-take found.len bytes);
        };
        status_is = at.code;
        body_is = is;
      }

-- ---- what is read there

within_limit : (found : Option ℕ) → IfSome (option_and_then within found) (λ body. body ≤ 134217728)
within_limit None = tt
within_limit (Some n) = go (nat_le n 134217728) refl
  where
    go : (fits : Bool) → nat_le n 134217728 ≡ fits → IfSome (if fits then Some n else None) (λ body. body ≤ 134217728)
    go true fits = leb-true n 134217728 fits
    go false over = tt

limited : (values : List (List ℕ)) → IfSome (length_by values) (λ body. body ≤ 134217728)
limited [] = tt
limited (digits ∷ []) = within_limit (length_in digits)
limited (first ∷ second ∷ others) = tt

-- where a head was read, the answer that its fields tell
pub shows_at : (n : ℕ) (bytes : List ℕ) (spans : List HeaderSpan) (found : ResponseSpans) → n ≤ 8192 → length spans ≡ 64 → IsResponseOf (take n bytes) spans found → found.len ≤ length (take n bytes)
    → Shows bytes (body_by found.len found.code (content_length (map (header_bytes (take n bytes)) (take found.headers spans))))
shows_at n bytes spans found small room of within = go (content_length (map (header_bytes (take n bytes)) (take found.headers spans))) refl
  where
    go : (body : Option ℕ) → content_length (map (header_bytes (take n bytes)) (take found.headers spans)) ≡ body → Shows bytes (body_by found.len found.code body)
    go None is = lengthless n bytes spans found of.0 of.1 (sym (shown n bytes spans found of.0 of.1) ∙ is)
    go (Some body) is =
        let limit = subst (λ (told : Option ℕ). IfSome told (λ b. b ≤ 134217728)) is (limited (values_of (codes "content-length") (map (header_bytes (take n bytes)) (take found.headers spans)))) in
        begun n bytes spans found of.0 of.1 small within room body limit (sym (shown n bytes spans found of.0 of.1) ∙ is)
