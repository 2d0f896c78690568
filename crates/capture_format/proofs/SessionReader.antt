-- What is read of a line is spelled so, and what is spelled so is read.
use Rattle.std.proofs.Common.{◌≡◌, ◌≢◌, inl, inr, ℕ, zero, suc, ◌<◌, ◌≤◌, ◌^◌, true, false, cond, eqb, leb, nat_eq, List, [], ◌∷◌, ◌++◌, drop, Option, Some, None, refl, ap, sym, subst, ◌∙◌, append_assoc, arith, lit<, lit≤}
use Rattle.std.specs.Prelude.{codes}
use Rattle.std.specs.List.{AllByRecursion, starts_with}
use Rattle.std.specs.Str.{bytes_eq}
use Rattle.std.specs.Fmt.{decimal}
use Rattle.std.proofs.lemmas.Slice.Eq.{bytes_eq-Decides, starts_is}
use Rattle.std.proofs.lemmas.Bool.Decides.{Decides-eqb}
use Rattle.std.proofs.lemmas.Bool.{ne_eqb, eqb-false, le-leb, leb-true, false_from_ne_true}
use Rattle.std.proofs.lemmas.Option.{cond_some, same_Some}
use Rattle.desk_values.specs.declared.call.Call.{Call as AnyCall}
use Rattle.desk_values.specs.Fields.{Lacks, cut_at}
use Rattle.desk_values.specs.Good.{IsCall, IsGoodReply}
use Rattle.desk_values.specs.Text.{call_text, reply_text}
use Rattle.desk_values.specs.Reading.{◌>>=◌, number_of, number_below}
use Rattle.capture_format.specs.CallReading.{call_of}
use Rattle.capture_format.specs.ReplyReading.{reply_of}
use Rattle.desk_values.proofs.Options.{bind_some, map_some, chosen, unless_some}
use Rattle.desk_values.proofs.Readers.{IsReader}
use Rattle.desk_values.proofs.Cuts.{cut_at-joined, cut_at_parts}
use Rattle.desk_values.proofs.Numbers.{numbers, numbers_below}
use Rattle.capture_format.specs.declared.session_line.CallLine.{CallLine}
use Rattle.capture_format.specs.declared.session_line.Exchange.{Exchange}
use Rattle.capture_format.specs.declared.session_line.SessionLine.{SessionLine}
use Rattle.capture_format.specs.declared.session_line.SessionLine.TheVariants.{Head, Call, End}
use Rattle.capture_format.specs.SessionFile.{number_text, call_line_text, session_line_text, IsCallLine, IsSessionLine}
use Rattle.capture_format.specs.Inside.SessionReading.{number_at, commit_number_of, commit_number_at, before_space, behind_space, exchange_of, call_line_of, head_of, head_or_call, session_line_of}
use Rattle.capture_format.specs.Inside.Fields.{two_of}
use Rattle.capture_format.proofs.Fields.{two_reader}
use Rattle.capture_format.proofs.Cuts.{all_weaker}
use Rattle.capture_format.proofs.Alphabet.{IsDigit, is_text, digits_decimal, text_call, text_then}
use Rattle.desk_values.proofs.Bytes.{Lacks-from}
use Rattle.capture_format.proofs.Spaces.{before_space-joined, before_space_takes, behind_space_takes}

-- ---- numbers, each with a space behind it

no_space_digit : (byte : ℕ) → IsDigit byte → byte ≢ 32
no_space_digit byte digit = λ same. absurd (omega (arith, digit.low))

pub no_space : (n : ℕ) → n < 2 ^ 64 → Lacks 32 (decimal n)
no_space n small = all_weaker IsDigit (λ b. b ≢ 32) no_space_digit (decimal n) (digits_decimal n small)

pub number_at_takes : (most : ℕ) (bytes : List ℕ) (x : ℕ × List ℕ) → number_at most bytes ≡ Some x → (x.0 ≤ most) × (bytes ≡ decimal x.0 ++ 32 ∷ x.1)
unfolding number_at
number_at_takes most bytes x e =
    let parts = bind_some (cut_at 32 bytes) _ x e in
    let number = bind_some (number_of parts.0.0) _ x parts.2 in
    let test = cond_some (leb number.0 most) (number.0, parts.0.1) x number.2 in
    let cut = (cut_at_parts 32 bytes parts.0 parts.1).parts in
    let spelled = (numbers.takes parts.0.0 number.0 number.1).1 in
    subst (λ (y : ℕ × List ℕ). (y.0 ≤ most) × (bytes ≡ decimal y.0 ++ 32 ∷ y.1)) test.1 (leb-true number.0 most test.0, cut ∙ ap (λ (f : List ℕ). f ++ 32 ∷ parts.0.1) spelled)

pub number_at_again : (most n : ℕ) (rest : List ℕ) → most < 2 ^ 64 → n ≤ most → number_at most (decimal n ++ 32 ∷ rest) ≡ Some (n, rest)
unfolding number_at
number_at_again most n rest small le =
    let fits : n < 2 ^ 64 = omega arith in
    rw (cut_at-joined 32 (decimal n) rest (no_space n fits), numbers.again n fits, le-leb n most le) refl

-- ---- the number of a commit

number_text_is : (n : ℕ) → n ≢ 0 → number_text n ≡ decimal n
number_text_is zero some = absurd (some refl)
number_text_is (suc n) some = refl

dash_is_no_digit : (bytes : List ℕ) → AllByRecursion IsDigit bytes → bytes ≡ codes "-" → ⊥
dash_is_no_digit [] digits same = cc
dash_is_no_digit (byte ∷ bytes) digits same = let is : byte ≡ 45 = cc in absurd (omega (arith, digits.0.low))

no_dash : (bytes : List ℕ) → AllByRecursion IsDigit bytes → bytes_eq bytes (codes "-") ≡ false
no_dash bytes digits = false_from_ne_true (bytes_eq bytes (codes "-")) (λ is. dash_is_no_digit bytes digits ((bytes_eq-Decides bytes (codes "-")).0 is))

commit_number_takes : (bytes : List ℕ) (n : ℕ) → commit_number_of bytes ≡ Some n → (n < 2 ^ 64) × (bytes ≡ number_text n)
unfolding commit_number_of
commit_number_takes bytes n e =
    elim (chosen (bytes_eq bytes (codes "-")) (Some 0) (number_of bytes >>= λ m. cond (eqb m 0) None (Some m)) (Some n) e) [
      | inl dash ↦ subst (λ (m : ℕ). (m < 2 ^ 64) × (bytes ≡ number_text m)) (same_Some 0 n dash.1) (lit< tt, (bytes_eq-Decides bytes (codes "-")).0 dash.0)
      | inr digits ↦
          let number = bind_some (number_of bytes) (λ m. cond (eqb m 0) None (Some m)) n digits.1 in
          let test = unless_some (eqb number.0 0) number.0 n number.2 in
          let spelled = numbers.takes bytes number.0 number.1 in
          subst (λ (m : ℕ). (m < 2 ^ 64) × (bytes ≡ number_text m)) test.1 (spelled.0, spelled.1 ∙ sym (number_text_is number.0 (eqb-false number.0 0 test.0)))
    ]

commit_number_again : (n : ℕ) → n < 2 ^ 64 → commit_number_of (number_text n) ≡ Some n
unfolding commit_number_of
commit_number_again zero small = refl
commit_number_again (suc n) small = rw (no_dash (decimal (suc n)) (digits_decimal (suc n) small), numbers.again (suc n) small, ne_eqb (suc n) 0 (λ same. absurd (omega arith))) refl

no_space_number : (n : ℕ) → n < 2 ^ 64 → Lacks 32 (number_text n)
no_space_number zero small = (λ same. absurd (omega arith), tt)
no_space_number (suc n) small = no_space (suc n) small

commit_number_at_takes : (bytes : List ℕ) (x : ℕ × List ℕ) → commit_number_at bytes ≡ Some x → (x.0 < 2 ^ 64) × (bytes ≡ number_text x.0 ++ 32 ∷ x.1)
unfolding commit_number_at
commit_number_at_takes bytes x e =
    let parts = bind_some (cut_at 32 bytes) _ x e in
    let number = bind_some (commit_number_of parts.0.0) (λ n. Some (n, parts.0.1)) x parts.2 in
    let cut = (cut_at_parts 32 bytes parts.0 parts.1).parts in
    let spelled = commit_number_takes parts.0.0 number.0 number.1 in
    subst (λ (y : ℕ × List ℕ). (y.0 < 2 ^ 64) × (bytes ≡ number_text y.0 ++ 32 ∷ y.1)) (same_Some (number.0, parts.0.1) x number.2) (spelled.0, cut ∙ ap (λ (f : List ℕ). f ++ 32 ∷ parts.0.1) spelled.1)

commit_number_at_again : (n : ℕ) (rest : List ℕ) → n < 2 ^ 64 → commit_number_at (number_text n ++ 32 ∷ rest) ≡ Some (n, rest)
unfolding commit_number_at
commit_number_at_again n rest small = rw (cut_at-joined 32 (number_text n) rest (no_space_number n small), commit_number_again n small) refl

-- ---- the first line

abbrev head_word : List ℕ
head_word = codes "session "

begins : (bytes : List ℕ) → (starts_with nat_eq bytes head_word ≡ true → bytes ≡ head_word ++ drop 8 bytes) × ((rest : List ℕ) → bytes ≡ head_word ++ rest → starts_with nat_eq bytes head_word ≡ true)
begins bytes = starts_is Decides-eqb bytes head_word (starts_with nat_eq bytes head_word) refl

small_number : IsReader (number_below (2 ^ 32)) (λ n. n < 2 ^ 32) decimal
small_number = numbers_below (2 ^ 32) (lit≤ tt)

heads : IsReader (two_of 32 (number_below (2 ^ 32)) (number_below (2 ^ 32))) (λ (p : ℕ × ℕ). (p.0 < 2 ^ 32) × (p.1 < 2 ^ 32)) (λ (p : ℕ × ℕ). decimal p.0 ++ 32 ∷ decimal p.1)
heads = two_reader 32 small_number small_number (λ n few. no_space n (omega (arith, few)))

pub head_takes : (bytes : List ℕ) (head : ℕ × ℕ) → head_of bytes ≡ Some head → ((head.0 < 2 ^ 32) × (head.1 < 2 ^ 32)) × (bytes ≡ head_word ++ (decimal head.0 ++ 32 ∷ decimal head.1))
unfolding head_of
head_takes bytes head e =
    elim (chosen (starts_with nat_eq bytes head_word) (two_of 32 (number_below (2 ^ 32)) (number_below (2 ^ 32)) (drop 8 bytes)) None (Some head) e) [
      | inl starts ↦
          let numbers = heads.takes (drop 8 bytes) head starts.1 in
          (numbers.0, (begins bytes).0 starts.0 ∙ ap (λ (r : List ℕ). head_word ++ r) numbers.1)
      | inr other ↦ absurd (let never = other.1 in cc)
    ]

pub head_again : (version session : ℕ) → version < 2 ^ 32 → session < 2 ^ 32 → head_of (head_word ++ (decimal version ++ 32 ∷ decimal session)) ≡ Some (version, session)
unfolding head_of
head_again version session few small = heads.again (version, session) (few, small)

-- the line of a call begins with a digit
digit_first : (digits rest more : List ℕ) (byte : ℕ) → AllByRecursion IsDigit digits → 57 < byte → digits ++ 32 ∷ rest ≡ byte ∷ more → ⊥
digit_first [] rest more byte are high same = let is : 32 ≡ byte = cc in absurd (omega arith)
digit_first (digit ∷ digits) rest more byte are high same = let is : digit ≡ byte = cc in absurd (omega (arith, are.0.high))

not_end : (line : CallLine) → IsCallLine line → bytes_eq (call_line_text line) (codes "end") ≡ false
not_end line fits = false_from_ne_true (bytes_eq (call_line_text line) (codes "end")) (λ is. digit_first (decimal line.stamp) _ _ 101 (digits_decimal line.stamp (omega (arith, fits.stamp))) (lit< tt) ((bytes_eq-Decides (call_line_text line) (codes "end")).0 is))

not_head : (line : CallLine) → IsCallLine line → head_of (call_line_text line) ≡ None
unfolding head_of
not_head line fits =
    let test : starts_with nat_eq (call_line_text line) head_word ≡ false = false_from_ne_true (starts_with nat_eq (call_line_text line) head_word) (λ is. digit_first (decimal line.stamp) _ _ 115 (digits_decimal line.stamp (omega (arith, fits.stamp))) (lit< tt) ((begins (call_line_text line)).0 is)) in
    rw test refl

-- ---- what was asked and what was answered

no_arrow_before : (call : AnyCall) → IsCall call → Lacks 62 (call_text call ++ 32 ∷ [])
no_arrow_before call fits = Lacks-from is_text 62 refl (call_text call ++ 32 ∷ []) (text_then (call_text call) (32 ∷ []) (text_call call fits) (refl, tt))

abbrev pub exchange_text : Exchange → List ℕ
exchange_text x = call_text x.call ++ 32 ∷ 62 ∷ 32 ∷ reply_text x.reply

pub record IsExchange (x : Exchange) : Type 0 where
  pub call : IsCall x.call
  pub reply : IsGoodReply x.reply

module _ (calls : IsReader call_of IsCall call_text) (replies : IsReader reply_of IsGoodReply reply_text) where
  exchange_takes : (bytes : List ℕ) (x : Exchange) → exchange_of bytes ≡ Some x → IsExchange x × (bytes ≡ exchange_text x)
  unfolding exchange_of
  exchange_takes bytes x e =
      let parts = bind_some (cut_at 62 bytes) _ x e in
      let asked = bind_some (before_space parts.0.0) _ x parts.2 in
      let answered = bind_some (behind_space parts.0.1) _ x asked.2 in
      let call = bind_some (call_of asked.0) _ x answered.2 in
      let reply = bind_some (reply_of answered.0) (λ r. Some (record { call = call.0; reply = r })) x call.2 in
      let cut = (cut_at_parts 62 bytes parts.0 parts.1).parts in
      let call_is = calls.takes asked.0 call.0 call.1 in
      let reply_is = replies.takes answered.0 reply.0 reply.1 in
      let before : parts.0.0 ≡ call_text call.0 ++ 32 ∷ [] = before_space_takes parts.0.0 asked.0 asked.1 ∙ ap (λ (t : List ℕ). t ++ 32 ∷ []) call_is.1 in
      let behind : parts.0.1 ≡ 32 ∷ reply_text reply.0 = behind_space_takes parts.0.1 answered.0 answered.1 ∙ ap (λ (t : List ℕ). 32 ∷ t) reply_is.1 in
      let made : Exchange = record { call = call.0; reply = reply.0 } in
      let whole : bytes ≡ exchange_text made = cut ∙ ap (λ (f : List ℕ). f ++ 62 ∷ parts.0.1) before ∙ ap (λ (b : List ℕ). (call_text call.0 ++ 32 ∷ []) ++ 62 ∷ b) behind ∙ append_assoc (call_text call.0) (32 ∷ []) (62 ∷ 32 ∷ reply_text reply.0) in
      subst (λ (y : Exchange). IsExchange y × (bytes ≡ exchange_text y)) (same_Some made x reply.2) (record { call = call_is.0; reply = reply_is.0 }, whole)

  exchange_again : (x : Exchange) → IsExchange x → exchange_of (exchange_text x) ≡ Some x
  unfolding exchange_of
  exchange_again x fits =
      let regrouped : exchange_text x ≡ (call_text x.call ++ 32 ∷ []) ++ 62 ∷ 32 ∷ reply_text x.reply = sym (append_assoc (call_text x.call) (32 ∷ []) (62 ∷ 32 ∷ reply_text x.reply)) in
      ap exchange_of regrouped ∙ rw (cut_at-joined 62 (call_text x.call ++ 32 ∷ []) (32 ∷ reply_text x.reply) (no_arrow_before x.call fits.call), before_space-joined (call_text x.call), calls.again x.call fits.call, replies.again x.reply fits.reply) refl

  call_line_takes : (bytes : List ℕ) (line : CallLine) → call_line_of bytes ≡ Some line → IsCallLine line × (bytes ≡ call_line_text line)
  unfolding call_line_of
  call_line_takes bytes line e =
      let stamp = bind_some (number_at 4294967295 bytes) _ line e in
      let began = bind_some (number_at 1000000000000 stamp.0.1) _ line stamp.2 in
      let ended = bind_some (number_at 1000000000000 began.0.1) _ line began.2 in
      let seen = bind_some (number_at 18446744073709551615 ended.0.1) _ line ended.2 in
      let number = bind_some (commit_number_at seen.0.1) _ line seen.2 in
      let exchange = bind_some (exchange_of number.0.1) (λ x. Some (record { stamp = stamp.0.0; began = began.0.0; ended = ended.0.0; seen = seen.0.0; number = number.0.0; call = x.call; reply = x.reply })) line number.2 in
      let part1 = number_at_takes 4294967295 bytes stamp.0 stamp.1 in
      let part2 = number_at_takes 1000000000000 stamp.0.1 began.0 began.1 in
      let part3 = number_at_takes 1000000000000 began.0.1 ended.0 ended.1 in
      let part4 = number_at_takes 18446744073709551615 ended.0.1 seen.0 seen.1 in
      let part5 = commit_number_at_takes seen.0.1 number.0 number.1 in
      let part6 = exchange_takes number.0.1 exchange.0 exchange.1 in
      let made : CallLine = record { stamp = stamp.0.0; began = began.0.0; ended = ended.0.0; seen = seen.0.0; number = number.0.0; call = exchange.0.call; reply = exchange.0.reply } in
      let e5 : seen.0.1 ≡ number_text number.0.0 ++ 32 ∷ exchange_text exchange.0 = part5.1 ∙ ap (λ (r : List ℕ). number_text number.0.0 ++ 32 ∷ r) part6.1 in
      let e4 : ended.0.1 ≡ decimal seen.0.0 ++ 32 ∷ (number_text number.0.0 ++ 32 ∷ exchange_text exchange.0) = part4.1 ∙ ap (λ (r : List ℕ). decimal seen.0.0 ++ 32 ∷ r) e5 in
      let e3 : began.0.1 ≡ decimal ended.0.0 ++ 32 ∷ (decimal seen.0.0 ++ 32 ∷ (number_text number.0.0 ++ 32 ∷ exchange_text exchange.0)) = part3.1 ∙ ap (λ (r : List ℕ). decimal ended.0.0 ++ 32 ∷ r) e4 in
      let e2 : stamp.0.1 ≡ decimal began.0.0 ++ 32 ∷ (decimal ended.0.0 ++ 32 ∷ (decimal seen.0.0 ++ 32 ∷ (number_text number.0.0 ++ 32 ∷ exchange_text exchange.0))) = part2.1 ∙ ap (λ (r : List ℕ). decimal began.0.0 ++ 32 ∷ r) e3 in
      let whole : bytes ≡ call_line_text made = part1.1 ∙ ap (λ (r : List ℕ). decimal stamp.0.0 ++ 32 ∷ r) e2 in
      let fits : IsCallLine made = record { stamp = omega (arith, part1.0); began = part2.0; ended = part3.0; seen = omega (arith, part4.0); number = part5.0; call = part6.0.call; reply = part6.0.reply } in
      subst (λ (l : CallLine). IsCallLine l × (bytes ≡ call_line_text l)) (same_Some made line exchange.2) (fits, whole)

  call_line_again : (line : CallLine) → IsCallLine line → call_line_of (call_line_text line) ≡ Some line
  unfolding call_line_of
  call_line_again line fits =
      let stamp : line.stamp ≤ 4294967295 = omega (arith, fits.stamp) in
      let seen : line.seen ≤ 18446744073709551615 = omega (arith, fits.seen) in
      let made : Exchange = record { call = line.call; reply = line.reply } in
      let exchange : exchange_of (exchange_text made) ≡ Some made = exchange_again made (record { call = fits.call; reply = fits.reply }) in
      rw (number_at_again 4294967295 line.stamp _ (lit< tt) stamp, number_at_again 1000000000000 line.began _ (lit< tt) fits.began, number_at_again 1000000000000 line.ended _ (lit< tt) fits.ended, number_at_again 18446744073709551615 line.seen _ (lit< tt) seen, commit_number_at_again line.number _ fits.number, exchange) refl

  head_or_call_takes : (bytes : List ℕ) (head : Option (ℕ × ℕ)) (line : SessionLine) → head ≡ head_of bytes → head_or_call bytes head ≡ Some line → IsSessionLine line × (bytes ≡ session_line_text line)
  head_or_call_takes bytes (Some head) line is e = subst (λ (l : SessionLine). IsSessionLine l × (bytes ≡ session_line_text l)) (same_Some (Head head.0 head.1) line e) (head_takes bytes head (sym is))
  head_or_call_takes bytes None line is e =
      let found = map_some Call (call_line_of bytes) line e in
      subst (λ (l : SessionLine). IsSessionLine l × (bytes ≡ session_line_text l)) found.2 (call_line_takes bytes found.0 found.1)

  line_takes : (bytes : List ℕ) (line : SessionLine) → session_line_of bytes ≡ Some line → IsSessionLine line × (bytes ≡ session_line_text line)
  unfolding session_line_of
  line_takes bytes line e =
      elim (chosen (bytes_eq bytes (codes "end")) (Some End) (head_or_call bytes (head_of bytes)) (Some line) e) [
        | inl is_end ↦ subst (λ (l : SessionLine). IsSessionLine l × (bytes ≡ session_line_text l)) (same_Some End line is_end.1) (tt, (bytes_eq-Decides bytes (codes "end")).0 is_end.0)
        | inr other ↦ head_or_call_takes bytes (head_of bytes) line refl other.1
      ]

  line_again : (line : SessionLine) → IsSessionLine line → session_line_of (session_line_text line) ≡ Some line
  unfolding session_line_of
  line_again (Head version session) fits = rw (head_again version session fits.0 fits.1) refl
  line_again (Call line) fits = rw (not_end line fits, not_head line fits, call_line_again line fits) refl
  line_again End fits = refl

  pub session_lines : IsReader session_line_of IsSessionLine session_line_text
  session_lines = record { takes = line_takes; again = line_again }
