-- Which bytes stand in texts: digits in numbers, and no line feed or `>` in calls and replies.
use Rattle.std.proofs.Common.{◌≡◌, eqb, ◌||◌, ◌<◌, ◌≤◌, ◌^◌, ℕ, ℤ, Bool, true, List, [], ◌∷◌, ◌++◌, Option, Some, None, refl, arith}
use Rattle.std.specs.Prelude.{IfSome, FitsSigned, codes}
use Rattle.std.specs.Int.{w64}
use Rattle.std.specs.List.{AllByRecursion, list_all}
use Rattle.std.specs.Fmt.{decimal, signed_decimal}
use Rattle.std.proofs.lemmas.Fmt.{decimal_by_steps}
use Rattle.std.proofs.lemmas.Bool.{and_parts, or_left}
use Rattle.desk_values.specs.declared.value.Value.{Value}
use Rattle.desk_values.specs.declared.call.Outcome.{Outcome}
use Rattle.desk_values.specs.declared.call.Outcome.TheVariants.{Rows, Count, Committed, RolledBack, Marked, Connected, Disconnected, Refused}
use Rattle.desk_values.specs.declared.call.Call.{Call}
use Rattle.desk_values.specs.declared.call.Call.TheVariants.{Connect, Sql, Disconnect}
use Rattle.desk_values.specs.declared.call.Reply.{Reply}
use Rattle.desk_values.specs.Fault.{fault_number}
use Rattle.desk_values.specs.Good.{IsValues, IsGoodOutcome, IsGoodReply, IsCall}
use Rattle.desk_values.specs.Text.{txt_text, values_text, rows_text, images_text, call_text, outcome_text, made_text, reply_text}
use Rattle.desk_values.proofs.Bytes.{Consists, Consists-append, Consists-weaker, signed_words, is_word}
use Rattle.desk_values.proofs.Faults.{fault_number_small}
use Rattle.capture_format.proofs.ReplyTexts.{is_field, is_listed-field, is_word-field, decimal_field, values_field, rows_text_listed, images_field, draws_fit}
use Rattle.capture_format.proofs.CallTexts.{txt_field}
use Rattle.capture_format.proofs.Cuts.{all_append}

-- a digit
pub record IsDigit (byte : ℕ) : Type 0 where
  pub low : 48 ≤ byte
  pub high : byte ≤ 57

pub digits_decimal : (n : ℕ) → n < 2 ^ 64 → AllByRecursion IsDigit (decimal n)
digits_decimal n small = decimal_by_steps (λ _ ds. AllByRecursion IsDigit ds) (λ m lt. (record { low = omega arith; high = omega arith }, tt)) (λ m ds le digits. all_append IsDigit ds _ digits (record { low = omega arith; high = omega arith }, tt)) n small

-- a byte of a call or a reply
abbrev pub is_text : ℕ → Bool
is_text byte = is_field byte || eqb byte 32

abbrev pub AreTextBytes : List ℕ → Type 0
AreTextBytes bytes = Consists is_text bytes

-- a word whose bytes are known
pub text_word : (bytes : List ℕ) → list_all is_text bytes ≡ true → AreTextBytes bytes
text_word [] test = tt
text_word (byte ∷ bytes) test = let parts = and_parts (is_text byte) (list_all is_text bytes) test in (parts.0, text_word bytes parts.1)

pub text_field : (bytes : List ℕ) → Consists is_field bytes → AreTextBytes bytes
text_field bytes are = Consists-weaker is_field is_text (λ byte e. or_left (is_field byte) _ e) bytes are

pub text_then : (xs ys : List ℕ) → AreTextBytes xs → AreTextBytes ys → AreTextBytes (xs ++ ys)
text_then xs ys first second = Consists-append is_text xs ys first second

pub text_decimal : (n : ℕ) → n < 2 ^ 64 → AreTextBytes (decimal n)
text_decimal n small = text_field (decimal n) (decimal_field n small)

pub text_signed : (n : ℤ) → FitsSigned w64 n → AreTextBytes (signed_decimal n)
text_signed n fits = text_field (signed_decimal n) (Consists-weaker is_word is_field is_word-field (signed_decimal n) (signed_words n fits))

pub text_values : (values : List Value) → IsValues values → AreTextBytes (values_text values)
text_values values fits = text_field (values_text values) (values_field values fits)

text_outcome : (outcome : Outcome) → IsGoodOutcome outcome → AreTextBytes (outcome_text outcome)
text_outcome (Rows rows) fits = text_then (codes "rows ") (rows_text rows) (text_word (codes "rows ") refl) (text_field (rows_text rows) (Consists-weaker _ is_field is_listed-field (rows_text rows) (rows_text_listed rows fits)))
text_outcome (Count n) fits = text_then (codes "count ") (decimal n) (text_word (codes "count ") refl) (text_decimal n fits)
text_outcome (Committed images) fits = text_then (codes "committed ") (images_text images) (text_word (codes "committed ") refl) (text_field (images_text images) (images_field images fits.0))
text_outcome RolledBack fits = text_word (codes "rolledback") refl
text_outcome Marked fits = text_word (codes "marked") refl
text_outcome Connected fits = text_word (codes "connected") refl
text_outcome Disconnected fits = text_word (codes "disconnected") refl
text_outcome (Refused fault) fits = text_then (codes "refused ") (decimal (fault_number fault)) (text_word (codes "refused ") refl) (text_decimal (fault_number fault) (omega (arith, fault_number_small fault)))

text_made : (made : Option ℕ) → IfSome made (λ row. row < 2 ^ 64) → AreTextBytes (made_text made)
text_made None fits = (refl, tt)
text_made (Some row) fits = (refl, text_decimal row fits)

-- no line feed and no `>` in a reply
pub text_reply : (reply : Reply) → IsGoodReply reply → AreTextBytes (reply_text reply)
text_reply reply good =
    text_then (outcome_text reply.outcome) (32 ∷ (values_text reply.draws ++ 32 ∷ made_text reply.made)) (text_outcome reply.outcome good.outcome)
    (refl, text_then (values_text reply.draws) (32 ∷ made_text reply.made) (text_values reply.draws (draws_fit reply.draws good.draws)) (refl, text_made reply.made good.made))

-- nor in a call
pub text_call : (call : Call) → IsCall call → AreTextBytes (call_text call)
text_call (Connect service) fits = text_then (codes "connect ") (txt_text service) (text_word (codes "connect ") refl) (text_field (txt_text service) (txt_field service fits))
text_call (Sql text binds) fits = text_then (codes "sql ") (txt_text text ++ 32 ∷ values_text binds) (text_word (codes "sql ") refl) (text_then (txt_text text) (32 ∷ values_text binds) (text_field (txt_text text) (txt_field text fits.0)) (refl, text_values binds fits.2))
text_call Disconnect fits = text_word (codes "disconnect") refl
