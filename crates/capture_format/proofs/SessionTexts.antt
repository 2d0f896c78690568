-- No line of a session file has a line feed.
use Rattle.std.proofs.Common.{◌≢◌, ℕ, zero, suc, ◌<◌, ◌^◌, List, [], ◌∷◌, ◌++◌, refl, arith}
use Rattle.std.specs.Prelude.{codes}
use Rattle.std.specs.Fmt.{decimal}
use Rattle.desk_values.specs.Fields.{Lacks}
use Rattle.desk_values.specs.Text.{call_text, reply_text}
use Rattle.desk_values.proofs.Bytes.{Lacks-from}
use Rattle.capture_format.specs.declared.session_line.CallLine.{CallLine}
use Rattle.capture_format.specs.declared.session_line.SessionLine.{SessionLine}
use Rattle.capture_format.specs.declared.session_line.SessionLine.TheVariants.{Head, Call, End}
use Rattle.capture_format.specs.SessionFile.{number_text, call_line_text, session_line_text, IsCallLine, IsSessionLine}
use Rattle.capture_format.proofs.Cuts.{all_append}
use Rattle.capture_format.proofs.Alphabet.{is_text, AreTextBytes, text_decimal, text_word, text_call, text_reply}

-- a line of a call has no line feed
number_words : (n : ℕ) → n < 2 ^ 64 → AreTextBytes (number_text n)
number_words zero small = text_word (45 ∷ []) refl
number_words (suc n) small = text_decimal (suc n) small

pub visible_all : (bytes : List ℕ) → AreTextBytes bytes → Lacks 10 bytes
visible_all bytes text = Lacks-from is_text 10 refl bytes text

lacks_field : (n : ℕ) (rest : List ℕ) → n < 2 ^ 64 → Lacks 10 rest → Lacks 10 (decimal n ++ 32 ∷ rest)
lacks_field n rest small lacks = all_append (λ b. b ≢ 10) (decimal n) (32 ∷ rest) (visible_all (decimal n) (text_decimal n small)) (omega arith, lacks)

pub call_line_lacks : (line : CallLine) → IsCallLine line → Lacks 10 (call_line_text line)
call_line_lacks line fits =
    let reply : Lacks 10 (reply_text line.reply) = visible_all (reply_text line.reply) (text_reply line.reply fits.reply) in
    let arrow : Lacks 10 (32 ∷ 62 ∷ 32 ∷ reply_text line.reply) = (omega arith, (omega arith, (omega arith, reply))) in
    let asked : Lacks 10 (call_text line.call ++ 32 ∷ 62 ∷ 32 ∷ reply_text line.reply) = all_append (λ b. b ≢ 10) (call_text line.call) (32 ∷ 62 ∷ 32 ∷ reply_text line.reply) (visible_all (call_text line.call) (text_call line.call fits.call)) arrow in
    let number : Lacks 10 (number_text line.number ++ 32 ∷ (call_text line.call ++ 32 ∷ 62 ∷ 32 ∷ reply_text line.reply)) = all_append (λ b. b ≢ 10) (number_text line.number) (32 ∷ (call_text line.call ++ 32 ∷ 62 ∷ 32 ∷ reply_text line.reply)) (visible_all (number_text line.number) (number_words line.number fits.number)) (omega arith, asked) in
    lacks_field line.stamp _ (omega (arith, fits.stamp)) (lacks_field line.began _ (omega (arith, fits.began)) (lacks_field line.ended _ (omega (arith, fits.ended)) (lacks_field line.seen _ fits.seen number)))

pub end_lacks : Lacks 10 (codes "end")
end_lacks = visible_all (codes "end") (text_word (codes "end") refl)

pub head_lacks : (version session : ℕ) → version < 2 ^ 32 → session < 2 ^ 32 → Lacks 10 (codes "session " ++ (decimal version ++ 32 ∷ decimal session))
head_lacks version session few small = all_append (λ b. b ≢ 10) (codes "session ") (decimal version ++ 32 ∷ decimal session) (visible_all (codes "session ") (text_word (codes "session ") refl))
    (lacks_field version (decimal session) (omega arith) (visible_all (decimal session) (text_decimal session (omega arith))))

pub lacks : (line : SessionLine) → IsSessionLine line → Lacks 10 (session_line_text line)
lacks (Head version session) fits = head_lacks version session fits.0 fits.1
lacks (Call line) fits = call_line_lacks line fits
lacks End fits = end_lacks
