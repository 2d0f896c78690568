-- Reading calls undoes writing them.
use Rattle.std.proofs.Common.{cond, ◌≡◌, ℕ, ◌≤◌, leb, List, ◌∷◌, ◌++◌, length, None, Some, refl, ap, subst, ◌∙◌}
use Rattle.std.specs.Prelude.{codes}
use Rattle.std.specs.Option.{option_map}
use Rattle.std.specs.Str.{bytes_eq}
use Rattle.std.proofs.lemmas.Bool.{leb-true, le-leb}
use Rattle.std.proofs.lemmas.Option.{cond_some}
use Rattle.desk_values.specs.declared.value.Value.{Value}
use Rattle.desk_values.specs.declared.call.Call.{Call}
use Rattle.desk_values.specs.declared.call.Call.TheVariants.{Connect, Sql, Disconnect}
use Rattle.desk_values.specs.Fields.{cut_at}
use Rattle.desk_values.specs.Good.{IsTxt, IsValues, IsCall}
use Rattle.desk_values.specs.Text.{escaped, txt_text, values_text, call_text}
use Rattle.desk_values.specs.Reading.{txt_of, values_of}
use Rattle.capture_format.specs.CallReading.{sql_of, call_of}
use Rattle.desk_values.proofs.Options.{bind_some, when_some}
use Rattle.desk_values.proofs.Readers.{IsReader}
use Rattle.desk_values.proofs.Cuts.{IsCut, cut_at-joined, cut_at_parts}
use Rattle.desk_values.proofs.Escapes.{txts, IsUtf8-small}
use Rattle.desk_values.proofs.ValueTexts.{values_reader}
use Rattle.capture_format.proofs.Fields.{by_word, one_text, worded}
use Rattle.capture_format.proofs.ReplyTexts.{is_codes, is_field, is_word-field}
use Rattle.desk_values.proofs.Bytes.{Consists, Consists-weaker, Lacks-from, is_word, escaped_words}

sql_spelled : (bytes front rest text : List ℕ) (binds : List Value) → IsCut 32 bytes front rest → IsTxt text × (front ≡ txt_text text) → IsValues binds × (rest ≡ values_text binds) → length binds ≤ 16 → IsCall (Sql text binds) × (codes "sql " ++ bytes ≡ call_text (Sql text binds))
sql_spelled bytes front rest text binds cut first second few =
    ((first.0, few, second.0), ap (λ (bs : List ℕ). codes "sql " ++ bs) (cut.parts ∙ rw (first.1, second.1) refl))

sql_taken : (bytes : List ℕ) (call : Call) → sql_of bytes ≡ Some call → IsCall call × (codes "sql " ++ bytes ≡ call_text call)
unfolding sql_of
sql_taken bytes call e =
    let parts = bind_some (cut_at 32 bytes) _ call e in
    let text = bind_some (txt_of parts.0.0) _ call parts.2 in
    let binds = bind_some (values_of parts.0.1) _ call text.2 in
    let few = cond_some (leb (length binds.0) 16) (Sql text.0 binds.0) call binds.2 in
    subst (λ (c : Call). IsCall c × (codes "sql " ++ bytes ≡ call_text c)) few.1
    (sql_spelled bytes parts.0.0 parts.0.1 text.0 binds.0 (cut_at_parts 32 bytes parts.0 parts.1) (txts.takes parts.0.0 text.0 text.1) (values_reader.takes parts.0.1 binds.0 binds.1) (leb-true (length binds.0) 16 few.0))

behind_taken : (word rest : List ℕ) (call : Call) → cond (bytes_eq word (codes "connect")) (option_map Connect (txt_of rest)) (cond (bytes_eq word (codes "sql")) (sql_of rest) None) ≡ Some call → IsCall call × (word ++ 32 ∷ rest ≡ call_text call)
behind_taken word rest call =
    by_word IsCall call_text (codes "connect") Connect txts (λ x h. (h, refl)) word rest call _ (λ e.
    let is = when_some (bytes_eq word (codes "sql")) (sql_of rest) call e in
    let taken = sql_taken rest call is.1 in
    (taken.0, ap (λ (bs : List ℕ). bs ++ 32 ∷ rest) (is_codes word (codes "sql") is.0) ∙ taken.1))

call_taken : (bytes : List ℕ) (call : Call) → call_of bytes ≡ Some call → IsCall call × (bytes ≡ call_text call)
unfolding call_of
call_taken bytes call = one_text bytes (codes "disconnect") Disconnect _ (λ c. IsCall c × (bytes ≡ call_text c)) call (λ is. (tt, is)) (worded IsCall call_text _ behind_taken bytes call)

pub txt_field : (text : List ℕ) → IsTxt text → Consists is_field (txt_text text)
txt_field text is = (refl, Consists-weaker is_word is_field is_word-field (escaped text) (escaped_words text (IsUtf8-small text is.utf8)))

call_again : (call : Call) → IsCall call → call_of (call_text call) ≡ Some call
unfolding call_of sql_of
call_again (Connect service) is = rw (txts.again service is) refl
call_again (Sql text binds) is =
    rw (cut_at-joined 32 (txt_text text) (values_text binds) (Lacks-from is_field 32 refl (txt_text text) (txt_field text is.0)), txts.again text is.0, values_reader.again binds is.2, le-leb (length binds) 16 is.1) refl
call_again Disconnect is = refl

pub call_reader : IsReader call_of IsCall call_text
call_reader = record { takes = call_taken; again = call_again }
