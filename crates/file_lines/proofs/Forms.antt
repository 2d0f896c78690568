-- Files of lines that say something.
use Rattle.std.proofs.Common.{◌≡◌, ℕ, Bool, true, false, List, [], ◌∷◌, ◌++◌, map, Option, Some, Ok, Err, refl, ap, sym, subst, ◌∙◌}
use Rattle.std.proofs.lemmas.Option.{same_Some}
use Rattle.std.specs.List.{fold}
use Rattle.desk_values.specs.declared.read_err.ReadErr.{ReadErr}
use Rattle.desk_values.specs.declared.read_err.ReadErr.TheVariants.{Bad, Memory}
use Rattle.desk_values.specs.Fields.{Lacks}
use Rattle.desk_values.specs.Reading.{Reads}
use Rattle.desk_values.proofs.Readers.{IsReader, one_text}
use Rattle.file_lines.specs.File.{lines_text, Adds, Lead, IsFile, SaysOne}
use Rattle.file_lines.specs.Form.{Form, Comes, text_of}
use Rattle.file_lines.specs.Inside.{AddsLine}

module _ {S L : Type 0} (form : Form S L) where
  -- each line has what it needs in the state that those before it lead to
  abbrev pub AreLines : S → List L → Type 0
  AreLines s [] = Unit {0}
  AreLines s (line ∷ lines) = form.Fits line × form.May s line × AreLines (form.added s line) lines

  abbrev pub state_after : S → List L → S
  state_after s lines = fold form.added s lines

module _ {S L : Type 0} (form : Form S L) (done : S → Bool) where
  -- texts are whole lines, and nothing follows the last line
  pub record IsSound : Type 0 where
    pub lacks : (line : L) → form.Fits line → Lacks 10 (form.text line)
    pub unended : (s : S) (line : L) → form.May s line → done s ≡ false

  -- the bytes are these lines
  pub record HasLines (s : S) (bytes : List ℕ) (t : S) : Type 0 where
    pub lines : List L
    pub are : AreLines form s lines
    pub text : bytes ≡ text_of form lines
    pub leads : t ≡ state_after form s lines

  lines_of : (s : S) (texts : List (List ℕ)) (t : S) → Lead (Comes form) done s texts t → HasLines s (lines_text texts) t
  lines_of s [] t lead = record { lines = []; are = tt; text = refl; leads = lead }
  lines_of s (bytes ∷ texts) t lead =
      let comes = lead.1.comes in
      let rest = lines_of (form.added s comes.line) texts t (subst (λ (u : S). Lead (Comes form) done u texts t) comes.leads lead.2) in
      record {
        lines = comes.line ∷ rest.lines;
        are = (comes.fits, comes.may, rest.are);
        text = ap (λ (bs : List ℕ). (bs ++ 10 ∷ []) ++ lines_text texts) comes.text ∙ ap (λ (bs : List ℕ). (form.text comes.line ++ 10 ∷ []) ++ bs) rest.text;
        leads = rest.leads;
      }

  -- a file is lines, each of which may come where it stands
  pub file_has_lines : (s : S) (bytes : List ℕ) (t : S) → IsFile (Comes form) done s bytes t → HasLines s bytes t
  file_has_lines s bytes t is = let found = lines_of s is.texts t is.lead in record { lines = found.lines; are = found.are; text = is.text ∙ found.text; leads = found.leads }

  module _ (sound : IsSound) where
    leads_on : (s : S) (lines : List L) → AreLines form s lines → Lead (Comes form) done s (map form.text lines) (state_after form s lines)
    leads_on s [] are = refl
    leads_on s (line ∷ lines) are = (form.added s line, record { unended = sound.unended s line are.1; lacks = sound.lacks line are.0; comes = record { line = line; fits = are.0; text = refl; may = are.1; leads = refl } }, leads_on (form.added s line) lines are.2)

    texts_are : (lines : List L) → text_of form lines ≡ lines_text (map form.text lines)
    texts_are [] = refl
    texts_are (line ∷ lines) = ap (λ (bs : List ℕ). (form.text line ++ 10 ∷ []) ++ bs) (texts_are lines)

    -- such lines are a file, if they end
    pub lines_are_file : (s : S) (lines : List L) → AreLines form s lines → done (state_after form s lines) ≡ true → IsFile (Comes form) done s (text_of form lines) (state_after form s lines)
    lines_are_file s lines are ended = record { texts = map form.text lines; lead = leads_on s lines are; text = texts_are lines; ended = ended }

-- what a reader of lines says of files
module _ {S L : Type 0} {read : List ℕ → Option L} (form : Form S L) (is : IsReader read form.Fits form.text) where
  pub says_one : SaysOne (Comes form)
  says_one s text a b one other = one.leads ∙ ap (form.added s) (one_text is one.line other.line one.fits other.fits (sym one.text ∙ other.text)) ∙ sym other.leads

  found : (bytes : List ℕ) (line : L) → form.Fits line → bytes ≡ form.text line → read bytes ≡ Some line
  found bytes line fits e = ap read e ∙ is.again line fits

  -- the bytes are no line, or memory is wanting
  pub adds_error : {F : Type 0} (state : F → S) (error : ReadErr) (s : S) (bytes : List ℕ) → Reads {T = L} (Err error) (read bytes) → Adds (Err error) state (Comes form s bytes)
  adds_error state Bad s bytes none = λ after comes. let never = sym none ∙ found bytes comes.line comes.fits comes.text in cc
  adds_error state Memory s bytes none = tt

  -- the line that they are was added
  pub adds_line : {F U : Type 0} (state : F → S) (file : F) (u : U) (s : S) (bytes : List ℕ) (line : L) → read bytes ≡ Some line → AddsLine form (Ok u) s line (state file) → Adds (Ok file) state (Comes form s bytes)
  adds_line state file u s bytes line e h = let taken = is.takes bytes line e in record { line = line; fits = taken.0; text = taken.1; may = h.0; leads = h.1 }

  -- the line that they are was refused, or memory was wanting
  pub refuses_line : {F : Type 0} (U : Type 0) (state : F → S) (error : ReadErr) (s : S) (bytes : List ℕ) (line : L) (t : S) → read bytes ≡ Some line → AddsLine form {U = U} (Err error) s line t → Adds (Err error) state (Comes form s bytes)
  refuses_line U state Bad s bytes line t e h = λ after comes. h (subst (form.May s) (same_Some comes.line line (sym (found bytes comes.line comes.fits comes.text) ∙ e)) comes.may)
  refuses_line U state Memory s bytes line t e h = tt
