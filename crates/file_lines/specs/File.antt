-- Files of lines.
use Rattle.std.specs.Prelude.{◌≡◌, ◌≢◌, ℕ, ◌+◌, Bool, true, false, List, [], ◌∷◌, ◌++◌, length, Result, Ok, Err}
use Rattle.std.specs.List.{flat_map}
use Rattle.desk_values.specs.Fields.{Lacks}
use Rattle.desk_values.specs.declared.read_err.ReadErr.{ReadErr}
use Rattle.desk_values.specs.declared.read_err.ReadErr.TheVariants as line
use Rattle.file_lines.specs.declared.reader.FormErr.{FormErr}
use Rattle.file_lines.specs.declared.reader.FormErr.TheVariants.{Bad, Memory}

-- what adding a line answers: the file that it came to, or that none such may come
abbrev pub Adds : {F S : Type 0} → Result F ReadErr → (F → S) → (S → Type 0) → Type 0
Adds {F} {S} (Ok file) state Comes = Comes (state file)
Adds {F} {S} (Err line.Bad) state Comes = (after : S) → ¬ Comes after
Adds {F} {S} (Err line.Memory) state Comes = Unit {0}

-- each text, with its line feed
abbrev pub lines_text : List (List ℕ) → List ℕ
lines_text texts = flat_map (λ text. text ++ 10 ∷ []) texts

-- the line comes in this state, which is not behind the last of all, and leads to that
pub record Goes {S : Type 0} (Comes : S → List ℕ → S → Type 0) (done : S → Bool) (s : S) (text : List ℕ) (t : S) : Type 0 where
  pub unended : done s ≡ false
  pub lacks : Lacks 10 text
  pub comes : Comes s text t

-- each of the lines comes after those before it, and they lead to this state
abbrev pub Lead : {S : Type 0} → (S → List ℕ → S → Type 0) → (S → Bool) → S → List (List ℕ) → S → Type 0
Lead {S} Comes done s [] after = after ≡ s
Lead {S} Comes done s (text ∷ texts) after = (t : S) × Goes Comes done s text t × Lead Comes done t texts after

-- the bytes are such lines, up to the last of all
pub record IsFile {S : Type 0} (Comes : S → List ℕ → S → Type 0) (done : S → Bool) (s : S)
    (bytes : List ℕ) (after : S) : Type 0 where
  pub texts : List (List ℕ)
  pub lead : Lead Comes done s texts after
  pub text : bytes ≡ lines_text texts
  pub ended : done after ≡ true

-- the bytes do not begin with a line that comes in this state, and are not none behind the last line
pub record IsStuck {S : Type 0} (Comes : S → List ℕ → S → Type 0) (done : S → Bool) (s : S) (rest : List ℕ) : Type 0 where
  pub line : (text more : List ℕ) (t : S) → rest ≡ text ++ 10 ∷ more → Goes Comes done s text t → ⊥
  pub ended : done s ≡ true → rest ≢ []

-- the line of this number is the first that is not whole or may not come
pub record IsBadAt {S : Type 0} (Comes : S → List ℕ → S → Type 0) (done : S → Bool) (s : S) (first : ℕ)
    (bytes : List ℕ) (n : ℕ) : Type 0 where
  pub texts : List (List ℕ)
  pub before : S
  pub rest : List ℕ
  pub lead : Lead Comes done s texts before
  pub number : n ≡ first + length texts
  pub text : bytes ≡ lines_text texts ++ rest
  pub stuck : IsStuck Comes done before rest

-- what the bytes come to: the state after the file that they are, or the number of the first bad line
abbrev pub Is : {S : Type 0} → (S → List ℕ → S → Type 0) → (S → Bool) → S → ℕ → List ℕ → Result S ℕ → Type 0
Is Comes done s first bytes (Ok after) = IsFile Comes done s bytes after
Is Comes done s first bytes (Err n) = IsBadAt Comes done s first bytes n

-- a text leads from a state to one state alone
abbrev pub SaysOne : {S : Type 0} → (S → List ℕ → S → Type 0) → Type 0
SaysOne {S} Comes = (s : S) (text : List ℕ) (a b : S) → Comes s text a → Comes s text b → a ≡ b

-- what reading answers: just this, unless memory is wanting
abbrev pub Says : {F S : Type 0} → Result F FormErr → (F → S) → (S → List ℕ → S → Type 0) → (S → Bool)
    → S → List ℕ → Type 0
Says (Ok file) state Comes done s bytes = IsFile Comes done s bytes (state file)
Says (Err (Bad n)) state Comes done s bytes = IsBadAt Comes done s 1 bytes n
Says (Err Memory) state Comes done s bytes = Unit {0}

-- what a reader of a whole file answers: what the bytes are the file of; or the number of the first bad line, and then
-- they are no file
abbrev pub ReadsFile : {X : Type 0} → Result X FormErr → (X → Type 0) → (ℕ → Type 0) → Type 0
ReadsFile (Ok value) IsFileOf IsFirstBad = IsFileOf value
ReadsFile {X} (Err (Bad n)) IsFileOf IsFirstBad = IsFirstBad n × ((value : X) → ¬ IsFileOf value)
ReadsFile (Err Memory) IsFileOf IsFirstBad = Unit {0}
