-- The file of the plain reads: its lines as a form, and which bytes are the text of some.
use Rattle.std.specs.Prelude.{◌≡◌, ℕ, ◌+◌, ◌<◌, ◌≤◌, ◌^◌, Bool, true, false, List, [], ◌∷◌, ◌++◌, codes}
use Rattle.std.specs.Fmt.{decimal}
use Rattle.file_lines.specs.File.{IsBadAt}
use Rattle.file_lines.specs.Form.{Form, Comes}
use Rattle.fence_law.specs.Text.{fence_text}
use Rattle.run_files.specs.declared.reads.Stage.{Stage}
use Rattle.run_files.specs.declared.reads.Stage.TheVariants.{Empty, Headed, Ended}
use Rattle.run_files.specs.declared.reads_line.ReadsLine.{ReadsLine}
use Rattle.run_files.specs.declared.reads_line.ReadsLine.TheVariants.{Head, Stamp, End}
use Rattle.run_files.specs.ReadsView.{ReadsView}

-- ---- the reads

-- stamps that rise, from this one on, within their type
abbrev pub AreStampsFrom : ℕ → List ℕ → Type 0
AreStampsFrom least [] = Unit {0}
AreStampsFrom least (stamp ∷ stamps) = (least ≤ stamp) × (stamp < 2 ^ 32) × AreStampsFrom (stamp + 1) stamps

-- the bytes are the text of these reads
pub record AreReads (bytes : List ℕ) (stamps : List ℕ) : Type 0 where
  pub rise : AreStampsFrom 0 stamps
  pub text : bytes ≡ fence_text stamps

-- ---- their lines

-- the text of a line, without its line feed
abbrev pub reads_line_text : ReadsLine → List ℕ
reads_line_text Head = codes "fence 1"
reads_line_text (Stamp stamp) = decimal stamp
reads_line_text End = codes "end"

-- a line that has a text
abbrev pub IsReadsLine : ReadsLine → Type 0
IsReadsLine Head = Unit {0}
IsReadsLine (Stamp stamp) = stamp < 2 ^ 32
IsReadsLine End = Unit {0}

-- the head comes first, then stamps that rise, and nothing follows the end
abbrev pub MayCome : ReadsView → ReadsLine → Type 0
MayCome s Head = s.stage ≡ Empty
MayCome s (Stamp stamp) = (s.stage ≡ Headed) × (s.least ≤ stamp)
MayCome s End = s.stage ≡ Headed

-- what a line adds
abbrev pub with_line : ReadsView → ReadsLine → ReadsView
with_line s Head = record s { stage = Headed }
with_line s (Stamp stamp) = record s { stamps = s.stamps ++ stamp ∷ []; least = stamp + 1 }
with_line s End = record s { stage = Ended }

-- before the first line
abbrev pub new_reads : ReadsView
new_reads = record { stage = Empty; stamps = []; least = 0 }

abbrev pub is_last : Stage → Bool
is_last Ended = true
is_last other = false

abbrev pub is_ended : ReadsView → Bool
is_ended s = is_last s.stage

abbrev pub reads_form : Form ReadsView ReadsLine
reads_form = record { Fits = IsReadsLine; text = reads_line_text; May = MayCome; added = with_line }

-- the line of this number is the first that is not whole or may not come
abbrev pub IsBadReads : List ℕ → ℕ → Type 0
IsBadReads bytes n = IsBadAt (Comes reads_form) is_ended new_reads 1 bytes n
