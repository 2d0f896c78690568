-- The file of the causes of a report's lines.
use Rattle.std.specs.Prelude.{◌≡◌, ℕ, ◌<◌, ◌^◌, List, map}
use Rattle.std.specs.List.{AllByRecursion}
use Rattle.replay_history.specs.declared.report.Line.{Line}
use Rattle.divergence_cause.specs.declared.cause.CauseLine.{CauseLine}
use Rattle.divergence_cause.specs.Text.{causes_text}

-- the stamps of lines, in their order
abbrev pub stamps_of : List Line → List ℕ
stamps_of lines = map (λ (line : Line). line.stamp) lines

-- the bytes are the text of these causes, one of each of the lines, in their order, with stamps within their type
pub record AreCausesFor (lines : List Line) (bytes : List ℕ) (causes : List CauseLine) : Type 0 where
  pub fit : AllByRecursion (λ (line : CauseLine). line.stamp < 2 ^ 32) causes
  pub stamps : map (λ (line : CauseLine). line.stamp) causes ≡ stamps_of lines
  pub text : bytes ≡ causes_text causes
