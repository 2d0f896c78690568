-- The file `requires.csv`: a head, then the lines of each call, one for each mode but the last: how many calls it requires,
-- and the last of them. The last mode requires of each call what one of two others does. No field has a comma or a quote.
use Rattle.std.specs.Prelude.{ℕ, List, [], ◌∷◌, ◌++◌, length, Option, None, Some, codes}
use Rattle.std.specs.List.{flat_map, range_with_len}
use Rattle.std.specs.Fmt.{decimal}
use Rattle.replay_history.specs.declared.mode.Mode.{Mode}
use Rattle.replay_history.specs.declared.mode.Mode.TheVariants.{Off, Scn, Object, Order}
use Rattle.replay_history.specs.Mode.{mode_word}
use Rattle.replay_history.specs.Texts.{line}
use Rattle.object_depends.specs.declared.fact.Fact.{Fact}
use Rattle.object_depends.specs.declared.tally.Tally.{Tally}
use Rattle.object_depends.specs.Required.{required}
use Rattle.object_depends.specs.Tallies.{tally_of}

-- a stamp, or `-`
abbrev pub last_text : Option ℕ → List ℕ
last_text None = 45 ∷ []
last_text (Some stamp) = decimal stamp

-- the line of a stamp and a mode, where so many calls are required and this is the last
abbrev pub need_line : ℕ → Mode → Tally → List ℕ
need_line k mode tally = line (decimal k ++ 44 ∷ (mode_word mode ++ 44 ∷ (decimal tally.count ++ 44 ∷ last_text tally.last)))

-- the line of a call in a mode
abbrev pub call_line : List Fact → ℕ → Mode → List ℕ
call_line facts k mode = need_line k mode (tally_of (required mode facts k))

-- the modes that the file tells of
abbrev pub told_modes : List Mode
told_modes = Off ∷ Scn ∷ Object ∷ Order ∷ []

-- the lines of a call, one for each of these modes
abbrev pub call_lines : List Fact → ℕ → List ℕ
call_lines facts k = flat_map (call_line facts k) told_modes

abbrev pub requires_text : List Fact → List ℕ
requires_text facts = line (codes "stamp,mode,count,last") ++ flat_map (call_lines facts) (range_with_len 0 (length facts))
