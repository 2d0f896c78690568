use Rattle.std.proofs.Common.{◌≡◌, ◌++◌, IsUtf8, chars}
use Rattle.std.specs.List.{flat_map}
use Rattle.std.specs.Str.Iter.{chars_rest}
use Rattle.replay_show.specs.Texts.{quoted_char}
use Rattle.replay_show.proofs.texts.append_within.Given as goal

-- what was appended, and what stands for the characters that are left
abbrev pub invariant-loop-character : goal.invariant-loop-character
invariant-loop-character l = IsUtf8 (chars_rest l.character-iterator) × (l.to ++ flat_map quoted_char (chars (chars_rest l.character-iterator)) ≡ l.fn.to ++ flat_map quoted_char (chars l.fn.text))
