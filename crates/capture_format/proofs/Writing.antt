-- Texts of lines in parts.
use Rattle.std.proofs.Common.{◌≡◌, ℕ, zero, suc, List, ◌∷◌, [], ◌++◌, length, drop, min, refl, sym, ◌∙◌, ap, append_assoc, arith}
use Rattle.std.specs.Prelude.{codes}
use Rattle.std.specs.Fmt.{decimal}
use Rattle.std.proofs.lemmas.Grind.{flat_map-append}
use Rattle.desk_values.specs.declared.capture.Captured.{Captured}
use Rattle.desk_values.specs.Text.{call_text, reply_text}
use Rattle.desk_schema.specs.declared.line.StartLine.{StartLine}
use Rattle.desk_schema.specs.declared.line.StartLine.TheVariants.{Head, Level}
use Rattle.desk_schema.specs.Line.{lines_text}
use Rattle.desk_schema.specs.Start.{sequence_lines}
use Rattle.capture_format.specs.SessionFile.{number_text, call_line_text, line_of}

joined : (to x y a b c d : List ℕ) → (((((to ++ x) ++ y) ++ a) ++ b) ++ c) ++ d ≡ to ++ (x ++ (y ++ (a ++ (b ++ (c ++ d)))))
joined to x y a b c d = simp append_assoc

-- the lines up to the rows
pub parts : (to : List ℕ) (version level : ℕ) (a b c d : List StartLine) → (((((to ++ (codes "start " ++ (decimal version ++ 10 ∷ []))) ++ (codes "level " ++ (decimal level ++ 10 ∷ []))) ++ lines_text a) ++ lines_text b) ++ lines_text c) ++ lines_text d ≡ to ++ lines_text (Head version ∷ Level level ∷ (a ++ (b ++ (c ++ d))))
parts to version level a b c d =
    let first = codes "start " ++ (decimal version ++ 10 ∷ []) in
    let second = codes "level " ++ (decimal level ++ 10 ∷ []) in
    let rest : lines_text (a ++ (b ++ (c ++ d))) ≡ lines_text a ++ (lines_text b ++ (lines_text c ++ lines_text d)) = simp flat_map-append in
    joined to first second (lines_text a) (lines_text b) (lines_text c) (lines_text d) ∙ ap (λ (r : List ℕ). to ++ (first ++ (second ++ r))) (sym rest)

-- no sequence is left
pub drained : (names : List (List ℕ)) (nexts : List ℕ) (n : ℕ) → n ≡ min (length names) (length nexts) → sequence_lines (drop n names) (drop n nexts) ≡ []
drained [] nexts n e = let none : n ≡ 0 = omega (arith, e) in rw none refl
drained (name ∷ names) [] n e = let none : n ≡ 0 = omega (arith, e) in rw none refl
drained (name ∷ names) (next ∷ nexts) zero e = absurd (omega (arith, e))
drained (name ∷ names) (next ∷ nexts) (suc n) e = drained names nexts n (omega (arith, e))

-- a call's line
pub call_parts : (to : List ℕ) (call : Captured) → (((((to ++ (decimal call.stamp ++ 32 ∷ (decimal call.began ++ 32 ∷ (decimal call.ended ++ 32 ∷ (decimal call.seen ++ 32 ∷ (number_text call.number ++ 32 ∷ [])))))) ++ call_text call.call) ++ 32 ∷ 62 ∷ 32 ∷ []) ++ reply_text call.reply) ++ 10 ∷ []) ≡ to ++ (call_line_text (line_of call) ++ 10 ∷ [])
call_parts to call = simp append_assoc
