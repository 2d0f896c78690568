-- The lines of the file, one call more.
use Rattle.std.proofs.Common.{◌≡◌, ℕ, ◌+◌, List, [], ◌∷◌, ◌++◌, sym, ap, ◌∙◌, append-nil, zero-add}
use Rattle.std.specs.List.{flat_map, range_with_len}
use Rattle.std.proofs.lemmas.List.{map-id, flat_map_more}
use Rattle.std.proofs.lemmas.List.FromFn.{map-range_with_len_more}
use Rattle.replay_history.specs.declared.mode.Mode.TheVariants.{Off, Scn, Object, Order}
use Rattle.object_depends.specs.declared.fact.Fact.{Fact}
use Rattle.object_depends.specs.declared.tally.Tally.{Tally}
use Rattle.object_depends.specs.Required.{required}
use Rattle.object_depends.specs.Tallies.{tally_of}
use Rattle.object_depends.specs.Csv.{call_line, call_lines, need_line}

range_more : (k : ℕ) → range_with_len 0 k ++ k ∷ [] ≡ range_with_len 0 (k + 1)
range_more k =
    sym (ap (λ (xs : List ℕ). xs ++ k ∷ []) (map-id (range_with_len 0 k)))
    ∙ sym (map-range_with_len_more (λ (n : ℕ). n) 0 k k (zero-add k))
    ∙ map-id (range_with_len 0 (k + 1))

pub lines_more : (facts : List Fact) (head : List ℕ) (k : ℕ) (off scn object order : Tally) → off ≡ tally_of (required Off facts k) → scn ≡ tally_of (required Scn facts k) → object ≡ tally_of (required Object facts k) → order ≡ tally_of (required Order facts k) → (head ++ flat_map (call_lines facts) (range_with_len 0 k)) ++ (need_line k Off off ++ (need_line k Scn scn ++ (need_line k Object object ++ need_line k Order order))) ≡ head ++ flat_map (call_lines facts) (range_with_len 0 (k + 1))
lines_more facts head k off scn object order is_off is_scn is_object is_order =
    rw (is_off, is_scn, is_object, is_order)
    (ap (λ (last : List ℕ). (head ++ flat_map (call_lines facts) (range_with_len 0 k)) ++ (call_line facts k Off ++ (call_line facts k Scn ++ (call_line facts k Object ++ last)))) (sym (append-nil (call_line facts k Order)))
    ∙ flat_map_more (call_lines facts) head (range_with_len 0 k) k ∙ ap (λ (xs : List ℕ). head ++ flat_map (call_lines facts) xs) (range_more k))
