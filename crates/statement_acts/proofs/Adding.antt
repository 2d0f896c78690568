-- Keys of a table that sessions hold, and values that are locked.
use Rattle.std.proofs.Common.{◌≡◌, ℕ, List, [], ◌∷◌, refl, ap, sym, ◌∙◌}
use Rattle.std.specs.Prelude.{true, false, ◌||◌, ◌&&◌, if◌then◌else◌, nat_eq, None, Some}
use Rattle.std.specs.List.{cons_option, filter_map, list_any}
use Rattle.std.proofs.lemmas.List.Folds.{list_any-append}
use Rattle.desk_values.specs.declared.value.Value.{Value}
use Rattle.desk_values.specs.Comparison.{same_key}
use Rattle.server_words.specs.declared.session.Session.{Session}
use Rattle.server_words.specs.declared.session.HeldKey.{HeldKey}
use Rattle.machine_stores.specs.Holds.{holds_key}
use Rattle.server_words.specs.Writes.{is_locked_key}
use Rattle.server_words.specs.View.{key_of_table, keys_held}

-- ---- tests of what is chosen or joined

any_of_table : (level table : ℕ) (key : Value) (held : List HeldKey) → list_any (λ (h : HeldKey). nat_eq h.table table && same_key level key h.key) held ≡ list_any (same_key level key) (filter_map (key_of_table table) held)
any_of_table level table key [] = refl
any_of_table level table key (h ∷ held) = elim (nat_eq h.table table) as (λ b. ((b && same_key level key h.key) || list_any (λ (k : HeldKey). nat_eq k.table table && same_key level key k.key) held) ≡ list_any (same_key level key) (cons_option (if b then Some h.key else None) (filter_map (key_of_table table) held))) [
  | true ↦ ap (λ c. same_key level key h.key || c) (any_of_table level table key held)
  | false ↦ any_of_table level table key held
]

pub any_held : (level table : ℕ) (key : Value) (sessions : List Session) → list_any (holds_key level table key) sessions ≡ is_locked_key level (keys_held sessions table) key
any_held level table key [] = refl
any_held level table key (s ∷ sessions) =
    ap (λ b. b || list_any (holds_key level table key) sessions) (any_of_table level table key s.own.keys)
    ∙ ap (λ b. list_any (same_key level key) (filter_map (key_of_table table) s.own.keys) || b) (any_held level table key sessions)
    ∙ sym (list_any-append (same_key level key) (filter_map (key_of_table table) s.own.keys) (keys_held sessions table))
