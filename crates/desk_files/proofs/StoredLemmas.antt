-- The files that a map in memory keeps, read by name and changed at a name.
use Rattle.std.proofs.Common.{◌≡◌, ℕ, List, [], ◌∷◌, map, cond, refl, sym, ap, ◌∙◌, Some, String}
use Rattle.std.specs.String.{string_bytes, string_cmp}
use Rattle.std.specs.Ordering.{nat_cmp, eq_by_cmp}
use Rattle.std.specs.Cmp.{eq_by_cmp_equiv}
use Rattle.std.specs.Cmp.Lexicographic.{slice_cmp, nat_list_cmp_total}
use Rattle.std.specs.FinMap.{find, get, insert, get-from_entries, get-insert, same_map}
use Rattle.std.specs.BTreeMap.{BTreeMap, Updates, get_by_text, is_at}
use Rattle.std.specs.Map.{lookup}
use Rattle.std.proofs.lemmas.Map.Text.{btree_map_updates_text, is_eq-slice_cmp}
use Rattle.std.proofs.lemmas.Map.Lookups.{exact_bytes}
use Rattle.desk_files.specs.Stored.{files_of}

find_text : {Y : Type 0} (q : List ℕ) (es : List (String Y × List ℕ)) → find (slice_cmp nat_cmp) q (map (λ e. (string_bytes e.0, e.1)) es) ≡ lookup (is_at (λ k. slice_cmp nat_cmp q (string_bytes k))) es
find_text q [] = refl
find_text q (e ∷ es) = ap (cond (is_at (λ k. slice_cmp nat_cmp q (string_bytes k)) e.0) (Some e.1)) (find_text q es)

-- what the files have at a name
pub get-files_of : {Y : Type 0} (stored : BTreeMap (String Y) (List ℕ)) (name : List ℕ) → get (files_of stored) name ≡ get_by_text stored name
get-files_of stored name = get-from_entries nat_list_cmp_total _ name ∙ find_text name stored.entries

-- a change at a key is one at its name
pub files_of-insert : {Y : Type 0} (before after : BTreeMap (String Y) (List ℕ)) (key : String Y) (bytes : List ℕ) → Updates string_cmp before after key (Some bytes) → files_of after ≡ insert (files_of before) (string_bytes key) bytes
files_of-insert before after key bytes updates =
    same_map nat_list_cmp_total exact_bytes _ _ (λ q.
    get-files_of after q
    ∙ btree_map_updates_text (string_bytes key) before after (Some bytes) updates q
    ∙ ap (λ b. cond b (Some bytes) (get_by_text before q)) (sym (is_eq-slice_cmp (string_bytes key) q) ∙ (eq_by_cmp_equiv nat_list_cmp_total).symm (string_bytes key) q)
    ∙ ap (cond (eq_by_cmp (slice_cmp nat_cmp) q (string_bytes key)) (Some bytes)) (sym (get-files_of before q))
    ∙ sym (get-insert nat_list_cmp_total (files_of before) (string_bytes key) bytes q))
