-- Reading files of which one was set.
use Rattle.std.proofs.Common.{◌≡◌, ◌≢◌, ℕ, List, false, cond, ap, ◌∙◌, Some}
use Rattle.std.specs.Ordering.{nat_cmp, eq_by_cmp}
use Rattle.std.specs.Cmp.{eq_by_cmp_equiv}
use Rattle.std.specs.Cmp.Lexicographic.{slice_cmp, nat_list_cmp_total}
use Rattle.std.specs.FinMap.{get, insert, get-insert}
use Rattle.std.proofs.lemmas.Map.Lookups.{exact_bytes}
use Rattle.std.proofs.lemmas.Map.Views.{tells_apart}
use Rattle.std.proofs.lemmas.Bool.{false_from_ne_true}
use Rattle.desk_files.specs.Outside.{FileMap, KeepsOthers}

-- two names that differ do not tie
apart : (other name : List ℕ) → other ≢ name → eq_by_cmp (slice_cmp nat_cmp) other name ≡ false
apart other name differs = false_from_ne_true _ (λ tied. differs (tells_apart exact_bytes other name tied))

-- the file that was set has its bytes
pub get-insert_same : (files : FileMap) (name bytes : List ℕ) → get (insert files name bytes) name ≡ Some bytes
get-insert_same files name bytes =
    get-insert nat_list_cmp_total files name bytes name
    ∙ ap (λ b. cond b (Some bytes) (get files name)) ((eq_by_cmp_equiv nat_list_cmp_total).refl name)

-- every other file is as before
pub get-insert_other : (files : FileMap) (name bytes other : List ℕ) → other ≢ name → get (insert files name bytes) other ≡ get files other
get-insert_other files name bytes other differs =
    get-insert nat_list_cmp_total files name bytes other
    ∙ ap (λ b. cond b (Some bytes) (get files other)) (apart other name differs)

pub KeepsOthers-insert : (files : FileMap) (name bytes : List ℕ) → KeepsOthers name files (insert files name bytes)
KeepsOthers-insert files name bytes = get-insert_other files name bytes

-- for `grind`: what the files have after one is set
pub ruleset file_laws = (get-insert_same, get-insert_other)
