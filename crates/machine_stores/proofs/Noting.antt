-- Rows that are found by their keys, as commits are put and noted.
use Rattle.std.proofs.Common.{◌≡◌, ◌≢◌, ℕ, ◌+◌, ◌<◌, true, false, ◌||◌, eqb, List, [], ◌∷◌, length, get_or, set, Option, None, refl, sym, ap, subst, ◌∙◌, get_or-set_same, get_or-set_other, length-set, length-append}
use Rattle.std.specs.Prelude.{nat_eq}
use Rattle.std.specs.List.{AllByRecursion, list_any}
use Rattle.std.proofs.lemmas.Bool.{eqb-true, eq-eqb}
use Rattle.std.proofs.lemmas.List.{get_or_default}
use Rattle.desk_values.specs.declared.value.Image.{Image}
use Rattle.row_versions.specs.History.{AreRowsAt, History}
use Rattle.machine_stores.specs.declared.index.KeyIndex.{KeyIndex}
use Rattle.server_words.specs.declared.session.Session.{Session}
use Rattle.server_words.specs.Rows.{IsRising, lay, of_table, row_at}
use Rattle.server_words.specs.Step.{with_commit}
use Rattle.server_words.specs.View.{commits_seen, rows_seen}
use Rattle.server_words.specs.Writes.{is_among}
use Rattle.machine_stores.specs.Index.{AreIndexes, FindsRows, HasRows, row_under}
use Rattle.machine_stores.specs.Tables.{ArePut, AreWithin, IsPut, is_within, rows_after, told_at}
use Rattle.machine_stores.specs.Inside.Tables.{IsAt}
use Rattle.machine_stores.proofs.Indexing.{found_among}
use Rattle.server_words.proofs.Looks.{rising_of_table}
use Rattle.machine_stores.proofs.Numbers.{over, past_first}
use Rattle.machine_stores.proofs.Storing.{image_is, put_nothing_same, told_next}
use Rattle.server_words.proofs.Noting.{of_other, of_same}

-- nothing is noted yet
pub nothing_noted : (index : KeyIndex) (h : History) (number : ℕ) (rows : List Image) → AreRowsAt h.list number rows → HasRows index (told_at h.list number) rows
nothing_noted index h number rows read kept x at none =
    absurd (let there : is_among rows x ≡ true = found_among rows x (sym (image_is x.row rows) ∙ read.each x.row ∙ at) in cc)

-- ---- a commit is put

none_at : (row : ℕ) (cs : List Image) → list_any (λ (c : Image). nat_eq c.row row) cs ≡ false → row_at row cs ≡ None
none_at row [] none = refl
none_at row (c ∷ cs) none = elim (eqb c.row row) as (λ b. eqb c.row row ≡ b → (b || list_any (λ (d : Image). nat_eq d.row row) cs) ≡ false → row_at row (c ∷ cs) ≡ None) [
  | true ↦ λ same any. absurd (cc)
  | false ↦ λ apart any. past_first row c cs (λ e. let both : eqb c.row row ≡ true = eq-eqb c.row row e in cc) ∙ none_at row cs any
] refl none

has_next : (index : KeyIndex) (before : ℕ) (images : List Image) (old new : History) → IsPut (before + 1) images old new → AllByRecursion (is_within before) old.list → IsRising images
    → HasRows index (told_at old.list before) [] → HasRows index (told_at new.list (before + 1)) images
has_next index before images old new put all up has kept image at apart =
    let next = told_next image.row before images old new put all up ∙ ap (λ (o : Option Image). over o (told_at old.list before image.row)) (none_at image.row images apart) in
    has kept image (sym next ∙ at) refl

-- the indexes have all rows but those of the commit
indexes_put : (indexes : List KeyIndex) (before : ℕ) (changes : List Image) (old new : List History) → IsRising changes → AreWithin before old → ArePut (before + 1) changes old new
    → AreIndexes indexes old before [] → AreIndexes indexes new (before + 1) changes
indexes_put indexes before changes old new rise all put are table i h some within =
    let there : table < length old = subst (λ (n : ℕ). table < n) put.count within in
    has_next (get_or indexes table i) before (of_table table changes) (get_or old table h) (get_or new table h) (put.each table h there) (all table h there).list (rising_of_table table changes rise) (are table i h some there)

pub indexes_after : (indexes : List KeyIndex) (commits : List (List Image)) (changes : List Image) (old new : List History) → IsRising changes → AreWithin (length commits) old → ArePut (length commits + 1) changes old new
    → AreIndexes indexes old (length commits) [] → AreIndexes indexes new (length (with_commit commits changes)) changes
indexes_after indexes commits [] old new rise all put are = subst (λ (l : List History). AreIndexes indexes l (length commits) []) (sym (put_nothing_same (length commits + 1) old new put)) are
indexes_after indexes commits (change ∷ changes) old new rise all put are =
    subst (λ (n : ℕ). AreIndexes indexes new n (change ∷ changes)) (sym (length-append commits ((change ∷ changes) ∷ []))) (indexes_put indexes (length commits) (change ∷ changes) old new rise all put are)

-- ---- its rows are noted

module _ (indexes : List KeyIndex) (tables : List History) (number t : ℕ) (old new : KeyIndex) (versions : History) (image : Image) (within : t < length indexes) (there : t < length tables)
    (kept : versions ≡ get_or tables t versions) (is : image.table ≡ t)
    (notes : (first : Image) (others : List Image) → first.row ≡ image.row → HasRows (get_or indexes t old) (told_at versions.list number) (first ∷ others) → HasRows new (told_at versions.list number) others) where
  note_here : (rest : List Image) → AreIndexes indexes tables number (image ∷ rest) → (f : History) → HasRows new (told_at (get_or tables t f).list number) (of_table t rest)
  note_here rest are f =
      let before : HasRows (get_or indexes t old) (told_at versions.list number) (of_table t (image ∷ rest)) = subst (λ (h : History). HasRows (get_or indexes t old) (told_at h.list number) (of_table t (image ∷ rest))) (sym kept) (are t old versions within there) in
      let now : HasRows new (told_at versions.list number) (of_table t rest) = notes image (of_table t rest) refl (subst (HasRows (get_or indexes t old) (told_at versions.list number)) (of_same t image rest is) before) in
      subst (λ (h : History). HasRows new (told_at h.list number) (of_table t rest)) (kept ∙ get_or_default tables t versions f there) now

  pub note_last : (rest : List Image) → AreIndexes indexes tables number (image ∷ rest) → AreIndexes (set indexes t new) tables number rest
  note_last rest are k e f below some =
      elim (eqb k t) as (λ b. eqb k t ≡ b → HasRows (get_or (set indexes t new) k e) (told_at (get_or tables k f).list number) (of_table k rest)) [
        | true ↦ λ same. rw (eqb-true k t same, get_or-set_same) (note_here rest are f)
        | false ↦ λ apart.
            let other : k ≢ t = λ e. (let both : eqb k t ≡ true = eq-eqb k t e in cc) in
            rw get_or-set_other (subst (HasRows (get_or indexes k e) (told_at (get_or tables k f).list number)) (of_other k image rest (λ e. other (sym e ∙ is))) (are k e f (rw length-set at below) some))
      ] refl

-- ---- what a statement looks at

pub finds_at : (indexes : List KeyIndex) (tables : List History) (number table : ℕ) (index : KeyIndex) (versions : History) (rows : List Image) → AreIndexes indexes tables number [] → table < length indexes → table < length tables
    → index ≡ get_or indexes table index → versions ≡ get_or tables table versions → index.is_kept ≡ true → IsAt versions number rows → FindsRows (row_under index) (λ row. row_at row rows) []
finds_at indexes tables number table index versions rows are within there read kept is_kept told image at none =
    let first : HasRows (get_or indexes table index) (told_at versions.list number) [] = subst (λ (h : History). HasRows (get_or indexes table index) (told_at h.list number) []) (sym kept) (are table index versions within there) in
    let now : HasRows index (told_at versions.list number) [] = subst (λ (i : KeyIndex). HasRows i (told_at versions.list number) []) (sym read) first in
    now is_kept image (told.each image.row ∙ at) none

-- where a session reads all commits, it sees the rows after all commits, with its own changes over them
pub seen_latest : (start : List Image) (commits : List (List Image)) (session : Session) (table : ℕ) → commits_seen session.snapshot commits ≡ commits
    → lay (rows_after start commits table) (of_table table session.own.changes) ≡ rows_seen start commits session table
seen_latest start commits session table all = rw all refl
