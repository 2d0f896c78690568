-- Keys of rows in a set.
use Rattle.std.proofs.Common.{◌≡◌, ℕ, true, ◌||◌, List, [], ◌∷◌, map, refl, sym, ◌∙◌, ap, subst, Ordering, ◌↔◌, ◌⊎◌, inl, inr, ⊎_elim}
use Rattle.std.specs.declared.cmp.Ordering.TheVariants.{Less, Equal, Greater}
use Rattle.std.specs.BTreeMap.{is_at}
use Rattle.std.specs.BTreeSet.{insert_key}
use Rattle.std.specs.Cmp.Lexicographic.{slice_cmp}
use Rattle.std.specs.List.{Contains, list_any}
use Rattle.std.specs.Ordering.{nat_cmp, int_cmp, ordering_then, match_ordering, is_eq}
use Rattle.std.proofs.lemmas.Cmp.{tied_itself, nat_cmp_total, int_cmp_total, nat_list_cmp_total}
use Rattle.std.proofs.lemmas.Map.Lookups.{exact_unsigned, exact_signed, exact_bytes}
use Rattle.std.proofs.lemmas.Bool.{or_cases, or_right}
use Rattle.desk_values.specs.declared.value.Value.{Value}
use Rattle.desk_values.specs.declared.value.Value.TheVariants as value
use Rattle.desk_schema.specs.declared.keys.Key.{Key}
use Rattle.desk_schema.specs.declared.keys.Key.TheVariants as key
use Rattle.desk_schema.specs.declared.keys.RowKey.{RowKey}
use Rattle.desk_schema.specs.contracts.keys.RowKeyOrd.TheImpl as row_order
use Rattle.desk_schema.specs.contracts.keys.KeyOrd.TheImpl as key_order
use Rattle.desk_schema.specs.Inside.Keys.{key_value, row_key, IsWith}
use Rattle.desk_schema.proofs.Members.{Contains-none, Contains-here, Contains-there, Contains-cases}

abbrev key_cmp : Key → Key → Ordering
key_cmp = (key_order.cmp-value).it

abbrev pub row_cmp : RowKey → RowKey → Ordering
row_cmp = (row_order.cmp-value).it

-- both of two orders tie
both_tie : (first second : Ordering) → ordering_then first second ≡ Equal → (first ≡ Equal) × (second ≡ Equal)
both_tie Less second tie = cc
both_tie Equal second tie = (refl, tie)
both_tie Greater second tie = cc

-- keys that tie are one value
key_exact : (a b : Key) → key_cmp a b ≡ Equal → key_value a ≡ key_value b
key_exact key.Null key.Null tie = refl
key_exact (key.Int m) (key.Int n) tie = ap value.Int (exact_signed m n tie)
key_exact (key.Text xs) (key.Text ys) tie = ap value.Text (exact_bytes xs.items ys.items tie)
key_exact (key.Row m) (key.Row n) tie = ap value.Row (exact_unsigned m n tie)
key_exact (key.Draw a m) (key.Draw b n) tie =
    let both : (nat_cmp a b ≡ Equal) × (nat_cmp m n ≡ Equal) = both_tie (nat_cmp a b) (nat_cmp m n) tie in
    let first : a ≡ b = exact_unsigned a b both.0 in
    let second : m ≡ n = exact_unsigned m n both.1 in cc
key_exact a b tie = cc

-- one value ties with itself
key_tie : (a b : Key) → key_value a ≡ key_value b → key_cmp a b ≡ Equal
key_tie key.Null key.Null same = refl
key_tie (key.Int m) (key.Int n) same = let e : m ≡ n = cc in ap (int_cmp m) (sym e) ∙ tied_itself int_cmp_total m
key_tie (key.Text xs) (key.Text ys) same = let e : xs.items ≡ ys.items = cc in ap (slice_cmp nat_cmp xs.items) (sym e) ∙ tied_itself nat_list_cmp_total xs.items
key_tie (key.Row m) (key.Row n) same = let e : m ≡ n = cc in ap (nat_cmp m) (sym e) ∙ tied_itself nat_cmp_total m
key_tie (key.Draw a m) (key.Draw b n) same =
    let e : a ≡ b = cc in
    let f : m ≡ n = cc in
    let g : nat_cmp a b ≡ Equal = ap (nat_cmp a) (sym e) ∙ tied_itself nat_cmp_total a in
    ap (λ o. ordering_then o (nat_cmp m n)) g ∙ ap (nat_cmp m) (sym f) ∙ tied_itself nat_cmp_total m
key_tie a b same = cc

row_exact : (a b : RowKey) → row_cmp a b ≡ Equal → row_key a ≡ row_key b
row_exact a b tie =
    let both : (nat_cmp a.table b.table ≡ Equal) × (key_cmp a.key b.key ≡ Equal) = both_tie (nat_cmp a.table b.table) (key_cmp a.key b.key) tie in
    let first : a.table ≡ b.table = exact_unsigned a.table b.table both.0 in
    let second : key_value a.key ≡ key_value b.key = key_exact a.key b.key both.1 in cc

row_tie : (a b : RowKey) → row_key a ≡ row_key b → row_cmp a b ≡ Equal
row_tie a b same =
    let first : nat_cmp a.table b.table ≡ Equal = ap (nat_cmp a.table) (sym (ap (λ (p : ℕ × Value). p.0) same)) ∙ tied_itself nat_cmp_total a.table in
    ap (λ o. ordering_then o (key_cmp a.key b.key)) first ∙ key_tie a.key b.key (ap (λ (p : ℕ × Value). p.1) same)

-- a key is found just where it is there
pub found_there : (k : RowKey) (ks : List RowKey) → list_any (is_at (row_cmp k)) ks ≡ true → Contains (map row_key ks) (row_key k)
found_there k [] found = cc
found_there k (x ∷ xs) found = ⊎_elim
    (λ at. let P : ℕ × Value → Type 0 = λ y. Contains (row_key x ∷ map row_key xs) y in subst P (sym (row_exact k x (tied (row_cmp k x) at))) (Contains-here (row_key x) (map row_key xs)))
    (λ later. Contains-there (row_key x) (map row_key xs) (row_key k) (found_there k xs later))
    (or_cases (is_at (row_cmp k) x) (list_any (is_at (row_cmp k)) xs) found)
  where
    tied : (o : Ordering) → is_eq o ≡ true → o ≡ Equal
    tied Less e = cc
    tied Equal e = refl
    tied Greater e = cc

pub there_found : (k : RowKey) (ks : List RowKey) → Contains (map row_key ks) (row_key k) → list_any (is_at (row_cmp k)) ks ≡ true
there_found k [] there = absurd (Contains-none (row_key k) there)
there_found k (x ∷ xs) there = ⊎_elim
    (λ here. ap (λ o. is_eq o || list_any (is_at (row_cmp k)) xs) (row_tie k x (sym here)))
    (λ later. or_right (is_at (row_cmp k) x) (list_any (is_at (row_cmp k)) xs) (there_found k xs later))
    (Contains-cases (row_key x) (map row_key xs) (row_key k) there)

-- the keys with one more
pub with_key : (k : RowKey) (ks : List RowKey) → IsWith (map row_key ks) (map row_key (insert_key row_cmp ks k)) (row_key k)
with_key k [] other = (
  λ there. ⊎_elim (λ here. inl (sym here)) (λ gone. absurd (Contains-none other gone)) (Contains-cases (row_key k) [] other there),
  λ is. ⊎_elim (λ here. let P : ℕ × Value → Type 0 = λ y. Contains (row_key k ∷ []) y in subst P (sym here) (Contains-here (row_key k) [])) (λ gone. absurd (Contains-none other gone)) is,
)
with_key k (x ∷ xs) other = at (row_cmp k x) (row_exact k x) (with_key k xs other)
  where
    rest : List (ℕ × Value)
    rest = map row_key xs

    at : (o : Ordering) → (o ≡ Equal → row_key k ≡ row_key x) → Contains (map row_key (insert_key row_cmp xs k)) other ↔ ((other ≡ row_key k) ⊎ Contains rest other)
        → Contains (map row_key (match_ordering o (k ∷ x ∷ xs) (x ∷ xs) (x ∷ insert_key row_cmp xs k))) other ↔ ((other ≡ row_key k) ⊎ Contains (row_key x ∷ rest) other)
    at Less tied more = (
      λ there. ⊎_elim (λ here. inl (sym here)) (λ later. inr later) (Contains-cases (row_key k) (row_key x ∷ rest) other there),
      λ is. ⊎_elim (λ here. let P : ℕ × Value → Type 0 = λ y. Contains (row_key k ∷ row_key x ∷ rest) y in subst P (sym here) (Contains-here (row_key k) (row_key x ∷ rest)))
          (λ later. Contains-there (row_key k) (row_key x ∷ rest) other later) is,
    )
    at Equal tied more = (
      λ there. inr there,
      λ is. ⊎_elim (λ here. let P : ℕ × Value → Type 0 = λ y. Contains (row_key x ∷ rest) y in subst P (sym (here ∙ tied refl)) (Contains-here (row_key x) rest)) (λ later. later) is,
    )
    at Greater tied more =
        let longer = map row_key (insert_key row_cmp xs k) in (
          λ there. ⊎_elim (λ here. let P : ℕ × Value → Type 0 = λ y. Contains (row_key x ∷ rest) y in inr (subst P here (Contains-here (row_key x) rest)))
              (λ later. ⊎_elim (λ here. inl here) (λ on. inr (Contains-there (row_key x) rest other on)) (more.0 later))
              (Contains-cases (row_key x) longer other there),
          λ is. ⊎_elim (λ here. Contains-there (row_key x) longer other (more.1 (inl here)))
              (λ there. ⊎_elim (λ here. let P : ℕ × Value → Type 0 = λ y. Contains (row_key x ∷ longer) y in subst P here (Contains-here (row_key x) longer))
              (λ later. Contains-there (row_key x) longer other (more.1 (inr later))) (Contains-cases (row_key x) rest other there)) is,
        )
