-- What putting the images of a commit does to the versions of each table, and what they tell then.
use Rattle.std.proofs.Common.{◌≡◌, ◌≢◌, inl, inr, ℕ, zero, suc, ◌+◌, ◌<◌, ◌≤◌, Bool, true, false, ◌&&◌, if◌then◌else◌, List, [], ◌∷◌, ◌++◌, length, get_or, set, map, replicate, take, drop, Option, None, Some, refl, sym, ap, subst, ◌∙◌, append-nil, append_assoc, length-append, length-set, get_or-set_same, get_or-set_other, arith}
use Rattle.std.specs.Prelude.{is_some, nat_eq, OnErr, Result, Ok, Err}
use Rattle.std.specs.Option.{option_map}
use Rattle.std.specs.List.{AllByRecursion}
use Rattle.std.proofs.Math.Seq.{take-length}
use Rattle.std.proofs.lemmas.Bool.{cases_eq, cases_lt, eq-eqb, ne_eqb, le-leb, lt-leb, lt-ltb, le-ltb}
use Rattle.std.proofs.lemmas.List.{drop_all, ext_get_or, get_or_default, length-replicate, map-append, take-append-le, take_all}
use Rattle.std.proofs.lemmas.List.Elements.{filter-append}
use Rattle.desk_values.specs.declared.value.Value.{Value}
use Rattle.desk_values.specs.declared.value.Image.{Image}
use Rattle.row_versions.specs.History.{AreRowsAt, History, IsPartOf, ReadsStay, RowsRise, Written, image_of, is_of_row, is_up_to, left_of, or_else, row_at as version_at, up_to}
use Rattle.server_words.specs.Rows.{IsRising, RisesFrom, is_there, lay_all, of_table, row_at}
use Rattle.server_words.specs.Sound.{AreStanding}
use Rattle.server_words.specs.Step.{with_commit}
use Rattle.server_words.specs.View.{commits_seen}
use Rattle.machine_stores.specs.Inside.Tables.{AreCut, IsAt, IsCut, no_versions}
use Rattle.machine_stores.specs.Tables.{AreFrom, ArePut, AreTold, AreWithin, IsForgot, IsPut, IsWithin, Tells, count_seen, is_within, rows_after, told_at, written}
use Rattle.server_words.proofs.Laying.{lay_all_push, rising_lay_all}
use Rattle.server_words.proofs.Looks.{rising_of_table}
use Rattle.server_words.proofs.Members.{each_filtered, each_joined, each_mapped, each_weaker}
use Rattle.machine_stores.proofs.Numbers.{over, rising_same, row_lay, there_at}
use Rattle.machine_stores.proofs.Indexing.{none_above}

pub on_err : {T E P : Type 0} (r : Result T E) → P → OnErr r P
on_err (Ok x) p = tt
on_err (Err e) p = p

-- what stands in a list once a slice of all of it was written
pub written_back : {X : Type 0} (count : ℕ) (new old : List X) → length new ≡ count → length old ≡ count → take count (new ++ drop (length new) old) ≡ new
written_back count new old news olds =
    let none : drop (length new) old ≡ [] = drop_all (length new) old (omega (arith, news, olds)) in
    ap (λ (l : List _). take count (new ++ l)) none ∙ ap (take count) (append-nil new) ∙ take_all count new (omega (arith, news))

-- ---- a commit's images are put

pub put_nothing : (number : ℕ) (tables : List History) → ArePut number [] tables tables
put_nothing number tables = record { count = refl; each = λ table h within. record { list = sym (append-nil (get_or tables table h).list); floor = refl } }

abbrev history : List Written → ℕ → History
history list floor = record { list = list; floor = floor }

history_same : (a b : History) → a.list ≡ b.list → a.floor ≡ b.floor → a ≡ b
history_same a b list floor = ap (λ (l : List Written). history l a.floor) list ∙ ap (λ (f : ℕ). history b.list f) floor

pub put_nothing_same : (number : ℕ) (old new : List History) → ArePut number [] old new → new ≡ old
put_nothing_same number old new put = sym (ext_get_or no_versions old new (sym put.count) (λ k within.
    let each = put.each k no_versions within in
    history_same (get_or old k no_versions) (get_or new k no_versions) (sym (append-nil (get_or old k no_versions).list) ∙ sym each.list) (sym each.floor)))

written_more : (number table : ℕ) (list : List Written) (xs ys : List Image) → (list ++ map (written number) (of_table table xs)) ++ map (written number) (of_table table ys) ≡ list ++ map (written number) (of_table table (xs ++ ys))
written_more number table list xs ys =
    let test : Image → Bool = λ (image : Image). nat_eq image.table table in
    append_assoc list (map (written number) (of_table table xs)) (map (written number) (of_table table ys)) ∙ ap (λ (l : List Written). list ++ l) (sym (map-append (written number) (of_table table xs) (of_table table ys)) ∙ ap (map (written number)) (sym (filter-append test xs ys)))

pub put_more : (number : ℕ) (xs ys : List Image) (a b c : List History) → ArePut number xs a b → ArePut number ys b c → ArePut number (xs ++ ys) a c
put_more number xs ys a b c first next = record {
  count = next.count ∙ first.count;
  each = λ table h within.
      let one = first.each table h within in
      let two = next.each table h (subst (λ (n : ℕ). table < n) (sym first.count) within) in
      record {
        list = two.list ∙ ap (λ (l : List Written). l ++ map (written number) (of_table table ys)) one.list ∙ written_more number table (get_or a table h).list xs ys;
        floor = two.floor ∙ one.floor;
      };
}

-- one image is put where its table is
put_here : (number : ℕ) (image : Image) (h new : History) → new.list ≡ h.list ++ written number image ∷ [] → new.floor ≡ h.floor → IsPut number (of_table image.table (image ∷ [])) h new
put_here number image h new list floor =
    let one : of_table image.table (image ∷ []) ≡ image ∷ [] = rw (eq-eqb image.table image.table refl) refl in
    record { list = list ∙ ap (λ (l : List Image). h.list ++ map (written number) l) (sym one); floor = floor }

put_there : (number table : ℕ) (image : Image) (h : History) → image.table ≢ table → IsPut number (of_table table (image ∷ [])) h h
put_there number table image h apart =
    let none : of_table table (image ∷ []) ≡ [] = rw (ne_eqb image.table table apart) refl in
    record { list = sym (append-nil h.list) ∙ ap (λ (l : List Image). h.list ++ map (written number) l) (sym none); floor = refl }

module _ (number : ℕ) (image : Image) (tables : List History) (at : ℕ) (e new : History) (within : at < length tables) (is : image.table ≡ at) (floor : new.floor ≡ (get_or tables at e).floor) where
  pub put_one : new.list ≡ (get_or tables at e).list ++ written number image ∷ [] → ArePut number (image ∷ []) tables (set tables at new)
  put_one list = record {
    count = length-set tables at new;
    each = λ table d below. elim (cases_eq table at) [
      | inl same ↦ (
          let h : History = get_or tables at e in
          let old : get_or tables table d ≡ h = ap (λ (t : ℕ). get_or tables t d) same ∙ get_or_default tables at d e within in
          let now : get_or (set tables at new) table d ≡ new = ap (λ (t : ℕ). get_or (set tables at new) t d) same ∙ get_or-set_same tables at new d within in
          let here : IsPut number (of_table table (image ∷ [])) h new = subst (λ (t : ℕ). IsPut number (of_table t (image ∷ [])) h new) (is ∙ sym same) (put_here number image h new list floor) in
          subst (λ (g : History). IsPut number (of_table table (image ∷ [])) g (get_or (set tables at new) table d)) (sym old) (subst (IsPut number (of_table table (image ∷ [])) h) (sym now) here))
      | inr apart ↦ (
          let now : get_or (set tables at new) table d ≡ get_or tables table d = get_or-set_other tables at table new d apart in
          subst (IsPut number (of_table table (image ∷ [])) (get_or tables table d)) (sym now) (put_there number table image (get_or tables table d) (λ e. apart (sym e ∙ is))))
    ];
  }

  pub put_none : new.list ≡ (get_or tables at e).list → set tables at new ≡ tables
  put_none list = ext_get_or no_versions (set tables at new) tables (length-set tables at new) (λ k below. elim (cases_eq k at) [
    | inl same ↦ ap (λ (t : ℕ). get_or (set tables at new) t no_versions) same ∙ get_or-set_same tables at new no_versions within ∙ history_same new (get_or tables at e) list floor ∙ get_or_default tables at e no_versions within ∙ ap (λ (t : ℕ). get_or tables t no_versions) (sym same)
    | inr apart ↦ get_or-set_other tables at k new no_versions apart
  ])

pub put_beside : (number : ℕ) (image : Image) (tables : List History) → length tables ≤ image.table → ArePut number (image ∷ []) tables tables
put_beside number image tables beyond = record { count = refl; each = λ table h within. put_there number table image (get_or tables table h) (λ e. omega (arith, e)) }

pub floors_put : (number low : ℕ) (images : List Image) (old new : List History) → ArePut number images old new → AreWithin low old → AreFrom low new
floors_put number low images old new put all table h within =
    let there : table < length old = subst (λ (n : ℕ). table < n) put.count within in
    omega (arith, (put.each table h there).floor, (all table h there).floor)

all_at : (number : ℕ) (xs : List Image) → AllByRecursion (λ (image : Image). number ≤ number) xs
all_at number [] = tt
all_at number (x ∷ xs) = (omega arith, all_at number xs)

put_list : (number : ℕ) (list : List Written) (xs : List Image) → AllByRecursion (is_within number) list → AllByRecursion (is_within number) (list ++ map (written number) xs)
put_list number list xs all = each_joined (is_within number) list (map (written number) xs) all (each_mapped (is_within number) (written number) xs (all_at number xs))

pub put_within : (number : ℕ) (images : List Image) (old new : List History) → ArePut number images old new → AreWithin number old → AreWithin number new
put_within number images old new put all table h within =
    let there : table < length old = subst (λ (n : ℕ). table < n) put.count within in
    let was = all table h there in
    let each = put.each table h there in
    record {
      floor = subst (λ (n : ℕ). n ≤ number) (sym each.floor) was.floor;
      list = subst (AllByRecursion (is_within number)) (sym each.list) (put_list number (get_or old table h).list (of_table table images) was.list);
    }

list_within : (number later : ℕ) (list : List Written) → number ≤ later → AllByRecursion (is_within number) list → AllByRecursion (is_within later) list
list_within number later list le all = each_weaker (is_within number) (is_within later) (λ (w : Written) (below : w.number ≤ number). omega arith) list all

pub within_later : (number later : ℕ) (tables : List History) → number ≤ later → AreWithin number tables → AreWithin later tables
within_later number later tables le all table h within =
    let was = all table h within in
    record { floor = omega (arith, was.floor); list = list_within number later (get_or tables table h).list le was.list }

-- ---- and taken out again

none_up_to : (before number : ℕ) (xs : List Image) → before < number → up_to before (map (written number) xs) ≡ []
none_up_to before number [] lt = refl
none_up_to before number (x ∷ xs) lt = rw (lt-leb number before lt) (none_up_to before number xs lt)

cut_list : (before number : ℕ) (list : List Written) (xs : List Image) → before < number → AllByRecursion (is_within before) list → up_to before (list ++ map (written number) xs) ≡ list
cut_list before number [] xs lt all = none_up_to before number xs lt
cut_list before number (w ∷ list) xs lt all = rw (le-leb w.number before all.0) (ap (λ (l : List Written). w ∷ l) (cut_list before number list xs lt all.1))

pub cut_back : (before number : ℕ) (put : List Image) (old mid new : List History) → before < number → AreWithin before old → ArePut number put old mid → AreCut before mid new → new ≡ old
cut_back before number put old mid new lt all is_put cut = sym (ext_get_or no_versions old new (sym (cut.count ∙ is_put.count)) (λ k within.
    let each = is_put.each k no_versions within in
    let out = cut.each k no_versions (subst (λ (n : ℕ). k < n) (sym is_put.count) within) in
    history_same (get_or old k no_versions) (get_or new k no_versions)
    (sym (out.list ∙ ap (up_to before) each.list ∙ cut_list before number (get_or old k no_versions).list (of_table k put) lt (all k no_versions within).list))
    (sym (out.floor ∙ each.floor))))

-- ---- one table after another is written over

module _ (old now : List History) (i : ℕ) (e new : History) (within : i < length now) (count : length now ≡ length old)
    (left : (k : ℕ) (d : History) → i ≤ k → k < length old → get_or now k d ≡ get_or old k d) where
  module _ (R : History → History → Type 0) where
    next_done : ((k : ℕ) (d : History) → k < i → R (get_or old k d) (get_or now k d)) → R (get_or now i e) new → (k : ℕ) (d : History) → k < i + 1 → R (get_or old k d) (get_or (set now i new) k d)
    next_done done here k d below = elim (cases_eq k i) [
      | inl same ↦ (
          let was : get_or now i e ≡ get_or old k d = get_or_default now i e d within ∙ left i d (omega arith) (omega arith) ∙ ap (λ (t : ℕ). get_or old t d) (sym same) in
          let is : new ≡ get_or (set now i new) k d = sym (ap (λ (t : ℕ). get_or (set now i new) t d) same ∙ get_or-set_same now i new d within) in
          subst (λ (g : History). R g (get_or (set now i new) k d)) was (subst (R (get_or now i e)) is here))
      | inr apart ↦ subst (R (get_or old k d)) (sym (get_or-set_other now i k new d apart)) (done k d (omega (arith, apart)))
    ]

  pub next_left : (k : ℕ) (d : History) → i + 1 ≤ k → k < length old → get_or (set now i new) k d ≡ get_or old k d
  next_left k d above below = get_or-set_other now i k new d (λ is. omega arith) ∙ left k d (omega arith) below

  pub next_from : (number : ℕ) → AreFrom number old → (get_or now i e).floor ≤ number
  next_from number from = let same : get_or now i e ≡ get_or old i e = left i e (omega arith) (omega arith) in subst (λ (h : History). h.floor ≤ number) (sym same) (from i e (omega arith))

  pub next_cut : (number : ℕ) → ((k : ℕ) (d : History) → k < i → IsCut number (get_or old k d) (get_or now k d)) → new.list ≡ up_to number (get_or now i e).list → new.floor ≡ (get_or now i e).floor
      → (k : ℕ) (d : History) → k < i + 1 → IsCut number (get_or old k d) (get_or (set now i new) k d)
  next_cut number done list floor = next_done (IsCut number) done (record { list = list; floor = floor })

  pub next_forgot : (number : ℕ) → ((k : ℕ) (d : History) → k < i → IsForgot number (get_or old k d) (get_or now k d)) → ReadsStay number (get_or now i e).list new.list → IsPartOf new.list (get_or now i e).list → new.floor ≡ number
      → (k : ℕ) (d : History) → k < i + 1 → IsForgot number (get_or old k d) (get_or (set now i new) k d)
  next_forgot number done reads fewer floor = next_done (IsForgot number) done (record { reads = reads; fewer = fewer; floor = omega (arith, floor) })

-- ---- what versions tell, where some come last

or_assoc : {X : Type 0} (a b c : Option X) → or_else (or_else a b) c ≡ or_else a (or_else b c)
or_assoc None b c = refl
or_assoc (Some x) b c = refl

or_none : {X : Type 0} (o : Option X) → or_else o None ≡ o
or_none None = refl
or_none (Some x) = refl

version_joined : (row n : ℕ) (xs ys : List Written) → version_at (xs ++ ys) row n ≡ or_else (version_at ys row n) (version_at xs row n)
version_joined row n [] ys = sym (or_none (version_at ys row n))
version_joined row n (x ∷ xs) ys =
    let own : Option Image = if is_of_row row x && is_up_to n x then Some x.image else None in
    ap (λ (o : Option Image). or_else o own) (version_joined row n xs ys) ∙ or_assoc (version_at ys row n) (version_at xs row n) own

and_false : (b : Bool) → (b && false) ≡ false
and_false true = refl
and_false false = refl

-- later ones are not read
version_later : (row n number : ℕ) (xs : List Image) → n < number → version_at (map (written number) xs) row n ≡ None
version_later row n number [] lt = refl
version_later row n number (x ∷ xs) lt =
    let fails : (is_of_row row (written number x) && is_up_to n (written number x)) ≡ false = ap (λ (b : Bool). nat_eq x.row row && b) (lt-leb number n lt) ∙ and_false (nat_eq x.row row) in
    ap (λ (b : Bool). or_else (version_at (map (written number) xs) row n) (if b then Some x else None)) fails ∙ or_none (version_at (map (written number) xs) row n) ∙ version_later row n number xs lt

-- those of the number itself are read as they stand
version_put : (row number k : ℕ) (xs : List Image) → RisesFrom k xs → version_at (map (written number) xs) row number ≡ row_at row xs
version_put row number k [] up = refl
version_put row number k (x ∷ xs) up =
    let rest = version_put row number (x.row + 1) xs up.1 in
    let here : is_up_to number (written number x) ≡ true = le-leb number number (omega arith) in
    let last : or_else (row_at row xs) (if nat_eq x.row row && true then Some x else None) ≡ row_at row (x ∷ xs) = elim (cases_eq x.row row) [
      | inl same ↦ (let none = none_above row (x.row + 1) xs up.1 (omega arith) in rw (none, eq-eqb x.row row same) refl)
      | inr apart ↦ rw (ne_eqb x.row row apart) (or_none (row_at row xs))
    ] in
    ap (λ (o : Option Image). or_else o (if nat_eq x.row row && is_up_to number (written number x) then Some x else None)) rest
    ∙ ap (λ (b : Bool). or_else (row_at row xs) (if nat_eq x.row row && b then Some x else None)) here
    ∙ last

-- and those up to a number by any number from it on
version_within : (row number n : ℕ) (list : List Written) → AllByRecursion (is_within number) list → number ≤ n → version_at list row n ≡ version_at list row number
version_within row number n [] all le = refl
version_within row number n (w ∷ list) all le =
    let below : w.number ≤ number = all.0 in
    let late : is_up_to n w ≡ true = le-leb w.number n (omega arith) in
    let soon : is_up_to number w ≡ true = le-leb w.number number below in
    ap (λ (o : Option Image). or_else o (if is_of_row row w && is_up_to n w then Some w.image else None)) (version_within row number n list all.1 le)
    ∙ ap (λ (b : Bool). or_else (version_at list row number) (if is_of_row row w && b then Some w.image else None)) (late ∙ sym soon)

left_over : (a b : Option Image) → left_of (or_else a b) ≡ over a (left_of b)
left_over None b = refl
left_over (Some c) b = by c.left refl
  where
    by : (left : Option (List Value)) → c.left ≡ left → left_of (Some c) ≡ over (Some c) (left_of b)
    by None is = ap (option_map (λ _. c)) is ∙ sym (ap (λ (o : Option (List Value)). if is_some o then Some c else None) is)
    by (Some values) is = ap (option_map (λ _. c)) is ∙ sym (ap (λ (o : Option (List Value)). if is_some o then Some c else None) is)

-- the next number tells the changes over what the number before told
pub told_next : (row before : ℕ) (images : List Image) (old new : History) → IsPut (before + 1) images old new → AllByRecursion (is_within before) old.list → IsRising images → told_at new.list (before + 1) row ≡ over (row_at row images) (told_at old.list before row)
told_next row before images old new put all up =
    ap (λ (l : List Written). told_at l (before + 1) row) put.list
    ∙ ap left_of (version_joined row (before + 1) old.list (map (written (before + 1)) images)
    ∙ ap (λ (o : Option Image). or_else o (version_at old.list row (before + 1))) (version_put row (before + 1) 0 images up)
    ∙ ap (or_else (row_at row images)) (version_within row before (before + 1) old.list all (omega arith)))
    ∙ left_over (row_at row images) (version_at old.list row before)

told_same : (row n number : ℕ) (images : List Image) (old new : History) → IsPut number images old new → n < number → told_at new.list n row ≡ told_at old.list n row
told_same row n number images old new put lt =
    ap (λ (l : List Written). told_at l n row) put.list
    ∙ ap left_of (version_joined row n old.list (map (written number) images)
    ∙ ap (λ (o : Option Image). or_else o (version_at old.list row n)) (version_later row n number images lt))

-- what is told of a row is of it
version_is : (row n : ℕ) (list : List Written) (x : Image) → version_at list row n ≡ Some x → x.row ≡ row
version_is row n [] x at = absurd (grind (arith, at))
version_is row n (w ∷ list) x at = by (version_at list row n) refl (nat_eq w.image.row row) refl (is_up_to n w) refl (version_is row n list x)
  where
    by : (o : Option Image) → version_at list row n ≡ o → (r : Bool) → nat_eq w.image.row row ≡ r → (u : Bool) → is_up_to n w ≡ u → (version_at list row n ≡ Some x → x.row ≡ row) → x.row ≡ row
    by (Some y) e r f u g rest = rest (e ∙ grind (arith, at, e))
    by None e true f true g rest = let is : w.image ≡ x = grind (arith, at, e, f, g) in let same : w.image.row ≡ row = grind (arith, f) in ap (λ (i : Image). i.row) (sym is) ∙ same
    by None e true f false g rest = absurd (grind (arith, at, e, f, g))
    by None e false f u g rest = absurd (grind (arith, at, e, f))

pub left_there : (x : Image) → is_some x.left ≡ true → left_of (Some x) ≡ Some x
left_there x there = by x.left refl
  where
    by : (left : Option (List Value)) → x.left ≡ left → left_of (Some x) ≡ Some x
    by None is = absurd (let none : is_some x.left ≡ false = ap is_some is in cc)
    by (Some values) is = ap (option_map (λ _. x)) is

pub left_gone : (x : Image) → is_some x.left ≡ false → left_of (Some x) ≡ None
left_gone x gone = by x.left refl
  where
    by : (left : Option (List Value)) → x.left ≡ left → left_of (Some x) ≡ None
    by None is = ap (option_map (λ _. x)) is
    by (Some values) is = absurd (let some : is_some x.left ≡ true = ap is_some is in cc)

left_is : (o : Option Image) (x : Image) → left_of o ≡ Some x → o ≡ Some x
left_is None x at = absurd cc
left_is (Some y) x at = by (is_some y.left) refl
  where
    by : (b : Bool) → is_some y.left ≡ b → Some y ≡ Some x
    by true is = sym (left_there y is) ∙ at
    by false is = absurd (let none : left_of (Some y) ≡ None = left_gone y is in cc)

pub told_is : (row n : ℕ) (list : List Written) (x : Image) → told_at list n row ≡ Some x → x.row ≡ row
told_is row n list x at = version_is row n list x (left_is (version_at list row n) x at)

-- ---- the rows of tables are told

module _ (low : ℕ) (start : List Image) (commits : List (List Image)) where
  pub told_later : (later : ℕ) (tables : List History) → low ≤ later → AreTold low start commits tables → AreTold later start commits tables
  told_later later tables le told table h within =
      let was = told table h within in
      record { floor = omega (arith, was.floor); list = was.list; each = λ row n from to. was.each row n (omega arith) to }

  pub told_within : (tables : List History) → low ≤ length commits → AreTold low start commits tables → AreWithin (length commits) tables
  told_within tables le told table h within = let was = told table h within in record { floor = omega (arith, was.floor); list = was.list }

  pub tells_at : (table : ℕ) (h : History) (n : ℕ) → Tells low start commits table h → low ≤ n → n ≤ length commits → IsAt h n (rows_after start (take n commits) table)
  tells_at table h n tells from to = record { floor = omega (arith, tells.floor); each = λ row. tells.each row n from to }

  pub tells_last : (table : ℕ) (h : History) → Tells low start commits table h → low ≤ length commits → IsAt h (length commits) (rows_after start commits table)
  tells_last table h tells from = subst (λ (cs : List (List Image)). IsAt h (length commits) (rows_after start cs table)) (take-length commits) (tells_at table h (length commits) tells from (omega arith))

  module _ (changes : List Image) (up : IsRising start) (rise : IsRising changes) where
    rows_next : (table row : ℕ) → row_at row (rows_after start (commits ++ changes ∷ []) table) ≡ over (row_at row (of_table table changes)) (row_at row (rows_after start commits table))
    rows_next table row =
        ap (row_at row) (ap (lay_all (of_table table start)) (map-append (of_table table) commits (changes ∷ [])) ∙ lay_all_push (of_table table start) (map (of_table table) commits) (of_table table changes))
        ∙ row_lay row 0 (rows_after start commits table) (of_table table changes) (rising_lay_all (of_table table start) (map (of_table table) commits) (rising_of_table table start up)) (rising_of_table table changes rise)

    tells_next : (table : ℕ) (old new : History) → low ≤ length commits → Tells low start commits table old → IsPut (length commits + 1) (of_table table changes) old new → Tells low start (commits ++ changes ∷ []) table new
    tells_next table old new le tells put =
        let count : length (commits ++ changes ∷ []) ≡ length commits + 1 = length-append commits (changes ∷ []) in
        record {
          floor = subst (λ (n : ℕ). n ≤ low) (sym put.floor) tells.floor;
          list = subst (λ (n : ℕ). AllByRecursion (is_within n) new.list) (sym count) (subst (AllByRecursion (is_within (length commits + 1))) (sym put.list) (put_list (length commits + 1) old.list (of_table table changes) (list_within (length commits) (length commits + 1) old.list (omega arith) tells.list)));
          each = λ row n from to. elim (cases_lt n (length commits + 1)) [
            | inl before ↦ (let least : n ≤ length commits = omega arith in
                told_same row n (length commits + 1) (of_table table changes) old new put before ∙ tells.each row n from least
                ∙ ap (λ (cs : List (List Image)). row_at row (rows_after start cs table)) (sym (take-append-le n commits (changes ∷ []) least)))
            | inr last ↦ (let is : n ≡ length commits + 1 = omega (arith, to, count) in
                let whole : take n (commits ++ changes ∷ []) ≡ commits ++ changes ∷ [] = take_all n (commits ++ changes ∷ []) (omega (arith, count)) in
                ap (λ (m : ℕ). told_at new.list m row) is
                ∙ told_next row (length commits) (of_table table changes) old new put tells.list (rising_of_table table changes rise)
                ∙ ap (over (row_at row (of_table table changes))) ((tells_last table old tells le).each row)
                ∙ sym (ap (λ (cs : List (List Image)). row_at row (rows_after start cs table)) whole ∙ rows_next table row))
          ];
        }

    pub told_put : (old new : List History) → low ≤ length commits → AreTold low start commits old → ArePut (length commits + 1) changes old new → AreTold low start (commits ++ changes ∷ []) new
    told_put old new le told put table h within =
        let there : table < length old = subst (λ (n : ℕ). table < n) put.count within in
        tells_next table (get_or old table h) (get_or new table h) le (told table h there) (put.each table h there)

pub told_here : (low : ℕ) (start : List Image) (commits : List (List Image)) (tables : List History) (table : ℕ) (h : History) → AreTold low start commits tables → table < length tables → h ≡ get_or tables table h → Tells low start commits table h
told_here low start commits tables table h told within is = subst (Tells low start commits table) (sym is) (told table h within)

pub within_here : (number : ℕ) (tables : List History) (table : ℕ) (h : History) → AreWithin number tables → table < length tables → h ≡ get_or tables table h → IsWithin number h
within_here number tables table h all within is = subst (IsWithin number) (sym is) (all table h within)

-- only changes become a commit
pub told_after : (low : ℕ) (start : List Image) (commits : List (List Image)) (changes : List Image) (old new : List History) → IsRising start → IsRising changes → low ≤ length commits → AreTold low start commits old → ArePut (length commits + 1) changes old new → AreTold low start (with_commit commits changes) new
told_after low start commits [] old new up rise le told put = subst (AreTold low start commits) (sym (put_nothing_same (length commits + 1) old new put)) told
told_after low start commits (change ∷ changes) old new up rise le told put = told_put low start commits (change ∷ changes) up rise old new le told put

-- ---- at the start

tells_start : (start : List Image) (table : ℕ) (h : History) → AreStanding start → h.list ≡ map (written 0) (of_table table start) → h.floor ≡ 0 → Tells 0 start [] table h
tells_start start table h stand list floor = record {
  floor = omega (arith, floor);
  list = subst (AllByRecursion (is_within 0)) (sym list) (put_list 0 [] (of_table table start) tt);
  each = λ row n from to.
      let first : n ≡ 0 = omega arith in
      ap (λ (l : List Written). told_at l n row) list ∙ ap (λ (m : ℕ). told_at (map (written 0) (of_table table start)) m row) first
      ∙ ap left_of (version_put row 0 0 (of_table table start) (rising_of_table table start stand.rising))
      ∙ stays row (row_at row (of_table table start)) refl
      ∙ ap (λ (cs : List (List Image)). row_at row (rows_after start cs table)) (sym (take_all n [] (omega arith)));
}
  where
    stands : (row : ℕ) (x : Image) → row_at row (of_table table start) ≡ Some x → is_there x ≡ true
    stands row x at = there_at row (of_table table start) x (each_filtered (λ (image : Image). is_there image ≡ true) (λ (image : Image). nat_eq image.table table) start stand.there) at

    stays : (row : ℕ) (o : Option Image) → row_at row (of_table table start) ≡ o → left_of o ≡ o
    stays row None at = refl
    stays row (Some x) at = left_there x (stands row x at)

one_of_many : (n k : ℕ) (h d : History) → k < n → get_or (replicate n h) k d ≡ h
one_of_many zero k h d within = absurd (omega arith)
one_of_many (suc n) zero h d within = refl
one_of_many (suc n) (suc k) h d within = one_of_many n k h d (omega arith)

pub none_within : (count : ℕ) → AreWithin 0 (replicate count no_versions)
none_within count table h within =
    subst (IsWithin 0) (sym (one_of_many count table no_versions h (subst (λ (n : ℕ). table < n) (length-replicate count no_versions) within))) (record { floor = omega arith; list = tt })

pub told_start : (start : List Image) (count : ℕ) (tables : List History) → AreStanding start → ArePut 0 start (replicate count no_versions) tables → AreTold 0 start [] tables
told_start start count tables stand put table h within =
    let there : table < length (replicate count no_versions) = subst (λ (n : ℕ). table < n) put.count within in
    let each = put.each table h there in
    let first : get_or (replicate count no_versions) table h ≡ no_versions = one_of_many count table no_versions h (subst (λ (n : ℕ). table < n) (length-replicate count no_versions) there) in
    tells_start start table (get_or tables table h) stand (each.list ∙ ap (λ (g : History). g.list ++ map (written 0) (of_table table start)) first) (each.floor ∙ ap (λ (g : History). g.floor) first)

-- ---- rows that are read

rises_as : (n : ℕ) (images : List Image) → RowsRise n images → RisesFrom n images
rises_as n [] up = tt
rises_as n (x ∷ images) up = (up.0, rises_as (x.row + 1) images up.1)

pub image_is : (row : ℕ) (images : List Image) → image_of row images ≡ row_at row images
image_is row [] = refl
image_is row (x ∷ images) = ap (λ (o : Option Image). if nat_eq x.row row then Some x else o) (image_is row images)

pub rising_after : (start : List Image) (commits : List (List Image)) (table : ℕ) → IsRising start → IsRising (rows_after start commits table)
rising_after start commits table up = rising_lay_all (of_table table start) (map (of_table table) commits) (rising_of_table table start up)

pub rows_read : (h : History) (number : ℕ) (images rows : List Image) → IsRising rows → IsAt h number rows → AreRowsAt h.list number images → images ≡ rows
rows_read h number images rows up at read = rising_same 0 images rows (rises_as 0 images read.rise) up (λ row. sym (image_is row images) ∙ read.each row ∙ at.each row)

pub count_most : (snapshot : Option ℕ) (count : ℕ) → count_seen snapshot count ≤ count
count_most None count = omega arith
count_most (Some n) count = elim (cases_lt n count) [
  | inl below ↦ rw (lt-ltb n count below) (omega arith)
  | inr above ↦ rw (le-ltb n count above) (omega arith)
]

pub none_of_length : (changes : List Image) → length changes ≡ 0 → changes ≡ []
none_of_length [] none = refl
none_of_length (change ∷ changes) none = absurd (omega arith)

pub commits_counted : (snapshot : Option ℕ) (commits : List (List Image)) → take (count_seen snapshot (length commits)) commits ≡ commits_seen snapshot commits
commits_counted None commits = take-length commits
commits_counted (Some n) commits = elim (cases_lt n (length commits)) [
  | inl below ↦ rw (lt-ltb n (length commits) below) refl
  | inr above ↦ rw (le-ltb n (length commits) above) (take-length commits ∙ sym (take_all n commits above))
]
