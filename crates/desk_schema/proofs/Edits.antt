-- What a record edits, and what an edit keeps.
use Rattle.std.proofs.Common.{◌≡◌, ℕ, suc, ◌+◌, ◌^◌, ◌<◌, Bool, true, false, cond, List, [], ◌∷◌, length, Option, None, Some, refl, sym, ◌∙◌, ap, subst, arith}
use Rattle.std.specs.Prelude.{ℤ, codes, if◌then◌else◌, nat_le, slice_get}
use Rattle.std.specs.Option.{option_map}
use Rattle.std.specs.Str.{bytes_eq}
use Rattle.std.proofs.lemmas.Bool.{leb-true}
use Rattle.desk_values.specs.Reading.{◌>>=◌, integer_of, number_below, number_of, txt_in}
use Rattle.desk_values.specs.Word.{member_with_word}
use Rattle.desk_schema.specs.declared.edit.Edit.{Edit}
use Rattle.desk_schema.specs.declared.edit.Edit.TheVariants.{Level, Shape, Next, Grant, Add, Withdraw}
use Rattle.desk_schema.specs.declared.schema.Column.{Column}
use Rattle.desk_schema.specs.declared.schema.Kind.{Kind}
use Rattle.desk_schema.specs.declared.schema.Kind.TheVariants.{Int, Text}
use Rattle.desk_schema.specs.declared.schema.Rights.{Rights}
use Rattle.desk_schema.specs.declared.schema.Service.{Service}
use Rattle.desk_schema.specs.Schema.{all_rights, column_names, columns_of, place_of, rights_word, service_names, shape_of, table_names}
use Rattle.desk_schema.specs.Start.{StartView}
use Rattle.desk_schema.specs.Change.{edit_of, new_shape, next_edit, nulls_in, rights_edit, service_edit, shape_edit, with_kind, with_length, with_range}
use Rattle.desk_schema.specs.Target.{bare_kind}
use Rattle.desk_schema.specs.Inside.Declaring.{EditFits}

-- ---- places

place_below : (names : List (List ℕ)) (name : List ℕ) (p : ℕ) → place_of names name ≡ Some p → p < length names
place_below [] name p found = absurd (cc)
place_below (x ∷ xs) name p found = at (bytes_eq x name) (place_of xs name) (place_below xs name) found
  where
    at : (b : Bool) (o : Option ℕ) → ((q : ℕ) → o ≡ Some q → q < length xs) → cond b (Some 0) (option_map (λ q. q + 1) o) ≡ Some p → p < suc (length xs)
    at true o later found = let here : 0 ≡ p = cc in omega (arith, here)
    at false None later found = absurd (cc)
    at false (Some q) later found = let same : q + 1 ≡ p = cc in let below = later q refl in omega (arith, same, below)

service_below : (services : List Service) (name : List ℕ) (p : ℕ) → place_of (service_names services) name ≡ Some p → p < length services
service_below services name p found = let below = place_below (service_names services) name p found in subst (λ (n : ℕ). p < n) (count services) below
  where
    count : (all : List Service) → length (service_names all) ≡ length all
    count [] = refl
    count (s ∷ all) = ap suc (count all)

-- ---- what an edit is of

module _ (P : Edit → Type 0) where
  -- what holds of each edit that an option may give
  abbrev IfGiven : Option Edit → Type 0
  IfGiven o = (edit : Edit) → o ≡ Some edit → P edit

  not_given : IfGiven None
  not_given edit is = absurd (cc)

  given : {X : Type 0} (f : X → Edit) (o : Option X) → ((x : X) → o ≡ Some x → P (f x)) → IfGiven (option_map f o)
  given f None each edit is = absurd (cc)
  given f (Some x) each edit is = let same : f x ≡ edit = cc in subst P same (each x refl)

  chained : {X : Type 0} (next : X → Option Edit) (o : Option X) → ((x : X) → o ≡ Some x → IfGiven (next x)) → IfGiven (o >>= next)
  chained next None each edit is = absurd (cc)
  chained next (Some x) each edit is = each x refl edit is

  either : (b : Bool) (some others : Option Edit) → (b ≡ true → IfGiven some) → IfGiven others → IfGiven (if b then some else others)
  either true some others first second = first refl
  either false some others first second = second

-- the kind stays but for its range or length
same_bare : (kind : Kind) (o : Option Kind) (nulls : Bool) (new : Kind × Bool) → ((k : Kind) → o ≡ Some k → bare_kind k ≡ bare_kind kind) → with_kind o nulls ≡ Some new → bare_kind new.0 ≡ bare_kind kind
same_bare kind None nulls new each is = absurd (cc)
same_bare kind (Some k) nulls new each is = let same : k ≡ new.0 = cc in ap bare_kind (sym same) ∙ each k refl

bare_length : (o : Option ℕ) (kind k : Kind) → (o >>= (λ most. with_length most kind)) ≡ Some k → bare_kind k ≡ bare_kind kind
bare_length None kind k is = absurd (cc)
bare_length (Some most) (Text old) k is = let same : Text most ≡ k = cc in ap bare_kind (sym same)
bare_length (Some most) other k is = absurd (cc)

bare_range : (o p : Option ℤ) (kind k : Kind) → (o >>= (λ low. p >>= (λ high. with_range low high kind))) ≡ Some k → bare_kind k ≡ bare_kind kind
bare_range None p kind k is = absurd (cc)
bare_range (Some low) None kind k is = absurd (cc)
bare_range (Some low) (Some high) (Int l h) k is = let same : Int low high ≡ k = cc in ap bare_kind (sym same)
bare_range (Some low) (Some high) other k is = absurd (cc)

bare_nulls : (o : Option Bool) (kind : Kind) (new : Kind × Bool) → option_map (λ (nulls : Bool). (kind, nulls)) o ≡ Some new → bare_kind new.0 ≡ bare_kind kind
bare_nulls None kind new is = absurd (cc)
bare_nulls (Some nulls) kind new is = let same : kind ≡ new.0 = cc in ap bare_kind (sym same)

bare_new : (word : List ℕ) (fields : List (List ℕ)) (kind : Kind) (not_null : Bool) (new : Kind × Bool) → new_shape word fields kind not_null ≡ Some new → bare_kind new.0 ≡ bare_kind kind
bare_new word [] kind not_null new is = absurd (cc)
bare_new word (field ∷ []) kind not_null new is =
    elim (bytes_eq word (codes "length")) as (λ b. (if b then with_kind (number_below (2 ^ 32) field >>= (λ most. with_length most kind)) not_null
    else if bytes_eq word (codes "null") then option_map (λ (nulls : Bool). (kind, nulls)) (nulls_in field) else None) ≡ Some new → bare_kind new.0 ≡ bare_kind kind) [
      | true ↦ same_bare kind _ not_null new (bare_length (number_below (2 ^ 32) field) kind)
      | false ↦ elim (bytes_eq word (codes "null")) as (λ b. (if b then option_map (λ (nulls : Bool). (kind, nulls)) (nulls_in field) else None) ≡ Some new → bare_kind new.0 ≡ bare_kind kind) [
        | true ↦ bare_nulls (nulls_in field) kind new
        | false ↦ λ is. absurd (cc)
      ]
    ] is
bare_new word (low ∷ high ∷ []) kind not_null new is =
    elim (bytes_eq word (codes "range")) as (λ b. (if b then with_kind (integer_of low >>= (λ first. integer_of high >>= (λ last. with_range first last kind))) not_null else None) ≡ Some new → bare_kind new.0 ≡ bare_kind kind) [
      | true ↦ same_bare kind _ not_null new (bare_range (integer_of low) (integer_of high) kind)
      | false ↦ λ is. absurd (cc)
    ] is
bare_new word (low ∷ high ∷ more ∷ fields) kind not_null new is = absurd (cc)

column_there : (o : Option Column) (old : Kind × Bool) → option_map shape_of o ≡ Some old → (column : Column) × (o ≡ Some column) × (column.kind ≡ old.0)
column_there None old is = absurd (cc)
column_there (Some column) old is = (column, refl, let same : shape_of column ≡ old = cc in ap (λ (s : Kind × Bool). s.0) same)

module _ (start : StartView) where
  abbrev Fits : Edit → Type 0
  Fits = EditFits start

  shape_fits : (word table column : List ℕ) (fields : List (List ℕ)) → IfGiven Fits (shape_edit start.schema word table column fields)
  shape_fits word table column fields =
      let tables = start.schema.tables in
      chained Fits _ (place_of (table_names tables) table) (λ t _.
      chained Fits _ (place_of (column_names (columns_of tables t)) column) (λ c _.
      chained Fits _ (option_map shape_of (slice_get (columns_of tables t) c)) (λ old is_old.
      let there = column_there (slice_get (columns_of tables t) c) old is_old in
      chained Fits _ (new_shape word fields old.0 old.1) (λ new is_new edit is.
      let same : Shape t c new.0 new.1 ≡ edit = cc in
      subst Fits same (there.0, there.1, bare_new word fields old.0 old.1 new is_new ∙ ap bare_kind (sym there.2))))))

  next_fits : (name field : List ℕ) → IfGiven Fits (next_edit start name field)
  next_fits name field =
      chained Fits _ (place_of start.schema.sequences name) (λ q _.
      chained Fits _ (slice_get start.next_values q) (λ old is_old.
      chained Fits _ (number_of field) (λ next _.
      either Fits (nat_le old next) _ _ (λ up edit is. let same : Next q next ≡ edit = cc in subst Fits same (old, is_old, leb-true old next up)) (not_given Fits))))

  rights_fit : (name : List ℕ) (rights : Rights) (o : Option ℕ) → ((p : ℕ) → o ≡ Some p → p < length start.schema.services) → IfGiven Fits (rights_edit o name rights)
  rights_fit name rights None below = given Fits (λ (text : List ℕ). Add text rights) (txt_in name) (λ _ _. tt)
  rights_fit name rights (Some p) below = λ edit is. let same : Grant p rights ≡ edit = cc in subst Fits same (below p refl)

  service_fits : (name field : List ℕ) → IfGiven Fits (service_edit start.schema.services name field)
  service_fits name field =
      let services = start.schema.services in
      either Fits (bytes_eq field (codes "none")) _ _
      (λ _. given Fits Withdraw (place_of (service_names services) name) (service_below services name))
      (chained Fits _ (member_with_word rights_word all_rights field) (λ rights _. rights_fit name rights (place_of (service_names services) name) (service_below services name)))

  pub edit_fits : (fields : List (List ℕ)) → IfGiven Fits (edit_of start fields)
  edit_fits [] = not_given Fits
  edit_fits (word ∷ []) = not_given Fits
  edit_fits (word ∷ field ∷ []) = either Fits (bytes_eq word (codes "level")) _ _ (λ _. given Fits Level (number_below (2 ^ 32) field) (λ _ _. tt)) (not_given Fits)
  edit_fits (word ∷ name ∷ field ∷ []) = either Fits (bytes_eq word (codes "next")) _ _ (λ _. next_fits name field)
      (either Fits (bytes_eq word (codes "service")) _ _ (λ _. service_fits name field) (not_given Fits))
  edit_fits (word ∷ table ∷ column ∷ field ∷ []) = shape_fits word table column (field ∷ [])
  edit_fits (word ∷ table ∷ column ∷ low ∷ high ∷ []) = shape_fits word table column (low ∷ high ∷ [])
  edit_fits (word ∷ table ∷ column ∷ low ∷ high ∷ more ∷ fields) = not_given Fits
