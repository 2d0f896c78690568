-- A plain read at a place of a replay where just the commits that it saw are answered: its rows are the captured ones renamed.
use Rattle.std.proofs.Common.{◌≡◌, ℕ, Bool, true, false, eqb, List, [], ◌∷◌, ◌++◌, if◌then◌else◌, map, take, length, Option, None, Some, refl, sym, ap, subst, ◌∙◌, ⊎_elim}
use Rattle.std.specs.Prelude.{is_none, nat_eq}
use Rattle.std.specs.List.{AllByRecursion, AllZip, Contains, filter}
use Rattle.desk_schema.proofs.Members.{Contains-cases, Contains-here, Contains-none, Contains-there}
use Rattle.desk_values.specs.declared.value.Value.{Value}
use Rattle.desk_values.specs.declared.value.Image.{Image}
use Rattle.desk_values.specs.declared.call.Call.{Call}
use Rattle.desk_values.specs.declared.call.Reply.{Reply}
use Rattle.desk_values.specs.declared.capture.Captured.{Captured}
use Rattle.desk_schema.specs.Schema.{SchemaView}
use Rattle.desk_schema.specs.declared.schema.Rights.{Rights}
use Rattle.sql_tree.specs.Plain.{Plan, select}
use Rattle.server_words.specs.Rows.{IsRising, lay, lay_all, of_table}
use Rattle.server_words.specs.View.{View, view_of}
use Rattle.server_words.specs.Request.{Request, request_of, statement, table_in, unsound}
use Rattle.server_words.specs.Answer.{answer}
use Rattle.server_words.proofs.Looks.{rising_of_table}
use Rattle.id_pairs.specs.Pairs.{HasNoIdTwice, IdPair, IsIdMap}
use Rattle.law_server.specs.Rows.Images.{IsRenamedImage}
use Rattle.law_server.specs.Renaming.Twins.{AreSets, AreTwinViews}
use Rattle.law_server.proofs.Renaming.Checking.{AreTwinRequests, asking, connecting, disconnecting, no_sound, no_statement}
use Rattle.law_replays.proofs.End.Laid.{sets_laid_all}
use Rattle.fence_law.proofs.Read.{bare, read_alike}

-- ---- rows of one table

module _ (p : Image → Bool) where
  kept : (xs : List Image) (x : Image) → Contains (filter p xs) x → Contains xs x × (p x ≡ true)
  kept [] x c = absurd (Contains-none x c)
  kept (y ∷ xs) x c = elim (p y) as (λ b. p y ≡ b → Contains (if b then y ∷ filter p xs else filter p xs) x → Contains (y ∷ xs) x × (p x ≡ true)) [
    | true ↦ λ is c. ⊎_elim
        (λ same. (subst (λ (w : Image). Contains (y ∷ xs) w) same (Contains-here y xs), ap p (sym same) ∙ is))
        (λ later. let t = kept xs x later in (Contains-there y xs x t.0, t.1))
        (Contains-cases y (filter p xs) x c)
    | false ↦ λ isnt c. let t = kept xs x c in (Contains-there y xs x t.0, t.1)
  ] refl c

  keeps : (xs : List Image) (x : Image) → Contains xs x → p x ≡ true → Contains (filter p xs) x
  keeps [] x c is = absurd (Contains-none x c)
  keeps (y ∷ xs) x c is = elim (p y) as (λ b. p y ≡ b → Contains (if b then y ∷ filter p xs else filter p xs) x) [
    | true ↦ λ so. ⊎_elim
        (λ same. subst (λ (w : Image). Contains (y ∷ filter p xs) w) same (Contains-here y (filter p xs)))
        (λ later. Contains-there y (filter p xs) x (keeps xs x later is))
        (Contains-cases y xs x c)
    | false ↦ λ isnt. ⊎_elim
        (λ same. let f : false ≡ true = sym isnt ∙ ap p same ∙ is in absurd cc)
        (λ later. keeps xs x later is)
        (Contains-cases y xs x c)
  ] refl

module _ (pairs : List IdPair) (table : ℕ) where
  sets_of : (xs ys : List Image) → AreSets (IsRenamedImage pairs) xs ys → AreSets (IsRenamedImage pairs) (of_table table xs) (of_table table ys)
  sets_of xs ys sets =
      let p : Image → Bool = λ image. nat_eq image.table table in
      record {
        forth = λ x c. let k = kept p xs x c in let s = sets.forth x k.0 in (s.0, keeps p ys s.0 s.1 (ap (λ n. nat_eq n table) (sym s.2.table) ∙ k.1), s.2);
        back = λ y c. let k = kept p ys y c in let s = sets.back y k.0 in (s.0, keeps p xs s.0 s.1 (ap (λ n. nat_eq n table) s.2.table ∙ k.1), s.2);
      }

  zipped_of : (xs ys : List (List Image)) → AllZip (AreSets (IsRenamedImage pairs)) xs ys → AllZip (AreSets (IsRenamedImage pairs)) (map (of_table table) xs) (map (of_table table) ys)
  zipped_of [] [] z = tt
  zipped_of (x ∷ xs) (y ∷ ys) z = (sets_of x y z.0, zipped_of xs ys z.1)
  zipped_of [] (y ∷ ys) z = absurd z
  zipped_of (x ∷ xs) [] z = absurd z

  rise_of : (xs : List (List Image)) → AllByRecursion IsRising xs → AllByRecursion IsRising (map (of_table table) xs)
  rise_of [] up = tt
  rise_of (x ∷ xs) up = (rising_of_table table x up.0, rise_of xs up.1)

  pub rows_carried : HasNoIdTwice pairs → (start target : List Image) (commits others : List (List Image)) → IsRising start → IsRising target → AllByRecursion IsRising commits → AllByRecursion IsRising others
      → AreSets (IsRenamedImage pairs) start target → AllZip (AreSets (IsRenamedImage pairs)) commits others
      → AreSets (IsRenamedImage pairs) (lay_all (of_table table start) (map (of_table table) commits)) (lay_all (of_table table target) (map (of_table table) others))
  rows_carried once start target commits others up also rise more sets zipped =
      sets_laid_all pairs once (map (of_table table) commits) (map (of_table table) others) (rise_of commits rise) (rise_of others more) (zipped_of commits others zipped)
      (of_table table start) (of_table table target) (rising_of_table table start up) (rising_of_table table target also) (sets_of start target sets)

-- ---- bare views

pub no_members : {A B : Type 0} (R : A → B → Type 0) → AreSets R [] []
no_members R = record { forth = λ x c. absurd (Contains-none x c); back = λ y c. absurd (Contains-none y c) }

pub bare_twins : (pairs : List IdPair) (rows others : List Image) → AreSets (IsRenamedImage pairs) rows others → AreTwinViews pairs (bare rows) (bare others)
bare_twins pairs rows others sets = record { rights = refl; reads_only = refl; changes = no_members _; own_rows = no_members _; own_keys = no_members _; savepoints = tt; rows = sets; locked = no_members _; locked_keys = no_members _ }

-- ---- requests that read and hold nothing

abbrev pub IsFreePlan : Plan ℕ → Type 0
IsFreePlan (select table asked condition keys false) = Unit {0}
IsFreePlan other = ⊥

abbrev pub IsFreeRead : Request → Type 0
IsFreeRead (statement plan binds) = IsFreePlan plan
IsFreeRead (unsound table fault) = Unit {0}
IsFreeRead other = ⊥

pub free_too : (pairs : List IdPair) {request asked : Request} → AreTwinRequests pairs request asked → IsFreeRead request → IsFreeRead asked × (table_in request ≡ table_in asked)
free_too pairs (connecting service served e) free = absurd free
free_too pairs disconnecting free = absurd free
free_too pairs no_statement free = absurd free
free_too pairs (no_sound table fault) free = (tt, refl)
free_too pairs (asking plan binds sent given inputs) free = (free, refl)

module _ (view : View) (connected : is_none view.rights ≡ false) (fresh : view.own.changes ≡ []) (schema : SchemaView) (ns ms : List ℕ) (row made : ℕ) where
  pub free_alike : (request : Request) → IsFreeRead request → (answer schema view ns row request).reply ≡ (answer schema (bare view.rows) ms made request).reply
  free_alike (statement (select table asked condition keys false) binds) free = read_alike view connected fresh schema ns ms row made table asked condition keys binds
  free_alike (unsound table fault) free = rw connected refl
  free_alike other free = absurd free
