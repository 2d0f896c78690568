-- What is asked of a plain read, as its text and binds tell it.
use Rattle.std.proofs.Common.{◌≡◌, ℕ, Bool, true, false, ◌&&◌, if◌then◌else◌, List, [], ◌∷◌, map, Option, None, Some, Ok, refl, sym, ap, subst, ◌∙◌}
use Rattle.std.specs.Prelude.{is_none, is_some, nat_eq}
use Rattle.std.specs.Option.{option_and_then, option_map}
use Rattle.std.proofs.lemmas.Bool.{and_parts}
use Rattle.std.specs.List.{AllByRecursion}
use Rattle.std.proofs.lemmas.Option.{same_Some}
use Rattle.desk_values.proofs.Options.{map_some}
use Rattle.desk_values.specs.declared.value.Value.{Value}
use Rattle.desk_values.specs.declared.value.Value.TheVariants.{Null, Int, Text, Row, Draw}
use Rattle.desk_values.specs.declared.value.Image.{Image}
use Rattle.desk_values.specs.declared.call.Call.{Call}
use Rattle.desk_values.specs.declared.call.Call.TheVariants.{Connect, Sql, Disconnect}
use Rattle.desk_schema.specs.declared.schema.Rights.{Rights}
use Rattle.server_words.specs.Clean.{changes_nothing, is_clean}
use Rattle.server_words.specs.State.{State, session_at}
use Rattle.replay_history.specs.declared.report.Class.{Class}
use Rattle.replay_history.specs.declared.report.Class.TheVariants.{Same}
use Rattle.replay_history.specs.Capture.{binds_of}
use Rattle.desk_values.specs.declared.fault.Fault.{Fault}
use Rattle.desk_schema.specs.Schema.{SchemaView}
use Rattle.sql_tree.specs.declared.tree.Key.{Key}
use Rattle.sql_tree.specs.Plain.{Asked, Name, Plan, Term, select}
use Rattle.sql_reader.specs.Reading.{statement_of}
use Rattle.sql_eval.specs.Check.{first_fault}
use Rattle.sql_eval.specs.Faults.{unless_told}
use Rattle.sql_eval.specs.SchemaNames.{numbered}
use Rattle.server_words.specs.Request.{checked, known_in, read, request_of, table_named}
use Rattle.id_pairs.specs.declared.Id.TheVariants as id
use Rattle.id_pairs.specs.Ids.{id_value}
use Rattle.id_pairs.specs.Pairs.{IdPair, IsIdMap, image_in}
use Rattle.id_pairs.specs.Renaming.{AreRenamed}
use Rattle.remap_ids.specs.Sent.{sent, sent_value}
use Rattle.remap_ids.specs.Services.{ServicePair}
use Rattle.id_pairs.specs.Carrying.Carried.{carried_row, carried_value, each_some}
use Rattle.law_server.specs.Renaming.Twins.{AreTwinCalls, asks}
use Rattle.law_replays.specs.End.Answers.{FencesCommits, IsReplay}
use Rattle.law_replays.proofs.End.Stages.{one_call}
use Rattle.law_replays.proofs.End.Whole.{before_map, pairs_map}
use Rattle.law_replays.proofs.Reports.Classed.{each_classed}
use Rattle.replay_job.specs.Job.{JobView}
use Rattle.replay_job.specs.Runs.{Stage}
use Rattle.replay_report.specs.Report.{class_of}
use Rattle.desk_values.specs.declared.capture.Captured.{Captured}
use Rattle.desk_values.specs.declared.capture.Event.{Event}
use Rattle.fence_law.specs.Laws.{AreSame, PlainReadsAreSame}
use Rattle.fence_law.specs.Plain.{ArePlainReads, is_plain_select, reads_only}
use Rattle.law_replays.proofs.End.Classes.{value_to}
use Rattle.fence_law.proofs.Bare.{IsFreeRead}
use Rattle.fence_law.proofs.Plain.{IsClean, plain_same}

module _ (pairs : List IdPair) (is_map : IsIdMap pairs) where
  one_sent : (v w : Value) → carried_value pairs v ≡ Some w → sent_value pairs v ≡ w
  one_sent Null w e = same_Some Null w e
  one_sent (Int n) w e = same_Some (Int n) w e
  one_sent (Text t) w e = same_Some (Text t) w e
  one_sent (Row n) w e = let one = map_some id_value (image_in pairs (id.Row n)) w e in let i = one.1 in let j = one.2 in rw i j
  one_sent (Draw q n) w e = let one = map_some id_value (image_in pairs (id.Draw q n)) w e in let i = one.1 in let j = one.2 in rw i j

  -- binds whose ids have images are sent renamed
  pub images_sent : (binds : List Value) → AllByRecursion (λ v. (w : Value) × (carried_value pairs v ≡ Some w)) binds → AreRenamed pairs binds (map (sent_value pairs) binds)
  images_sent [] all = tt
  images_sent (v ∷ binds) all = (value_to pairs is_map v (sent_value pairs v) (all.0.1 ∙ ap (λ (w : Value). Some w) (sym (one_sent v all.0.0 all.0.1))), images_sent binds all.1)

-- a text that spells a select that holds nothing asks for a free read, sound or not, of a server of each version
pub free_text : (schema : SchemaView) (text : List ℕ) (binds : List Value) (table : Name) (asked : Asked Name) (condition : Option (Term Name)) (keys : List (Key Name))
    → statement_of text ≡ Some (select table asked condition keys false) → IsFreeRead (request_of schema (Sql text binds))
free_text schema text binds table asked condition keys e =
    let parsed : Plan Name = select table asked condition keys false in
    let free : IsFreeRead (read schema binds (Some parsed)) =
    elim (first_fault schema binds parsed) as (λ (f : Option Fault). IsFreeRead (checked (table_named schema parsed) binds (unless_told f (Ok (numbered schema parsed))))) [
      | None ↦ tt
      | Some fault ↦ tt
    ] in
    subst (λ (o : Option (Plan Name)). IsFreeRead (read schema binds (option_and_then (known_in schema.version) o))) (sym e)
    (elim (nat_eq schema.version 1) as (λ (b : Bool). IsFreeRead (read schema binds (if b && false then None else Some parsed))) [ true ↦ free | false ↦ free ])

-- ---- by the tests of a plain read

some_of : {A B : Type 0} (f : A → B) (o : Option A) → is_some (option_map f o) ≡ true → is_some o ≡ true
some_of f None is = is
some_of f (Some x) is = refl

each_has : {A B : Type 0} (f : A → Option B) (xs : List A) → is_some (each_some f xs) ≡ true → AllByRecursion (λ x. (y : B) × (f x ≡ Some y)) xs
each_has f [] is = tt
each_has {A} {B} f (x ∷ xs) is = elim (f x) as (λ o. f x ≡ o → is_some (option_and_then (λ y. option_map (λ ys. y ∷ ys) (each_some f xs)) o) ≡ true → AllByRecursion (λ z. (y : B) × (f z ≡ Some y)) (x ∷ xs)) [
  | None ↦ λ e none. absurd cc
  | Some y ↦ λ e some. ((y, e), each_has f xs (some_of (λ ys. y ∷ ys) (each_some f xs) some))
] refl is

free_of : (schema : SchemaView) (text : List ℕ) (binds : List Value) (o : Option (Plan Name)) → statement_of text ≡ o → reads_only o ≡ true → IsFreeRead (request_of schema (Sql text binds))
free_of schema text binds None e is = absurd cc
free_of schema text binds (Some (select table asked condition keys false)) e is = free_text schema text binds table asked condition keys e
free_of schema text binds (Some (select table asked condition keys true)) e is = absurd cc
free_of schema text binds (Some other) e is = absurd cc

module _ (schema : SchemaView) (pairs : List IdPair) (is_map : IsIdMap pairs) (remap : List ServicePair) where
  plain_twins : (call : Call) → is_plain_select call ≡ true → is_some (carried_row pairs (binds_of call)) ≡ true → AreTwinCalls schema pairs call (sent pairs remap call) × IsFreeRead (request_of schema call)
  plain_twins (Connect service) reads images = absurd cc
  plain_twins (Sql text binds) reads images = (asks text binds (map (sent_value pairs) binds) (images_sent pairs is_map binds (each_has (carried_value pairs) binds images)), free_of schema text binds (statement_of text) refl reads)
  plain_twins Disconnect reads images = absurd cc

has_rights : (o : Option Rights) → is_some o ≡ true → is_none o ≡ false
has_rights None is = absurd cc
has_rights (Some rights) is = refl

no_snapshot : (o : Option ℕ) → is_none o ≡ true → o ≡ None
no_snapshot None is = refl
no_snapshot (Some n) is = absurd cc

no_changes : (images : List Image) → changes_nothing images ≡ true → images ≡ []
no_changes [] is = refl
no_changes (image ∷ images) is = absurd cc

clean_so : (state : State) (session : ℕ) → is_clean state session ≡ true → IsClean state session
clean_so state session is =
    let mine = session_at state session in
    let parts = and_parts _ _ is in
    let more = and_parts _ _ parts.1 in
    record { connected = has_rights mine.rights parts.0; latest = no_snapshot mine.snapshot more.0; fresh = no_changes mine.own.changes more.1 }

pub plain_are_same : PlainReadsAreSame
plain_are_same job history last replay may schemas k place call reply before after captured plain =
    let is_map = before_map job history last replay (pairs_map job history last replay) place k call reply before after plain.there in
    let twins = plain_twins captured.start.schema before.pairs is_map job.remap call.call plain.reads plain.images in
    plain_same job history last replay schemas may place k call reply before after plain.there plain.quiet captured plain.came
    (clean_so captured call.session plain.clean) (clean_so before.state call.session plain.still_clean) twins.0 twins.1

-- so each stamp among the plain reads is that of a call that is the same
pub reads_same : (job : JobView) (history : List Event) (last : Stage) → IsReplay job history last → FencesCommits job.mode → job.target.schema ≡ job.start.schema
    → (stamps : List ℕ) → ArePlainReads job history stamps → AreSame job history stamps
reads_same job history last replay may schemas stamps are k call there at =
    let p = (are.each k).0 there in
    let class = each_classed job history last replay p.0 k p.1 p.2 p.3 p.4 p.6.there in
    let same = plain_are_same job history last replay may schemas k p.0 p.1 p.2 p.3 p.4 p.5 p.6 in
    subst (λ (c : Captured). class_of job history c ≡ Some Same) (one_call job.calls k call p.1 at p.6.there.is_call) (class ∙ ap (λ (c : Class). Some c) same)
