-- Twin calls at twin views are answered alike.
use Rattle.std.proofs.Common.{◌≡◌, ℕ, ◌||◌, ◌&&◌, not, List, [], ◌∷◌, ◌++◌, length, if◌then◌else◌, Option, None, Some, refl, sym, ap, subst, ◌∙◌}
use Rattle.std.specs.Prelude.{is_none, is_some}
use Rattle.std.specs.List.{AllZip}
use Rattle.std.specs.Str.{bytes_eq}
use Rattle.desk_values.specs.declared.value.Value.{Value}
use Rattle.desk_values.specs.declared.fault.Fault.{Fault}
use Rattle.desk_values.specs.declared.fault.Fault.TheVariants.{AlreadyConnected, NoSavepoint, NotConnected, ReadOnly, UnderWay, UnknownService}
use Rattle.desk_values.specs.declared.call.Outcome.TheVariants.{Count, Refused}
use Rattle.desk_values.specs.declared.call.Call.{Call}
use Rattle.desk_values.specs.declared.call.Reply.{Reply}
use Rattle.desk_schema.specs.declared.schema.Rights.{Rights}
use Rattle.desk_schema.specs.Schema.{SchemaView, columns_of}
use Rattle.sql_tree.specs.Plain.{Plan, select, next, insert, update, delete, commit, rollback, set_read_only, savepoint, rollback_to}
use Rattle.server_words.specs.Found.{Environment}
use Rattle.server_words.specs.Causes.{connect_fault, disconnect_fault, is_empty, is_read_only, is_under_way, lacks_savepoint, needs_write_access, ranked, sets_read_only, statement_fault}
use Rattle.server_words.specs.Draws.{draws_of}
use Rattle.server_words.specs.Request.{Request}
use Rattle.server_words.specs.declared.session.Savepoint.{Savepoint}
use Rattle.server_words.specs.Savepoints.{has_savepoint}
use Rattle.server_words.specs.View.{View}
use Rattle.server_words.specs.Answer.{Answer, answer, executed, unless}
use Rattle.id_pairs.specs.Pairs.{HasNoIdTwice, IdPair, IsIdMap, learnt}
use Rattle.id_pairs.specs.Renaming.{AreRenamed}
use Rattle.law_server.proofs.Rows.Bags.{moved_same}
use Rattle.law_server.specs.Renaming.Twins.{AreTwinCalls, AreTwinSavepoints, IsRenamedKey, IsRenamedRow, AreTwinViews, IsRisingView}
use Rattle.law_server.proofs.Renaming.Matched.{AreMatched, matched, views_rise}
use Rattle.law_server.specs.Rows.Images.{IsRenamedImage}
use Rattle.law_server.specs.Renaming.Replies.{IsRenamedOutcome, rows, count, committed, rolled_back, marked, connected, disconnected, refused, IsRenamedReply}
use Rattle.law_server.specs.Renaming.Laws.{AnswersAreRenamed, RepliesAreRenamed, reply_to, view_before}
use Rattle.law_server.proofs.Renaming.Longer.{values_longer, views_longer}
use Rattle.law_server.proofs.Renaming.Sets.{bags_empty, sets_empty}
use Rattle.law_server.proofs.Renaming.Found.{found_bags}
use Rattle.law_server.proofs.Renaming.Selecting.{renamed_rows, same_select}
use Rattle.law_server.proofs.Renaming.Writing.{same_count, same_delete, same_update}
use Rattle.law_server.specs.Renaming.Inputs.{HasInputs}
use Rattle.law_server.proofs.Renaming.Drawing.{AreSameDraws, learnt_before, learnt_draws, learnt_made, plan_draws, same_insert}
use Rattle.law_server.proofs.Renaming.Checking.{AreTwinRequests, asking, connecting, disconnecting, no_sound, no_statement, twin_requests}

-- what is shown of two replies
pub record AreAlike (pairs : List IdPair) (reply other : Reply) : Type 0 where
  pub outcome : IsRenamedOutcome pairs reply.outcome other.outcome
  pub draws : AreSameDraws reply.draws other.draws
  pub made : is_some reply.made ≡ is_some other.made

finish : (pairs : List IdPair) (reply other : Reply) → AreAlike (pairs ++ learnt reply other) reply other → IsRenamedReply (pairs ++ learnt reply other) reply other
finish pairs reply other alike = record { outcome = alike.outcome; draws = learnt_draws pairs reply other alike.draws; made = learnt_made pairs reply other alike.made }

-- the values that a statement's reply tells as drawn
reply_draws : Plan ℕ → List ℕ → List Value
reply_draws (next sequence) ns = draws_of (next sequence) ns
reply_draws (insert table named entries) ns = draws_of (insert table named entries) ns
reply_draws plan ns = []

same_reply_draws : (plan : Plan ℕ) (ns ms : List ℕ) → length ns ≡ length ms → AreSameDraws (reply_draws plan ns) (reply_draws plan ms)
unfolding reply_draws
same_reply_draws (next sequence) ns ms e = plan_draws (next sequence) ns ms e
same_reply_draws (insert table named entries) ns ms e = plan_draws (insert table named entries) ns ms e
same_reply_draws plan ns ms e = tt

unless_draws : (view : View) (draws : List Value) (f : Option Fault) (a : Answer) → a.reply.draws ≡ draws → (unless view draws f a).reply.draws ≡ draws
unless_draws view draws None a e = e
unless_draws view draws (Some f) a e = refl

executed_draws : (schema : SchemaView) (view : View) (ns : List ℕ) (row : ℕ) (env : Environment) (plan : Plan ℕ) → (executed schema view ns row env plan).reply.draws ≡ reply_draws plan ns
unfolding reply_draws
executed_draws schema view ns row env (select table asked condition keys for_update) = unless_draws view [] _ _ refl
executed_draws schema view ns row env (next sequence) = refl
executed_draws schema view ns row env (insert table named entries) = unless_draws view _ _ _ refl
executed_draws schema view ns row env (update table changes condition) = unless_draws view [] _ _ refl
executed_draws schema view ns row env (delete table condition) = unless_draws view [] _ _ refl
executed_draws schema view ns row env commit = refl
executed_draws schema view ns row env rollback = refl
executed_draws schema view ns row env set_read_only = refl
executed_draws schema view ns row env (savepoint name) = refl
executed_draws schema view ns row env (rollback_to name) = refl

module _ (pairs : List IdPair) where
  refused_alike : (f g : Fault) → f ≡ g → IsRenamedOutcome pairs (Refused f) (Refused g)
  refused_alike f g e = let P : Fault → Type 0 = λ h. IsRenamedOutcome pairs (Refused f) (Refused h) in subst P e (refused f)

  count_alike : (m n : ℕ) → m ≡ n → IsRenamedOutcome pairs (Count m) (Count n)
  count_alike m n e = let P : ℕ → Type 0 = λ k. IsRenamedOutcome pairs (Count m) (Count k) in subst P e (count m)

  unless_alike : (view other : View) (draws others : List Value) → AreSameDraws draws others → (f g : Option Fault) → f ≡ g → (a b : Answer) → AreAlike pairs a.reply b.reply → AreAlike pairs (unless view draws f a).reply (unless other others g b).reply
  unless_alike view other draws others same None None e a b alike = alike
  unless_alike view other draws others same (Some f) (Some g) e a b alike = record { outcome = refused_alike f g (cc); draws = same; made = refl }
  unless_alike view other draws others same None (Some g) e a b alike = absurd (cc)
  unless_alike view other draws others same (Some f) None e a b alike = absurd (cc)

  module _ (once : HasNoIdTwice pairs) (schema : SchemaView) (view other : View) (twins : AreMatched pairs view other) (ns ms : List ℕ) (row made : ℕ) (binds sent : List Value) (given : AreRenamed pairs binds sent) where
    abbrev one : Environment
    one = record { level = schema.level; binds = binds }

    abbrev two : Environment
    two = record { level = schema.level; binds = sent }

    executed_alike : (plan : Plan ℕ) → HasInputs plan → AreSameDraws (reply_draws plan ns) (reply_draws plan ms) → AreRenamed pairs (reply_draws plan ns) (reply_draws plan ms)
        → AreAlike pairs (executed schema view ns row one plan).reply (executed schema other ms made two plan).reply
    unfolding reply_draws
    executed_alike (select table asked condition keys for_update) inputs same renamed =
        unless_alike view other [] [] tt _ _ (ap ranked (same_select pairs once schema.level binds sent given view other twins asked condition for_update)) _ _
        (record { outcome = rows _ _ (renamed_rows pairs once schema.level binds sent given _ _ (found_bags pairs once schema.level binds sent given condition twins.rows) asked keys); draws = tt; made = refl })
    executed_alike (next sequence) inputs same renamed = record { outcome = rows _ _ (record { turned = draws_of (next sequence) ms ∷ []; related = (renamed, tt); moved = moved_same (draws_of (next sequence) ms ∷ []) }); draws = same; made = refl }
    executed_alike (insert table named entries) inputs same renamed =
        unless_alike view other _ _ same _ _ (ap ranked (same_insert pairs schema.level binds sent given _ _ same renamed once view other twins (columns_of schema.tables table) row made table named entries inputs)) _ _
        (record { outcome = count 1; draws = same; made = refl })
    executed_alike (update table changes condition) inputs same renamed =
        unless_alike view other [] [] tt _ _ (ap ranked (same_update pairs once schema.level binds sent given view other twins condition changes (columns_of schema.tables table))) _ _
        (record { outcome = count_alike _ _ (same_count pairs once schema.level binds sent given view other twins condition); draws = tt; made = refl })
    executed_alike (delete table condition) inputs same renamed =
        unless_alike view other [] [] tt _ _ (ap ranked (same_delete pairs once schema.level binds sent given view other twins condition)) _ _
        (record { outcome = count_alike _ _ (same_count pairs once schema.level binds sent given view other twins condition); draws = tt; made = refl })
    executed_alike commit inputs same renamed = record { outcome = committed _ _ twins.changes; draws = tt; made = refl }
    executed_alike rollback inputs same renamed = record { outcome = rolled_back; draws = tt; made = refl }
    executed_alike set_read_only inputs same renamed = record { outcome = marked; draws = tt; made = refl }
    executed_alike (savepoint name) inputs same renamed = record { outcome = marked; draws = tt; made = refl }
    executed_alike (rollback_to name) inputs same renamed = record { outcome = rolled_back; draws = tt; made = refl }

-- ---- before anything is drawn

-- savepoints of equal names
module _ (pairs : List IdPair) where
  same_named : (name : List ℕ) (xs ys : List Savepoint) → AllZip (AreTwinSavepoints pairs) xs ys → has_savepoint name xs ≡ has_savepoint name ys
  same_named name [] [] twins = refl
  same_named name [] (y ∷ ys) twins = absurd twins
  same_named name (x ∷ xs) [] twins = absurd twins
  same_named name (x ∷ xs) (y ∷ ys) twins = let rest = same_named name xs ys twins.1 in λ i. bytes_eq (twins.0.name i) name || rest i

  same_marked : (xs ys : List Savepoint) → AllZip (AreTwinSavepoints pairs) xs ys → is_empty xs ≡ is_empty ys
  same_marked [] [] twins = refl
  same_marked [] (y ∷ ys) twins = absurd twins
  same_marked (x ∷ xs) [] twins = absurd twins
  same_marked (x ∷ xs) (y ∷ ys) twins = refl

same_none : {A B : Type 0} (o : Option A) (p : Option B) → is_some o ≡ is_some p → is_none o ≡ is_none p
same_none None None e = refl
same_none (Some a) (Some b) e = refl
same_none None (Some b) e = absurd (cc)
same_none (Some a) None e = absurd (cc)

module _ (pairs : List IdPair) (view other : View) (twins : AreMatched pairs view other) where
  same_connect : (service served : Option Rights) → is_some service ≡ is_some served → connect_fault view service ≡ connect_fault other served
  same_connect service served e = let n = same_none service served e in λ i. if is_some (twins.rights i) then Some AlreadyConnected else if n i then Some UnknownService else None

  same_disconnect : disconnect_fault view ≡ disconnect_fault other
  same_disconnect = λ i. if is_none (twins.rights i) then Some NotConnected else None

  same_under_way : is_under_way view ≡ is_under_way other
  same_under_way =
      let c = bags_empty (IsRenamedImage pairs) view.own.changes other.own.changes twins.changes in
      let r = sets_empty (IsRenamedRow pairs) view.own.rows other.own.rows twins.own_rows in
      let k = sets_empty (IsRenamedKey pairs) view.own.keys other.own.keys twins.own_keys in
      let s = same_marked pairs view.savepoints other.savepoints twins.savepoints in
      λ i. twins.reads_only i || not (c i) || not (r i) || not (k i) || not (s i)

  same_lacks : (plan : Plan ℕ) → lacks_savepoint view plan ≡ lacks_savepoint other plan
  same_lacks (rollback_to name) = ap not (same_named pairs name view.savepoints other.savepoints twins.savepoints)
  same_lacks plan = refl

  same_statement_fault : (plan : Plan ℕ) → statement_fault view plan ≡ statement_fault other plan
  unfolding statement_fault
  same_statement_fault plan = λ i. if is_none (twins.rights i) then Some NotConnected else if needs_write_access plan && (is_read_only (twins.rights i) || twins.reads_only i) then Some ReadOnly else if sets_read_only plan && same_under_way i then Some UnderWay else if same_lacks plan i then Some NoSavepoint else None

-- ---- all calls

module _ (pairs : List IdPair) (schema : SchemaView) (view other : View) (twins : AreMatched pairs view other) (ns ms : List ℕ) (same : length ns ≡ length ms) (row made : ℕ) where
  statement_renamed : (plan : Plan ℕ) (binds sent : List Value) → AreRenamed pairs binds sent → HasInputs plan → (a b : Answer)
      → a ≡ executed schema view ns row (record { level = schema.level; binds = binds }) plan → b ≡ executed schema other ms made (record { level = schema.level; binds = sent }) plan
      → (f g : Option Fault) → f ≡ g
      → HasNoIdTwice (pairs ++ learnt (unless view [] f a).reply (unless other [] g b).reply)
      → IsRenamedReply (pairs ++ learnt (unless view [] f a).reply (unless other [] g b).reply) (unless view [] f a).reply (unless other [] g b).reply
  statement_renamed plan binds sent given inputs a b p q (Some f) (Some g) e once = record { outcome = refused_alike _ f g (cc); draws = tt; made = tt }
  statement_renamed plan binds sent given inputs a b p q None (Some g) e once = absurd (cc)
  statement_renamed plan binds sent given inputs a b p q (Some f) None e once = absurd (cc)
  statement_renamed plan binds sent given inputs a b p q None None e once =
      let more = pairs ++ learnt a.reply b.reply in
      let first : a.reply.draws ≡ reply_draws plan ns = ap (λ (x : Answer). x.reply.draws) p ∙ executed_draws schema view ns row _ plan in
      let second : b.reply.draws ≡ reply_draws plan ms = ap (λ (x : Answer). x.reply.draws) q ∙ executed_draws schema other ms made _ plan in
      let drawn : AreSameDraws (reply_draws plan ns) (reply_draws plan ms) = same_reply_draws plan ns ms same in
      let told : AreSameDraws a.reply.draws b.reply.draws = pack AreSameDraws _ _ _ _ (sym first) (sym second) drawn in
      let renamed : AreRenamed more (reply_draws plan ns) (reply_draws plan ms) = pack (AreRenamed more) _ _ _ _ first second (learnt_draws pairs a.reply b.reply told) in
      let within = learnt_before pairs a.reply b.reply in
      let alike = executed_alike more once schema view other (views_longer pairs more within view other twins) ns ms row made binds sent (values_longer pairs more within binds sent given) plan inputs drawn renamed in
      finish pairs a.reply b.reply (pack (λ (x y : Answer). AreAlike more x.reply y.reply) _ _ _ _ (sym p) (sym q) alike)
    where
      pack : {A : Type 0} (R : A → A → Type 0) (u v x y : A) → u ≡ v → x ≡ y → R u x → R v y
      pack R u v x y e h r = let P = R v in subst P h (subst (λ z. R z x) e r)

  by_request : {request asked : Request} → AreTwinRequests pairs request asked
      → HasNoIdTwice (pairs ++ learnt (answer schema view ns row request).reply (answer schema other ms made asked).reply)
      → IsRenamedReply (pairs ++ learnt (answer schema view ns row request).reply (answer schema other ms made asked).reply) (answer schema view ns row request).reply (answer schema other ms made asked).reply
  by_request (connecting service served e) once = finish pairs _ _ (unless_alike _ view other [] [] tt _ _ (same_connect pairs view other twins service served e) _ _ (record { outcome = connected; draws = tt; made = refl }))
  by_request disconnecting once = finish pairs _ _ (unless_alike _ view other [] [] tt _ _ (same_disconnect pairs view other twins) _ _ (record { outcome = disconnected; draws = tt; made = refl }))
  by_request no_statement once = finish pairs _ _ (record { outcome = refused _; draws = tt; made = refl })
  by_request (no_sound table fault) once = finish pairs _ _ (record { outcome = refused_alike _ _ _ (λ i. if is_none (twins.rights i) then NotConnected else fault); draws = tt; made = refl })
  by_request (asking plan binds sent given inputs) once = statement_renamed plan binds sent given inputs _ _ refl refl _ _ (same_statement_fault pairs view other twins plan) once

pub answers_renamed : AnswersAreRenamed
answers_renamed schema pairs view other call sent ns ms row made map rises more first second once twins calls =
    by_request pairs schema view other (matched pairs view other map.once rises more twins) ns ms (first ∙ sym second) row made (twin_requests pairs map.like schema calls) once

-- ---- states

-- the second server's schema may be told by another name
under_schema : (schema same : SchemaView) → schema ≡ same → (pairs : List IdPair) (view other : View) (call sent : Call) (ns ms : List ℕ) (row made : ℕ) → IsIdMap pairs → IsRisingView view → IsRisingView other
    → length ns ≡ length schema.sequences → length ms ≡ length same.sequences
    → HasNoIdTwice (pairs ++ learnt (reply_to schema view ns row call) (reply_to same other ms made sent)) → AreTwinViews pairs view other → AreTwinCalls schema pairs call sent
    → IsRenamedReply (pairs ++ learnt (reply_to schema view ns row call) (reply_to same other ms made sent)) (reply_to schema view ns row call) (reply_to same other ms made sent)
under_schema schema same e pairs view other call sent ns ms row made map rises more =
    let P : SchemaView → Type 0 = λ sc. length ns ≡ length schema.sequences → length ms ≡ length sc.sequences
    → HasNoIdTwice (pairs ++ learnt (reply_to schema view ns row call) (reply_to sc other ms made sent)) → AreTwinViews pairs view other → AreTwinCalls schema pairs call sent
    → IsRenamedReply (pairs ++ learnt (reply_to schema view ns row call) (reply_to sc other ms made sent)) (reply_to schema view ns row call) (reply_to sc other ms made sent) in
    subst P e (answers_renamed schema pairs view other call sent ns ms row made map rises more)

pub replies_renamed : RepliesAreRenamed
replies_renamed pairs state other session place call sent sound fine e map once twins calls =
    under_schema state.start.schema other.start.schema e pairs (view_before state session call) (view_before other place sent) call sent state.next_values other.next_values state.next_row other.next_row
    map (views_rise state session call sound) (views_rise other place sent fine) sound.next_values fine.next_values once twins calls
