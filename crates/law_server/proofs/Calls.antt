-- Of the faults that apply to a call the one of the lowest rank is told.
use Rattle.std.proofs.Common.{◌≡◌, ◌≤◌, ◌<◌, inl, inr, ℕ, Bool, true, false, if◌then◌else◌, List, [], Option, None, Some, refl, sym, ap, ◌∙◌, subst, arith}
use Rattle.std.specs.Prelude.{IsOkAnd, IsSomeAnd, Result, Ok, Err, is_none}
use Rattle.std.specs.Option.{option_or}
use Rattle.desk_values.specs.declared.value.Value.{Value}
use Rattle.desk_values.specs.declared.call.Call.{Call}
use Rattle.desk_values.specs.declared.call.Call.TheVariants.{Connect, Sql, Disconnect}
use Rattle.desk_values.specs.declared.fault.Fault.{Fault}
use Rattle.desk_values.specs.declared.fault.Fault.TheVariants.{Syntax, UnknownTable, UnknownColumn, UnknownSequence, UnknownService, Kinds, BindMissing, Locked, DuplicateKey, NullValue, OutOfRange, TextTooLong, ZeroDivisor, Overflow, ReadOnly, NotConnected, AlreadyConnected, UnderWay, TooManyRows, NoSavepoint}
use Rattle.desk_values.specs.Fault.{fault_rank}
use Rattle.desk_schema.specs.declared.schema.Rights.{Rights}
use Rattle.desk_schema.specs.Schema.{SchemaView, columns_of, rights_of}
use Rattle.sql_tree.specs.Plain.{Name, Plan, select, next, insert, update, delete, commit, rollback, set_read_only, savepoint, rollback_to}
use Rattle.sql_eval.specs.Check.{applies, check_of, first_fault}
use Rattle.sql_eval.specs.Faults.{unless_told}
use Rattle.sql_eval.specs.SchemaNames.{numbered}
use Rattle.sql_eval.proofs.CheckLaws.{lowest_rank_is_told, nothing_is_overlooked}
use Rattle.server_words.specs.declared.causes.Causes.{Causes}
use Rattle.server_words.specs.declared.effect.Effect.{Effect}
use Rattle.server_words.specs.Causes.{connect_fault, disconnect_fault, needs_write_access, ranked, statement_fault}
use Rattle.server_words.specs.Found.{Environment}
use Rattle.server_words.specs.Draws.{draws_of}
use Rattle.server_words.specs.View.{View}
use Rattle.server_words.specs.Step.{view_for}
use Rattle.server_words.specs.Request.{Request, checked, connect, disconnect, read, request_of, statement, statement_in, table_named}
use Rattle.server_words.specs.Answer.{Answer, answer, delete_causes, delete_effect, done, executed, insert_causes, insert_effect, new_row, ruled, select_causes, select_effect, unless, update_causes, update_effect}
use Rattle.law_server.specs.Ranks.{BeginsTooLate, Brings, Forbids, GoesBackToNone, Refuses, TellsLowest, WritesUnallowed}
use Rattle.law_server.specs.Applies.{AnswersByRank, Applies, IsChecked, IsRead, RepliesByRank, fault_told}
use Rattle.law_server.proofs.Ranks.{IsAtMost, causes_first, connections_first, first_applies, here, none_is, statements_first}
use Rattle.law_server.proofs.Stages.{InEither, at_most, in_turn, tells_alike}
use Rattle.law_server.proofs.Touched.{Meets, brought, causes_of, met}

-- ---- small words

nothing_more : (said : Option Fault) → option_or said None ≡ said
nothing_more None = refl
nothing_more (Some fault) = refl

never : {X : Type 0} (test : Bool) → test ≡ true → test ≡ false → X
never test passes fails = absurd (let both : true ≡ false = sym passes ∙ fails in cc)

pub ok_is : (said : Option Fault) (found plan : Plan ℕ) → unless_told said (Ok found) ≡ Ok plan → found ≡ plan
ok_is None found plan e = cc
ok_is (Some fault) found plan e = absurd (cc)

-- ---- ranks of the stages

pub forbids_low : (view : View) (plan : Plan ℕ) (fault : Fault) → Forbids view plan fault → fault_rank fault ≤ 11
forbids_low view plan NotConnected is = omega arith
forbids_low view plan ReadOnly is = omega arith
forbids_low view plan UnderWay is = omega arith
forbids_low view plan NoSavepoint is = omega arith
forbids_low view plan other is = absurd is

pub brings_high : (causes : Causes) (fault : Fault) → Brings causes fault → 11 < fault_rank fault
brings_high causes ZeroDivisor is = omega arith
brings_high causes Overflow is = omega arith
brings_high causes TooManyRows is = omega arith
brings_high causes Locked is = omega arith
brings_high causes NullValue is = omega arith
brings_high causes TextTooLong is = omega arith
brings_high causes OutOfRange is = omega arith
brings_high causes DuplicateKey is = omega arith
brings_high causes other is = absurd is

pub found_low : (schema : SchemaView) (binds : List Value) (parsed : Plan Name) (fault : Fault) → applies schema binds parsed fault ≡ true → fault_rank fault ≤ 8
found_low schema binds parsed UnknownTable is = omega arith
found_low schema binds parsed UnknownColumn is = omega arith
found_low schema binds parsed UnknownSequence is = omega arith
found_low schema binds parsed BindMissing is = omega arith
found_low schema binds parsed Kinds is = omega arith
found_low schema binds parsed other is = never false is refl

module _ (schema : SchemaView) (view : View) (next_values : List ℕ) (row : ℕ) where
  -- ---- what an answer tells

  said_unless : (draws : List Value) (said : Option Fault) (a : Answer) → fault_told (unless view draws said a).reply.outcome ≡ option_or said (fault_told a.reply.outcome)
  said_unless draws None a = refl
  said_unless draws (Some fault) a = refl

  said_ruled : (table : ℕ) (draws : List Value) (causes : Causes) (effect : Effect) → fault_told effect.outcome ≡ None → fault_told (ruled table view draws causes effect).reply.outcome ≡ ranked causes
  said_ruled table draws causes effect is = said_unless draws (ranked causes) (done table view draws effect) ∙ ap (option_or (ranked causes)) is ∙ nothing_more (ranked causes)

  abbrev causes_in : Environment → Plan ℕ → Causes
  causes_in env plan = causes_of schema view next_values row env plan

  said_executed : (env : Environment) (plan : Plan ℕ) → fault_told (executed schema view next_values row env plan).reply.outcome ≡ ranked (causes_in env plan)
  unfolding ranked
  said_executed env (select table asked condition keys for_update) = said_ruled table [] (select_causes env view asked condition for_update) (select_effect env view asked condition keys for_update) refl
  said_executed env (insert table named entries) =
      let cs = columns_of schema.tables table in
      let draws = draws_of (insert table named entries) next_values in
      let new = new_row env cs draws row table named entries in
      said_ruled table draws (insert_causes env cs view draws new entries) (insert_effect new) refl
  said_executed env (update table changes condition) = said_ruled table [] (update_causes env (columns_of schema.tables table) view changes condition) (update_effect env view changes condition) refl
  said_executed env (delete table condition) = said_ruled table [] (delete_causes env view condition) (delete_effect env view condition) refl
  said_executed env (next sequence) = refl
  said_executed env commit = refl
  said_executed env rollback = refl
  said_executed env set_read_only = refl
  said_executed env (savepoint name) = refl
  said_executed env (rollback_to name) = refl

  abbrev said_to : Request → Option Fault
  said_to request = fault_told (answer schema view next_values row request).reply.outcome

  abbrev Tells : Call → Option Fault → Type 0
  Tells call said = TellsLowest (Applies schema view next_values row call) said

  -- ---- a connection

  refused_applies : (service : List ℕ) (fault : Fault) → Refuses view (rights_of schema.services service) fault → Applies schema view next_values row (Connect service) fault
  refused_applies service AlreadyConnected is = is
  refused_applies service UnknownService is = is
  refused_applies service other is = absurd is

  applies_refused : (service : List ℕ) (fault : Fault) → Applies schema view next_values row (Connect service) fault → Refuses view (rights_of schema.services service) fault
  applies_refused service AlreadyConnected is = is
  applies_refused service UnknownService is = is
  applies_refused service other is = absurd is

  connects : (service : List ℕ) → Tells (Connect service) (said_to (connect (rights_of schema.services service)))
  connects service =
      let rights = rights_of schema.services service in
      let said : said_to (connect rights) ≡ connect_fault view rights = said_unless [] (connect_fault view rights) _ ∙ nothing_more (connect_fault view rights) in
      subst (Tells (Connect service)) (sym said) (tells_alike (Refuses view rights) (Applies schema view next_values row (Connect service)) (connect_fault view rights) (refused_applies service) (applies_refused service) (connections_first view rights))

  -- ---- its end

  ends_lowest : (other : Fault) → Applies schema view next_values row Disconnect other → IsAtMost (fault_rank other) (disconnect_fault view)
  ends_lowest NotConnected is = here (is_none view.rights) NotConnected None 1 (omega arith) (ap (λ (o : Option Rights). is_none o) is)
  ends_lowest other is = absurd is

  ends : Tells Disconnect (said_to disconnect)
  ends =
      let said : said_to disconnect ≡ disconnect_fault view = said_unless [] (disconnect_fault view) _ ∙ nothing_more (disconnect_fault view) in
      subst (Tells Disconnect) (sym said) (record {
        applies = first_applies (is_none view.rights) NotConnected None (Applies schema view next_values row Disconnect) (none_is view.rights) tt;
        lowest = ends_lowest;
      })

  -- ---- a text

  module _ (text : List ℕ) (binds : List Value) where
    abbrev AppliesHere : Fault → Type 0
    AppliesHere fault = Applies schema view next_values row (Sql text binds) fault

    -- a checked statement meets this fault of rows
    abbrev MeetsThere : Fault → Environment → Plan ℕ → Type 0
    MeetsThere fault env plan = Meets schema view next_values row env plan fault

    abbrev here_with : Environment
    here_with = record { level = schema.level; binds = binds }

    -- of a text that is no statement
    unread : statement_in schema.version text ≡ None → Tells (Sql text binds) (Some Syntax)
    unread is = record { applies = is; lowest = λ other applied. omega arith }

    module _ (parsed : Plan Name) (reads : statement_in schema.version text ≡ Some parsed) where
      of_read : (Says : Plan Name → Type 0) → IsRead schema.version text Says → Says parsed
      of_read Says is = subst (λ (o : Option (Plan Name)). IsSomeAnd o Says) reads is

      to_read : (Says : Plan Name → Type 0) → Says parsed → IsRead schema.version text Says
      to_read Says is = subst (λ (o : Option (Plan Name)). IsSomeAnd o Says) (sym reads) is

      no_syntax : {X : Type 0} → statement_in schema.version text ≡ None → X
      no_syntax is = absurd (let none : None ≡ Some parsed = sym is ∙ reads in cc)

      abbrev Finds : Fault → Plan Name → Type 0
      Finds fault parsed = applies schema binds parsed fault ≡ true

      -- ---- a statement that a check refuses

      found_applies : (fault : Fault) → applies schema binds parsed fault ≡ true → AppliesHere fault
      found_applies UnknownTable is = to_read (Finds UnknownTable) is
      found_applies UnknownColumn is = to_read (Finds UnknownColumn) is
      found_applies UnknownSequence is = to_read (Finds UnknownSequence) is
      found_applies BindMissing is = to_read (Finds BindMissing) is
      found_applies Kinds is = to_read (Finds Kinds) is
      found_applies other is = never false is refl

      read_high : (fault : Fault) → AppliesHere fault → 1 ≤ fault_rank fault
      read_high Syntax is = no_syntax is
      read_high other is = omega arith

      module _ (fault : Fault) (refuses : check_of schema binds parsed ≡ Err fault) where
        lowest_found : (other : Fault) → applies schema binds parsed other ≡ true → fault_rank fault ≤ fault_rank other
        lowest_found other is = at_most (fault_rank fault) (fault_rank other) (λ below. never (applies schema binds parsed other) is ((lowest_rank_is_told schema binds parsed fault refuses).1 other below))

        is_found : applies schema binds parsed fault ≡ true
        is_found = (lowest_rank_is_told schema binds parsed fault refuses).0

        unchecked : {X : Type 0} (Says : Environment → Plan ℕ → Type 0) → IsChecked schema view next_values row text binds Says → X
        unchecked Says is =
            let checks = of_read (λ (parsed : Plan Name). IsOkAnd (check_of schema binds parsed) (Says here_with)) is in
            absurd (subst (λ (r : Result (Plan ℕ) Fault). IsOkAnd r (Says here_with)) refuses checks)

        lowest_unsound : is_none view.rights ≡ false → (other : Fault) → AppliesHere other → fault_rank fault ≤ fault_rank other
        lowest_unsound connected Syntax is = no_syntax is
        lowest_unsound connected NotConnected is = never (is_none view.rights) (ap (λ (o : Option Rights). is_none o) is) connected
        lowest_unsound connected AlreadyConnected is = absurd is
        lowest_unsound connected UnknownService is = absurd is
        lowest_unsound connected UnknownTable is = lowest_found UnknownTable (of_read (Finds UnknownTable) is)
        lowest_unsound connected UnknownColumn is = lowest_found UnknownColumn (of_read (Finds UnknownColumn) is)
        lowest_unsound connected UnknownSequence is = lowest_found UnknownSequence (of_read (Finds UnknownSequence) is)
        lowest_unsound connected BindMissing is = lowest_found BindMissing (of_read (Finds BindMissing) is)
        lowest_unsound connected Kinds is = lowest_found Kinds (of_read (Finds Kinds) is)
        lowest_unsound connected ReadOnly is = omega (arith, found_low schema binds parsed fault is_found)
        lowest_unsound connected UnderWay is = omega (arith, found_low schema binds parsed fault is_found)
        lowest_unsound connected NoSavepoint is = omega (arith, found_low schema binds parsed fault is_found)
        lowest_unsound connected ZeroDivisor is = unchecked (MeetsThere ZeroDivisor) is
        lowest_unsound connected Overflow is = unchecked (MeetsThere Overflow) is
        lowest_unsound connected TooManyRows is = unchecked (MeetsThere TooManyRows) is
        lowest_unsound connected Locked is = unchecked (MeetsThere Locked) is
        lowest_unsound connected NullValue is = unchecked (MeetsThere NullValue) is
        lowest_unsound connected TextTooLong is = unchecked (MeetsThere TextTooLong) is
        lowest_unsound connected OutOfRange is = unchecked (MeetsThere OutOfRange) is
        lowest_unsound connected DuplicateKey is = unchecked (MeetsThere DuplicateKey) is

        by_rights : (unconnected : Bool) → is_none view.rights ≡ unconnected → Tells (Sql text binds) (Some (if unconnected then NotConnected else fault))
        by_rights true is = record { applies = none_is view.rights is; lowest = read_high }
        by_rights false is = record { applies = found_applies fault is_found; lowest = lowest_unsound is }

      -- ---- a statement that none does

      module _ (plan : Plan ℕ) (passes : check_of schema binds parsed ≡ Ok plan) where
        is_numbered : numbered schema parsed ≡ plan
        is_numbered = ok_is (first_fault schema binds parsed) (numbered schema parsed) plan passes

        abbrev touched : Causes
        touched = causes_in here_with plan

        of_checked : (Says : Environment → Plan ℕ → Type 0) → IsChecked schema view next_values row text binds Says → Says here_with plan
        of_checked Says is =
            let checks = of_read (λ (parsed : Plan Name). IsOkAnd (check_of schema binds parsed) (Says here_with)) is in
            subst (λ (r : Result (Plan ℕ) Fault). IsOkAnd r (Says here_with)) passes checks

        to_checked : (Says : Environment → Plan ℕ → Type 0) → Says here_with plan → IsChecked schema view next_values row text binds Says
        to_checked Says is =
            to_read (λ (parsed : Plan Name). IsOkAnd (check_of schema binds parsed) (Says here_with))
            (subst (λ (r : Result (Plan ℕ) Fault). IsOkAnd r (Says here_with)) (sym passes) is)

        overlooked : {X : Type 0} (fault : Fault) → IsRead schema.version text (Finds fault) → X
        overlooked fault is = never (applies schema binds parsed fault) (of_read (Finds fault) is) (nothing_is_overlooked schema binds parsed plan passes fault)

        abbrev InStages : Fault → Type 0
        InStages fault = InEither (Forbids view plan) (Brings touched) fault

        abbrev WritesOf : Plan Name → Type 0
        WritesOf parsed = WritesUnallowed view (numbered schema parsed)

        abbrev BeginsToRead : Plan Name → Type 0
        BeginsToRead parsed = BeginsTooLate view (numbered schema parsed)

        abbrev GoesBack : Plan Name → Type 0
        GoesBack parsed = GoesBackToNone view (numbered schema parsed)

        to_stages : (fault : Fault) → AppliesHere fault → InStages fault
        to_stages Syntax is = no_syntax is
        to_stages NotConnected is = inl is
        to_stages AlreadyConnected is = absurd is
        to_stages UnknownService is = absurd is
        to_stages UnknownTable is = overlooked UnknownTable is
        to_stages UnknownColumn is = overlooked UnknownColumn is
        to_stages UnknownSequence is = overlooked UnknownSequence is
        to_stages BindMissing is = overlooked BindMissing is
        to_stages Kinds is = overlooked Kinds is
        to_stages ReadOnly is = let both = of_read WritesOf is in inl (ap needs_write_access (sym is_numbered) ∙ both.0, both.1)
        to_stages UnderWay is = let both = of_read BeginsToRead is in inl (sym is_numbered ∙ both.0, both.1)
        to_stages NoSavepoint is = inl (subst (GoesBackToNone view) is_numbered (of_read GoesBack is))
        to_stages ZeroDivisor is = inr (brought schema view next_values row here_with plan ZeroDivisor (of_checked (MeetsThere ZeroDivisor) is))
        to_stages Overflow is = inr (brought schema view next_values row here_with plan Overflow (of_checked (MeetsThere Overflow) is))
        to_stages TooManyRows is = inr (brought schema view next_values row here_with plan TooManyRows (of_checked (MeetsThere TooManyRows) is))
        to_stages Locked is = inr (brought schema view next_values row here_with plan Locked (of_checked (MeetsThere Locked) is))
        to_stages NullValue is = inr (brought schema view next_values row here_with plan NullValue (of_checked (MeetsThere NullValue) is))
        to_stages TextTooLong is = inr (brought schema view next_values row here_with plan TextTooLong (of_checked (MeetsThere TextTooLong) is))
        to_stages OutOfRange is = inr (brought schema view next_values row here_with plan OutOfRange (of_checked (MeetsThere OutOfRange) is))
        to_stages DuplicateKey is = inr (brought schema view next_values row here_with plan DuplicateKey (of_checked (MeetsThere DuplicateKey) is))

        of_forbidden : (fault : Fault) → Forbids view plan fault → AppliesHere fault
        of_forbidden NotConnected is = is
        of_forbidden ReadOnly is = to_read WritesOf (ap needs_write_access is_numbered ∙ is.0, is.1)
        of_forbidden UnderWay is = to_read BeginsToRead (is_numbered ∙ is.0, is.1)
        of_forbidden NoSavepoint is = to_read GoesBack (subst (GoesBackToNone view) (sym is_numbered) is)
        of_forbidden other is = absurd is

        of_brought : (fault : Fault) → Brings touched fault → AppliesHere fault
        of_brought ZeroDivisor is = to_checked (MeetsThere ZeroDivisor) (met schema view next_values row here_with plan ZeroDivisor is)
        of_brought Overflow is = to_checked (MeetsThere Overflow) (met schema view next_values row here_with plan Overflow is)
        of_brought TooManyRows is = to_checked (MeetsThere TooManyRows) (met schema view next_values row here_with plan TooManyRows is)
        of_brought Locked is = to_checked (MeetsThere Locked) (met schema view next_values row here_with plan Locked is)
        of_brought NullValue is = to_checked (MeetsThere NullValue) (met schema view next_values row here_with plan NullValue is)
        of_brought TextTooLong is = to_checked (MeetsThere TextTooLong) (met schema view next_values row here_with plan TextTooLong is)
        of_brought OutOfRange is = to_checked (MeetsThere OutOfRange) (met schema view next_values row here_with plan OutOfRange is)
        of_brought DuplicateKey is = to_checked (MeetsThere DuplicateKey) (met schema view next_values row here_with plan DuplicateKey is)
        of_brought other is = absurd is

        of_stages : (fault : Fault) → InStages fault → AppliesHere fault
        of_stages fault (inl is) = of_forbidden fault is
        of_stages fault (inr is) = of_brought fault is

        said_sound : said_to (statement plan binds) ≡ option_or (statement_fault view plan) (ranked touched)
        said_sound =
            said_unless [] (statement_fault view plan) (executed schema view next_values row here_with plan)
            ∙ ap (option_or (statement_fault view plan)) (said_executed here_with plan)

        sound : Tells (Sql text binds) (said_to (statement plan binds))
        sound =
            let stages = in_turn 11 (Forbids view plan) (Brings touched) (statement_fault view plan) (ranked touched) (statements_first view plan) (causes_first touched) (forbids_low view plan) (brings_high touched) in
            subst (Tells (Sql text binds)) (sym said_sound) (tells_alike InStages AppliesHere (option_or (statement_fault view plan) (ranked touched)) of_stages to_stages stages)

      by_checks : (outcome : Result (Plan ℕ) Fault) → check_of schema binds parsed ≡ outcome → Tells (Sql text binds) (said_to (checked (table_named schema parsed) binds outcome))
      by_checks (Ok plan) is = sound plan is
      by_checks (Err fault) is = by_rights fault is (is_none view.rights) refl

    by_reading : (found : Option (Plan Name)) → statement_in schema.version text ≡ found → Tells (Sql text binds) (said_to (read schema binds found))
    by_reading None is = unread is
    by_reading (Some parsed) is = by_checks parsed is (check_of schema binds parsed) refl

  told : (call : Call) → Tells call (said_to (request_of schema call))
  told (Connect service) = connects service
  told Disconnect = ends
  told (Sql text binds) = by_reading text binds (statement_in schema.version text) refl

pub answers_by_rank : AnswersByRank
answers_by_rank schema view next_values row call = told schema view next_values row call

pub replies_by_rank : RepliesByRank
replies_by_rank state session call = told state.start.schema (view_for state session (request_of state.start.schema call)) state.next_values state.next_row call
