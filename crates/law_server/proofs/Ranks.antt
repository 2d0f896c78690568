-- The first of the faults that apply is the one of the lowest rank.
use Rattle.std.proofs.Common.{◌≡◌, ◌≤◌, inl, inr, ℕ, Bool, true, false, if◌then◌else◌, List, [], ◌∷◌, Option, None, Some, refl, sym, ap, ◌∙◌, arith, ⊎_elim}
use Rattle.std.proofs.lemmas.Bool.{and_parts, or_cases}
use Rattle.std.proofs.Math.Bool.{or-true}
use Rattle.std.specs.Prelude.{◌&&◌, ◌||◌, not, IfSome, IsSomeAnd, is_none, is_some}
use Rattle.std.specs.List.{AllByRecursion}
use Rattle.std.proofs.lemmas.Slice.Eq.{bytes_eq-Decides}
use Rattle.desk_values.specs.declared.fault.Fault.{Fault}
use Rattle.desk_values.specs.declared.fault.Fault.TheVariants.{Syntax, UnknownTable, UnknownColumn, UnknownSequence, UnknownService, Kinds, BindMissing, Locked, DuplicateKey, NullValue, OutOfRange, TextTooLong, ZeroDivisor, Overflow, ReadOnly, NotConnected, AlreadyConnected, UnderWay, TooManyRows, NoSavepoint}
use Rattle.desk_values.specs.Fault.{fault_rank}
use Rattle.desk_schema.specs.declared.schema.Rights.{Rights}
use Rattle.desk_schema.specs.declared.schema.Rights.TheVariants as rights
use Rattle.sql_tree.specs.Plain.{Plan, select, next, insert, update, delete, commit, rollback, set_read_only, savepoint, rollback_to}
use Rattle.sql_eval.specs.declared.faults.Faults.{Faults}
use Rattle.sql_eval.specs.Faults.{told}
use Rattle.server_words.specs.declared.causes.Causes.{Causes}
use Rattle.server_words.specs.Causes.{connect_fault, is_read_only, is_under_way, lacks_savepoint, needs_write_access, ranked, sets_read_only, statement_fault}
use Rattle.server_words.specs.declared.session.Savepoint.{Savepoint}
use Rattle.server_words.specs.Savepoints.{has_savepoint, is_named}
use Rattle.server_words.specs.View.{View}
use Rattle.law_server.specs.Ranks.{Brings, CausesByRank, ConnectionsByRank, Forbids, GoesBackToNone, Has, MayOnlyRead, PartsByRank, Refuses, StatementsByRank}

-- ---- a list of tests, the first of which that passes tells its fault

pub first_applies : (test : Bool) (fault : Fault) (rest : Option Fault) (Applies : Fault → Type 0) → (test ≡ true → Applies fault) → IfSome rest Applies → IfSome (if test then Some fault else rest) Applies
first_applies true fault rest Applies here others = here refl
first_applies false fault rest Applies here others = others

abbrev pub IsAtMost : ℕ → Option Fault → Type 0
IsAtMost rank said = IsSomeAnd said (λ fault. fault_rank fault ≤ rank)

pub before : (test : Bool) (fault : Fault) (rest : Option Fault) (rank : ℕ) → fault_rank fault ≤ rank → IsAtMost rank rest → IsAtMost rank (if test then Some fault else rest)
before true fault rest rank below later = below
before false fault rest rank below later = later

pub here : (test : Bool) (fault : Fault) (rest : Option Fault) (rank : ℕ) → fault_rank fault ≤ rank → test ≡ true → IsAtMost rank (if test then Some fault else rest)
here true fault rest rank below passes = below
here false fault rest rank below passes = absurd (let never : false ≡ true = passes in cc)

-- ---- of the rows that a statement touches

module _ (causes : Causes) where
  causes_apply : IfSome (ranked causes) (Brings causes)
  unfolding ranked
  causes_apply =
      first_applies causes.divides ZeroDivisor _ (Brings causes) (λ is. is)
      (first_applies causes.overflows Overflow _ (Brings causes) (λ is. is)
      (first_applies causes.too_many TooManyRows _ (Brings causes) (λ is. is)
      (first_applies causes.locked Locked _ (Brings causes) (λ is. is)
      (first_applies causes.null NullValue _ (Brings causes) (λ is. is)
      (first_applies causes.too_long TextTooLong _ (Brings causes) (λ is. is)
      (first_applies causes.out_of_range OutOfRange _ (Brings causes) (λ is. is)
      (first_applies causes.duplicate DuplicateKey _ (Brings causes) (λ is. is) tt)))))))

  causes_lowest : (other : Fault) → Brings causes other → IsAtMost (fault_rank other) (ranked causes)
  unfolding ranked
  causes_lowest ZeroDivisor is = here causes.divides ZeroDivisor _ 12 (omega arith) is
  causes_lowest Overflow is = before causes.divides ZeroDivisor _ 13 (omega arith) (here causes.overflows Overflow _ 13 (omega arith) is)
  causes_lowest TooManyRows is = before causes.divides ZeroDivisor _ 14 (omega arith) (before causes.overflows Overflow _ 14 (omega arith) (here causes.too_many TooManyRows _ 14 (omega arith) is))
  causes_lowest Locked is = before causes.divides ZeroDivisor _ 15 (omega arith) (before causes.overflows Overflow _ 15 (omega arith) (before causes.too_many TooManyRows _ 15 (omega arith) (here causes.locked Locked _ 15 (omega arith) is)))
  causes_lowest NullValue is = before causes.divides ZeroDivisor _ 16 (omega arith) (before causes.overflows Overflow _ 16 (omega arith) (before causes.too_many TooManyRows _ 16 (omega arith) (before causes.locked Locked _ 16 (omega arith) (here causes.null NullValue _ 16 (omega arith) is))))
  causes_lowest TextTooLong is = before causes.divides ZeroDivisor _ 17 (omega arith) (before causes.overflows Overflow _ 17 (omega arith) (before causes.too_many TooManyRows _ 17 (omega arith) (before causes.locked Locked _ 17 (omega arith) (before causes.null NullValue _ 17 (omega arith) (here causes.too_long TextTooLong _ 17 (omega arith) is)))))
  causes_lowest OutOfRange is = before causes.divides ZeroDivisor _ 18 (omega arith) (before causes.overflows Overflow _ 18 (omega arith) (before causes.too_many TooManyRows _ 18 (omega arith) (before causes.locked Locked _ 18 (omega arith) (before causes.null NullValue _ 18 (omega arith) (before causes.too_long TextTooLong _ 18 (omega arith) (here causes.out_of_range OutOfRange _ 18 (omega arith) is))))))
  causes_lowest DuplicateKey is = before causes.divides ZeroDivisor _ 19 (omega arith) (before causes.overflows Overflow _ 19 (omega arith) (before causes.too_many TooManyRows _ 19 (omega arith) (before causes.locked Locked _ 19 (omega arith) (before causes.null NullValue _ 19 (omega arith) (before causes.too_long TextTooLong _ 19 (omega arith) (before causes.out_of_range OutOfRange _ 19 (omega arith) (here causes.duplicate DuplicateKey _ 19 (omega arith) is)))))))
  causes_lowest Syntax is = absurd is
  causes_lowest UnknownTable is = absurd is
  causes_lowest UnknownColumn is = absurd is
  causes_lowest UnknownSequence is = absurd is
  causes_lowest UnknownService is = absurd is
  causes_lowest Kinds is = absurd is
  causes_lowest BindMissing is = absurd is
  causes_lowest ReadOnly is = absurd is
  causes_lowest NotConnected is = absurd is
  causes_lowest AlreadyConnected is = absurd is
  causes_lowest UnderWay is = absurd is
  causes_lowest NoSavepoint is = absurd is

pub causes_first : CausesByRank
causes_first causes = record { applies = causes_apply causes; lowest = causes_lowest causes }

-- ---- of a session and its transaction

pub none_is : {X : Type 0} (o : Option X) → is_none o ≡ true → o ≡ None
none_is None is = refl
none_is (Some x) is = absurd (let never : false ≡ true = is in cc)

reads_only_is : (o : Option Rights) → is_read_only o ≡ true → o ≡ Some rights.ReadOnly
reads_only_is None is = absurd (let never : false ≡ true = is in cc)
reads_only_is (Some rights.ReadWrite) is = absurd (let never : false ≡ true = is in cc)
reads_only_is (Some rights.ReadOnly) is = refl

sets_is : (plan : Plan ℕ) → sets_read_only plan ≡ true → plan ≡ set_read_only
sets_is (select table asked condition keys for_update) is = absurd (let never : false ≡ true = is in cc)
sets_is (next sequence) is = absurd (let never : false ≡ true = is in cc)
sets_is (insert table named entries) is = absurd (let never : false ≡ true = is in cc)
sets_is (update table changes condition) is = absurd (let never : false ≡ true = is in cc)
sets_is (delete table condition) is = absurd (let never : false ≡ true = is in cc)
sets_is commit is = absurd (let never : false ≡ true = is in cc)
sets_is rollback is = absurd (let never : false ≡ true = is in cc)
sets_is set_read_only is = refl
sets_is (savepoint name) is = absurd (let never : false ≡ true = is in cc)
sets_is (rollback_to name) is = absurd (let never : false ≡ true = is in cc)

none_have : (name : List ℕ) (xs : List Savepoint) → not (has_savepoint name xs) ≡ true → AllByRecursion (λ (x : Savepoint). ¬ (x.name ≡ name)) xs
none_have name [] = λ is. tt
none_have name (x ∷ xs) =
    elim (is_named name x) as (λ b. is_named name x ≡ b → not (b || has_savepoint name xs) ≡ true → (¬ (x.name ≡ name)) × AllByRecursion (λ (y : Savepoint). ¬ (y.name ≡ name)) xs) [
      | true ↦ λ named is. absurd (let never : false ≡ true = is in cc)
      | false ↦ λ named is. (λ same. let both : false ≡ true = sym named ∙ (bytes_eq-Decides x.name name).1 same in cc, none_have name xs is)
    ] refl

have_none : (name : List ℕ) (xs : List Savepoint) → AllByRecursion (λ (x : Savepoint). ¬ (x.name ≡ name)) xs → not (has_savepoint name xs) ≡ true
have_none name [] none = refl
have_none name (x ∷ xs) none = elim (is_named name x) as (λ b. is_named name x ≡ b → not (b || has_savepoint name xs) ≡ true) [
  | true ↦ λ named. absurd (none.0 ((bytes_eq-Decides x.name name).0 named))
  | false ↦ λ named. have_none name xs none.1
] refl

lacks_is : (view : View) (plan : Plan ℕ) → lacks_savepoint view plan ≡ true → GoesBackToNone view plan
lacks_is view (rollback_to name) is = none_have name view.savepoints is
lacks_is view other is = absurd (let never : false ≡ true = is in cc)

is_lacking : (view : View) (plan : Plan ℕ) → GoesBackToNone view plan → lacks_savepoint view plan ≡ true
is_lacking view (rollback_to name) none = have_none name view.savepoints none
is_lacking view other none = absurd none

module _ (view : View) (plan : Plan ℕ) where
  may_only_read : (is_read_only view.rights || view.reads_only) ≡ true → MayOnlyRead view
  may_only_read is = ⊎_elim (λ rights. inl (reads_only_is view.rights rights)) (λ reads. inr reads) (or_cases (is_read_only view.rights) view.reads_only is)

  only_reads : MayOnlyRead view → (is_read_only view.rights || view.reads_only) ≡ true
  only_reads (inl rights) = ap (λ (o : Option Rights). is_read_only o || view.reads_only) rights
  only_reads (inr reads) = ap (λ (b : Bool). is_read_only view.rights || b) reads ∙ or-true (is_read_only view.rights)

  statements_apply : IfSome (statement_fault view plan) (Forbids view plan)
  unfolding statement_fault
  statements_apply =
      first_applies (is_none view.rights) NotConnected _ (Forbids view plan) (none_is view.rights)
      (first_applies (needs_write_access plan && (is_read_only view.rights || view.reads_only)) ReadOnly _ (Forbids view plan) (λ is. let both = and_parts (needs_write_access plan) (is_read_only view.rights || view.reads_only) is in (both.0, may_only_read both.1))
      (first_applies (sets_read_only plan && is_under_way view) UnderWay _ (Forbids view plan) (λ is. let both = and_parts (sets_read_only plan) (is_under_way view) is in (sets_is plan both.0, both.1))
      (first_applies (lacks_savepoint view plan) NoSavepoint _ (Forbids view plan) (lacks_is view plan) tt)))

  statements_lowest : (other : Fault) → Forbids view plan other → IsAtMost (fault_rank other) (statement_fault view plan)
  unfolding statement_fault
  statements_lowest NotConnected is = here (is_none view.rights) NotConnected _ 1 (omega arith) (ap (λ (o : Option Rights). is_none o) is)
  statements_lowest ReadOnly is =
      before (is_none view.rights) NotConnected _ 9 (omega arith)
      (here (needs_write_access plan && (is_read_only view.rights || view.reads_only)) ReadOnly _ 9 (omega arith) (ap (λ (b : Bool). b && (is_read_only view.rights || view.reads_only)) is.0 ∙ only_reads is.1))
  statements_lowest UnderWay is =
      before (is_none view.rights) NotConnected _ 10 (omega arith)
      (before (needs_write_access plan && (is_read_only view.rights || view.reads_only)) ReadOnly _ 10 (omega arith)
      (here (sets_read_only plan && is_under_way view) UnderWay _ 10 (omega arith) (ap (λ (p : Plan ℕ). sets_read_only p && is_under_way view) is.0 ∙ is.1)))
  statements_lowest NoSavepoint is =
      before (is_none view.rights) NotConnected _ 11 (omega arith)
      (before (needs_write_access plan && (is_read_only view.rights || view.reads_only)) ReadOnly _ 11 (omega arith)
      (before (sets_read_only plan && is_under_way view) UnderWay _ 11 (omega arith)
      (here (lacks_savepoint view plan) NoSavepoint _ 11 (omega arith) (is_lacking view plan is))))
  statements_lowest Syntax is = absurd is
  statements_lowest UnknownTable is = absurd is
  statements_lowest UnknownColumn is = absurd is
  statements_lowest UnknownSequence is = absurd is
  statements_lowest UnknownService is = absurd is
  statements_lowest Kinds is = absurd is
  statements_lowest BindMissing is = absurd is
  statements_lowest Locked is = absurd is
  statements_lowest DuplicateKey is = absurd is
  statements_lowest NullValue is = absurd is
  statements_lowest OutOfRange is = absurd is
  statements_lowest TextTooLong is = absurd is
  statements_lowest ZeroDivisor is = absurd is
  statements_lowest Overflow is = absurd is
  statements_lowest AlreadyConnected is = absurd is
  statements_lowest TooManyRows is = absurd is

pub statements_first : StatementsByRank
statements_first view plan = record { applies = statements_apply view plan; lowest = statements_lowest view plan }

-- ---- of a connection

module _ (view : View) (service : Option Rights) where
  connections_lowest : (other : Fault) → Refuses view service other → IsAtMost (fault_rank other) (connect_fault view service)
  connections_lowest AlreadyConnected is = here (is_some view.rights) AlreadyConnected _ 2 (omega arith) is
  connections_lowest UnknownService is = before (is_some view.rights) AlreadyConnected _ 3 (omega arith) (here (is_none service) UnknownService _ 3 (omega arith) (ap (λ (o : Option Rights). is_none o) is))
  connections_lowest Syntax is = absurd is
  connections_lowest UnknownTable is = absurd is
  connections_lowest UnknownColumn is = absurd is
  connections_lowest UnknownSequence is = absurd is
  connections_lowest Kinds is = absurd is
  connections_lowest BindMissing is = absurd is
  connections_lowest Locked is = absurd is
  connections_lowest DuplicateKey is = absurd is
  connections_lowest NullValue is = absurd is
  connections_lowest OutOfRange is = absurd is
  connections_lowest TextTooLong is = absurd is
  connections_lowest ZeroDivisor is = absurd is
  connections_lowest Overflow is = absurd is
  connections_lowest ReadOnly is = absurd is
  connections_lowest NotConnected is = absurd is
  connections_lowest UnderWay is = absurd is
  connections_lowest NoSavepoint is = absurd is
  connections_lowest TooManyRows is = absurd is

pub connections_first : ConnectionsByRank
connections_first view service = record {
  applies = first_applies (is_some view.rights) AlreadyConnected _ (Refuses view service) (λ is. is) (first_applies (is_none service) UnknownService _ (Refuses view service) (none_is service) tt);
  lowest = connections_lowest view service;
}

-- ---- of the parts of an expression

parts_lowest : (faults : Faults) (other : Fault) → Has faults other → IsAtMost (fault_rank other) (told faults)
parts_lowest faults ZeroDivisor is = here faults.divides ZeroDivisor _ 12 (omega arith) is
parts_lowest faults Overflow is = before faults.divides ZeroDivisor _ 13 (omega arith) (here faults.overflows Overflow _ 13 (omega arith) is)
parts_lowest faults Syntax is = absurd is
parts_lowest faults UnknownTable is = absurd is
parts_lowest faults UnknownColumn is = absurd is
parts_lowest faults UnknownSequence is = absurd is
parts_lowest faults UnknownService is = absurd is
parts_lowest faults Kinds is = absurd is
parts_lowest faults BindMissing is = absurd is
parts_lowest faults Locked is = absurd is
parts_lowest faults DuplicateKey is = absurd is
parts_lowest faults NullValue is = absurd is
parts_lowest faults OutOfRange is = absurd is
parts_lowest faults TextTooLong is = absurd is
parts_lowest faults ReadOnly is = absurd is
parts_lowest faults NotConnected is = absurd is
parts_lowest faults AlreadyConnected is = absurd is
parts_lowest faults UnderWay is = absurd is
parts_lowest faults NoSavepoint is = absurd is
parts_lowest faults TooManyRows is = absurd is

pub parts_first : PartsByRank
parts_first faults = record {
  applies = first_applies faults.divides ZeroDivisor _ (Has faults) (λ is. is) (first_applies faults.overflows Overflow _ (Has faults) (λ is. is) tt);
  lowest = parts_lowest faults;
}
