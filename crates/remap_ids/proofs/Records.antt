-- The records of a text, one read at a time.
use Rattle.std.proofs.Common.{◌≡◌, ◌∙◌, ℕ, ◌<◌, ◌≤◌, ◌+◌, zero, suc, Bool, true, false, List, [], ◌∷◌, ◌++◌, length, Option, None, Some, Result, Ok, Err, refl, sym, ap, arith}
use Rattle.std.specs.Prelude.{if◌then◌else◌, IsErr, IsErrAnd}
use Rattle.std.proofs.lemmas.Option.{same_Some}
use Rattle.csv.specs.Machine.{Read, next_record}
use Rattle.csv.proofs.ReadFacts.{rows-more}
use Rattle.csv.specs.Reading.{ReadRecord, Reached, default_config, records_from, source_of, strip_bom}
use Rattle.csv.specs.declared.reader.Reader.{Reader}
use Rattle.csv.specs.declared.parser.State.{State}
use Rattle.csv.specs.declared.parser.State.TheVariants as st
use Rattle.desk_values.specs.Answers.{IsTold}
use Rattle.desk_schema.proofs.Records.{IsBetween, read_takes}
use Rattle.remap_ids.specs.declared.remap.RemapErr.{RemapErr}
use Rattle.remap_ids.specs.declared.remap.RemapErr.TheVariants.{BadRow, TwiceFrom, Memory}
use Rattle.remap_ids.specs.Services.{ServicePair, Tells, goes_on, service_pair, services_of, told, with_pair, with_records}

-- an error that tells of one record tells of the whole file
pub told_of_all : (error : RemapErr) (one whole : Result (List ServicePair) RemapErr) → ((other : RemapErr) → one ≡ Err other → whole ≡ Err other) → IsTold (told error) one → IsTold (told error) whole
told_of_all (BadRow n) one whole decides says = decides (BadRow n) says
told_of_all (TwiceFrom n) one whole decides says = decides (TwiceFrom n) says
told_of_all Memory one whole decides says = tt

-- what the services so far and the records that are left say is what the whole file says
pub record IsOnTheWay (services : List ServicePair) (s : State) (bytes : List ℕ) (whole : Result (List ServicePair) RemapErr) : Type 0 where
  pub turns : ℕ
  pub enough : length bytes < turns
  pub between : IsBetween s
  pub says : with_records services (records_from default_config turns s bytes) ≡ whole

pub starts : (bytes : List ℕ) → IsOnTheWay [] st.StartRecord (strip_bom bytes) (services_of bytes)
unfolding services_of
starts bytes = record { turns = length (strip_bom bytes) + 1; enough = omega arith; between = refl; says = refl }

module _ (services : List ServicePair) (s : State) (bytes : List ℕ) (whole : Result (List ServicePair) RemapErr) (way : IsOnTheWay services s bytes whole) where
  -- no record is left
  pub ends : next_record default_config s [] [] bytes ≡ None → whole ≡ Ok services
  unfolding records_from
  ends none = sym way.says ∙ by way.turns
    where
      by : (turns : ℕ) → with_records services (records_from default_config turns s bytes) ≡ Ok services
      by zero = refl
      by (suc turns) = rw none refl

  module _ (read : Read) (is : next_record default_config s [] [] bytes ≡ Some read) where
    first : (turns : ℕ) → length bytes < turns → (fewer : ℕ) × (turns ≡ suc fewer)
    first zero enough = absurd (omega (arith, enough))
    first (suc turns) enough = (turns, refl)

    -- one record, and those that are left
    step_by : (turns : ℕ) → with_records services (records_from default_config (suc turns) s bytes) ≡ goes_on (λ all. with_records all (records_from default_config turns read.1 read.2)) (with_pair services (service_pair read.0))
    unfolding records_from
    step_by turns = rw is refl

    stepped : (fewer : ℕ) → way.turns ≡ suc fewer → goes_on (λ all. with_records all (records_from default_config fewer read.1 read.2)) (with_pair services (service_pair read.0)) ≡ whole
    stepped fewer is_one = sym (step_by fewer) ∙ sym (ap (λ turns. with_records services (records_from default_config turns s bytes)) is_one) ∙ way.says

    pub refused : (error : RemapErr) → with_pair services (service_pair read.0) ≡ Err error → whole ≡ Err error
    refused error says = let some = first way.turns way.enough in sym (stepped some.0 some.1) ∙ ap (goes_on (λ all. with_records all (records_from default_config some.0 read.1 read.2))) says

    pub taken : (after : List ServicePair) → with_pair services (service_pair read.0) ≡ Ok after → IsOnTheWay after read.1 read.2 whole
    taken after says =
        let some = first way.turns way.enough in
        let takes = read_takes s bytes read way.between is in
        record {
          turns = some.0;
          enough = let e = way.enough in let t = some.1 in let l = takes.1 in omega (arith, e, t, l);
          between = takes.0;
          says = sym (ap (goes_on (λ all. with_records all (records_from default_config some.0 read.1 read.2))) says) ∙ stepped some.0 some.1;
        }

-- ---- the same of a reader, which read a record

module _ {R : Type 0} (rem : R → Option (List ℕ)) (a b : Reader R) (fields : List (List ℕ)) (services : List ServicePair) (bytes : List ℕ) (whole : Result (List ServicePair) RemapErr)
    (config : a.config ≡ default_config) (source : source_of rem a ≡ Some bytes) (reads : ReadRecord rem a b true fields) (way : IsOnTheWay services a.state bytes whole) where
  record Next : Type 0 where
    read : Read
    rest : List ℕ
    left : source_of rem b ≡ Some rest
    is : next_record default_config a.state [] [] bytes ≡ Some read
    says : fields ≡ read.0
    state : read.1 ≡ b.state
    after : read.2 ≡ rest

  next : Next
  unfolding Reached
  next = let m = rows-more rem a b fields default_config a.state bytes bytes [] config source (refl, refl) reads in record { read = m.2.0; rest = m.0; left = m.1; is = m.2.1; says = m.2.2; state = m.2.3.0; after = m.2.3.1 }

  pub row_refused : (error : RemapErr) → with_pair services (service_pair fields) ≡ Err error → whole ≡ Err error
  row_refused error says = refused services a.state bytes whole way next.read next.is error (sym (ap (λ (row : List (List ℕ)). with_pair services (service_pair row)) next.says) ∙ says)

  pub row_taken : (others : List ServicePair) → with_pair services (service_pair fields) ≡ Ok others → (rest : List ℕ) × (source_of rem b ≡ Some rest) × IsOnTheWay others b.state rest whole
  row_taken others says =
      let on = taken services a.state bytes whole way next.read next.is others (sym (ap (λ (row : List (List ℕ)). with_pair services (service_pair row)) next.says) ∙ says) in
      (next.rest, next.left, rw (next.state, next.after) at on)

-- an error that is handed on
pub told_on : {X : Type 0} (result : Result X RemapErr) (services : X → List ServicePair) (error : RemapErr) (whole : Result (List ServicePair) RemapErr) → IsErr result × IsErrAnd result (λ other. other ≡ error) → IsTold (told error) whole → Tells result services whole
told_on (Ok read) services error whole is says = absurd (cc)
told_on (Err other) services error whole is says = let same : other ≡ error = is.1 in rw same says
