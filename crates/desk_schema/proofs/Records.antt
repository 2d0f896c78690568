-- The records of a change file, one read at a time.
use Rattle.std.proofs.Common.{◌≡◌, ◌∙◌, ℕ, ◌<◌, ◌≤◌, ◌+◌, zero, suc, Bool, true, false, List, [], ◌∷◌, ◌++◌, length, Option, None, Some, refl, sym, ap, subst, arith, inl, inr}
use Rattle.std.specs.Prelude.{if◌then◌else◌, Result, Ok, Err, IsErr, IsErrAnd}
use Rattle.std.proofs.lemmas.Option.{same_Some}
use Rattle.csv.specs.Machine.{Read, next_record, step, is_end, ends_at_end, fields_after, field_after}
use Rattle.csv.proofs.ReadFacts.{rows-more}
use Rattle.csv.specs.Reading.{ReadRecord, Reached, default_config, is_bom, records_from, source_of, strip_bom}
use Rattle.csv.specs.declared.reader.Reader.{Reader}
use Rattle.csv.specs.declared.parser.State.{State}
use Rattle.csv.specs.declared.parser.State.TheVariants as st
use Rattle.desk_schema.specs.Start.{StartView}
use Rattle.desk_schema.specs.Change.{Changes, ChangesTo, IsFirstBad, MayChange, records_in}
use Rattle.desk_schema.specs.declared.change.ChangeErr.{ChangeErr}
use Rattle.desk_schema.specs.declared.change.ChangeErr.TheVariants.{BadRow, Memory}
use Rattle.desk_schema.specs.Inside.Declaring.{ChangesBy}

-- between records
abbrev pub IsBetween : State → Type 0
IsBetween s = ends_at_end s ≡ false

end_is_between : (s : State) (byte : ℕ) → is_end (step default_config s byte).1 ≡ true → IsBetween (step default_config s byte).0
end_is_between st.StartRecord byte ends = grind arith
end_is_between st.StartField byte ends = grind arith
end_is_between st.InField byte ends = grind arith
end_is_between st.InQuoted byte ends = grind arith
end_is_between st.AfterQuote byte ends = grind arith
end_is_between st.InEscape byte ends = grind arith
end_is_between st.InComment byte ends = grind arith
end_is_between st.AfterCr byte ends = grind arith

fewer : (ends : Bool) (s : State) (byte : ℕ) (fields : List (List ℕ)) (bytes : List ℕ) (other : Option Read) (read : Read)
    → is_end (step default_config s byte).1 ≡ ends
    → (if ends then Some (fields, (step default_config s byte).0, bytes) else other) ≡ Some read
    → (other ≡ Some read → IsBetween read.1 × (length read.2 ≤ length bytes))
    → IsBetween read.1 × (length read.2 ≤ length bytes)
fewer true s byte fields bytes other read ends is more =
    let same = same_Some _ _ is in
    let state : (step default_config s byte).0 ≡ read.1 = ap (λ (r : Read). r.1) same in
    let rest : bytes ≡ read.2 = ap (λ (r : Read). r.2) same in
    (sym (ap ends_at_end state) ∙ end_is_between s byte ends, omega (arith, ap length rest))
fewer false s byte fields bytes other read ends is more = more is

-- a record that was read leaves no more bytes than there were, and the machine between records
read_on : (s : State) (fields : List (List ℕ)) (field bytes : List ℕ) (read : Read) → next_record default_config s fields field bytes ≡ Some read → IsBetween read.1 × (length read.2 ≤ length bytes)
unfolding next_record
read_on s fields field [] read is = by (ends_at_end s) is
  where
    by : (ends : Bool) → (if ends then Some (fields ++ (field ∷ []), st.StartRecord, []) else None) ≡ Some read → IsBetween read.1 × (length read.2 ≤ 0)
    by true is = let same = same_Some _ _ is in (sym (ap ends_at_end (ap (λ (r : Read). r.1) same)) ∙ refl, omega (arith, ap length (ap (λ (r : Read). r.2) same)))
    by false is = absurd (cc)
read_on s fields field (byte ∷ bytes) read is =
    let kept = fewer (is_end (step default_config s byte).1) s byte _ bytes _ read refl is (read_on (step default_config s byte).0 (fields_after (step default_config s byte).1 fields field) (field_after (step default_config s byte).1 byte field) bytes read) in
    (kept.0, omega (arith, kept.1))

-- it takes a byte at least, from between records
pub read_takes : (s : State) (bytes : List ℕ) (read : Read) → IsBetween s → next_record default_config s [] [] bytes ≡ Some read → IsBetween read.1 × (length read.2 < length bytes)
unfolding next_record
read_takes s [] read between is = by (ends_at_end s) between is
  where
    by : (ends : Bool) → ends ≡ false → (if ends then Some ([] ++ ([] ∷ []), st.StartRecord, []) else None) ≡ Some read → IsBetween read.1 × (length read.2 < 0)
    by true e is = absurd (cc)
    by false e is = absurd (cc)
read_takes s (byte ∷ bytes) read between is =
    let kept = fewer (is_end (step default_config s byte).1) s byte _ bytes _ read refl is (read_on (step default_config s byte).0 (fields_after (step default_config s byte).1 [] []) (field_after (step default_config s byte).1 byte []) bytes read) in
    (kept.0, omega (arith, kept.1))

-- a text without its mark at the front is no longer
pub bom_shorter : (bytes : List ℕ) → length (strip_bom bytes) ≤ length bytes
unfolding strip_bom
bom_shorter [] = omega arith
bom_shorter (a ∷ []) = omega arith
bom_shorter (a ∷ b ∷ []) = omega arith
bom_shorter (a ∷ b ∷ c ∷ rest) = elim (is_bom a b c) as (λ i. length (if i then rest else a ∷ b ∷ c ∷ rest) ≤ suc (suc (suc (length rest)))) [ true ↦ omega arith | false ↦ omega arith ]

-- ---- a start on the way through the records

module _ (start : StartView) (bytes_in : List ℕ) where
  abbrev all : List (List (List ℕ))
  all = records_in bytes_in

  -- so many records led to the start of now, and what the records that are left lead to is what all of them lead to
  pub record IsOnTheWay (count : ℕ) (now : StartView) (s : State) (bytes : List ℕ) : Type 0 where
    pub turns : ℕ
    pub enough : length bytes < turns
    pub between : IsBetween s
    pub small : count + length bytes ≤ length bytes_in
    pub leads : (last : StartView) → ChangesTo now (records_from default_config turns s bytes) last → ChangesTo start all last
    pub fails : (m : ℕ) → IsFirstBad now (records_from default_config turns s bytes) m → IsFirstBad start all (count + m)

  pub starts : IsOnTheWay 0 start st.StartRecord (strip_bom bytes_in)
  unfolding records_in
  starts = record {
    turns = length (strip_bom bytes_in) + 1;
    enough = omega arith;
    between = refl;
    small = omega (arith, bom_shorter bytes_in);
    leads = λ last to. to;
    fails = λ m bad. subst (IsFirstBad start all) (omega arith) bad;
  }

  module _ (count : ℕ) (now : StartView) (s : State) (bytes : List ℕ) (way : IsOnTheWay count now s bytes) where
    -- no record is left
    pub ends : next_record default_config s [] [] bytes ≡ None → ChangesTo start all now
    unfolding records_from
    ends none = way.leads now (by way.turns)
      where
        by : (turns : ℕ) → ChangesTo now (records_from default_config turns s bytes) now
        by zero = refl
        by (suc turns) = rw none refl

    module _ (read : Read) (is : next_record default_config s [] [] bytes ≡ Some read) where
      first : (turns : ℕ) → length bytes < turns → (fewer : ℕ) × (turns ≡ suc fewer)
      first zero enough = absurd (omega (arith, enough))
      first (suc turns) enough = (turns, refl)

      -- one record, and those that are left
      step_by : (turns : ℕ) → records_from default_config (suc turns) s bytes ≡ read.0 ∷ records_from default_config turns read.1 read.2
      unfolding records_from
      step_by turns = rw is refl

      stepped : (turns fewer : ℕ) → turns ≡ suc fewer → records_from default_config turns s bytes ≡ read.0 ∷ records_from default_config fewer read.1 read.2
      stepped turns fewer one = ap (λ t. records_from default_config t s bytes) one ∙ step_by fewer

      pub refused : ((next : StartView) → ¬ MayChange now read.0 next) → IsFirstBad start all (count + 1)
      refused never =
          let some = first way.turns way.enough in
          way.fails 1 (subst (λ (rs : List (List (List ℕ))). IsFirstBad now rs 1) (sym (stepped way.turns some.0 some.1)) (inl (refl, never)))

      pub taken : (next : StartView) → MayChange now read.0 next → IsOnTheWay (count + 1) next read.1 read.2
      taken next may =
          let some = first way.turns way.enough in
          let takes = read_takes s bytes read way.between is in
          let same = sym (stepped way.turns some.0 some.1) in
          record {
            turns = some.0;
            enough = let e = way.enough in let t = some.1 in let l = takes.1 in omega (arith, e, t, l);
            between = takes.0;
            small = let e = way.small in let l = takes.1 in omega (arith, e, l);
            leads = λ last to. way.leads last (subst (λ (rs : List (List (List ℕ))). ChangesTo now rs last) same (next, may, to));
            fails = λ m bad. subst (IsFirstBad start all) (omega arith) (way.fails (m + 1) (subst (λ (rs : List (List (List ℕ))). IsFirstBad now rs (m + 1)) same (inr (next, m, refl, may, bad))));
          }

  -- ---- the same of a reader, which read a record

  module _ {R : Type 0} (rem : R → Option (List ℕ)) (a b : Reader R) (fields : List (List ℕ)) (count : ℕ) (now : StartView) (bytes : List ℕ)
      (config : a.config ≡ default_config) (source : source_of rem a ≡ Some bytes) (reads : ReadRecord rem a b true fields) (way : IsOnTheWay count now a.state bytes) where
    record Next : Type 0 where
      read : Read
      rest : List ℕ
      left : source_of rem b ≡ Some rest
      is : next_record default_config a.state [] [] bytes ≡ Some read
      says : fields ≡ read.0
      state : read.1 ≡ b.state
      after : read.2 ≡ rest

    next : Next
    unfolding Reached
    next = let m = rows-more rem a b fields default_config a.state bytes bytes [] config source (refl, refl) reads in record { read = m.2.0; rest = m.0; left = m.1; is = m.2.1; says = m.2.2; state = m.2.3.0; after = m.2.3.1 }

    -- a record takes a byte at least
    pub count_small : count + 1 ≤ length bytes_in
    count_small = let takes = read_takes a.state bytes next.read way.between next.is in let l = takes.1 in let e = way.small in omega (arith, l, e)

    pub row_refused : ((after : StartView) → ¬ MayChange now fields after) → IsFirstBad start all (count + 1)
    row_refused never = refused count now a.state bytes way next.read next.is (subst (λ (fs : List (List ℕ)). (after : StartView) → ¬ MayChange now fs after) next.says never)

    pub row_taken : (after : StartView) → MayChange now fields after → (rest : List ℕ) × (source_of rem b ≡ Some rest) × IsOnTheWay (count + 1) after b.state rest
    row_taken after may =
        let on = taken count now a.state bytes way next.read next.is after (subst (λ (fs : List (List ℕ)). MayChange now fs after) next.says may) in
        (next.rest, next.left, rw (next.state, next.after) at on)

    -- a record that is refused
    pub row_told : (result : Result StartView ChangeErr) (error : ChangeErr) → IsErr result × IsErrAnd result (λ other. other ≡ error) → ChangesBy now fields (count + 1) (Err error) → Changes start all result
    row_told (Ok _) error is says = absurd (cc)
    row_told (Err other) (BadRow m) is says = let same : other ≡ BadRow m = is.1 in
        subst (λ (e : ChangeErr). Changes start all (Err e)) (sym same) (subst (IsFirstBad start all) (sym says.0) (row_refused says.1))
    row_told (Err other) Memory is says = let same : other ≡ Memory = is.1 in subst (λ (e : ChangeErr). Changes start all (Err e)) (sym same) tt
