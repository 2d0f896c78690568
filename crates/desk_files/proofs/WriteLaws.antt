-- What a list of writes leaves, one write after the other.
use Rattle.std.proofs.Common.{◌≡◌, ℕ, suc, ◌+◌, ◌<◌, ◌≤◌, List, [], ◌∷◌, ◌++◌, length, take, get_or, Option, None, Some, Err, refl, sym, ap, subst, ◌∙◌, arith}
use Rattle.std.specs.Prelude.{IsSomeAnd}
use Rattle.std.specs.FinMap.{insert}
use Rattle.std.proofs.Math.Seq.{take-suc}
use Rattle.std.proofs.lemmas.List.{take_all}
use Rattle.std.proofs.lemmas.Option.{slice_get-get_or}
use Rattle.desk_files.specs.declared.fault.WriteErr.{WriteErr}
use Rattle.desk_files.specs.declared.fault.WriteErr.TheVariants.{Failed, Memory}
use Rattle.desk_files.specs.declared.writes.Write.{Write}
use Rattle.desk_files.specs.Answers.{write_ending}
use Rattle.desk_files.specs.Outside.{FileMap, KeepsOthers, Stands, Told}
use Rattle.desk_files.specs.Writes.{LeavesOfWrites, with_all}

pub told : {T : Type 0} {P Q : T → Type 0} (content : Option T) → ((x : T) → P x → Q x) → Told content P → Told content Q
told None f h = tt
told (Some x) f h = f x h

pub some_and : {T : Type 0} {P Q : T → Type 0} (content : Option T) → ((x : T) → P x → Q x) → IsSomeAnd content P → IsSomeAnd content Q
some_and None f h = h
some_and (Some x) f h = f x h

with_all-append : (first others : List Write) (files : FileMap) → with_all (first ++ others) files ≡ with_all others (with_all first files)
with_all-append [] others files = refl
with_all-append (write ∷ first) others files = with_all-append first others (insert files write.name write.bytes)

-- the files after the first `i` writes
abbrev pub AfterFirst : ℕ → List Write → Option FileMap → Option FileMap → Type 0
AfterFirst i writes before after = Told before (λ files. after ≡ Some (with_all (take i writes) files))

module _ (writes : List Write) (i : ℕ) (write : Write) (c0 c1 c2 : Option FileMap) (within : i < length writes) (is : write ≡ get_or writes i write) (so_far : AfterFirst i writes c0 c1) where
  one_more : (files : FileMap) → with_all (take (i + 1) writes) files ≡ insert (with_all (take i writes) files) write.name write.bytes
  one_more files =
      let next : i + 1 ≡ suc i = omega arith in
      let first : take (i + 1) writes ≡ take i writes ++ write ∷ [] = rw next (take-suc writes i write within ∙ ap (λ (w : Write). take i writes ++ w ∷ []) (sym is)) in
      ap (λ ws. with_all ws files) first ∙ with_all-append (take i writes) (write ∷ []) files

  pub one_written : (bytes : List ℕ) → bytes ≡ write.bytes → Told c1 (λ files. c2 ≡ Some (insert files write.name bytes)) → AfterFirst (i + 1) writes c0 c2
  one_written bytes same one = told c0 (λ files e.
      let at = subst (λ (c : Option FileMap). Told c (λ files. c2 ≡ Some (insert files write.name bytes))) e one in
      at ∙ ap (λ b. Some (insert (with_all (take i writes) files) write.name b)) same ∙ ap (λ m. Some m) (sym (one_more files))) so_far

  -- one that is not written ends it
  pub writing_stops : (e : WriteErr) → Told c1 (λ files. IsSomeAnd c2 (KeepsOthers write.name files)) → Stands (write_ending (Err e)) c1 c2 → Told c0 (λ files. IsSomeAnd c2 (LeavesOfWrites writes files (Err e)))
  writing_stops Failed others stands = told c0 (λ files e.
      let at = subst (λ (c : Option FileMap). Told c (λ files. IsSomeAnd c2 (KeepsOthers write.name files))) e others in
      some_and c2 (λ after keeps. (i, write, slice_get-get_or writes i write within ∙ ap (λ w. Some w) (sym is), keeps)) at) so_far
  writing_stops Memory others stands = told c0 (λ files e. subst (λ (c : Option FileMap). IsSomeAnd c (LeavesOfWrites writes files (Err Memory))) (sym (stands ∙ e)) (i, refl)) so_far

pub writing_done : (writes : List Write) (i : ℕ) (c0 c1 : Option FileMap) → length writes ≤ i → AfterFirst i writes c0 c1 → Told c0 (λ files. IsSomeAnd c1 (λ after. after ≡ with_all writes files))
writing_done writes i c0 c1 all so_far = told c0 (λ files e. rw e (ap (λ ws. with_all ws files) (take_all i writes all))) so_far
