-- What the clauses of lines and dials give of those of their traits.
use Rattle.std.proofs.Common.{◌≡◌, ◌<◌, ◌≤◌, ℕ, ◌+◌, inl, inr, true, List, [], ◌∷◌, ◌++◌, map, Option, None, Some, Result, Ok, Err, IfOk, OnErr, OnOk, if◌then◌else◌, length, refl, ap, ◌∙◌, arith}
use Rattle.std.specs.Prelude.{IsErrOf, nat_lt}
use Rattle.std.proofs.lemmas.Bool.{cases_Bool, ltb-false, ltb-true}
use Rattle.std.proofs.lemmas.List.{map-append}
use Rattle.std.proofs.lemmas.Option.{slice_get_within}
use Rattle.desk_values.specs.declared.call.Call.{Call}
use Rattle.desk_values.specs.declared.call.Reply.{Reply}
use Rattle.desk_values.specs.declared.memory.Memory.{Memory as NoMemory}
use Rattle.desk_files.specs.Outside.{Counts, DeviceFailed, raised}
use Rattle.desk_files.proofs.DeviceLaws.{Counts-of}
use Rattle.remote_link.specs.declared.heard.Heard.{Heard}
use Rattle.remote_link.specs.declared.link_err.LinkErr.{LinkErr}
use Rattle.remote_link.specs.declared.link_err.LinkErr.TheVariants.{Failed, Memory}
use Rattle.remote_link.specs.Dials.{CountsBack, GivesBack}
use Rattle.remote_link.specs.Heard.{Notes, heard, link_ending}
use Rattle.remote_link.specs.Lines.{MemoryDial, MemoryLine, is_failing, next_reply, said_on}

-- ---- a line that is given back

-- a dial that counts one fault where the line has some
pub back_counts : (faults before after : ℕ) → after ≡ (if nat_lt 0 faults then raised before else before) → CountsBack faults before after
back_counts faults before after is = elim (cases_Bool (nat_lt 0 faults)) [
  | inl has ↦
      let up = Counts-of DeviceFailed before after (rw has at is) in
      record { rises = λ some. up.0; stays = λ none. absurd (let less = ltb-true 0 faults has in omega (arith, less, none)); never_falls = up.1 }
  | inr lacks ↦
      let same : after ≡ before = rw lacks at is in
      record { rises = λ some. absurd (let past = ltb-false 0 faults lacks in omega (arith, past, some)); stays = λ none. same; never_falls = omega (arith, same) }
]

-- where nothing is told
pub gives_untold : (line : Option (List Heard)) (result : Result (Unit {0}) NoMemory) → GivesBack line result None None
gives_untold line (Ok done) = tt
gives_untold line (Err memory) = refl

-- a dial in memory, which keeps the line
pub gives_kept : (result : Result (Unit {0}) NoMemory) (line : MemoryLine) (old new : MemoryDial) → OnOk result (new.returned ≡ old.returned ++ line ∷ []) → OnErr result (new.returned ≡ old.returned) → GivesBack (Some line.said) result (Some (said_on old)) (Some (said_on new))
gives_kept (Ok done) line old new ok err =
    ap (λ (lines : List MemoryLine). Some (map (λ (l : MemoryLine). l.said) lines)) ok ∙ ap (λ (lists : List (List Heard)). Some lists) (map-append (λ (l : MemoryLine). l.said) old.returned (line ∷ []))
gives_kept (Err memory) line old new ok err = ap (λ (lines : List MemoryLine). Some (map (λ (l : MemoryLine). l.said) lines)) err

-- ---- a call of a line in memory

-- where there is a next reply, not all are given
pub one_left : (line : MemoryLine) (reply : Reply) → next_reply line ≡ Some reply → line.given < length line.replies
one_left line reply is = elim (cases_Bool (is_failing line.fails line.made)) [
  | inl fails ↦ (let none : None ≡ Some reply = rw fails at is in absurd cc)
  | inr goes ↦ slice_get_within line.replies line.given reply (rw goes at is)
]

-- the line after its next reply was given, and after a call that failed
abbrev pub given_on : MemoryLine → Call → Reply → MemoryLine
given_on line call reply = record line { given = line.given + 1; made = raised line.made; said = line.said ++ heard call (Some reply) ∷ [] }

abbrev pub failed_on : MemoryLine → Call → MemoryLine
failed_on line call = record line { made = raised line.made; faults = raised line.faults; said = line.said ++ heard call None ∷ [] }

module _ (call : Call) (old new : MemoryLine) where
  pub notes_said : (result : Result Reply LinkErr) → IfOk result (λ reply. (next_reply old ≡ Some reply) × (new ≡ given_on old call reply)) → (IsErrOf result Failed → (next_reply old ≡ None) × (new ≡ failed_on old call)) → (IsErrOf result Memory → new ≡ old)
      → Notes call result (Some old.said) (Some new.said)
  notes_said (Ok reply) ok failed memory = ap (λ (line : MemoryLine). Some line.said) ok.1
  notes_said (Err Failed) ok failed memory = inr (let is = failed refl in ap (λ (line : MemoryLine). Some line.said) is.1)
  notes_said (Err Memory) ok failed memory = inl (ap (λ (line : MemoryLine). Some line.said) (memory refl))

  pub counts_said : (result : Result Reply LinkErr) → IfOk result (λ reply. (next_reply old ≡ Some reply) × (new ≡ given_on old call reply)) → (IsErrOf result Failed → (next_reply old ≡ None) × (new ≡ failed_on old call)) → (IsErrOf result Memory → new ≡ old)
      → Counts (link_ending result) old.faults new.faults
  counts_said (Ok reply) ok failed memory = ap (λ (line : MemoryLine). line.faults) ok.1
  counts_said (Err Failed) ok failed memory = Counts-of DeviceFailed old.faults new.faults (let is = failed refl in ap (λ (line : MemoryLine). line.faults) is.1)
  counts_said (Err Memory) ok failed memory = ap (λ (line : MemoryLine). line.faults) (memory refl)
