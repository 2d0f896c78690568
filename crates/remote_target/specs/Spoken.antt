-- A line with what was said on it.
use Rattle.std.specs.Prelude.{◌≡◌, ◌⊎◌, ℕ, ◌<◌, List, [], ◌∷◌, ◌++◌, Option, None, Some, Result, Ok, Err}
use Rattle.std.specs.List.{AllByRecursion}
use Rattle.desk_values.specs.declared.call.Call.{Call}
use Rattle.desk_values.specs.declared.call.Reply.{Reply}
use Rattle.desk_files.specs.Outside.{Told}
use Rattle.remote_link.specs.declared.heard.Heard.{Heard}
use Rattle.remote_link.specs.declared.link_err.LinkErr.{LinkErr}
use Rattle.remote_link.specs.declared.link_err.LinkErr.TheVariants.{Failed, Memory}
use Rattle.remote_link.specs.Heard.{AreGood, heard}

pub record SpokenView (L : Type 0) : Type 0 where
  pub line : L
  -- the calls that were said, with what came back
  pub heard : List Heard
  -- how many more there is room for
  pub spare : ℕ
  -- why the line refused, where it did
  pub refusal : Option LinkErr

-- the call has a reply
abbrev pub HasReply : Heard → Type 0
HasReply one = (reply : Reply) × (one.reply ≡ Some reply)

-- calls with replies, and then one without
pub record IsCutOff (list : List Heard) : Type 0 where
  pub front : List Heard
  pub call : Call
  pub replied : AllByRecursion HasReply front
  pub last : list ≡ front ++ heard call None ∷ []

-- each call has a reply, but for the last one at most
abbrev pub IsUnbroken : List Heard → Type 0
IsUnbroken list = AllByRecursion HasReply list ⊎ IsCutOff list

-- what is kept is what the line tells, or that and one call without a reply
abbrev pub IsOwn : List Heard → List Heard → Type 0
IsOwn list told = (list ≡ told) ⊎ ((call : Call) × (list ≡ told ++ heard call None ∷ []))

-- by whether the line refused: the calls have replies, but for the last one, which it refused
abbrev pub IsList : List Heard → Option LinkErr → Type 0
IsList list None = AllByRecursion HasReply list
IsList list (Some refusal) = IsCutOff list

-- a line that told this and has so many faults, with what was said on it
pub record IsSpoken (told : Option (List Heard)) (faults : ℕ) (list : List Heard) (refusal : Option LinkErr) : Type 0 where
  pub own : Told told (IsOwn list)
  pub fair : refusal ≡ None → Told told (λ own. list ≡ own)
  pub replies : IsList list refusal
  pub good : AreGood list
  -- a line that refused no call has no fault, and one that failed has
  pub faultless : refusal ≡ None → faults ≡ 0
  pub failed : refusal ≡ Some Failed → 0 < faults

-- why there is no room for a call: the line refused before, or memory is short
abbrev pub RefusesRoom : Option LinkErr → LinkErr → Type 0
RefusesRoom (Some refusal) error = error ≡ refusal
RefusesRoom None error = error ≡ Memory

-- what a call adds
abbrev pub Says : Call → Result (Unit {0}) LinkErr → List Heard → List Heard → Option LinkErr → Option LinkErr → Type 0
Says call (Ok done) before after refusal refusal' = ((reply : Reply) × (after ≡ before ++ heard call (Some reply) ∷ [])) × (refusal' ≡ refusal)
Says call (Err error) before after refusal refusal' = (after ≡ before ++ heard call None ∷ []) × (refusal' ≡ Some error)

-- the reply to the last call
abbrev pub IsLastReply : List Heard → Option Reply → Type 0
IsLastReply [] found = found ≡ None
IsLastReply (one ∷ []) found = found ≡ one.reply
IsLastReply (one ∷ other ∷ others) found = IsLastReply (other ∷ others) found
