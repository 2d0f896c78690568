-- Pairs of captured and replayed ids while a capture is replayed.
use Rattle.std.specs.Prelude.{◌≢◌, ◌⊎◌, ℕ, List}
use Rattle.std.specs.List.{AllByRecursion}
use Rattle.desk_values.specs.declared.value.Value.{Value}
use Rattle.desk_values.specs.declared.value.Image.{Image}
use Rattle.desk_values.specs.declared.call.Reply.{Reply}
use Rattle.desk_values.specs.declared.capture.Captured.{Captured}
use Rattle.server_words.specs.State.{State}
use Rattle.replay_history.specs.Capture.{IsGivenBy, StandsIn}
use Rattle.replay_history.specs.Gap.{IsCallAt}
use Rattle.id_pairs.specs.Ids.{id_value}
use Rattle.id_pairs.specs.Pairs.{IdPair}
use Rattle.law_ids.specs.Counters.{IsPassed}

-- the id stands in the rows, or a call with another stamp than this gave it
abbrev pub IsGivenElsewhere : List Image → List Captured → ℕ → Value → Type 0
IsGivenElsewhere rows calls k id = StandsIn rows id
    ⊎ ((j : ℕ) × (call : Captured) × (j ≢ k) × IsCallAt calls j call × IsGivenBy id call.reply)

-- no captured id of the pairs is one that the call with this stamp gave, and the server gives out none of the replayed ids any more
pub record AreFromElsewhere (rows : List Image) (calls : List Captured) (k : ℕ) (state : State) (pairs : List IdPair) : Type 0 where
  pub captured : AllByRecursion (λ pair. IsGivenElsewhere rows calls k (id_value pair.0)) pairs
  pub replayed : AllByRecursion (λ pair. IsPassed state (id_value pair.1)) pairs

-- the first ids of the pairs were given by the one reply, and the second ones by the other
abbrev pub AreGivenBy : Reply → Reply → List IdPair → Type 0
AreGivenBy captured replayed pairs = AllByRecursion
    (λ pair. IsGivenBy (id_value pair.0) captured × IsGivenBy (id_value pair.1) replayed) pairs
