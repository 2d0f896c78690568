-- What becomes in a command of the host, of the keeper and of the dial, as far as they tell.
use Rattle.std.specs.Prelude.{◌≡◌, ℕ, List, Option}
use Rattle.desk_files.specs.Outside.{Answered}
use Rattle.desk_files.specs.Hosts.{Connections, Handed, HostAccount}
use Rattle.run_register.specs.Register.{KeeperAccount}
use Rattle.register_work.specs.Keeping.{KeepsAll, Keeping, keeping}
use Rattle.remote_link.specs.declared.heard.Heard.{Heard}
use Rattle.remote_link.specs.Dials.{DialAccount}

-- what was said on the lines that a dial was given back, and all that it gives account of
pub record Dialling : Type 0 where
  pub before : Option (List (List Heard))
  pub after : Option (List (List Heard))
  pub counts_before : DialAccount
  pub counts_after : DialAccount

abbrev pub dialling : DialAccount → DialAccount → Dialling
dialling before after = record { before = before.content; after = after.content; counts_before = before; counts_after = after }

-- the connections of the host, its count of faults, what it handed out, the keeper and the dial
pub record Hosting : Type 0 where
  pub before : Option Connections
  pub after : Option Connections
  pub faults_before : ℕ
  pub faults_after : ℕ
  pub handed_before : Handed
  pub handed_after : Handed
  pub keeper : Keeping
  pub dial : Dialling

-- by what they give account of before and after
abbrev pub hosting : HostAccount → HostAccount → KeeperAccount → KeeperAccount → DialAccount → DialAccount → Hosting
hosting host host' keeper keeper' dial dial' =
    record { before = host.content; after = host'.content; faults_before = host.faults; faults_after = host'.faults; handed_before = host.handed; handed_after = host'.handed; keeper = keeping keeper keeper'; dial = dialling dial dial' }

-- no call of the host or of the keeper failed
abbrev pub HasNoFault : Hosting → Type 0
HasNoFault h = (h.faults_after ≡ h.faults_before) × (h.keeper.faults_after ≡ h.keeper.faults_before)

-- the host was not asked
abbrev pub IsHostUnasked : Hosting → Type 0
IsHostUnasked h = (h.after ≡ h.before) × (h.faults_after ≡ h.faults_before) × (h.handed_after ≡ h.handed_before)

-- what the keeper tells is as before, and no call of it failed
abbrev pub IsKeeperUntouched : Hosting → Type 0
IsKeeperUntouched h = KeepsAll h.keeper Answered

-- the dial was not asked
abbrev pub IsDialUnasked : Hosting → Type 0
IsDialUnasked h = (h.dial.after ≡ h.dial.before) × (h.dial.counts_after ≡ h.dial.counts_before)

-- all are as if they had not been asked
abbrev pub IsUnasked : Hosting → Type 0
IsUnasked h = IsHostUnasked h × IsKeeperUntouched h × IsDialUnasked h

-- what the keeper tells is as before
abbrev pub HasKept : Hosting → Type 0
HasKept h = (h.keeper.runs_after ≡ h.keeper.runs_before) × (h.keeper.divergences_after ≡ h.keeper.divergences_before)
