-- What becomes of the host, the keeper and the dial, by its parts, some of which a proof may leave open.
use Rattle.std.proofs.Common.{ℕ, List, Option}
use Rattle.desk_files.specs.Hosts.{Connections, Handed}
use Rattle.register_work.specs.Keeping.{Keeping}
use Rattle.remote_link.specs.declared.heard.Heard.{Heard}
use Rattle.remote_link.specs.Dials.{DialAccount}
use Rattle.replay_cli.specs.Hosting.{Dialling, Hosting}

abbrev pub dialling_of : Option (List (List Heard)) → Option (List (List Heard)) → DialAccount → DialAccount → Dialling
dialling_of before after counts_before counts_after = record { before = before; after = after; counts_before = counts_before; counts_after = counts_after }

abbrev pub hosting_of : Option Connections → Option Connections → ℕ → ℕ → Handed → Handed → Keeping → Dialling → Hosting
hosting_of before after faults_before faults_after handed_before handed_after keeper dial =
    record { before = before; after = after; faults_before = faults_before; faults_after = faults_after; handed_before = handed_before; handed_after = handed_after; keeper = keeper; dial = dial }
