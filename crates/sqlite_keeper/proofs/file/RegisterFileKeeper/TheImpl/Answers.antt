use Rattle.std.proofs.Common.{ap, refl}
use Rattle.desk_files.proofs.DeviceLaws.{Counts-of}
use Rattle.run_register.specs.Register.{KeeperCounts, keeper_ending}
use Rattle.sqlite_keeper.proofs.file.RegisterFileKeeper.TheImpl.Goals as goal

pub get-tells : goal.get-tells
get-tells g c = record { says = tt; runs = refl; divergences = refl; faults = Counts-of (keeper_ending c.result) c.args.self.now.faults c.new.self.now.faults (ap (λ (s : KeeperCounts). s.faults) c.ensures); closes = ap (λ (s : KeeperCounts). s.closes) c.ensures }

pub add-tells : goal.add-tells
add-tells g c = record { says = tt; runs = refl; divergences = refl; faults = Counts-of (keeper_ending c.result) c.args.self.now.faults c.new.self.now.faults (ap (λ (s : KeeperCounts). s.faults) c.ensures); closes = ap (λ (s : KeeperCounts). s.closes) c.ensures }

pub all-tells : goal.all-tells
all-tells g c = record { says = tt; runs = refl; divergences = refl; faults = Counts-of (keeper_ending c.result) c.args.self.now.faults c.new.self.now.faults (ap (λ (s : KeeperCounts). s.faults) c.ensures); closes = ap (λ (s : KeeperCounts). s.closes) c.ensures }

pub accept-tells : goal.accept-tells
accept-tells g c = record { runs = refl; divergences = refl; faults = Counts-of (keeper_ending c.result) c.args.self.now.faults c.new.self.now.faults (ap (λ (s : KeeperCounts). s.faults) c.ensures); closes = ap (λ (s : KeeperCounts). s.closes) c.ensures }

pub accepted-tells : goal.accepted-tells
accepted-tells g c = record { says = tt; runs = refl; divergences = refl; faults = Counts-of (keeper_ending c.result) c.args.self.now.faults c.new.self.now.faults (ap (λ (s : KeeperCounts). s.faults) c.ensures); closes = ap (λ (s : KeeperCounts). s.closes) c.ensures }

pub close-tells : goal.close-tells
close-tells g c = record { runs = refl; divergences = refl; faults = Counts-of (keeper_ending c.result) c.args.self.now.faults c.new.self.now.faults (ap (λ (s : KeeperCounts). s.faults) c.ensures); closes = ap (λ (s : KeeperCounts). s.closes) c.ensures }
