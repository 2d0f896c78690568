-- When two views are one but for ids.
pub use Rattle.replay_walk.specs.Twins.{AreTwinPoints, AreTwins}
