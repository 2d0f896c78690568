-- A list of lemmas that functions name: nothing is put.
use Rattle.machine_stores.proofs.Storing.{put_nothing}

pub ruleset puts = (put_nothing)
