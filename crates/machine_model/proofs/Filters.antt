-- A list of lemmas that a function names: tests of items that pass a test.
use Rattle.found_rows.proofs.Adding.{any_filter}

pub ruleset filters = (any_filter)
