-- Lists of lemmas that functions name: how faults and tests add up along a list.
use Rattle.found_rows.proofs.Adding.{any_fault_none, any_filtered, faults_over_none, front, joined_none, none_joined, none_left, row_faults_more}

pub ruleset filtered = (any_filtered)

pub ruleset row_sums = (row_faults_more, front, none_left, none_joined, joined_none, faults_over_none)

pub ruleset total_sums = (none_left, none_joined, joined_none, any_fault_none)
