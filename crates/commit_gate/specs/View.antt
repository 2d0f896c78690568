-- How the fields of a gate are seen.
use Rattle.commit_gate.specs.declared.gate.Gate.TheInside.{Inside}
use Rattle.commit_gate.specs.Gates.{GateView}

abbrev pub view_of : Inside → GateView
view_of a = record { facts = a.facts; mode = a.mode; started = a.started.items; answered = a.answered.items }
