-- What a closed rig did.
use Rattle.rig.specs.Worlds.{State, flights}
use Rattle.rig.specs.declared.summary.Summary.{Summary}

abbrev pub summed : State → Summary
summed r = record { events = r.events; items = r.items; steps = r.steps; in_flight = flights r }
