-- Where a script begins: no map, no plan, no floor, and nothing counted.
use Rattle.std.specs.Prelude.{None}
use Rattle.engine.specs.declared.session.Session.{Session}
use Rattle.engine.specs.Tallies.{none_yet}

abbrev pub new_session : Session
new_session = record { store = record { map = None; plan = None; floor = None }; tally = none_yet }
