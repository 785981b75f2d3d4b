-- What the routes of a question depend on.
use Rattle.orders.specs.declared.key.KeyOrder as KeyOrder
use Rattle.orders.specs.declared.ranker.Ranker as Ranker
use Rattle.ways.specs.declared.finder.WayFinder as WayFinder
use Rattle.routes.specs.Routings.{Routing, routing}
use Rattle.plancheck.specs.declared.question.Question.{Question}

abbrev pub routing_in : {W R K : Type 0} → WayFinder.Ghosts W → Ranker.Ghosts R K → KeyOrder.Ghosts K → Question W R → Routing
routing_in ways ranks keys q = routing ways ranks keys q.map.now q.finder.now q.ranker.now
