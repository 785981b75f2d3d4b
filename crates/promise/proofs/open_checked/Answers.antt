use Rattle.std.proofs.Common.{rules}
use Rattle.routes.proofs.Limits.{proper}
use Rattle.promise.proofs.Passes.{flows}
use Rattle.promise.proofs.Trees.{every_tree_passes}
use Rattle.promise.proofs.open_checked.Goals as goal

pub returns : goal.returns
returns g c =
    let right = proper g.W.WayFinder g.R.Ranker g.R.Key.KeyOrder g.met.R.Key.KeyOrder.irreflexive g.met.R.Key.KeyOrder.transitive c.args.map c.args.finder c.args.ranker.now in
    record { floor = search rules; verdict = search rules; tree = every_tree_passes; flows = flows _ right }
