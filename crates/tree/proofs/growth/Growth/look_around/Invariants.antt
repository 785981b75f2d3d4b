use Rattle.std.proofs.Common.{ℕ, ◌<◌, get_or}
use Rattle.map.specs.declared.side.Side.TheVariants.{North}
use Rattle.map.specs.Layouts.{layout}
use Rattle.tree.specs.Growths.{Spreading, Seen, Kept}
use Rattle.tree.proofs.growth.Growth.look_around.Given as goal

abbrev pub invariant-loop-side : goal.invariant-loop-side
invariant-loop-side l = record {
  spreading : Spreading (layout l.map) l.root l.place l.self;
  kept : Kept l.fn.self l.self;
  seen : (k : ℕ) → k < l.side-index → Seen (layout l.map) l.root l.place (get_or l.side-items k North) l.self;
}
