use Rattle.map.specs.Layouts.{layout}
use Rattle.planwriter.specs.Files.{source_of}
use Rattle.planwriter.proofs.Pieces.{Standing}
use Rattle.planwriter.proofs.write.write.Given as goal

abbrev pub invariant-loop-k : goal.invariant-loop-k
invariant-loop-k g l =
    Standing (source_of (layout l.fn.map) (g.W.WayFinder.first l.fn.finder) (g.W.WayFinder.way l.fn.finder) l.fn.keys) l.initial.buffer l.buffer l.k
