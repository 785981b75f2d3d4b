-- What a source has to be written.
use Rattle.map.specs.Layouts.{layout}
use Rattle.ways.specs.declared.finder.WayFinder as WayFinder
use Rattle.planwriter.specs.declared.source.Source as writer
use Rattle.planwriter.specs.Files.{Source, source_of}

-- its map, its way-finder's two functions, and its keys
abbrev pub source_in : {W : Type 0} → WayFinder.Ghosts W → writer.Source W → Source
source_in ways s = source_of (layout s.map.now) (ways.first s.finder.now) (ways.way s.finder.now) s.keys.now
