-- The examples hold, by computing both sides.
use Rattle.std.proofs.Common.{refl}
use Rattle.routes.specs.Steps.{steps}
use Rattle.links.specs.Links.{near}
use Rattle.links.specs.Distances.{has, put, around, beyond, layer_of, distance}
use Rattle.links.specs.Trees.{first_of, lowest, root_of, depth_of, depth, up_side, parent_side, parent_of}
use Rattle.links.specs.Ways.{child_on, way_over, tree_way, key_over, tree_key}
use Rattle.planfile.specs.Layouts.{all_from}
use Rattle.planfile.specs.Outcomes.{first_from}
use Rattle.planfile.specs.Plans.{seek}
use Rattle.planwriter.specs.Files.{block_of, blocks_from}
use Rattle.planwriter.specs.Stops.{stops_from}
use Rattle.examples.specs.Table.{examples, AllHold}

pub all_hold : AllHold examples
unfolding steps near has put around beyond layer_of distance first_of lowest root_of depth_of depth up_side parent_side parent_of child_on way_over tree_way key_over tree_key seek all_from first_from block_of blocks_from stops_from
all_hold = (refl, (refl, (refl, (refl, (refl, (refl, (refl, (refl, (refl, (refl, (refl, (refl, (refl, (refl, (refl, (refl, (refl, (refl, tt))))))))))))))))))
