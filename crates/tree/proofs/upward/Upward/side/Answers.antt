use Rattle.std.proofs.Common.{◌≡◌, rules}
use borrow.Author.Tests.{tests}
use Rattle.std.proofs.lemmas.Iterator.{YieldsList-from_slice}
use Rattle.std.proofs.lemmas.Iterator.Consumers.{YieldsList-from_copied}
use Rattle.std.proofs.lemmas.Iterator.Search.{find_from_yields_List}
use Rattle.std.specs.List.{find}
use Rattle.std.specs.Option.{option_map}
use Rattle.map.specs.Layouts.{layout}
use Rattle.links.specs.Links.{near}
use Rattle.links.specs.Trees.{leads_up, up_side}
use Rattle.tree.specs.Growths.{depth_in}
use Rattle.tree.proofs.Firsts.{first_found}
use Rattle.tree.proofs.Spreads.{sides}
use Rattle.tree.proofs.upward.Upward.side.Goals as goal

pub returns : goal.returns
unfolding up_side
returns c =
    let up = leads_up (near (layout c.args.self.now.map.now)) (depth_in c.args.self.now.growth.now) c.args.table in
    let found : option_map (λ s. s) c.find.result ≡ find up sides =
    find_from_yields_List {v = λ s. s} up _ _ c.find.result c.find.ensures.ran (YieldsList-from_copied (YieldsList-from_slice sides (cc))) (λ s b q k. search (rules, tests)) in
    let is = first_found up sides in
    search rules
