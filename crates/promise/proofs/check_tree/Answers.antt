use Rattle.std.proofs.Common.{is_ok, sym, ap, ◌∙◌}
use Rattle.map.specs.Layouts.{layout}
use Rattle.plancheck.specs.Plans.{plan_check}
use Rattle.tree.specs.Finders.{way_by, key_by}
use Rattle.map.proofs.Rules.{map_lawful}
use Rattle.promise.proofs.Trees.{tree_plan, tree_passes}
use Rattle.promise.proofs.check_tree.Goals as goal

pub returns : goal.returns
returns c =
    let m = c.args.map.now in
    let w = c.new-tree.result in
    let told = c.check.ensures.is ∙ ap plan_check (tree_plan (layout m) (way_by w) (key_by w) c.new-tree.ensures.ways c.new-tree.ensures.keys) in
    let both = tree_passes (layout m) (map_lawful m) in
    record { is = told; joined = (λ e. both.0 (sym (ap is_ok told) ∙ e), λ all. ap is_ok told ∙ both.1 all) }
