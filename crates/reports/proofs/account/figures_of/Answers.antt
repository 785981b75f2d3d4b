use Rattle.std.proofs.Common.{rules, ◌≡◌, ◌∙◌}
use Rattle.std.proofs.lemmas.Iterator.{YieldsList-from_range}
use Rattle.std.proofs.lemmas.Iterator.Consumers.{YieldsList-from_filter, count_from_yields_List}
use Rattle.std.proofs.lemmas.List.Sums.{length-filter}
use Rattle.std.specs.List.{range_with_len}
use Rattle.map.specs.Layouts.{layout, table_closed, segment_closed}
use Rattle.reports.specs.Numbers.{how_many_below}
use Rattle.reports.proofs.account.figures_of.Goals as goal

-- what each chain counts
pub returns : goal.returns
unfolding how_many_below
returns c =
    let m = layout c.args.map.now in
    let tables : c.count.result ≡ how_many_below (table_closed m) 256 = count_from_yields_List _ _ c.count.ensures.ran (YieldsList-from_filter _ (table_closed m) (YieldsList-from_range 0 256 256 c.filter.ensures.source cc) c.filter.ensures.closure (λ x b q k. search rules)) ∙ length-filter (table_closed m) (range_with_len 0 256) in
    let segments : c.count-2.result ≡ how_many_below (segment_closed m) 1024 = count_from_yields_List _ _ c.count-2.ensures.ran (YieldsList-from_filter _ (segment_closed m) (YieldsList-from_range 0 1024 1024 c.filter-2.ensures.source cc) c.filter-2.ensures.closure (λ x b q k. search rules)) ∙ length-filter (segment_closed m) (range_with_len 0 1024) in
    search (rules, tables, segments)
