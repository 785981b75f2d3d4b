use Rattle.std.proofs.Common.{◌≡◌, ◌+◌, ◌*◌, ◌++◌, length, drop, ap, ◌∙◌, arith}
use Rattle.map.specs.Layouts.{layout}
use Rattle.map.proofs.Rules.{map_lawful}
use Rattle.planwriter.specs.Stops.{stops_of}
use Rattle.planwriter.specs.Files.{Source, file_of, source_of}
use Rattle.planwriter.proofs.Pieces.{block_moved, standing_more, standing_all}
use Rattle.planwriter.proofs.Sources.{sound}
use Rattle.planwriter.proofs.Layouts.{of_layout}
use Rattle.planwriter.proofs.Readings.{read_back}
use Rattle.planwriter.proofs.Rewriting.{file_again}
use Rattle.planwriter.proofs.write.write.Goals as goal

pub loop-k-preserved : goal.loop-k-preserved
loop-k-preserved g c =
    let source : Source = source_of (layout c.args.map.now) (g.W.WayFinder.first c.args.finder.now) (g.W.WayFinder.way c.args.finder.now) c.args.keys.now in
    let kept = c.loop-k.auto.buffer in
    let whole = rw c.in_ok-keys.ensures.ok_part at c.as_array.ensures.cases in
    let own = c.new-source.ensures in
    let count = c.block_count-length.ensures.is ∙ ap (λ m. length (stops_of (layout m)) + 9) own.map in
    let block = block_moved g.W.WayFinder.first g.W.WayFinder.way c.loop-k.k (ap layout own.map) own.finder (own.keys ∙ whole.same) (c.copy_from_slice.ensures.after ∙ c.block.ensures) in
    standing_more source c.args.buffer.now c.loop-k.buffer c.copy_from_slice.new.self c.loop-k.k (omega arith) (omega arith) block c.loop-k.invariant

pub returns-clause-later : goal.returns-clause-later
returns-clause-later g c =
    let source : Source = source_of (layout c.args.map.now) (g.W.WayFinder.first c.args.finder.now) (g.W.WayFinder.way c.args.finder.now) c.args.keys.now in
    let own = c.new-source.ensures in
    let count = c.block_count-length.ensures.is ∙ ap (λ m. length (stops_of (layout m)) + 9) own.map in
    let ends = c.block_count-k-end.ensures.is ∙ ap (λ m. length (stops_of (layout m)) + 9) own.map in
    let all : c.loop-k.k ≡ length (stops_of (layout c.args.map.now)) + 9 = omega arith in
    let end : 512 * c.loop-k.k ≡ 512 * c.block_count-length.result = omega arith in
    standing_all source c.args.buffer.now c.loop-k.buffer c.loop-k.k all c.loop-k.invariant ∙ ap (λ n. file_of source ++ drop n c.args.buffer.now) end

pub returns-clause-layout : goal.returns-clause-layout
returns-clause-layout g c =
    of_layout _ (sound (layout c.args.map.now) (g.W.WayFinder.first c.args.finder.now) (g.W.WayFinder.way c.args.finder.now) c.args.keys.now (map_lawful c.args.map.now) (λ s. (c.type_inv.keys s).fits))

pub returns-clause-back : goal.returns-clause-back
returns-clause-back g c =
    read_back _ (sound (layout c.args.map.now) (g.W.WayFinder.first c.args.finder.now) (g.W.WayFinder.way c.args.finder.now) c.args.keys.now (map_lawful c.args.map.now) (λ s. (c.type_inv.keys s).fits))

pub returns-clause-again : goal.returns-clause-again
returns-clause-again g c = λ file bytes plan same. file_again (layout c.args.map.now) (g.W.WayFinder.first c.args.finder.now) (g.W.WayFinder.way c.args.finder.now) c.args.keys.now file bytes plan same
