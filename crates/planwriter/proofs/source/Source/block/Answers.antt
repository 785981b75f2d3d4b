use Rattle.std.proofs.Common.{◌≡◌, ◌+◌, ◌-◌, ◌++◌, [], ◌∷◌, List, ℕ, length, take, map, sym, ap, ◌∙◌, rules, tests, length-append}
use Rattle.std.proofs.lemmas.List.{take_at}
use Rattle.std.specs.List.{range_with_len}
use Rattle.blocks.specs.Words.{word_sum, big_endian}
use Rattle.planwriter.specs.Files.{Source, block_byte, block_of}
use Rattle.planwriter.specs.Written.{source_in}
use Rattle.arrays.proofs.Made.{made}
use Rattle.planwriter.proofs.Pieces.{closed_block}
use Rattle.planwriter.proofs.source.Source.block.Goals as goal

pub returns : goal.returns
returns g c =
    let source : Source = source_in g.W.WayFinder c.args.self.now in
    let content = c.content_of-content.result in
    let front = c.from_fn-front.result in
    let items = c.from_fn-front.ensures.items in
    let long : length front ≡ 508 = items.long in
    let is : front ≡ map (block_byte source content c.args.number) (range_with_len 0 508) = made _ _ (block_byte source content c.args.number) (λ i y q called. search (rules, tests)) front 508 0 items in
    let sum : c.word_sum.result ≡ word_sum front = search rules in
    let zeros : List ℕ = 0 ∷ 0 ∷ 0 ∷ 0 ∷ [] in
    let put = c.copy_from_slice.new.self in
    let same : put ≡ front = c.copy_from_slice.ensures.after in
    let size : length put ≡ 508 = ap length same ∙ long in
    let kept : take 508 (put ++ zeros) ≡ front = take_at put zeros 508 size ∙ same in
    closed_block source content c.args.number (put ++ zeros) c.copy_from_slice-2.new.self (length-append put zeros ∙ ap (λ n. n + 4) size)
    (kept ∙ is)
    (c.copy_from_slice-2.ensures.after ∙ c.to_be_bytes-last.ensures ∙ ap (λ l. big_endian (4294967295 - l)) (sum ∙ ap word_sum (sym kept)))
    ∙ ap (λ x. block_of source x c.args.number) c.content_of-content.ensures
