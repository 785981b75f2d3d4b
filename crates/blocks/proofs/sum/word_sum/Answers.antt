use Rattle.std.proofs.Common.{◌≡◌, ◌/◌, map, length, refl, arith, rules}
use Rattle.std.specs.List.{fold}
use Rattle.std.specs.Int.{from_be_bytes, w32}
use Rattle.std.specs.Simd.{first_chunks}
use Rattle.std.proofs.iter.runs.Made.{chains}
use Rattle.blocks.proofs.Sums.{added, sum_of_words, one_byte}
use Rattle.blocks.proofs.sum.word_sum.Goals as goal

pub returns-clause-is : goal.returns-clause-is
returns-clause-is c =
    let block = c.args.block.now in
    let summed : c.fold.result ≡ fold added 0 (map (from_be_bytes w32) (first_chunks 4 (length block / 4) block)) = search (rules, chains) in
    let all = sum_of_words (length block / 4) block 0 refl (omega arith) in
    omega arith

pub returns-clause-tells : goal.returns-clause-tells
returns-clause-tells c = λ i n d long bytes only same. one_byte i n c.args.block.now d (λ k. (c.type_inv.block k).fits) bytes long only same
