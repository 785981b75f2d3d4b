-- Where the bytes of a block stand in the file.
use Rattle.std.proofs.Common.{◌≡◌, ℕ, ◌+◌, ◌-◌, ◌*◌, ◌<◌, ◌≤◌, List, get_or, drop, ap, ◌∙◌, arith}
use Rattle.std.proofs.lemmas.List.{get_or-take, get_or-drop}
use Rattle.planfile.specs.Layouts.{in_body}
use Rattle.planfile.specs.Outcomes.{block_at}

pub at_block : (file : List ℕ) (k p : ℕ) → p < 512 → get_or (block_at file k) p 0 ≡ get_or file (512 * k + p) 0
at_block file k p h = get_or-take 512 (drop (512 * k) file) p 0 h ∙ get_or-drop (512 * k) file p 0

pub in_block : (file : List ℕ) (k p : ℕ) → 4 ≤ p → p < 512 → in_body (drop 4 (block_at file k)) p ≡ get_or file (512 * k + p) 0
in_block file k p low high =
    let at : 4 + (p - 4) ≡ p = omega arith in
    get_or-drop 4 (block_at file k) (p - 4) 0 ∙ ap (λ q. get_or (block_at file k) q 0) at ∙ at_block file k p high
