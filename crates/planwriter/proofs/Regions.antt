-- A byte and the rule for it, by the part of the block that its place lies in: the part's own number at 4, zeros, the content up to place n, and zeros.
use Rattle.std.proofs.Common.{◌≡◌, ℕ, ◌+◌, ◌<◌, ◌≤◌, Bool, true, ◌&&◌, cond, eqb, leb, ltb, arith}
use Rattle.std.proofs.lemmas.Bool.Decides.{nat_tests}

pub written_fits : (n p byte own content : ℕ) (fits : Bool) → byte ≡ cond (ltb p 5) own (cond (ltb p 8) 0 (cond (ltb p n) content 0)) → (8 ≤ p → p < n → byte ≡ content → fits ≡ true)
    → cond (ltb p 5) (eqb byte own) (cond (ltb p 8) (eqb byte 0) (cond (ltb p n) fits (eqb byte 0))) ≡ true
written_fits n p byte own content fits is rule = grind (arith, nat_tests)

pub fitting_written : (n p byte own content : ℕ) (fits : Bool) → cond (ltb p 5) (eqb byte own) (cond (ltb p 8) (eqb byte 0) (cond (ltb p n) fits (eqb byte 0))) ≡ true → (8 ≤ p → p < n → content ≡ byte)
    → cond (ltb p 5) own (cond (ltb p 8) 0 (cond (ltb p n) content 0)) ≡ byte
fitting_written n p byte own content fits rule is = grind (arith, nat_tests)

-- the head: width, height and number of stops at 4, 5 and 6, the stops from 8 on
pub head_written_fits : (p byte w h n stop : ℕ) (fits : Bool) → byte ≡ cond (ltb p 5) w (cond (ltb p 6) h (cond (ltb p 7) n (cond (ltb p 8) 0 stop))) → (1 ≤ w) × (w ≤ 16) → (1 ≤ h) × (h ≤ 16) → n ≤ 64
    → (8 ≤ p → p < 8 + n → fits ≡ true) → (8 + n ≤ p → stop ≡ 0)
    → cond (ltb p 6) (leb 1 byte && leb byte 16) (cond (ltb p 7) (leb byte 64) (cond (ltb p 8) (eqb byte 0) (cond (ltb p (8 + n)) fits (eqb byte 0)))) ≡ true
head_written_fits p byte w h n stop fits is wide high few rule past = grind (arith, nat_tests)

pub head_fitting_written : (p byte w h m n stop : ℕ) (size few fits : Bool) → cond (ltb p 6) size (cond (ltb p 7) few (cond (ltb p 8) (eqb byte 0) (cond (ltb p (8 + n)) fits (eqb byte 0)))) ≡ true → 4 ≤ p
    → (p ≡ 4 → w ≡ byte) → (p ≡ 5 → h ≡ byte) → (p ≡ 6 → m ≡ byte) → (8 ≤ p → p < 8 + n → stop ≡ byte) → (8 + n ≤ p → stop ≡ 0)
    → cond (ltb p 5) w (cond (ltb p 6) h (cond (ltb p 7) m (cond (ltb p 8) 0 stop))) ≡ byte
head_fitting_written p byte w h m n stop size few fits rule low wide high count at past = grind (arith, nat_tests)
