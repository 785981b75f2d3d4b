-- Reading digits with a cap comes to the cap of what they are worth.
use Rattle.std.proofs.Common.{◌≡◌, ℕ, ◌+◌, ◌-◌, ◌*◌, Bool, true, false, cond, List, [], ◌∷◌, length, Some, None, Option, refl, ap, ◌∙◌, arith}
use Rattle.std.specs.Char.{is_ascii_digit}
use Rattle.std.proofs.lemmas.Bool.Decides.{nat_tests}
use Rattle.script.specs.Numbers.{read_on, number_of, at_most_over, capped}

-- as the loop reads: the cap is put on after each digit
abbrev pub capped_on : ℕ → List ℕ → Option ℕ
capped_on n [] = Some n
capped_on n (b ∷ bs) = cond (is_ascii_digit b) (capped_on (at_most_over (10 * n + (b - 48))) bs) None

cap_cap : (n d : ℕ) → at_most_over (10 * at_most_over n + d) ≡ at_most_over (10 * n + d)
cap_cap n d = grind (arith, nat_tests)

by_digit : (t : Bool) (n d : ℕ) (bs : List ℕ)
    → capped_on (at_most_over (10 * n + d)) bs ≡ capped (read_on (10 * n + d) bs)
    → cond t (capped_on (at_most_over (10 * at_most_over n + d)) bs) None ≡ capped (cond t (read_on (10 * n + d) bs) None)
by_digit true n d bs h = ap (λ k. capped_on k bs) (cap_cap n d) ∙ h
by_digit false n d bs h = refl

pub cap_on : (n : ℕ) (bs : List ℕ) → capped_on (at_most_over n) bs ≡ capped (read_on n bs)
cap_on n [] = refl
cap_on n (b ∷ bs) = by_digit (is_ascii_digit b) n (b - 48) bs (cap_on (10 * n + (b - 48)) bs)

pub begins : (bs : List ℕ) → (length bs ≡ 0 → ⊥) → capped_on 0 bs ≡ capped (number_of bs)
begins [] h = elim (h refl) [ ]
begins (b ∷ bs) h = cap_on 0 (b ∷ bs)
