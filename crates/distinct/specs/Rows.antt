-- Rows of numbers: without a repetition, below a limit, falling.
use Rattle.std.specs.Prelude.{◌≡◌, ℕ, ◌<◌, ◌≤◌, Bool, true, false, ◌⊎◌, List, [], ◌∷◌, length, ◌≢◌}

-- x stands in the row
abbrev pub In : ℕ → List ℕ → Type 0
In x [] = ⊥
In x (y ∷ ys) = (x ≡ y) ⊎ In x ys

-- x does not stand in the row
abbrev pub Away : ℕ → List ℕ → Type 0
Away x [] = Unit {0}
Away x (y ∷ ys) = (x ≢ y) × Away x ys

-- no number stands twice
abbrev pub Apart : List ℕ → Type 0
Apart [] = Unit {0}
Apart (x ∷ xs) = Away x xs × Apart xs

-- P holds of each number
abbrev pub Each : (ℕ → Type 0) → List ℕ → Type 0
Each P [] = Unit {0}
Each P (x ∷ xs) = P x × Each P xs

abbrev pub Below : ℕ → List ℕ → Type 0
Below n xs = Each (λ x. x < n) xs

-- x stands above the first number of the row, and each number above the one after it
abbrev pub Above : (ℕ → ℕ → Bool) → ℕ → List ℕ → Type 0
Above rises x [] = Unit {0}
Above rises x (y ∷ ys) = (rises y x ≡ true) × Above rises y ys

abbrev pub Falling : (ℕ → ℕ → Bool) → List ℕ → Type 0
Falling rises [] = Unit {0}
Falling rises (x ∷ xs) = Above rises x xs

abbrev pub Irreflexive : (ℕ → ℕ → Bool) → Type 0
Irreflexive rises = (x : ℕ) → rises x x ≡ false

abbrev pub Transitive : (ℕ → ℕ → Bool) → Type 0
Transitive rises = (x y z : ℕ) → rises x y ≡ true → rises y z ≡ true → rises x z ≡ true

-- there are at most n different numbers below n
abbrev pub Pigeonhole : Type 0
Pigeonhole = (n : ℕ) (xs : List ℕ) → Below n xs → Apart xs → length xs ≤ n

-- f gives the numbers of which P holds different numbers below n
pub record Numbering (P : ℕ → Type 0) (f : ℕ → ℕ) (n : ℕ) : Type 0 where
  pub below : (x : ℕ) → P x → f x < n
  pub apart : (x y : ℕ) → P x → P y → f x ≡ f y → x ≡ y

-- so there are at most n different numbers of which P holds
abbrev pub Numbered-is-short : Type 1
Numbered-is-short = (P : ℕ → Type 0) (f : ℕ → ℕ) (n : ℕ) → Numbering P f n → (xs : List ℕ) → Each P xs → Apart xs → length xs ≤ n
