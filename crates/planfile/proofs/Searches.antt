-- A search for a table among the stops of a file.
use Rattle.std.proofs.Common.{◌≡◌, ℕ, zero, suc, ◌+◌, ◌-◌, ◌<◌, ◌≤◌, cond, eqb, List, Some, None, Option, sym, refl, ap, ◌∙◌, arith}
use Rattle.std.proofs.lemmas.Bool.{eq-eqb, ne_eqb}
use Rattle.std.specs.Option.{MatchOption}
use Rattle.planfile.specs.Plans.{stop_at, seek}

module _ (file : List ℕ) (table : ℕ) where
  step : (m i : ℕ) → 0 < m → seek file table m i ≡ cond (eqb (stop_at file i) table) (Some i) (seek file table (m - 1) (i + 1))
  unfolding seek
  step zero i h = absurd (omega arith)
  step (suc m) i h = let e : m ≡ suc m - 1 = omega arith in ap (λ j. cond (eqb (stop_at file i) table) (Some i) (seek file table j (i + 1))) e

  pub seek_here : (n i : ℕ) → i < n → stop_at file i ≡ table → seek file table (n - i) i ≡ Some i
  seek_here n i h e = step (n - i) i (omega arith) ∙ ap (λ b. cond b (Some i) (seek file table (n - i - 1) (i + 1))) (eq-eqb _ _ e)

  pub seek_on : (n i : ℕ) → i < n → (stop_at file i ≡ table → ⊥) → seek file table (n - i) i ≡ seek file table (n - (i + 1)) (i + 1)
  seek_on n i h e =
      let less : n - i - 1 ≡ n - (i + 1) = omega arith in
      step (n - i) i (omega arith)
      ∙ ap (λ b. cond b (Some i) (seek file table (n - i - 1) (i + 1))) (ne_eqb _ _ e)
      ∙ ap (λ j. seek file table j (i + 1)) less

  none : (i : ℕ) → seek file table 0 i ≡ None
  unfolding seek
  none i = refl

  pub seek_none : (n i : ℕ) → n ≤ i → seek file table (n - i) i ≡ None
  seek_none n i h = let done : n - i ≡ 0 = omega arith in ap (λ j. seek file table j i) done ∙ none i

  -- none of the first i stops is the table
  past : (n i : ℕ) → i ≤ n → ((k : ℕ) → k < i → stop_at file k ≡ table → ⊥) → seek file table n 0 ≡ seek file table (n - i) i
  past n zero h others = let e : n ≡ n - 0 = omega arith in ap (λ j. seek file table j 0) e
  past n (suc i) h others =
      let next : i + 1 ≡ suc i = omega arith in
      past n i (omega arith) (λ k l. others k (omega arith)) ∙ seek_on n i (omega arith) (others i (omega arith))
      ∙ ap (λ j. seek file table (n - j) j) next

  pub seek_finds : (n i : ℕ) → i < n → stop_at file i ≡ table → ((k : ℕ) → k < i → stop_at file k ≡ table → ⊥) → seek file table n 0 ≡ Some i
  seek_finds n i h e others = past n i (omega arith) others ∙ seek_here n i h e

  pub seek_fails : (n : ℕ) → ((k : ℕ) → k < n → stop_at file k ≡ table → ⊥) → seek file table n 0 ≡ None
  seek_fails n others = past n n (omega arith) others ∙ seek_none n n (omega arith)

  -- the first stop that is the table, or none
  pub searched : (n end : ℕ) (r : Option ℕ) → end ≡ n
      → MatchOption r ((k : ℕ) → 0 ≤ k → k < end → stop_at file k ≡ table → ⊥) (λ i. (0 ≤ i) × (i < end) × (stop_at file i ≡ table) × ((k : ℕ) → 0 ≤ k → k < i → stop_at file k ≡ table → ⊥))
      → r ≡ seek file table n 0
  searched n end None e none = sym (seek_fails n (λ k h. none k (omega arith) (omega arith)))
  searched n end (Some i) e here = sym (seek_finds n i (omega (arith, here.1)) here.2 (λ k h. here.3 k (omega arith) h))
