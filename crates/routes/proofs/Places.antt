-- At most 960 segments exist: each has a number of its own below 960.
use Rattle.std.proofs.Common.{◌≡◌, ℕ, ◌+◌, ◌-◌, ◌*◌, ◌/◌, ◌%◌, ◌<◌, ◌≤◌, Bool, true, false, cond, ltb, Some, None, Option, sym, refl, ◌∙◌, inl, inr, arith}
use Rattle.std.proofs.lemmas.Bool.{cases_eq, ltb-true, and_parts}
use Rattle.map.specs.declared.side.Side.{Side}
use Rattle.map.specs.declared.side.Side.TheVariants.{North, East, South, West}
use Rattle.map.specs.Sides.{side_number, side_of}
use Rattle.map.specs.Floors.{column, row, on_floor, step_to, beside, head_of}
use Rattle.distinct.specs.Rows.{Numbering}

-- the segment exists
abbrev pub Exists : ℕ → ℕ → ℕ → Type 0
Exists w h q = (u : ℕ) × (head_of w h q ≡ Some u)

some_not_none : (x : Option ℕ) (u : ℕ) → x ≡ Some u → x ≡ None → ⊥
some_not_none x u p q = let z : ◌≡◌ {A = ℕ} 0 1 = cc in omega arith

-- something comes of a test that gives nothing where it fails
test_held : (b : Bool) (x : Option ℕ) (u : ℕ) → cond b x None ≡ Some u → (b ≡ true) × (x ≡ Some u)
test_held true x u e = (refl, e)
test_held false x u e = absurd (some_not_none _ u e refl)

-- eastward and westward segments have 15 places to a row, the others 16 to each of 15 rows
abbrev place : Side → ℕ → ℕ → ℕ
place East c r = 15 * r + c
place West c r = 240 + 15 * r + (c - 1)
place South c r = 480 + 16 * r + c
place North c r = 720 + 16 * (r - 1) + c

-- the neighbour is on the floor
abbrev Inside : Side → ℕ → ℕ → Type 0
Inside East c r = c < 15
Inside West c r = 0 < c
Inside South c r = r < 15
Inside North c r = 0 < r

place_small : (side : Side) (c r : ℕ) → c < 16 → r < 16 → Inside side c r → place side c r < 960
place_small East c r x y i = omega arith
place_small West c r x y i = omega arith
place_small South c r x y i = omega arith
place_small North c r x y i = omega arith

place_once : (s z : Side) (c r d q : ℕ) → c < 16 → r < 16 → d < 16 → q < 16 → Inside s c r → Inside z d q → place s c r ≡ place z d q → 64 * r + 4 * c + side_number s ≡ 64 * q + 4 * d + side_number z
place_once East East c r d q a b e f i j p = omega arith
place_once East West c r d q a b e f i j p = omega arith
place_once East South c r d q a b e f i j p = omega arith
place_once East North c r d q a b e f i j p = omega arith
place_once West East c r d q a b e f i j p = omega arith
place_once West West c r d q a b e f i j p = omega arith
place_once West South c r d q a b e f i j p = omega arith
place_once West North c r d q a b e f i j p = omega arith
place_once South East c r d q a b e f i j p = omega arith
place_once South West c r d q a b e f i j p = omega arith
place_once South South c r d q a b e f i j p = omega arith
place_once South North c r d q a b e f i j p = omega arith
place_once North East c r d q a b e f i j p = omega arith
place_once North West c r d q a b e f i j p = omega arith
place_once North South c r d q a b e f i j p = omega arith
place_once North North c r d q a b e f i j p = omega arith

-- a segment by its side and the column and row of its table
record Spot (q : ℕ) : Type 0 where
  column_small : column (q / 4) < 16
  row_small : row (q / 4) < 16
  inside : Inside (side_of (q % 4)) (column (q / 4)) (row (q / 4))
  is : q ≡ 64 * row (q / 4) + 4 * column (q / 4) + side_number (side_of (q % 4))

side_again : (n : ℕ) → n < 4 → side_number (side_of n) ≡ n
side_again n l =
    elim (cases_eq n 0) [
      | inl e ↦ rw e refl
      | inr e ↦ elim (cases_eq n 1) [
        | inl f ↦ rw f refl
        | inr f ↦ elim (cases_eq n 2) [
          | inl g ↦ rw g refl
          | inr g ↦ let three : n ≡ 3 = omega arith in rw three refl
        ]
      ]
    ]

module _ (w h : ℕ) (wide : w ≤ 16) (high : h ≤ 16) where
  step_inside : (s : Side) (t u : ℕ) → step_to w h t s ≡ Some u → Inside s (column t) (row t)
  step_inside East t u e = let less : column t + 1 < w = ltb-true _ _ (test_held _ _ u e).0 in omega arith
  step_inside West t u e = let less : 0 < column t = ltb-true _ _ (test_held _ _ u e).0 in omega arith
  step_inside South t u e = let less : row t + 1 < h = ltb-true _ _ (test_held _ _ u e).0 in omega arith
  step_inside North t u e = let less : 0 < row t = ltb-true _ _ (test_held _ _ u e).0 in omega arith

  spot : (q : ℕ) → Exists w h q → Spot q
  spot q x =
      let exists = test_held (ltb q 1024) (beside w h (q / 4) (side_of (q % 4))) x.0 x.1 in
      let on = test_held (on_floor w h (q / 4)) (step_to w h (q / 4) (side_of (q % 4))) x.0 exists.1 in
      let parts = and_parts _ _ on.0 in
      let c : column (q / 4) < w = ltb-true _ _ parts.0 in
      let r : row (q / 4) < h = ltb-true _ _ parts.1 in
      let again = side_again (q % 4) (omega arith) in
      record { column_small = omega arith; row_small = omega arith; inside = step_inside _ _ x.0 on.1; is = omega arith }

pub number_of : ℕ → ℕ
number_of q = place (side_of (q % 4)) (column (q / 4)) (row (q / 4))

-- so at most 960 segments exist on a floor of at most 16 by 16 tables
pub numbering : (w h : ℕ) → w ≤ 16 → h ≤ 16 → Numbering (Exists w h) number_of 960
unfolding number_of
numbering w h wide high = record {
  below = λ q x. let a = spot w h wide high q x in place_small _ _ _ a.column_small a.row_small a.inside;
  apart = λ p q x y same.
      let a = spot w h wide high p x in
      let b = spot w h wide high q y in
      a.is ∙ place_once _ _ _ _ _ _ a.column_small a.row_small b.column_small b.row_small a.inside b.inside same ∙ sym b.is;
}
