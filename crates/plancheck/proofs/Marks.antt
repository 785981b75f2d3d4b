-- The stops of a map as a list: each marked table, once, rising.
use Rattle.std.proofs.Common.{◌≡◌, ℕ, zero, suc, ◌+◌, ◌<◌, ◌≤◌, Bool, true, false, cond, ltb, List, [], ◌∷◌, length, get_or, drop, refl, ◌∙◌, subst, inl, inr, add-one, arith}
use Rattle.std.proofs.lemmas.Bool.{false≢true, cases_Bool, and_parts, ltb-true, cond-false}
use Rattle.map.specs.declared.map.Map.{Map}
use Rattle.map.specs.Counts.{how_many}
use Rattle.map.specs.Floors.{column, row}
use Rattle.map.specs.Layouts.{layout, is_stop}
use Rattle.distinct.specs.Rows.{In, Away, Apart, Each}
use Rattle.plancheck.specs.Pairs.{marked_from}

shift : (i k : ℕ) (xs : List ℕ) → In (suc i + k) xs → In (i + suc k) xs
shift i k xs h = let e : suc i + k ≡ i + suc k = omega arith in subst (λ y. In y xs) e h

has_from : (bs : List Bool) (i k : ℕ) → get_or bs k false ≡ true → In (i + k) (marked_from i bs)
has_from [] i k e = absurd (false≢true e)
has_from (true ∷ bs) i zero e = inl (omega arith)
has_from (false ∷ bs) i zero e = absurd (false≢true e)
has_from (true ∷ bs) i (suc k) e = inr (shift i k _ (has_from bs (suc i) k e))
has_from (false ∷ bs) i (suc k) e = shift i k _ (has_from bs (suc i) k e)

record At (bs : List Bool) (i t : ℕ) : Type 0 where
  place : ℕ
  is : t ≡ i + place
  mark : get_or bs place false ≡ true

only_from : (bs : List Bool) (i t : ℕ) → In t (marked_from i bs) → At bs i t
only_from [] i t h = absurd h
only_from (true ∷ bs) i t (inl e) = record { place = 0; is = omega arith; mark = refl }
only_from (true ∷ bs) i t (inr h) = let a = only_from bs (suc i) t h in let is = a.is in record { place = suc a.place; is = omega arith; mark = a.mark }
only_from (false ∷ bs) i t h = let a = only_from bs (suc i) t h in let is = a.is in record { place = suc a.place; is = omega arith; mark = a.mark }

pub marks_have : (bs : List Bool) (t : ℕ) → get_or bs t false ≡ true → In t (marked_from 0 bs)
marks_have bs t e = let z : 0 + t ≡ t = omega arith in subst (λ y. In y (marked_from 0 bs)) z (has_from bs 0 t e)

pub marks_only : (bs : List Bool) (t : ℕ) → In t (marked_from 0 bs) → get_or bs t false ≡ true
marks_only bs t h =
    let a = only_from bs 0 t h in
    let is = a.is in
    let z : a.place ≡ t = omega arith in
    subst (λ y. get_or bs y false ≡ true) z a.mark

-- each number is below all later ones
abbrev pub Climbs : List ℕ → Type 0
Climbs [] = Unit {0}
Climbs (x ∷ xs) = Each (λ y. x < y) xs × Climbs xs

above : (bs : List Bool) (x i : ℕ) → x < i → Each (λ y. x < y) (marked_from i bs)
above [] x i l = tt
above (true ∷ bs) x i l = (l, above bs x (suc i) (omega arith))
above (false ∷ bs) x i l = above bs x (suc i) (omega arith)

pub marks_climb : (bs : List Bool) (i : ℕ) → Climbs (marked_from i bs)
marks_climb [] i = tt
marks_climb (true ∷ bs) i = (above bs i (suc i) (omega arith), marks_climb bs (suc i))
marks_climb (false ∷ bs) i = marks_climb bs (suc i)

above_away : (x : ℕ) (xs : List ℕ) → Each (λ y. x < y) xs → Away x xs
above_away x [] e = tt
above_away x (y ∷ ys) e = let less = e.0 in (λ same. omega arith, above_away x ys e.1)

pub climbs_apart : (xs : List ℕ) → Climbs xs → Apart xs
climbs_apart [] c = tt
climbs_apart (x ∷ xs) c = (above_away x xs c.0, climbs_apart xs c.1)

pub marks_count : (bs : List Bool) (i : ℕ) → length (marked_from i bs) ≡ how_many bs
marks_count [] i = refl
marks_count (true ∷ bs) i = let e = marks_count bs (suc i) in omega arith
marks_count (false ∷ bs) i = let e = marks_count bs (suc i) in omega arith

-- the marked numbers from i on
abbrev pub left : List Bool → ℕ → List ℕ
left bs i = marked_from i (drop i bs)

here_from : (bs : List Bool) (i k : ℕ) → marked_from k (drop i bs) ≡ cond (get_or bs i false) (k ∷ marked_from (suc k) (drop (suc i) bs)) (marked_from (suc k) (drop (suc i) bs))
here_from [] zero k = refl
here_from [] (suc i) k = refl
here_from (b ∷ bs) zero k = refl
here_from (b ∷ bs) (suc i) k = here_from bs i k

pub left_here : (bs : List Bool) (i : ℕ) → left bs i ≡ cond (get_or bs i false) (i ∷ left bs (i + 1)) (left bs (i + 1))
left_here bs i = rw add-one (here_from bs i i)

ends_from : (bs : List Bool) (i k : ℕ) → ((t : ℕ) → i ≤ t → get_or bs t false ≡ false) → marked_from k (drop i bs) ≡ []
ends_from [] zero k none = refl
ends_from [] (suc i) k none = refl
ends_from (b ∷ bs) zero k none = cond-false b _ _ (none 0 (omega arith)) ∙ ends_from bs zero (suc k) (λ t l. none (suc t) (omega arith))
ends_from (b ∷ bs) (suc i) k none = ends_from bs i k (λ t l. none (suc t) (omega arith))

pub left_none : (bs : List Bool) (i : ℕ) → ((t : ℕ) → 256 ≤ t → get_or bs t false ≡ false) → 256 ≤ i → left bs i ≡ []
left_none bs i none l = ends_from bs i i (λ t m. none t (omega arith))

-- no map has a stop past its last table
pub no_stop_past : (m : Map) (t : ℕ) → 256 ≤ t → is_stop (layout m) t ≡ false
no_stop_past m t l =
    elim (cases_Bool (is_stop (layout m) t)) [
      | inr e ↦ e
      | inl e ↦
          let on = and_parts (ltb (column t) m.size.width) (ltb (row t) m.size.height) (m.stops_there t e) in
          let north : row t < m.size.height = ltb-true (row t) m.size.height on.1 in
          let high = m.size.high.1 in
          absurd (omega arith)
    ]
