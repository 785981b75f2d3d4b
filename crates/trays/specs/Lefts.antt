-- Left: the number of segments on a tray's remaining route, its own included.
use Rattle.std.specs.Prelude.{◌≡◌, ℕ, zero, suc, ◌+◌, ◌<◌, Bool, true, false, List, [], ◌∷◌, length, Some, None, Ok, Err, Option, Result, ◌==◌, ◌≢◌}
use Rattle.trays.specs.declared.tray.Tray.{Tray}
use Rattle.trays.specs.declared.trays.Trays.{Trays}
use Rattle.trays.specs.declared.refusal.Refusal.{Refusal}
use Rattle.trays.specs.declared.refusal.Refusal.TheVariants.{NoSegment, TooLong}
use Rattle.trays.specs.Sites.{Site}
use Rattle.trays.specs.Outcomes.{next, look_outcome}

-- Walking on from segment p, the k-th counted, with note n: the walk ends where the head of p is d; where j more
-- segments may be counted and j is 0, no way is asked.

abbrev pub walked : Result (ℕ × ℕ) Refusal → (ℕ → ℕ → Result ℕ Refusal) → Result ℕ Refusal
walked (Ok a) on = on a.0 a.1
walked (Err r) on = Err r

abbrev pub there : Bool → ℕ → Result ℕ Refusal → Result ℕ Refusal
there true k r = Ok k
there false k r = r

abbrev pub headed : Option ℕ → ℕ → ℕ → (ℕ → Result ℕ Refusal) → Result ℕ Refusal
headed None d k on = Err NoSegment
headed (Some u) d k on = there (u == d) k (on u)

unfoldable pub walk : Site → ℕ → ℕ → ℕ → ℕ → ℕ → Result ℕ Refusal
walk s d zero k p n = headed (s.head p) d k (λ u. Err TooLong)
walk s d (suc j) k p n = headed (s.head p) d k (λ u. walked (next s p u d n) (λ q m. walk s d j (k + 1) q m))

abbrev pub left_of : Site → ℕ → Result Tray Refusal → Result ℕ Refusal
left_of s p (Ok t) = walk s t.destination 959 1 p t.note
left_of s p (Err r) = Err r

-- at most 960 segments are walked, the tray's own counted
abbrev pub left_outcome : Site → Trays → ℕ → Result ℕ Refusal
left_outcome s b p = left_of s p (look_outcome s b p)

-- qs are the segments after p on the remaining route to d of a tray on p with note m
abbrev pub Onward : Site → ℕ → ℕ → ℕ → List ℕ → Type 0
Onward s d p m [] = s.head p ≡ Some d
Onward s d p m (q ∷ qs) =
    (u n : ℕ) × (s.head p ≡ Some u) × (u ≢ d) × (s.wants u d m ≡ Some (q, n)) × (s.opens q ≡ true) × Onward s d q n qs

-- the number told is that of the remaining route, and every remaining route of at most 960 segments is told
pub record LeftTells (s : Site) (b : Trays) (p : ℕ) : Type 0 where
  pub told : (t : Tray) (k : ℕ) → look_outcome s b p ≡ Ok t → left_outcome s b p ≡ Ok k → (qs : List ℕ) × Onward s t.destination p t.note qs × (k ≡ suc (length qs))
  pub tells : (t : Tray) (qs : List ℕ) → look_outcome s b p ≡ Ok t → Onward s t.destination p t.note qs → length qs < 960 → left_outcome s b p ≡ Ok (suc (length qs))
