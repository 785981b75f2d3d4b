-- Which trays a history knows.
use Rattle.std.proofs.Common.{◌≡◌, ℕ, suc, ◌<◌, ◌≤◌, true, false, is_some, None, refl, inl, inr, arith}
use Rattle.std.proofs.lemmas.Bool.{cases_eq, eq-eqb, ne_eqb, both_ways}
use Rattle.trays.specs.Logs.{Log}
use Rattle.trays.specs.Logs.Log.{start, ◌then◌}
use Rattle.trays.specs.declared.event.Event.{Event}
use Rattle.trays.specs.declared.event.Event.TheVariants.{Refused, Entered, Advanced}
use Rattle.trays.specs.Words.{let_in, pair_of}

-- the tray after the last has no pair yet
pub fresh : (n : ℕ) (h : Log Event) → let_in h < n → pair_of n h ≡ None
fresh n start l = refl
fresh n (h then Refused c r) l = fresh n h l
fresh n (h then Entered o d m q) l = rw (ne_eqb n (suc (let_in h)) (λ e. omega arith)) (fresh n h (omega arith))
fresh n (h then Advanced p m k q) l = fresh n h l

pub zeroth : (h : Log Event) → pair_of 0 h ≡ None
zeroth start = refl
zeroth (h then Refused c r) = zeroth h
zeroth (h then Entered o d m q) = rw (ne_eqb 0 (suc (let_in h)) (λ e. omega arith)) (zeroth h)
zeroth (h then Advanced p m k q) = zeroth h

pub known : (n : ℕ) (h : Log Event) → 1 ≤ n → n ≤ let_in h → is_some (pair_of n h) ≡ true
known n start l r = absurd (omega arith)
known n (h then Refused c r') l r = known n h l r
known n (h then Entered o d m q) l r =
    elim (cases_eq n (suc (let_in h))) [
      | inl e ↦ rw (eq-eqb n (suc (let_in h)) e)
      | inr e ↦ rw (ne_eqb n (suc (let_in h)) e) (known n h l (omega (arith, e)))
    ]
known n (h then Advanced p m k q) l r = known n h l r

pub range : (n : ℕ) (h : Log Event) → is_some (pair_of n h) ≡ true → (1 ≤ n) × (n ≤ let_in h)
range n start e = absurd (both_ways false refl e)
range n (h then Refused c r) e = range n h e
range n (h then Entered o d m q) e =
    elim (cases_eq n (suc (let_in h))) [
      | inl i ↦ (omega arith, omega arith)
      | inr i ↦ let old = range n h (rw (ne_eqb n (suc (let_in h)) i) at e) in (omega arith, omega arith)
    ]
range n (h then Advanced p m k q) e = range n h e
