-- What an accepted call has found.
use Rattle.std.proofs.Common.{◌≡◌, ℕ, ◌<◌, Bool, true, false, eqb, ltb, get_or, Some, None, Ok, Err, Option, Result, refl, ap, ◌∙◌, ltb-true, eqb-true}
use borrow.Author.Tests.{eqb-false}
use Rattle.trays.specs.declared.tray.Tray.{Tray}
use Rattle.trays.specs.declared.trays.Trays.{Trays}
use Rattle.trays.specs.declared.refusal.Refusal.{Refusal}
use Rattle.trays.specs.Sites.{Site, two_stops}
use Rattle.trays.specs.Outcomes.{free, freed, opened, found, asked, ask, stops, room, entry, Move, onward, arrived, standing, leading, move}
use Rattle.trays.specs.Outcomes.Move.{refuses, leaves, goes}

-- the segment q is wanted with the note m, is there, open and vacant
pub record Asked (s : Site) (b : Trays) (t d n q m : ℕ) : Type 0 where
  pub asks : s.wants t d n ≡ Some (q, m)
  pub to : ℕ
  pub leads : s.head q ≡ Some to
  pub open' : s.opens q ≡ true
  pub vacant : get_or b.records q None ≡ None

module _ (s : Site) (b : Trays) where
  module _ (h t d n : ℕ) where
    abbrev pub Asks : Result (ℕ × ℕ) Refusal → Type 0
    Asks (Ok a) = Asked s b t d n a.0 a.1
    Asks (Err r) = Unit {0}

    of_free : (a : ℕ × ℕ) (u : ℕ) → s.wants t d n ≡ Some a → s.head a.0 ≡ Some u → s.opens a.0 ≡ true → (x : Option Tray) → get_or b.records a.0 None ≡ x → Asks (free h a x)
    of_free a u w l o None v = record { asks = w; to = u; leads = l; open' = o; vacant = v }
    of_free a u w l o (Some x) v = tt

    of_opened : (a : ℕ × ℕ) (u : ℕ) → s.wants t d n ≡ Some a → s.head a.0 ≡ Some u → (c : Bool) → s.opens a.0 ≡ c → Asks (freed b h (opened h a c))
    of_opened a u w l true o = of_free a u w l o _ refl
    of_opened a u w l false o = tt

    of_found : (a : ℕ × ℕ) → s.wants t d n ≡ Some a → (x : Option ℕ) → s.head a.0 ≡ x → Asks (freed b h (found h a (s.opens a.0) x))
    of_found a w (Some u) l = of_opened a u w l _ refl
    of_found a w None l = tt

    of_asked : (w : Option (ℕ × ℕ)) → s.wants t d n ≡ w → Asks (freed b h (asked s h w))
    of_asked None e = tt
    of_asked (Some a) e = of_found a e _ refl

    pub of_ask : Asks (ask s b h t d n)
    of_ask = of_asked _ refl

  module _ (o d : ℕ) where
    abbrev pub Enters : Result (ℕ × ℕ) Refusal → Type 0
    Enters (Ok a) = (two_stops s o d ≡ true) × (b.entered < 4294967295) × Asked s b o d (s.first o d) a.0 a.1
    Enters (Err r) = Unit {0}

    of_room : two_stops s o d ≡ true → (y : Bool) → ltb b.entered 4294967295 ≡ y → (r : Result (ℕ × ℕ) Refusal) → Asks 65535 o d (s.first o d) r → Enters (room y r)
    of_room w true l (Ok a) x = (w, ltb-true _ _ l, x)
    of_room w true l (Err r) x = tt
    of_room w false l r x = tt

    of_stops : (x : Bool) → two_stops s o d ≡ x → Enters (stops x (room (ltb b.entered 4294967295) (ask s b 65535 o d (s.first o d))))
    of_stops true w = of_room w _ refl _ (of_ask 65535 o d (s.first o d))
    of_stops false w = tt

    pub of_entry : Enters (entry s b o d)
    of_entry = of_stops _ refl

  module _ (p : ℕ) where
    abbrev pub Moves : Move → Type 0
    Moves (refuses r) = Unit {0}
    Moves (leaves t) = (s.head p ≡ Some t.destination) × (get_or b.records p None ≡ Some t)
    Moves (goes t q m) =
        (u : ℕ) × (s.head p ≡ Some u) × (get_or b.records p None ≡ Some t) × (u ≡ t.destination → ⊥) × Asked s b u t.destination t.note q m

    of_arrived : (u : ℕ) (t : Tray) → s.head p ≡ Some u → get_or b.records p None ≡ Some t → (x : Bool) → eqb u t.destination ≡ x → (r : Result (ℕ × ℕ) Refusal) → Asks p u t.destination t.note r → Moves (arrived x t (onward t r))
    of_arrived u t l g true e r a = (l ∙ ap Some (eqb-true _ _ e), g)
    of_arrived u t l g false e (Ok x) a = (u, l, g, eqb-false _ _ e, a)
    of_arrived u t l g false e (Err r) a = tt

    of_standing : (u : ℕ) → s.head p ≡ Some u → (x : Option Tray) → get_or b.records p None ≡ x → Moves (standing s b p u x)
    of_standing u l None g = tt
    of_standing u l (Some t) g = of_arrived u t l g _ refl _ (of_ask p u t.destination t.note)

    of_leading : (x : Option ℕ) → s.head p ≡ x → Moves (leading s b p x)
    of_leading None l = tt
    of_leading (Some u) l = of_standing u l _ refl

    pub of_move : Moves (move s b p)
    of_move = of_leading _ refl
