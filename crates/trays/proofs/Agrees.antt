-- The records agree with the history.
use Rattle.std.proofs.Common.{◌≡◌, ℕ, ◌≤◌, min, Bool, true, false, List, ◌∷◌, length, get_or, drop, is_some, Some, None, Option, sym, refl, ap, ◌∙◌}
use Rattle.std.proofs.lemmas.Option.{none-some, same_Some}
use Rattle.std.proofs.lemmas.Bool.{both_ways}
use Rattle.trays.specs.Logs.{Log}
use Rattle.trays.specs.declared.tray.Tray.{Tray}
use Rattle.trays.specs.declared.trays.Trays.{Trays}
use Rattle.trays.specs.declared.event.Event.{Event}
use Rattle.trays.specs.Sites.{Site, two_stops}
use Rattle.trays.proofs.Ahead.{Ahead}
use Rattle.trays.specs.Words.{let_in, pair_of, advances_of, left_from, segment_of, is_delivered, number}

module _ (s : Site) (rises : ℕ → ℕ → Bool) (routes : ℕ → ℕ → List ℕ) where
  -- tray n, from o to d, stands on the segment last answered, after k advances
  pub record Rides (xs : List (Option Tray)) (n o d : ℕ) (last : Option ℕ) (k : ℕ) : Type 0 where
    pub segment : ℕ
    pub note : ℕ
    pub advances : ℕ
    pub rest : List ℕ
    pub is : last ≡ Some segment
    pub there : get_or xs segment None ≡ Some (record { number = n; destination = d; note = note; advances = advances })
    pub left : drop k (routes o d) ≡ segment ∷ rest
    pub ahead : Ahead s rises d segment note rest
    pub counts : advances ≡ min k 65535

  -- what is so of tray n: not let in, on the floor, or delivered
  abbrev pub Tale : List (Option Tray) → ℕ → Option (ℕ × ℕ) → Option ℕ → Option ℕ → ℕ → Type 0
  Tale xs n None None last k = k ≡ 0
  Tale xs n None (Some p) last k = ⊥
  Tale xs n (Some a) None last k = Rides xs n a.0 a.1 last k
  Tale xs n (Some a) (Some p) last k = (s.head p ≡ Some a.1) × (k ≡ length (routes a.0 a.1))

  -- the tray on p is one that the history has there
  pub record Held (h : Log Event) (n p : ℕ) : Type 0 where
    pub its_let_in : is_some (pair_of n h) ≡ true
    pub not_left : left_from n h ≡ None
    pub last : segment_of n h ≡ Some p

  pub record Agrees (b : Trays) (h : Log Event) : Type 0 where
    pub long : length b.records ≡ 1024
    pub in_all : b.entered ≡ let_in h
    pub few : let_in h ≤ 4294967295
    pub out : b.delivered ≡ number (λ n. is_delivered n h) h
    pub pairs : (n o d : ℕ) → pair_of n h ≡ Some (o, d) → two_stops s o d ≡ true
    pub tale : (n : ℕ) → Tale b.records n (pair_of n h) (left_from n h) (segment_of n h) (advances_of n h)
    pub held : (p : ℕ) (t : Tray) → get_or b.records p None ≡ Some t → Held h t.number p

  -- where the tray's record stays, the tale stays
  pub tale_stays : (xs ys : List (Option Tray)) (n : ℕ) (pair : Option (ℕ × ℕ)) (left last : Option ℕ) (k : ℕ) → ((p : ℕ) (t : Tray) → get_or xs p None ≡ Some t → t.number ≡ n → get_or ys p None ≡ Some t) → Tale xs n pair left last k → Tale ys n pair left last k
  tale_stays xs ys n None None last k keep x = x
  tale_stays xs ys n None (Some p) last k keep x = absurd x
  tale_stays xs ys n (Some a) None last k keep x =
      record { segment = x.segment; note = x.note; advances = x.advances; rest = x.rest; is = x.is; there = keep x.segment _ x.there refl; left = x.left; ahead = x.ahead; counts = x.counts }
  tale_stays xs ys n (Some a) (Some p) last k keep x = x

  pub tale_fresh : (xs : List (Option Tray)) (n : ℕ) (pair : Option (ℕ × ℕ)) (left last : Option ℕ) (k : ℕ) → pair ≡ None → Tale xs n pair left last k → (left ≡ None) × (k ≡ 0)
  tale_fresh xs n None None last k e x = (refl, x)
  tale_fresh xs n None (Some p) last k e x = absurd x
  tale_fresh xs n (Some a) left last k e x = absurd (none-some a (sym e))

  -- the tray t on p, with what is left to it
  pub record Rider (t : Tray) (p : ℕ) (pair : Option (ℕ × ℕ)) (k : ℕ) : Type 0 where
    pub origin : ℕ
    pub rest : List ℕ
    pub is : pair ≡ Some (origin, t.destination)
    pub left : drop k (routes origin t.destination) ≡ p ∷ rest
    pub ahead : Ahead s rises t.destination p t.note rest
    pub counts : t.advances ≡ min k 65535

  rider_at : (xs : List (Option Tray)) (t u : Tray) (p r o k : ℕ) (rest : List ℕ) → t ≡ u → p ≡ r → drop k (routes o u.destination) ≡ r ∷ rest → Ahead s rises u.destination r u.note rest → u.advances ≡ min k 65535 → Rider t p (Some (o, u.destination)) k
  rider_at xs t u p r o k rest e f l a c =
      record {
        origin = o;
        rest = rest;
        is = ap (λ v. Some (o, v.destination)) (sym e);
        left = rw (e, f) l;
        ahead = rw (e, f) a;
        counts = rw e c;
      }

  rider_of : (xs : List (Option Tray)) (t : Tray) (p : ℕ) (pair : Option (ℕ × ℕ)) (left last : Option ℕ) (k : ℕ) → Tale xs t.number pair left last k → is_some pair ≡ true → left ≡ None → last ≡ Some p → get_or xs p None ≡ Some t → Rider t p pair k
  rider_of xs t p None left last k x i l e g = absurd (both_ways false refl i)
  rider_of xs t p (Some a) (Some c) last k x i l e g = absurd (none-some c (sym l))
  rider_of xs t p (Some a) None last k x i l e g =
      let same = same_Some _ _ (sym e ∙ x.is) in
      let tray = same_Some _ _ (sym g ∙ (ap (λ y. get_or xs y None) same ∙ x.there)) in
      rider_at xs t _ p x.segment a.0 k x.rest tray same x.left x.ahead x.counts

  pub rider : (b : Trays) (h : Log Event) → Agrees b h → (p : ℕ) (t : Tray) → get_or b.records p None ≡ Some t → Rider t p (pair_of t.number h) (advances_of t.number h)
  rider b h ag p t g =
      let held = ag.held p t g in
      rider_of b.records t p _ _ _ _ (ag.tale t.number) held.its_let_in held.not_left held.last g

  -- no two records are of one tray
  pub apart : (b : Trays) (h : Log Event) → Agrees b h → (p q : ℕ) (t u : Tray) → get_or b.records p None ≡ Some t → get_or b.records q None ≡ Some u → t.number ≡ u.number → p ≡ q
  apart b h ag p q t u e f same = same_Some _ _ (sym (ag.held p t e).last ∙ (ap (λ n. segment_of n h) same ∙ (ag.held q u f).last))
