-- Courses, segment by segment: of one, with one more in front, and without the first.
use Rattle.std.proofs.Common.{◌≡◌, ℕ, zero, suc, ◌+◌, ◌<◌, ◌≤◌, true, List, ◌∷◌, length, Some, Option, sym, refl, ap, ◌∙◌, arith}
use Rattle.map.specs.declared.side.Side.{Side}
use Rattle.map.specs.Sides.{segment}
use Rattle.map.specs.Layouts.{head_in}
use Rattle.routes.specs.Routings.{Routing}
use Rattle.routes.specs.Routes.{Course, segments_from, Route}
use Rattle.routes.proofs.Turns.{Taken}
use Rattle.routes.proofs.Faults.{after}

module _ (s : Routing) (d : ℕ) where
  module _ (h : Option ℕ) (t n : ℕ) (side : Side) (m u : ℕ) (taken : Taken s d h t n side m u) where
    unfoldable pub one : u ≡ d → Course s d t n 1
    one x = record {
      table = after t (λ _. u);
      note = after n (λ _. m);
      side = λ _. side;
      starts = refl;
      noted = refl;
      some = omega arith;
      asks = elim [ zero ↦ λ l. taken.asks | suc k ↦ λ l. absurd (omega arith) ];
      leads = elim [ zero ↦ λ l. taken.leads | suc k ↦ λ l. absurd (omega arith) ];
      opens = elim [ zero ↦ λ l. taken.opens | suc k ↦ λ l. absurd (omega arith) ];
      rise = λ k l. absurd (omega arith);
      ends = x;
      not_sooner = λ k z l. absurd (omega arith);
    }

    unfoldable pub more : (len : ℕ) → (u ≡ d → ⊥) → (c : Course s d u m len) → s.rises (segment t side) (segment (c.table 0) (c.side 0)) ≡ true → Course s d t n (suc len)
    more len x c up = record {
      table = after t c.table;
      note = after n c.note;
      side = after side c.side;
      starts = refl;
      noted = refl;
      some = omega arith;
      asks = elim [ zero ↦ λ l. taken.asks ∙ ap (λ y. Some (side, y)) (sym c.noted) | suc k ↦ λ l. c.asks k (omega arith) ];
      leads = elim [ zero ↦ λ l. taken.leads ∙ ap Some (sym c.starts) | suc k ↦ λ l. c.leads k (omega arith) ];
      opens = elim [ zero ↦ λ l. taken.opens | suc k ↦ λ l. c.opens k (omega arith) ];
      rise = elim [ zero ↦ λ l. up | suc k ↦ λ l. c.rise k (omega arith) ];
      ends = c.ends;
      not_sooner = elim [
        | zero ↦ λ z l. absurd (omega arith)
        | suc k ↦ λ z l. sooner k (omega arith)
      ];
    }
      where
        sooner : (k : ℕ) → k < len → c.table k ≡ d → ⊥
        sooner zero l e = x (sym c.starts ∙ e)
        sooner (suc k) l e = c.not_sooner (suc k) (omega arith) l e

  unfoldable pub rest : (t n len : ℕ) → (c : Course s d t n (suc (suc len))) → Course s d (c.table 1) (c.note 1) (suc len)
  rest t n len c = record {
    table = λ k. c.table (suc k);
    note = λ k. c.note (suc k);
    side = λ k. c.side (suc k);
    starts = refl;
    noted = refl;
    some = omega arith;
    asks = λ k l. c.asks (suc k) (omega arith);
    leads = λ k l. c.leads (suc k) (omega arith);
    opens = λ k l. c.opens (suc k) (omega arith);
    rise = λ k l. c.rise (suc k) (omega arith);
    ends = c.ends;
    not_sooner = λ k z l. c.not_sooner (suc k) (omega arith) (omega arith);
  }

pub segments_length : (table : ℕ → ℕ) (side : ℕ → Side) (k j : ℕ) → length (segments_from table side k j) ≡ j
segments_length table side k zero = refl
segments_length table side k (suc j) = ap suc (segments_length table side (suc k) j)

pub route_length : (s : Routing) (o d : ℕ) (qs : List ℕ) (c : Route s o d qs) → length qs ≡ c.len
route_length s o d qs c = ap length c.is ∙ segments_length _ _ 0 c.len

some_same : {X : Type 0} (a : Option X) (x y : X) → a ≡ Some x → a ≡ Some y → x ≡ y
some_same a x y p q = cc

-- the ways lead along one course only
module _ (s : Routing) (d t n len : ℕ) (end : ℕ) (c : Course s d t n len) (e : Course s d t n end) (same : len ≡ end) where
  record Agree (k : ℕ) : Type 0 where
    table : c.table k ≡ e.table k
    note : c.note k ≡ e.note k

  module _ (k : ℕ) (l : k < len) (a : Agree k) where
    same_way : ◌≡◌ {A = Side × ℕ} (c.side k, c.note (suc k)) (e.side k, e.note (suc k))
    same_way = some_same _ _ _ (c.asks k l) (ap (λ x. s.way x d (c.note k)) a.table ∙ ap (s.way (e.table k) d) a.note ∙ e.asks k (omega arith))

    same_segment : segment (c.table k) (c.side k) ≡ segment (e.table k) (e.side k)
    same_segment = ap (λ x. segment x (c.side k)) a.table ∙ ap (λ x. segment (e.table k) x.0) same_way

  agree : (k : ℕ) → k ≤ len → Agree k
  agree zero l = record { table = c.starts ∙ sym e.starts; note = c.noted ∙ sym e.noted }
  agree (suc k) l =
      let lt : k < len = omega arith in
      let a = agree k (omega arith) in
      record {
        table = some_same _ _ _ (c.leads k lt) (ap (head_in s.map) (same_segment k lt a) ∙ e.leads k (omega arith));
        note = ap (λ x. x.1) (same_way k lt a);
      }

  same_segments : (j k : ℕ) → k + j ≡ len → segments_from c.table c.side k j ≡ segments_from e.table e.side k j
  same_segments zero k l = refl
  same_segments (suc j) k l =
      let lt : k < len = omega arith in
      ap (λ q. q ∷ segments_from c.table c.side (suc k) j) (same_segment k lt (agree k (omega arith)))
      ∙ ap (λ qs. segment (e.table k) (e.side k) ∷ qs) (same_segments j (suc k) (omega arith))

pub one_route : (s : Routing) (o d : ℕ) (qs rs : List ℕ) (a : Route s o d qs) (b : Route s o d rs) → a.len ≡ b.len → qs ≡ rs
one_route s o d qs rs a b same =
    a.is
    ∙ same_segments s d o (s.first o d) a.len b.len a.course b.course same a.len 0 (omega arith)
    ∙ ap (segments_from b.course.table b.course.side 0) same
    ∙ sym b.is
