-- The open links of a floor of at most 16 by 16 lead both ways, between tables of the floor.
use Rattle.std.proofs.Common.{◌≡◌, ℕ, ◌+◌, ◌-◌, ◌/◌, ◌%◌, ◌<◌, ◌≤◌, Bool, true, false, cond, not, ltb, Some, None, Option, refl, ap, ◌∙◌, subst, arith}
use Rattle.std.proofs.lemmas.Bool.{cond-true, and_from, and_parts, both_ways, lt-ltb, ltb-true}
use Rattle.map.specs.declared.map.Map.{Map}
use Rattle.map.specs.declared.side.Side.{Side}
use Rattle.map.specs.declared.side.Side.TheVariants.{North, East, South, West}
use Rattle.map.specs.Sides.{side_number, side_of, opposite, segment}
use Rattle.map.specs.Floors.{on_floor, step_to, beside}
use Rattle.map.specs.Layouts.{Layout, layout, on_map, beside_in, head_in, table_closed, open_to, open_in, link_to, link_open}
use Rattle.links.specs.Links.{near, present}
use Rattle.links.proofs.Chains.{Mutual, Within, none_some, same_some}

pub record Sized (m : Layout) : Type 0 where
  pub wide : m.width ≤ 16
  pub high : m.height ≤ 16

pub map_sized : (m : Map) → Sized (layout m)
map_sized m = record { wide = m.size.wide.1; high = m.size.high.1 }

cond_some : (b : Bool) (x : Option ℕ) (u : ℕ) → cond b x None ≡ Some u → (b ≡ true) × (x ≡ Some u)
cond_some true x u e = (refl, e)
cond_some false x u e = absurd (none_some u e)

module _ (w h : ℕ) where
  floor_from : (t : ℕ) → t % 16 < w → t / 16 < h → on_floor w h t ≡ true
  floor_from t a b = and_from _ _ (lt-ltb _ _ a) (lt-ltb _ _ b)

  floor_to : (t : ℕ) → on_floor w h t ≡ true → (t % 16 < w) × (t / 16 < h)
  floor_to t e = let b = and_parts _ _ e in (ltb-true _ _ b.0, ltb-true _ _ b.1)

  beside_from : (t u v : ℕ) (b : Bool) (s : Side) → step_to w h t s ≡ cond b (Some v) None → on_floor w h t ≡ true → b ≡ true → v ≡ u → beside w h t s ≡ Some u
  beside_from t u v b s e f g i = cond-true _ _ _ f ∙ e ∙ cond-true _ _ _ g ∙ ap Some i

  module _ (wide : w ≤ 16) (high : h ≤ 16) where
    pub beside_back : (t u : ℕ) (s : Side) → beside w h t s ≡ Some u → beside w h u (opposite s) ≡ Some t
    beside_back t u North e =
        let f : (on_floor w h t ≡ true) × (step_to w h t North ≡ Some u) = cond_some (on_floor w h t) (step_to w h t North) u e in
        let g : ((ltb 0 (t / 16)) ≡ true) × (Some (t - 16) ≡ Some u) = cond_some (ltb 0 (t / 16)) (Some (t - 16)) u f.1 in
        let o : (t % 16 < w) × (t / 16 < h) = floor_to t f.0 in
        let l : 0 < t / 16 = ltb-true _ _ g.0 in
        let i : t - 16 ≡ u = same_some _ _ g.1 in
        beside_from u t (u + 16) (ltb (u / 16 + 1) h) South refl (floor_from u (omega arith) (omega arith)) (lt-ltb _ _ (omega arith)) (omega arith)
    beside_back t u East e =
        let f : (on_floor w h t ≡ true) × (step_to w h t East ≡ Some u) = cond_some (on_floor w h t) (step_to w h t East) u e in
        let g : ((ltb (t % 16 + 1) w) ≡ true) × (Some (t + 1) ≡ Some u) = cond_some (ltb (t % 16 + 1) w) (Some (t + 1)) u f.1 in
        let o : (t % 16 < w) × (t / 16 < h) = floor_to t f.0 in
        let l : t % 16 + 1 < w = ltb-true _ _ g.0 in
        let i : t + 1 ≡ u = same_some _ _ g.1 in
        beside_from u t (u - 1) (ltb 0 (u % 16)) West refl (floor_from u (omega arith) (omega arith)) (lt-ltb _ _ (omega arith)) (omega arith)
    beside_back t u South e =
        let f : (on_floor w h t ≡ true) × (step_to w h t South ≡ Some u) = cond_some (on_floor w h t) (step_to w h t South) u e in
        let g : ((ltb (t / 16 + 1) h) ≡ true) × (Some (t + 16) ≡ Some u) = cond_some (ltb (t / 16 + 1) h) (Some (t + 16)) u f.1 in
        let o : (t % 16 < w) × (t / 16 < h) = floor_to t f.0 in
        let l : t / 16 + 1 < h = ltb-true _ _ g.0 in
        let i : t + 16 ≡ u = same_some _ _ g.1 in
        beside_from u t (u - 16) (ltb 0 (u / 16)) North refl (floor_from u (omega arith) (omega arith)) (lt-ltb _ _ (omega arith)) (omega arith)
    beside_back t u West e =
        let f : (on_floor w h t ≡ true) × (step_to w h t West ≡ Some u) = cond_some (on_floor w h t) (step_to w h t West) u e in
        let g : ((ltb 0 (t % 16)) ≡ true) × (Some (t - 1) ≡ Some u) = cond_some (ltb 0 (t % 16)) (Some (t - 1)) u f.1 in
        let o : (t % 16 < w) × (t / 16 < h) = floor_to t f.0 in
        let l : 0 < t % 16 = ltb-true _ _ g.0 in
        let i : t - 1 ≡ u = same_some _ _ g.1 in
        beside_from u t (u + 1) (ltb (u % 16 + 1) w) East refl (floor_from u (omega arith) (omega arith)) (lt-ltb _ _ (omega arith)) (omega arith)

    pub beside_on : (t u : ℕ) (s : Side) → beside w h t s ≡ Some u → t < 256
    beside_on t u s e = let o : (t % 16 < w) × (t / 16 < h) = floor_to t (cond_some (on_floor w h t) (step_to w h t s) u e).0 in omega arith

module _ (w h : ℕ) (wide : w ≤ 16) (high : h ≤ 16) where
  -- what is beside a table on a floor is so on the largest floor
  pub beside_large : (t u : ℕ) (s : Side) → beside w h t s ≡ Some u → beside 16 16 t s ≡ Some u
  beside_large t u North e =
      let f : (on_floor w h t ≡ true) × (step_to w h t North ≡ Some u) = cond_some (on_floor w h t) (step_to w h t North) u e in
      let g : ((ltb 0 (t / 16)) ≡ true) × (Some (t - 16) ≡ Some u) = cond_some (ltb 0 (t / 16)) (Some (t - 16)) u f.1 in
      let o : (t % 16 < w) × (t / 16 < h) = floor_to w h t f.0 in
      let l : 0 < t / 16 = ltb-true _ _ g.0 in
      let i : t - 16 ≡ u = same_some _ _ g.1 in
      beside_from 16 16 t u (t - 16) (ltb 0 (t / 16)) North refl (floor_from 16 16 t (omega arith) (omega arith)) (lt-ltb _ _ (omega arith)) i
  beside_large t u East e =
      let f : (on_floor w h t ≡ true) × (step_to w h t East ≡ Some u) = cond_some (on_floor w h t) (step_to w h t East) u e in
      let g : ((ltb (t % 16 + 1) w) ≡ true) × (Some (t + 1) ≡ Some u) = cond_some (ltb (t % 16 + 1) w) (Some (t + 1)) u f.1 in
      let o : (t % 16 < w) × (t / 16 < h) = floor_to w h t f.0 in
      let l : t % 16 + 1 < w = ltb-true _ _ g.0 in
      let i : t + 1 ≡ u = same_some _ _ g.1 in
      beside_from 16 16 t u (t + 1) (ltb (t % 16 + 1) 16) East refl (floor_from 16 16 t (omega arith) (omega arith)) (lt-ltb _ _ (omega arith)) i
  beside_large t u South e =
      let f : (on_floor w h t ≡ true) × (step_to w h t South ≡ Some u) = cond_some (on_floor w h t) (step_to w h t South) u e in
      let g : ((ltb (t / 16 + 1) h) ≡ true) × (Some (t + 16) ≡ Some u) = cond_some (ltb (t / 16 + 1) h) (Some (t + 16)) u f.1 in
      let o : (t % 16 < w) × (t / 16 < h) = floor_to w h t f.0 in
      let l : t / 16 + 1 < h = ltb-true _ _ g.0 in
      let i : t + 16 ≡ u = same_some _ _ g.1 in
      beside_from 16 16 t u (t + 16) (ltb (t / 16 + 1) 16) South refl (floor_from 16 16 t (omega arith) (omega arith)) (lt-ltb _ _ (omega arith)) i
  beside_large t u West e =
      let f : (on_floor w h t ≡ true) × (step_to w h t West ≡ Some u) = cond_some (on_floor w h t) (step_to w h t West) u e in
      let g : ((ltb 0 (t % 16)) ≡ true) × (Some (t - 1) ≡ Some u) = cond_some (ltb 0 (t % 16)) (Some (t - 1)) u f.1 in
      let o : (t % 16 < w) × (t / 16 < h) = floor_to w h t f.0 in
      let l : 0 < t % 16 = ltb-true _ _ g.0 in
      let i : t - 1 ≡ u = same_some _ _ g.1 in
      beside_from 16 16 t u (t - 1) (ltb 0 (t % 16)) West refl (floor_from 16 16 t (omega arith) (omega arith)) (lt-ltb _ _ (omega arith)) i

pub segment_side : (t : ℕ) (s : Side) → side_of (segment t s % 4) ≡ s
segment_side t North = let k : segment t North % 4 ≡ 0 = omega arith in ap side_of k
segment_side t East = let k : segment t East % 4 ≡ 1 = omega arith in ap side_of k
segment_side t South = let k : segment t South % 4 ≡ 2 = omega arith in ap side_of k
segment_side t West = let k : segment t West % 4 ≡ 3 = omega arith in ap side_of k

pub segment_table : (t : ℕ) (s : Side) → segment t s / 4 ≡ t
segment_table t North = omega arith
segment_table t East = omega arith
segment_table t South = omega arith
segment_table t West = omega arith

pub segment_small : (t : ℕ) (s : Side) → t < 256 → segment t s < 1024
segment_small t North h = omega arith
segment_small t East h = omega arith
segment_small t South h = omega arith
segment_small t West h = omega arith

pub twice : (s : Side) → opposite (opposite s) ≡ s
twice North = refl
twice East = refl
twice South = refl
twice West = refl

pub twice_same : (s : Side) → side_of (side_number s) ≡ s
twice_same North = refl
twice_same East = refl
twice_same South = refl
twice_same West = refl

module _ (m : Layout) (size : Sized m) where
  head_beside : (t : ℕ) (s : Side) → beside m.width m.height (segment t s / 4) (side_of (segment t s % 4)) ≡ beside_in m t s
  head_beside t s = ap (λ x. beside m.width m.height x (side_of (segment t s % 4))) (segment_table t s) ∙ ap (beside m.width m.height t) (segment_side t s)

  head_from : (t u : ℕ) (s : Side) → t < 256 → beside_in m t s ≡ Some u → head_in m (segment t s) ≡ Some u
  head_from t u s h e = cond-true _ _ _ (lt-ltb _ _ (segment_small t s h)) ∙ head_beside t s ∙ e

  -- what a link says
  pub record Over (t u : ℕ) (s : Side) : Type 0 where
    pub next_to : beside_in m t s ≡ Some u
    pub open_on : open_in m (segment t s) ≡ true
    pub open_back : open_in m (segment u (opposite s)) ≡ true

  over_by : (t u : ℕ) (s : Side) (o : Option ℕ) → beside_in m t s ≡ o → link_to m t s o ≡ true → o ≡ Some u → Over t u s
  over_by t u s None h l e = absurd (none_some u e)
  over_by t u s (Some v) h l e =
      let b = and_parts _ _ l in let i = same_some v u e in
      record { next_to = h ∙ e; open_on = b.0; open_back = subst (λ x. open_in m (segment x (opposite s)) ≡ true) i b.1 }

  pub over : (t u : ℕ) (s : Side) → near m t s ≡ Some u → Over t u s
  unfolding near
  over t u s e = let c = cond_some (link_open m t s) (beside_in m t s) u e in over_by t u s (beside_in m t s) refl c.0 c.1

  near_by : (t u : ℕ) (s : Side) → beside_in m t s ≡ Some u → open_in m (segment t s) ≡ true → open_in m (segment u (opposite s)) ≡ true → near m t s ≡ Some u
  unfolding near
  near_by t u s e f g = cond-true _ _ _ (ap (link_to m t s) e ∙ and_from _ _ f g) ∙ e

  pub near_both : Mutual (near m)
  near_both t u s e =
      let o = over t u s e in
      near_by u t (opposite s) (beside_back m.width m.height size.wide size.high t u s o.next_to) o.open_back (ap (λ r. open_in m (segment t r)) (twice s) ∙ o.open_on)

  pub near_within : Within (near m)
  near_within t u s e =
      let o = over t u s e in
      let b = beside_back m.width m.height size.wide size.high t u s o.next_to in
      (beside_on m.width m.height size.wide size.high t u s o.next_to, beside_on m.width m.height size.wide size.high u t (opposite s) b)

  pub near_beside : (t u : ℕ) (s : Side) → near m t s ≡ Some u → beside 16 16 t s ≡ Some u
  near_beside t u s e = beside_large m.width m.height size.wide size.high t u s (over t u s e).next_to

  pub head_open : (t u : ℕ) (s : Side) → near m t s ≡ Some u → (head_in m (segment t s) ≡ Some u) × (open_in m (segment t s) ≡ true)
  head_open t u s e = let o = over t u s e in (head_from t u s (near_within t u s e).0 o.next_to, o.open_on)

  open_from : (n : ℕ) (o : Option ℕ) → open_to m n o ≡ true → not (table_closed m (n / 4)) ≡ true
  open_from n None e = absurd (both_ways false refl e)
  open_from n (Some u) e = (and_parts _ _ (and_parts _ _ e).1).0

  -- a table with a link is there and not closed
  pub near_present : (t u : ℕ) (s : Side) → near m t s ≡ Some u → present m t ≡ true
  near_present t u s e =
      let o = over t u s e in
      and_from _ _ (cond_some (on_map m t) (step_to m.width m.height t s) u o.next_to).0
      (subst (λ x. not (table_closed m x) ≡ true) (segment_table t s) (open_from (segment t s) (head_in m (segment t s)) o.open_on))

  pub present_small : (t : ℕ) → present m t ≡ true → t < 256
  present_small t e = let o : (t % 16 < m.width) × (t / 16 < m.height) = floor_to m.width m.height t (and_parts _ _ e).0 in let w = size.wide in let h = size.high in omega arith
