-- The ways and keys of a map's tree are those that the links alone make.
use Rattle.std.proofs.Common.{◌≡◌, ℕ, suc, ◌-◌, ◌<◌, ◌≤◌, true, false, Some, None, Option, sym, refl, ap, ◌∙◌, subst, inl, inr, arith}
use Rattle.std.proofs.lemmas.Bool.{cases_eq, cases_Bool, le-ltb, cond-false}
use Rattle.map.specs.declared.side.Side.{Side}
use Rattle.map.specs.Sides.{opposite, segment}
use Rattle.map.specs.Layouts.{Layout}
use Rattle.links.specs.Links.{near}
use Rattle.links.specs.Groups.{Joined}
use Rattle.links.specs.Trees.{depth, parent_side, parent_of}
use Rattle.links.specs.Ways.{noted, pair, is_side, key_down, key_over, tree_way, tree_key}
use Rattle.links.specs.Words.{ParentOf, LineOf, WayOf, WaysMeant, KeysMeant}
use Rattle.links.specs.Words.LineOf.{itself, upper as higher}
use Rattle.links.specs.Words.WayOf.{to_child, to_parent}
use Rattle.links.proofs.Chains.{none_some, same_some}
use Rattle.links.proofs.Nearby.{Sized, near_both, near_within, twice, present_small}
use Rattle.links.proofs.Lines.{upper}
use Rattle.links.proofs.Parents.{one_root, step_up, side_at_root}
use Rattle.links.proofs.Ranks.{key_at_lem, up_key, down_key, is_only}
use Rattle.links.proofs.Meanings.{each_way, only_way, depth_here, side_here, parent_here, parent_of_lem}
use Rattle.links.proofs.Grown.{root_at, grown, way_is, way_there, no_way, one_group_lem, both_there, joined_back, keys_are}

same_note : (a b : Side × ℕ) → Some a ≡ Some b → (a.0 ≡ b.0) × (a.1 ≡ b.1)
same_note a b e = let is : a ≡ b = same_some a b e in (ap (λ x. x.0) is, ap (λ x. x.1) is)

noted_some : (o : Option Side) (s : Side) (n : ℕ) → noted o ≡ Some (s, n) → (o ≡ Some s) × (n ≡ 0)
noted_some None s n e = absurd (none_some _ e)
noted_some (Some r) s n e = let b = same_note (r, 0) (s, n) e in (ap Some b.0, sym b.1)

module _ (m : Layout) (size : Sized m) where
  -- both ends of a way by the links are tables
  line_small : (d : ℕ) {x : ℕ} → LineOf (near m) d x → x < 256 → d < 256
  line_small d itself h = h
  line_small d (higher {x} {y} s l p) h = line_small d l (near_within m size x y s p.over).0

  way_small : (t d : ℕ) (s : Side) → WayOf (near m) t d s → (t < 256) × (d < 256)
  way_small t d s (to_child {x} r l p) = let w = near_within m size x t r p.over in (w.1, line_small d l w.0)
  way_small t d s (to_parent {u} r j n p) =
      let w = near_within m size t u r p.over in
      elim (cases_eq t d) [
        | inl e ↦ (w.0, subst (λ x. x < 256) e w.0)
        | inr ne ↦ (w.0, present_small m size d (both_there m size t d ne j))
      ]

  each : (t d : ℕ) (s : Side) → WayOf (near m) t d s → tree_way m t d ≡ Some (s, 0)
  each t d s w =
      let b = way_small t d s w in
      let g = each_way (near m) (near_both m size) (near_within m size) (root_at m size) (depth m) (parent_side m) (parent_of m) (grown m size) d b.1 t s w in
      way_is m size d t g.apart_it g.same ∙ ap noted g.is

  -- a way is between two tables of one group
  way_joined : (t d n : ℕ) (s : Side) → tree_way m t d ≡ Some (s, n) → (t ≡ d → ⊥) × (root_at m size t ≡ root_at m size d)
  way_joined t d n s e = (
    λ is. none_some _ (sym (way_there m size t d is) ∙ e),
    elim (cases_eq (root_at m size t) (root_at m size d)) [
      | inl same ↦ same
      | inr ne ↦ absurd (none_some _ (sym (no_way m size t d (λ j. ne (same_root t d j))) ∙ e))
    ],
  )
    where
      same_root : (t d : ℕ) → Joined (near m) t d → root_at m size t ≡ root_at m size d
      same_root t d j =
          elim (cases_eq t d) [
            | inl is ↦ ap (root_at m size) is
            | inr ne ↦ one_root (near m) (near_both m size) (near_within m size) (root_at m size) (grown m size).roots t d j.0 j.1 (present_small m size d (both_there m size t d ne j))
          ]

  only : (t d n : ℕ) (s : Side) → tree_way m t d ≡ Some (s, n) → WayOf (near m) t d s × (n ≡ 0)
  only t d n s e =
      let b = way_joined t d n s e in
      let j = one_group_lem m size t d b.1 in
      let small : d < 256 = present_small m size d (both_there m size t d b.0 j) in
      let large : t < 256 = present_small m size t (both_there m size d t (λ is. b.0 (sym is)) (joined_back m size t d j)) in
      let o = noted_some _ s n (sym (way_is m size d t b.0 b.1) ∙ e) in
      (only_way (near m) (near_both m size) (near_within m size) (root_at m size) (depth m) (parent_side m) (parent_of m) (grown m size) d small t s large b.0 b.1 o.0, o.1)

  pub ways_meant : WaysMeant m
  ways_meant = record { only = only; each = each }

  none_past : (n : ℕ) → 1024 ≤ n → tree_key m n ≡ pair 2 0
  unfolding tree_key key_over
  none_past n h = cond-false _ _ _ (le-ltb n 1024 h)

  -- a side that the tree has is a parent's
  by_side : (t : ℕ) (s : Side) → t < 256 → parent_side m t ≡ Some s → ParentOf (near m) t s (upper (parent_of m) t)
  by_side t s h e =
      elim (cases_eq (depth m t) 0) [
        | inl z ↦ absurd (none_some s (sym (side_at_root (near m) (near_both m size) (near_within m size) (root_at m size) (depth m) (parent_side m) (parent_of m) (grown m size) t z) ∙ e))
        | inr n ↦
            (let u = step_up (near m) (near_both m size) (near_within m size) (root_at m size) (depth m) (parent_side m) (parent_of m) (grown m size) t h (omega arith) in
            let is : u.to ≡ s = same_some _ _ (sym u.side_is ∙ e) in
            subst (λ r. ParentOf (near m) t r (upper (parent_of m) t)) is (parent_of_lem (near m) (near_both m size) (near_within m size) (root_at m size) (depth m) (parent_side m) (parent_of m) (grown m size) t h u))
      ]

  module _ (t u : ℕ) (s : Side) (p : ParentOf (near m) t s u) where
    depth_is : depth m t ≡ suc p.depth
    depth_is = depth_here (near m) (near_both m size) (near_within m size) (root_at m size) (depth m) (parent_side m) (parent_of m) (grown m size) t s u p

    side_is : parent_side m t ≡ Some s
    side_is = side_here (near m) (near_both m size) (near_within m size) (root_at m size) (depth m) (parent_side m) (parent_of m) (grown m size) t s u p

    small : t < 256
    small = (near_within m size t u s p.over).0

    ups : tree_key m (segment t s) ≡ pair 0 (255 - suc p.depth)
    ups = keys_are m size (segment t s) ∙ up_key (near m) (depth m) (parent_side m) t s small side_is ∙ ap (λ e. pair 0 (255 - e)) depth_is

    downs : tree_key m (segment u (opposite s)) ≡ pair 1 (suc p.depth)
    downs =
        let v = step_up (near m) (near_both m size) (near_within m size) (root_at m size) (depth m) (parent_side m) (parent_of m) (grown m size) t small (omega (arith, depth_is)) in
        let is : v.to ≡ s = same_some _ _ (sym v.side_is ∙ side_is) in
        let to : upper (parent_of m) t ≡ u = parent_here (near m) (near_both m size) (near_within m size) (root_at m size) (depth m) (parent_side m) (parent_of m) (grown m size) t s u p in
        ap (λ x. tree_key m (segment x (opposite s))) (sym to)
        ∙ ap (λ x. tree_key m (segment (upper (parent_of m) t) (opposite x))) (sym is)
        ∙ keys_are m size _
        ∙ down_key (near m) (near_both m size) (near_within m size) (root_at m size) (depth m) (parent_side m) (parent_of m) (grown m size) t small v
        ∙ ap (pair 1) depth_is

  module _ (t : ℕ) (s : Side) (h : t < 256) (no_up : (u : ℕ) → ParentOf (near m) t s u → ⊥) (no_child : (x : ℕ) (r : Side) → ParentOf (near m) x r t → opposite r ≡ s → ⊥) where
    not_up : is_side (parent_side m t) s ≡ false
    not_up = elim (cases_Bool (is_side (parent_side m t) s)) [ inl y ↦ absurd (no_up _ (by_side t s h (is_only _ _ y))) | inr n ↦ n ]

    not_child : (u : ℕ) → near m t s ≡ Some u → is_side (parent_side m u) (opposite s) ≡ true → ⊥
    not_child u e y =
        let w : u < 256 = (near_within m size t u s e).1 in
        let p = by_side u (opposite s) w (is_only _ _ y) in
        let is : upper (parent_of m) u ≡ t = same_some _ _ (sym p.over ∙ near_both m size t u s e) in
        no_child u (opposite s) (subst (λ z. ParentOf (near m) u (opposite s) z) is p) (twice s)

    not_down : (o : Option ℕ) → near m t s ≡ o → key_down (depth m) (parent_side m) s o ≡ pair 2 0
    not_down None e = refl
    not_down (Some u) e =
        let none : is_side (parent_side m u) (opposite s) ≡ false = elim (cases_Bool (is_side (parent_side m u) (opposite s))) [ inl y ↦ absurd (not_child u e y) | inr n ↦ n ] in
        cond-false _ _ _ none

    others : tree_key m (segment t s) ≡ pair 2 0
    others = keys_are m size (segment t s) ∙ key_at_lem (near m) (depth m) (parent_side m) t s h ∙ cond-false _ _ _ not_up ∙ not_down (near m t s) refl

  pub keys_meant : KeysMeant m
  keys_meant = record { up = ups; down = downs; other = others; none = none_past }
