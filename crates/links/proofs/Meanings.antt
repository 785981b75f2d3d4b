-- The parents and ways of a tree are those that the links alone make.
use Rattle.std.proofs.Common.{◌≡◌, ℕ, zero, suc, ◌+◌, ◌-◌, ◌<◌, ◌≤◌, true, false, Some, Option, sym, ap, ◌∙◌, subst, inl, inr, arith}
use Rattle.std.proofs.lemmas.Bool.{cases_eq, cases_Bool, both_ways, eq-eqb}
use Rattle.map.specs.declared.side.Side.{Side}
use Rattle.map.specs.declared.side.Side.TheVariants.{North, East, South, West}
use Rattle.map.specs.Sides.{side_number, opposite}
use Rattle.links.specs.Groups.{Chain, Joined, DepthOf}
use Rattle.links.specs.Groups.Chain.{stay, link}
use Rattle.links.specs.Trees.{nearer, up_side, over}
use Rattle.links.specs.Words.{ParentOf, LineOf, WayOf}
use Rattle.links.specs.Words.LineOf.{itself, upper as higher}
use Rattle.links.specs.Words.WayOf.{to_child, to_parent}
use Rattle.links.proofs.Chains.{Mutual, Within, same_some, one_depth, one_lowest, append, turned}
use Rattle.links.proofs.Ups.{Told, up_north, up_east, up_south, up_west}
use Rattle.links.proofs.Lines.{upper, upper_is, above, above_none, above_more}
use Rattle.links.proofs.Parents.{TreeOf, Up, one, step_up, nearer_some}
use Rattle.links.proofs.Ascents.{Above, goes, line, over_it, apart, goes_down, not_above, apart_from, not_root, goes_parent}

module _ (near : ℕ → Side → Option ℕ) (depth : ℕ → ℕ) (t : ℕ) where
  -- where each earlier side fails, the side is the first
  up_first : (s : Side) → Told near depth t s true → ((r : Side) → side_number r < side_number s → Told near depth t r false) → up_side near depth t ≡ Some s
  up_first North h e = sym (up_north near depth t h)
  up_first East h e = sym (up_east near depth t (e North (omega arith)) h)
  up_first South h e = sym (up_south near depth t (e North (omega arith)) (e East (omega arith)) h)
  up_first West h e = sym (up_west near depth t (e North (omega arith)) (e East (omega arith)) (e South (omega arith)) h)

  past_north : (r : Side) → Told near depth t r true → Told near depth t North false → 1 ≤ side_number r
  past_north North h n = absurd (both_ways _ n h)
  past_north East h n = omega arith
  past_north South h n = omega arith
  past_north West h n = omega arith

  past_east : (r : Side) → Told near depth t r true → Told near depth t North false → Told near depth t East false → 2 ≤ side_number r
  past_east North h n e = absurd (both_ways _ n h)
  past_east East h n e = absurd (both_ways _ e h)
  past_east South h n e = omega arith
  past_east West h n e = omega arith

  past_south : (r : Side) → Told near depth t r true → Told near depth t North false → Told near depth t East false → Told near depth t South false → 3 ≤ side_number r
  past_south North h n e s = absurd (both_ways _ n h)
  past_south East h n e s = absurd (both_ways _ e h)
  past_south South h n e s = absurd (both_ways _ s h)
  past_south West h n e s = omega arith

  -- the first side is no later than any that leads nearer
  no_later_by : (s r : Side) (q : Side) → up_side near depth t ≡ Some s → Some q ≡ up_side near depth t → side_number q ≤ side_number r → side_number s ≤ side_number r
  no_later_by s r q e f l = subst (λ x. side_number x ≤ side_number r) (same_some q s (f ∙ e)) l

  no_later : (s r : Side) → up_side near depth t ≡ Some s → Told near depth t r true → side_number s ≤ side_number r
  no_later s r e h =
      elim (cases_Bool (nearer depth t (near t North))) [
        | inl n ↦ no_later_by s r North e (up_north near depth t n) (omega arith)
        | inr n ↦ elim (cases_Bool (nearer depth t (near t East))) [
          | inl f ↦ no_later_by s r East e (up_east near depth t n f) (past_north r h n)
          | inr f ↦ elim (cases_Bool (nearer depth t (near t South))) [
            | inl g ↦ no_later_by s r South e (up_south near depth t n f g) (past_east r h n f)
            | inr g ↦ elim (cases_Bool (nearer depth t (near t West))) [
              | inl w ↦ no_later_by s r West e (up_west near depth t n f g w) (past_south r h n f g)
              | inr w ↦ absurd (all_false r h n f g w)
            ]
          ]
        ]
      ]
    where
      all_false : (r : Side) → Told near depth t r true → Told near depth t North false → Told near depth t East false → Told near depth t South false → Told near depth t West false → ⊥
      all_false North h n f g w = both_ways _ n h
      all_false East h n f g w = both_ways _ f h
      all_false South h n f g w = both_ways _ g h
      all_false West h n f g w = both_ways _ w h

module _ (near : ℕ → Side → Option ℕ) (back : Mutual near) (within : Within near) (root depth : ℕ → ℕ) (side : ℕ → Option Side) (parent : ℕ → Option ℕ) (tree : TreeOf near root depth side parent) where
  over_root : (t u : ℕ) (s : Side) → near t s ≡ Some u → root t ≡ root u
  over_root t u s e = one near back within root depth side parent tree t u 1 (link s stay e) (within t u s e).1

  depth_at : (t r n : ℕ) → t < 256 → root t ≡ r → DepthOf near r t n → depth t ≡ n
  depth_at t r n h e x = one_depth near r t (depth t) n (subst (λ q. DepthOf near q t (depth t)) e (tree.depths t h)) x

  depth_of_lem : (t r : ℕ) → t < 256 → root t ≡ r → DepthOf near r t (depth t)
  depth_of_lem t r h e = subst (λ q. DepthOf near q t (depth t)) e (tree.depths t h)

  module _ (t : ℕ) (s : Side) (u : ℕ) (p : ParentOf near t s u) where
    pub fits : t < 256
    fits = (within t u s p.over).0

    root_here : root t ≡ p.root
    root_here = one_lowest near t (root t) p.root (tree.roots t fits) p.is_root

    pub depth_here : depth t ≡ suc p.depth
    depth_here = depth_at t p.root (suc p.depth) fits root_here p.is_depth

    depth_over : depth u ≡ p.depth
    depth_over = depth_at u p.root p.depth (within t u s p.over).1 (sym (over_root t u s p.over) ∙ root_here) p.one_less

    to_it : Told near depth t s true
    to_it = ap (nearer depth t) p.over ∙ eq-eqb (depth u + 1) (depth t) (omega (arith, depth_over, depth_here))

    not_earlier : (r : Side) → side_number r < side_number s → Told near depth t r true → ⊥
    not_earlier r l y =
        let f : (v : ℕ) × (near t r ≡ Some v) × (depth v + 1 ≡ depth t) = nearer_some depth t (near t r) y in
        let v : ℕ = f.0 in
        let same : root v ≡ p.root = sym (over_root t v r f.1) ∙ root_here in
        let is : depth v ≡ p.depth = omega (arith, f.2, depth_here) in
        p.first r v l f.1 (subst (λ n. DepthOf near p.root v n) is (depth_of_lem v p.root (within t v r f.1).1 same))

    first_here : up_side near depth t ≡ Some s
    first_here = up_first near depth t s to_it (λ r l. elim (cases_Bool (nearer depth t (near t r))) [ inl y ↦ absurd (not_earlier r l y) | inr n ↦ n ])

    pub side_here : side t ≡ Some s
    side_here = tree.sides t ∙ first_here

    pub parent_here : upper parent t ≡ u
    parent_here = upper_is parent t u (tree.parents t ∙ ap (over near t) side_here ∙ p.over)

  pub parent_of_lem : (t : ℕ) → t < 256 → (u : Up near depth side parent t) → ParentOf near t u.to (upper parent t)
  parent_of_lem t h u =
      let x : ℕ = upper parent t in
      let w : x < 256 = (within t x u.to u.links).1 in
      let same : root x ≡ root t = sym (over_root t x u.to u.links) in
      let is : depth t ≡ suc (depth x) = omega (arith, u.lower) in
      record {
        root = root t;
        depth = depth x;
        is_root = tree.roots t h;
        is_depth = subst (λ n. DepthOf near (root t) t n) is (tree.depths t h);
        over = u.links;
        one_less = depth_of_lem x (root t) w same;
        first = λ r v l e y.
            (let dv : depth v ≡ depth x = depth_at v (root t) (depth x) (within t v r e).1 (sym (over_root t v r e)) y in
            let told : Told near depth t r true = ap (nearer depth t) e ∙ eq-eqb (depth v + 1) (depth t) (omega (arith, u.lower)) in
            omega (arith, no_later near depth t u.to r (sym (tree.sides t) ∙ u.side_is) told));
      }

  module _ (d : ℕ) (small : d < 256) where
    line_at : (k : ℕ) → k ≤ depth d → Above near back within root depth side parent tree d small k (above parent k d)
    line_at = line near back within root depth side parent tree d small

    up_at : (k : ℕ) → suc k ≤ depth d → Up near depth side parent (above parent k d)
    up_at k l = let a = line_at k (omega arith) in step_up near back within root depth side parent tree (above parent k d) a.fits (omega (arith, a.depth_is))

    line_from : (k : ℕ) → k ≤ depth d → LineOf near d (above parent k d)
    line_from zero l = subst (λ x. LineOf near d x) (sym (above_none parent d)) itself
    line_from (suc k) l =
        let u = up_at k l in
        subst (λ x. LineOf near d x) (sym (above_more parent k d)) (higher u.to (line_from k (omega arith)) (parent_of_lem (above parent k d) (line_at k (omega arith)).fits u))

    -- one more parent up from a place on the line
    one_up : (x y : ℕ) (s : Side) (k : ℕ) → k ≤ depth d → above parent k d ≡ x → ParentOf near x s y → (suc k ≤ depth d) × (above parent (suc k) d ≡ y) × (side (above parent k d) ≡ Some s)
    one_up x y s k l e p =
        let a = line_at k l in
        let q : ParentOf near (above parent k d) s y = subst (λ z. ParentOf near z s y) (sym e) p in
        let dh = depth_here (above parent k d) s y q in
        (omega (arith, a.depth_is), above_more parent k d ∙ parent_here (above parent k d) s y q, side_here (above parent k d) s y q)

    line_to : {x : ℕ} → LineOf near d x → (k : ℕ) × (k ≤ depth d) × (above parent k d ≡ x)
    line_to itself = (0, omega arith, above_none parent d)
    line_to (higher {x} {y} s l p) = let i = line_to l in let o = one_up x y s i.0 i.1 i.2 p in (suc i.0, o.0, o.1)

    -- a way by the links is the tree's
    pub record Goes (t : ℕ) (s : Side) : Type 0 where
      pub apart_it : t ≡ d → ⊥
      pub same : root t ≡ root d
      pub is : goes near back within root depth side parent tree d small t ≡ Some s

    down_way : (t k : ℕ) (r : Side) → suc k ≤ depth d → above parent (suc k) d ≡ t → side (above parent k d) ≡ Some r → Goes t (opposite r)
    down_way t k r l e f =
        let u = up_at k l in
        let at : upper parent (above parent k d) ≡ t = sym (above_more parent k d) ∙ e in
        let is : u.to ≡ r = same_some _ _ (sym u.side_is ∙ f) in
        subst (λ z. Goes z (opposite r)) at (record {
          apart_it = apart near back within root depth side parent tree d small k l u;
          same = (over_it near back within root depth side parent tree d small k l u).root_is;
          is = goes_down near back within root depth side parent tree d small k l u ∙ ap (λ z. Some (opposite z)) is;
        })

    pub each_way : (t : ℕ) (s : Side) → WayOf near t d s → Goes t s
    each_way t s (to_child {x} r l p) = let i = line_to l in let o = one_up x t r i.0 i.1 i.2 p in down_way t i.0 r o.0 o.1 o.2
    each_way t s (to_parent {u} r j n p) =
        let h : t < 256 = fits t r u p in
        let same : root t ≡ root d = one near back within root depth side parent tree t d j.0 j.1 small in
        let off : above parent (depth d - depth t) d ≡ t → ⊥ = λ e. n (subst (λ z. LineOf near d z) e (line_from (depth d - depth t) (omega arith))) in
        let up = step_up near back within root depth side parent tree t h (not_root near back within root depth side parent tree d small t h same off) in
        record {
          apart_it = apart_from near back within root depth side parent tree d small t h same off;
          same = same;
          is = goes_parent near back within root depth side parent tree d small t h same off up ∙ sym up.side_is ∙ side_here t r u p;
        }

    joined_by : (t : ℕ) → t < 256 → root t ≡ root d → Joined near t d
    joined_by t h e =
        let a = (tree.roots t h).joined in let b = (tree.roots d small).joined in
        (a.0 + b.0, append near t (root t) a.0 (turned near back a.1) (subst (λ r. Chain near r d b.0) (sym e) b.1))

    on_the_line : (t k : ℕ) (s : Side) → k ≤ depth d → above parent k d ≡ t → (t ≡ d → ⊥) → goes near back within root depth side parent tree d small t ≡ Some s → WayOf near t d s
    on_the_line t zero s l e ne w = absurd (ne (sym e ∙ above_none parent d))
    on_the_line t (suc k) s l e ne w =
        let u = up_at k l in
        let at : upper parent (above parent k d) ≡ t = sym (above_more parent k d) ∙ e in
        let is : opposite u.to ≡ s = same_some _ _ (sym (goes_down near back within root depth side parent tree d small k l u) ∙ ap (goes near back within root depth side parent tree d small) at ∙ w) in
        subst (λ z. WayOf near t d z) is (subst (λ z. WayOf near z d (opposite u.to)) at (to_child u.to (line_from k (omega arith)) (parent_of_lem (above parent k d) (line_at k (omega arith)).fits u)))

    off_the_line : (t : ℕ) (s : Side) (h : t < 256) (same : root t ≡ root d) (off : above parent (depth d - depth t) d ≡ t → ⊥) → goes near back within root depth side parent tree d small t ≡ Some s → WayOf near t d s
    off_the_line t s h same off w =
        let up = step_up near back within root depth side parent tree t h (not_root near back within root depth side parent tree d small t h same off) in
        let is : up.to ≡ s = same_some _ _ (sym (goes_parent near back within root depth side parent tree d small t h same off up) ∙ w) in
        let none : LineOf near d t → ⊥ = λ l. (let i = line_to l in not_above near back within root depth side parent tree d small t h same off i.0 i.1 i.2) in
        subst (λ z. WayOf near t d z) is (to_parent up.to (joined_by t h same) none (parent_of_lem t h up))

    pub only_way : (t : ℕ) (s : Side) → t < 256 → (t ≡ d → ⊥) → root t ≡ root d → goes near back within root depth side parent tree d small t ≡ Some s → WayOf near t d s
    only_way t s h ne same w =
        elim (cases_eq (above parent (depth d - depth t) d) t) [
          | inl is ↦ on_the_line t (depth d - depth t) s (omega arith) is ne w
          | inr off ↦ off_the_line t s h same off w
        ]
