-- The tables above the destination, and the way at and off that line.
use Rattle.std.proofs.Common.{◌≡◌, ℕ, zero, suc, ◌+◌, ◌-◌, ◌<◌, ◌≤◌, Some, None, Option, sym, refl, ap, ◌∙◌, subst, inl, inr, arith}
use Rattle.std.proofs.lemmas.Bool.{cases_eq}
use Rattle.map.specs.declared.side.Side.{Side}
use Rattle.map.specs.Sides.{opposite}
use Rattle.links.specs.Groups.Chain.{stay, link}
use Rattle.links.specs.Ways.{child_on, reversed, towards}
use Rattle.links.proofs.Chains.{Mutual, Within}
use Rattle.links.proofs.Lines.{upper, above, above_none, above_more, child_at, child_missed}
use Rattle.links.proofs.Parents.{TreeOf, Up, one, shallow, step_up, parent_at_root, root_at_none}

module _ (near : ℕ → Side → Option ℕ) (back : Mutual near) (within : Within near) (root depth : ℕ → ℕ) (side : ℕ → Option Side) (parent : ℕ → Option ℕ) (tree : TreeOf near root depth side parent) (d : ℕ) (small : d < 256) where
  pub up_of : (t : ℕ) → t < 256 → 0 < depth t → Up near depth side parent t
  up_of = step_up near back within root depth side parent tree

  -- the side on which the way goes on, where the group is one
  abbrev pub goes : ℕ → Option Side
  goes t = towards side t (child_on parent 255 t d)

  -- what is known of the tables above the destination
  pub record Above (k x : ℕ) : Type 0 where
    pub fits : x < 256
    pub depth_is : depth x + k ≡ depth d
    pub root_is : root x ≡ root d

  pub line : (k : ℕ) → k ≤ depth d → Above k (above parent k d)
  line zero l = subst (λ x. Above 0 x) (sym (above_none parent d)) (record { fits = small; depth_is = omega arith; root_is = refl })
  line (suc k) l =
      let x : ℕ = above parent k d in
      let h : Above k x = line k (omega arith) in
      let z : 0 < depth x = omega (arith, h.depth_is) in
      let u : Up near depth side parent x = up_of x h.fits z in
      let w : upper parent x < 256 = (within x (upper parent x) u.to u.links).1 in
      subst (λ y. Above (suc k) y) (sym (above_more parent k d)) (record {
        fits = w;
        depth_is = omega (arith, h.depth_is, u.lower);
        root_is = sym (one near back within root depth side parent tree x (upper parent x) 1 (link u.to stay u.links) w) ∙ h.root_is;
      })

  -- the tables below the root climb, and the root does not
  climbs : (k : ℕ) → k < depth d → parent (above parent k d) ≡ Some (upper parent (above parent k d))
  climbs k l = let a = line k (omega arith) in (up_of (above parent k d) a.fits (omega (arith, a.depth_is))).parent_is

  tops : parent (above parent (depth d) d) ≡ None
  tops = let a = line (depth d) (omega arith) in parent_at_root near back within root depth side parent tree (above parent (depth d) d) (omega (arith, a.depth_is))

  -- at a parent on the line the way is to the child
  module _ (j : ℕ) (l : suc j ≤ depth d) (u : Up near depth side parent (above parent j d)) where
    pub over_it : Above (suc j) (upper parent (above parent j d))
    over_it = subst (λ y. Above (suc j) y) (above_more parent j d) (line (suc j) l)

    pub apart : upper parent (above parent j d) ≡ d → ⊥
    apart e = let f : depth (upper parent (above parent j d)) ≡ depth d = ap depth e in omega (arith, over_it.depth_is)

    first : (i : ℕ) → i < j → upper parent (above parent i d) ≡ upper parent (above parent j d) → ⊥
    first i li e =
        let a : Above (suc i) (above parent (suc i) d) = line (suc i) (omega arith) in
        let f : depth (above parent (suc i) d) ≡ depth (upper parent (above parent j d)) = ap depth (above_more parent i d ∙ e) in
        omega (arith, a.depth_is, over_it.depth_is)

    child : child_on parent 255 (upper parent (above parent j d)) d ≡ Some (above parent j d)
    child =
        let most : depth d ≤ 255 = shallow near back within root depth side parent tree d small in
        child_at parent j 255 (upper parent (above parent j d)) d (omega arith) (λ k h. climbs k (omega arith)) refl first

    pub goes_down : goes (upper parent (above parent j d)) ≡ Some (opposite u.to)
    goes_down = ap (towards side (upper parent (above parent j d))) child ∙ ap reversed u.side_is

  -- a table that is not above the destination
  module _ (t : ℕ) (fits : t < 256) (same : root t ≡ root d) (off : above parent (depth d - depth t) d ≡ t → ⊥) where
    pub not_above : (k : ℕ) → k ≤ depth d → above parent k d ≡ t → ⊥
    not_above k l e =
        let a : Above k (above parent k d) = line k l in
        let f : depth (above parent k d) ≡ depth t = ap depth e in
        let is : k ≡ depth d - depth t = omega (arith, a.depth_is) in
        off (subst (λ i. above parent i d ≡ t) is e)

    pub apart_from : t ≡ d → ⊥
    apart_from e = not_above 0 (omega arith) (above_none parent d ∙ sym e)

    no_child : child_on parent 255 t d ≡ None
    no_child = child_missed parent (depth d) 255 t d climbs tops (λ k l e. not_above (suc k) (omega arith) (above_more parent k d ∙ e))

    pub not_root : 0 < depth t
    not_root =
        elim (cases_eq (depth t) 0) [
          | inl z ↦ absurd (
              let top : Above (depth d) (above parent (depth d) d) = line (depth d) (omega arith) in
              let own : root (above parent (depth d) d) ≡ above parent (depth d) d = root_at_none near back within root depth side parent tree (above parent (depth d) d) top.fits (omega (arith, top.depth_is)) in
              let mine : root t ≡ t = root_at_none near back within root depth side parent tree t fits z in
              not_above (depth d) (omega arith) (sym own ∙ top.root_is ∙ sym same ∙ mine)
              )
          | inr n ↦ omega arith
        ]

    pub goes_parent : (u : Up near depth side parent t) → goes t ≡ Some u.to
    goes_parent u = ap (towards side t) no_child ∙ u.side_is
