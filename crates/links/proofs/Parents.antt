-- The parent of each table of a tree.
use Rattle.std.proofs.Common.{◌≡◌, ℕ, suc, ◌+◌, ◌<◌, ◌≤◌, true, false, Some, None, Option, sym, refl, ap, ◌∙◌, subst, inl, inr, arith}
use Rattle.std.proofs.lemmas.Bool.{cases_Bool, both_ways, eq-eqb, eqb-true}
use Rattle.map.specs.declared.side.Side.{Side}
use Rattle.map.specs.declared.side.Side.TheVariants.{North, East, South, West}
use Rattle.map.specs.Sides.{opposite}
use Rattle.links.specs.Groups.{Chain, DepthOf, RootOf}
use Rattle.links.specs.Groups.Chain.{stay, link}
use Rattle.links.specs.Trees.{nearer, up_side, over}
use Rattle.links.proofs.Chains.{Mutual, Within, append, turned, starts_within, chain_zero, Last, last_link}
use Rattle.links.proofs.Layers.{depth_most}
use Rattle.links.proofs.Ups.{Told, up_north, up_east, up_south, up_west, up_none}
use Rattle.links.proofs.Lines.{upper, upper_is}

-- the lowest table of each group, the fewest links from there, and the parents
pub record TreeOf (near : ℕ → Side → Option ℕ) (root depth : ℕ → ℕ) (side : ℕ → Option Side) (parent : ℕ → Option ℕ) : Type 0 where
  pub roots : (t : ℕ) → t < 256 → RootOf near t (root t)
  pub depths : (t : ℕ) → t < 256 → DepthOf near (root t) t (depth t)
  pub sides : (t : ℕ) → side t ≡ up_side near depth t
  pub parents : (t : ℕ) → parent t ≡ over near t (side t)

pub nearer_some : (depth : ℕ → ℕ) (t : ℕ) (o : Option ℕ) → nearer depth t o ≡ true → (u : ℕ) × (o ≡ Some u) × (depth u + 1 ≡ depth t)
nearer_some depth t None e = absurd (both_ways false refl e)
nearer_some depth t (Some u) e = (u, refl, eqb-true _ _ e)

module _ (near : ℕ → Side → Option ℕ) (depth : ℕ → ℕ) (t : ℕ) where
  -- some side leads to a neighbour whose depth is one less, and it is the first
  abbrev Found : Type 0
  Found = (s : Side) × (up_side near depth t ≡ Some s) × Told near depth t s true

  one_of : (s : Side) → Told near depth t s true → Told near depth t North false → Told near depth t East false → Told near depth t South false → Told near depth t West false → ⊥
  one_of North h n e s w = both_ways _ n h
  one_of East h n e s w = both_ways _ e h
  one_of South h n e s w = both_ways _ s h
  one_of West h n e s w = both_ways _ w h

  found : (s : Side) → Told near depth t s true → Found
  found x h =
      elim (cases_Bool (nearer depth t (near t North))) [
        | inl n ↦ (North, sym (up_north near depth t n), n)
        | inr n ↦ elim (cases_Bool (nearer depth t (near t East))) [
          | inl e ↦ (East, sym (up_east near depth t n e), e)
          | inr e ↦ elim (cases_Bool (nearer depth t (near t South))) [
            | inl s ↦ (South, sym (up_south near depth t n e s), s)
            | inr s ↦ elim (cases_Bool (nearer depth t (near t West))) [
              | inl w ↦ (West, sym (up_west near depth t n e s w), w)
              | inr w ↦ absurd (one_of x h n e s w)
            ]
          ]
        ]
      ]

  not_at_root : depth t ≡ 0 → (s : Side) → Told near depth t s false
  not_at_root z s =
      elim (cases_Bool (nearer depth t (near t s))) [ inl y ↦ absurd (let f = nearer_some depth t (near t s) y in omega (arith, f.2)) | inr n ↦ n ]

-- what a table that is not a root has above it
pub record Up (near : ℕ → Side → Option ℕ) (depth : ℕ → ℕ) (side : ℕ → Option Side) (parent : ℕ → Option ℕ) (t : ℕ) : Type 0 where
  pub to : Side
  pub side_is : side t ≡ Some to
  pub parent_is : parent t ≡ Some (upper parent t)
  pub links : near t to ≡ Some (upper parent t)
  pub lower : depth (upper parent t) + 1 ≡ depth t

-- the tables of a group have one root
pub one_root : (near : ℕ → Side → Option ℕ) → Mutual near → Within near → (root : ℕ → ℕ) → ((t : ℕ) → t < 256 → RootOf near t (root t)) → (a b n : ℕ) → Chain near a b n → b < 256 → root a ≡ root b
one_root near back within root roots a b n c h =
    let small : a < 256 = starts_within near within c h in
    let ra = roots a small in let rb = roots b h in
    let ja = ra.joined in let jb = rb.joined in
    let p : root b ≤ root a = rb.lowest (root a) (_, append near (root a) a ja.0 ja.1 c) in
    let q : root a ≤ root b = ra.lowest (root b) (_, append near (root b) b jb.0 jb.1 (turned near back c)) in
    omega arith

module _ (near : ℕ → Side → Option ℕ) (back : Mutual near) (within : Within near) (root depth : ℕ → ℕ) (side : ℕ → Option Side) (parent : ℕ → Option ℕ) (tree : TreeOf near root depth side parent) where
  pub one : (a b n : ℕ) → Chain near a b n → b < 256 → root a ≡ root b
  one = one_root near back within root tree.roots

  pub gradual : (t u : ℕ) (s : Side) → near t s ≡ Some u → depth u ≤ depth t + 1
  gradual t u s e =
      let w = within t u s e in
      let dt = tree.depths t w.0 in
      let same : root t ≡ root u = one t u 1 (link s stay e) w.1 in
      let more : Chain near (root u) u (suc (depth t)) = link s (subst (λ r. Chain near r t (depth t)) same dt.chain) e in
      omega (arith, (tree.depths u w.1).fewest (suc (depth t)) more)

  pub root_at_none : (t : ℕ) → t < 256 → depth t ≡ 0 → root t ≡ t
  root_at_none t h z = chain_zero near (tree.depths t h).chain z

  pub shallow : (t : ℕ) → t < 256 → depth t ≤ 255
  shallow t h = depth_most near within (root t) t (depth t) h (tree.depths t h)

  up_by : (t : ℕ) (s : Side) → up_side near depth t ≡ Some s → (u : ℕ) → near t s ≡ Some u → depth u + 1 ≡ depth t → Up near depth side parent t
  up_by t s e u there less =
      let is : side t ≡ Some s = tree.sides t ∙ e in
      let p : parent t ≡ Some u = tree.parents t ∙ ap (over near t) is ∙ there in
      let q : upper parent t ≡ u = upper_is parent t u p in
      record { to = s; side_is = is; parent_is = p ∙ ap Some (sym q); links = there ∙ ap Some (sym q); lower = ap (λ x. depth x + 1) q ∙ less }

  up_found : (t : ℕ) → Found near depth t → Up near depth side parent t
  up_found t f = let g = nearer_some depth t (near t f.0) f.2 in up_by t f.0 f.1 g.0 g.1 g.2

  pub step_up : (t : ℕ) → t < 256 → 0 < depth t → Up near depth side parent t
  step_up t h z =
      let l : Last near (root t) t (depth t) = last_link near (tree.depths t h).chain z in
      let b : ℕ = l.before in
      let wb : b < 256 = (within b t l.by l.over).0 in
      let same : root b ≡ root t = one b t 1 (link l.by stay l.over) h in
      let low : depth b ≤ l.links = (tree.depths b wb).fewest l.links (subst (λ r. Chain near r b l.links) (sym same) l.chain) in
      let less : depth b + 1 ≡ depth t = omega (arith, gradual b t l.by l.over, l.one_more) in
      up_found t (found near depth t (opposite l.by) (ap (nearer depth t) (back b t l.by l.over) ∙ eq-eqb _ _ less))

  pub side_at_root : (t : ℕ) → depth t ≡ 0 → side t ≡ None
  side_at_root t z = let no = not_at_root near depth t z in tree.sides t ∙ sym (up_none near depth t (no North) (no East) (no South) (no West))

  pub parent_at_root : (t : ℕ) → depth t ≡ 0 → parent t ≡ None
  parent_at_root t z = tree.parents t ∙ ap (over near t) (side_at_root t z)
