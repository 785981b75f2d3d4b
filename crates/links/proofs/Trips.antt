-- The ways over a tree arrive, with keys that rise.
use Rattle.std.proofs.Common.{◌≡◌, ℕ, zero, suc, ◌+◌, ◌-◌, ◌*◌, ◌<◌, ◌≤◌, true, ◌⊎◌, Some, Option, sym, refl, ap, ◌∙◌, subst, inl, inr, arith}
use Rattle.std.proofs.lemmas.Bool.{cases_lt, cases_eq, lt-ltb, eq-eqb, or_left, or_right, and_from}
use Rattle.map.specs.declared.side.Side.{Side}
use Rattle.map.specs.declared.side.Side.TheVariants.{North}
use Rattle.map.specs.Sides.{opposite, segment}
use Rattle.orders.specs.declared.key.Pair.{Pair}
use Rattle.links.specs.Groups.Chain.{stay, link}
use Rattle.links.specs.Ways.{pair, noted, towards, child_on}
use Rattle.links.specs.Courses.{pair_before}
use Rattle.links.proofs.Chains.{Mutual, Within}
use Rattle.links.proofs.Lines.{upper, above, above_none, above_more}
use Rattle.links.proofs.Parents.{TreeOf, Up, one, shallow, step_up}
use Rattle.links.proofs.Ascents.{Above, line, over_it, apart, goes_down, apart_from, not_root, goes_parent}

-- the place of a key in the order, where its second part is at most 255
abbrev rank : Pair ℕ ℕ → ℕ
rank k = 256 * k.first + k.second

before_by : (x y : Pair ℕ ℕ) → rank x < rank y → x.second ≤ 255 → y.second ≤ 255 → (x.first < y.first) ⊎ (y.first ≤ x.first) → pair_before x y ≡ true
before_by x y l a b (inl f) = or_left _ _ (lt-ltb _ _ f)
before_by x y l a b (inr f) =
    let e : x.first ≡ y.first = omega arith in
    let m : x.second < y.second = omega arith in
    or_right _ _ (and_from _ _ (eq-eqb _ _ e) (lt-ltb _ _ m))

-- one more at the front
abbrev front : {X : Type 0} → X → (ℕ → X) → ℕ → X
front x f zero = x
front x f (suc k) = f k

module _ (near : ℕ → Side → Option ℕ) (way : ℕ → Option (Side × ℕ)) (key : ℕ → Pair ℕ ℕ) (d : ℕ) where
  -- n ways from t lead to d, and the first key is not below low
  pub record Going (t low n : ℕ) : Type 0 where
    pub table : ℕ → ℕ
    pub side : ℕ → Side
    pub starts : table 0 ≡ t
    pub asks : (k : ℕ) → k < n → way (table k) ≡ Some (side k, 0)
    pub links : (k : ℕ) → k < n → near (table k) (side k) ≡ Some (table (suc k))
    pub first : 0 < n → low ≤ rank (key (segment (table 0) (side 0)))
    pub small : 0 < n → (key (segment (table 0) (side 0))).second ≤ 255
    pub rise : (k : ℕ) → suc k < n → pair_before (key (segment (table k) (side k))) (key (segment (table (suc k)) (side (suc k)))) ≡ true
    pub ends : table n ≡ d

  there : (low : ℕ) → Going d low 0
  there low = record {
    table = λ k. d;
    side = λ k. North;
    starts = refl;
    asks = λ k l. absurd (omega arith);
    links = λ k l. absurd (omega arith);
    first = λ l. absurd (omega arith);
    small = λ l. absurd (omega arith);
    rise = λ k l. absurd (omega arith);
    ends = refl;
  }

  lower : (t low low' n : ℕ) → low' ≤ low → Going t low n → Going t low' n
  lower t low low' n l g = record {
    table = g.table;
    side = g.side;
    starts = g.starts;
    asks = g.asks;
    links = g.links;
    first = λ z. omega (arith, g.first z);
    small = g.small;
    rise = g.rise;
    ends = g.ends;
  }

  module _ (t u : ℕ) (s : Side) (low n : ℕ) (k₀ : Pair ℕ ℕ) (goes : way t ≡ Some (s, 0)) (links : near t s ≡ Some u) (is : key (segment t s) ≡ k₀) (high : low ≤ rank k₀) (small : k₀.second ≤ 255) (rest : Going u (suc (rank k₀)) n) where
    tables : ℕ → ℕ
    tables = front t rest.table

    sides : ℕ → Side
    sides = front s rest.side

    asks_at : (k : ℕ) → k < suc n → way (tables k) ≡ Some (sides k, 0)
    unfolding tables sides
    asks_at zero l = goes
    asks_at (suc k) l = rest.asks k (omega arith)

    links_at : (k : ℕ) → k < suc n → near (tables k) (sides k) ≡ Some (tables (suc k))
    unfolding tables sides
    links_at zero l = links ∙ ap Some (sym rest.starts)
    links_at (suc k) l = rest.links k (omega arith)

    rank_is : rank (key (segment t s)) ≡ rank k₀
    rank_is = ap rank is

    second_is : (key (segment t s)).second ≡ k₀.second
    second_is = ap (λ x. x.second) is

    rise_at : (k : ℕ) → suc k < suc n → pair_before (key (segment (tables k) (sides k))) (key (segment (tables (suc k)) (sides (suc k)))) ≡ true
    unfolding tables sides
    rise_at zero l =
        let z : 0 < n = omega arith in
        before_by (key (segment t s)) (key (segment (rest.table 0) (rest.side 0))) (omega (arith, rank_is, rest.first z)) (omega (arith, second_is)) (rest.small z) (cases_lt _ _)
    rise_at (suc k) l = rest.rise k (omega arith)

    going_on : Going t low (suc n)
    unfolding tables sides
    going_on = record {
      table = tables;
      side = sides;
      starts = refl;
      asks = asks_at;
      links = links_at;
      first = λ z. omega (arith, rank_is);
      small = λ z. omega (arith, second_is);
      rise = rise_at;
      ends = rest.ends;
    }

module _ (near : ℕ → Side → Option ℕ) (back : Mutual near) (within : Within near) (root depth : ℕ → ℕ) (side : ℕ → Option Side) (parent : ℕ → Option ℕ) (tree : TreeOf near root depth side parent) (d : ℕ) (small : d < 256) where
  module _ (way : ℕ → Option (Side × ℕ)) (key : ℕ → Pair ℕ ℕ) (way_is : (t : ℕ) → t < 256 → (t ≡ d → ⊥) → root t ≡ root d → way t ≡ noted (towards side t (child_on parent 255 t d))) (up_key : (t : ℕ) (s : Side) → t < 256 → side t ≡ Some s → key (segment t s) ≡ pair 0 (255 - depth t)) (down_key : (x : ℕ) → x < 256 → (u : Up near depth side parent x) → key (segment (upper parent x) (opposite u.to)) ≡ pair 1 (depth x)) where
    abbrev To : ℕ → ℕ → ℕ → Type 0
    To = Going near way key d

    up : (t : ℕ) → t < 256 → 0 < depth t → Up near depth side parent t
    up = step_up near back within root depth side parent tree

    down : (j : ℕ) → j ≤ depth d → To (above parent j d) (257 + depth (above parent j d)) j
    down zero l = subst (λ x. To x (257 + depth x) 0) (sym (above_none parent d)) (there near way key d (257 + depth d))
    down (suc j) l =
        let x : ℕ = above parent j d in
        let p : ℕ = upper parent x in
        let h : Above near back within root depth side parent tree d small j x = line near back within root depth side parent tree d small j (omega arith) in
        let u : Up near depth side parent x = up x h.fits (omega (arith, h.depth_is)) in
        let most : depth d ≤ 255 = shallow near back within root depth side parent tree d small in
        let o : Above near back within root depth side parent tree d small (suc j) p = over_it near back within root depth side parent tree d small j l u in
        let goes : way p ≡ Some (opposite u.to, 0) = way_is p o.fits (apart near back within root depth side parent tree d small j l u) o.root_is ∙ ap noted (goes_down near back within root depth side parent tree d small j l u) in
        let rest : To x (suc (rank (pair 1 (depth x)))) j = lower near way key d x (257 + depth x) (suc (rank (pair 1 (depth x)))) j (omega arith) (down j (omega arith)) in
        subst (λ y. To y (257 + depth y) (suc j)) (sym (above_more parent j d))
        (going_on near way key d p x (opposite u.to) (257 + depth p) j (pair 1 (depth x)) goes (back x p u.to u.links) (down_key x h.fits u) (omega (arith, u.lower)) (omega (arith, h.depth_is)) rest)

    -- some number of ways
    abbrev Some-to : ℕ → ℕ → Type 0
    Some-to t low = (n : ℕ) × To t low n

    climb : (t : ℕ) → t < 256 → (u : Up near depth side parent t) → way t ≡ Some (u.to, 0) → Some-to (upper parent t) (255 - depth (upper parent t)) → Some-to t (255 - depth t)
    climb t fits u goes rest =
        let most : depth t ≤ 255 = shallow near back within root depth side parent tree t fits in
        let p : ℕ = upper parent t in (
          suc rest.0,
          going_on near way key d t p u.to (255 - depth t) rest.0 (pair 0 (255 - depth t)) goes u.links (up_key t u.to fits u.side_is) (omega arith) (omega arith)
              (lower near way key d p (255 - depth p) (suc (rank (pair 0 (255 - depth t)))) rest.0 (omega (arith, u.lower)) rest.1),
        )

    from_above : (t : ℕ) → above parent (depth d - depth t) d ≡ t → Some-to t (255 - depth t)
    from_above t is =
        let g : To t (257 + depth t) (depth d - depth t) = subst (λ y. To y (257 + depth y) (depth d - depth t)) is (down (depth d - depth t) (omega arith)) in
        (depth d - depth t, lower near way key d t (257 + depth t) (255 - depth t) (depth d - depth t) (omega arith) g)

    goes_up : (e t : ℕ) → t < 256 → root t ≡ root d → depth t ≤ e → Some-to t (255 - depth t)
    goes_up zero t h same l =
        elim (cases_eq (above parent (depth d - depth t) d) t) [ inl is ↦ from_above t is | inr off ↦ absurd (omega (arith, not_root near back within root depth side parent tree d small t h same off)) ]
    goes_up (suc e) t h same l =
        elim (cases_eq (above parent (depth d - depth t) d) t) [
          | inl is ↦ from_above t is
          | inr off ↦
              (let u : Up near depth side parent t = up t h (not_root near back within root depth side parent tree d small t h same off) in
              let w : upper parent t < 256 = (within t (upper parent t) u.to u.links).1 in
              let same_root : root t ≡ root (upper parent t) = one near back within root depth side parent tree t (upper parent t) 1 (link u.to stay u.links) w in
              let goes : way t ≡ Some (u.to, 0) = way_is t h (apart_from near back within root depth side parent tree d small t h same off) same ∙ ap noted (goes_parent near back within root depth side parent tree d small t h same off u) in
              climb t h u goes (goes_up e (upper parent t) w (sym same_root ∙ same) (omega (arith, u.lower))))
        ]

    pub arrives : (t : ℕ) → t < 256 → root t ≡ root d → Some-to t (255 - depth t)
    arrives t h same = goes_up (depth t) t h same (omega arith)
