-- The roots, depths and parents of a map are a tree, and its ways lead where they should.
use Rattle.std.proofs.Common.{◌≡◌, ℕ, zero, suc, ◌+◌, ◌-◌, ◌<◌, ◌≤◌, Bool, true, false, eqb, is_some, Some, None, Option, sym, refl, ap, ◌∙◌, subst, inl, inr, arith}
use Rattle.std.proofs.lemmas.Bool.{cases_lt, cases_eq, cases_Bool, both_ways, eq-eqb, ne_eqb, cond-true, cond-false}
use Rattle.map.specs.declared.side.Side.{Side}
use Rattle.map.specs.Sides.{opposite, segment}
use Rattle.map.specs.Layouts.{Layout}
use Rattle.links.specs.Links.{near, present}
use Rattle.links.specs.Groups.{Chain, Joined, DepthOf, RootOf}
use Rattle.links.specs.Groups.Chain.{stay, link}
use Rattle.links.specs.Distances.{distance}
use Rattle.links.specs.Trees.{first_of, lowest, root_of, depth_under, depth_of, or_zero, depth, up_side, over, parent_side, parent_of}
use Rattle.links.specs.Ways.{child_on, towards, one_group, noted, tree_way, key_over, tree_key}
use Rattle.links.specs.Courses.{Course, Leads, Meaning}
use Rattle.links.proofs.Chains.{Within, none_some, same_some, append, turned, starts_within}
use Rattle.links.proofs.Layers.{fewest_of, distance_some, distance_at, distance_none}
use Rattle.links.proofs.Nearby.{Sized, near_both, near_within, near_beside, near_present, present_small, head_open}
use Rattle.map.specs.Floors.{beside}
use Rattle.links.proofs.Lines.{or_self, upper}
use Rattle.links.proofs.Parents.{TreeOf, one_root, step_up, side_at_root}
use Rattle.links.proofs.Ranks.{up_key, down_key, key_same}
use Rattle.links.proofs.Turns.{over_there, over_apart, over_on}
use Rattle.links.proofs.Trips.{Going, arrives}

record First (test : ℕ → Bool) (k r : ℕ) : Type 0 where
  passes : test r ≡ true
  earlier : (i : ℕ) → k ≤ i → i < r → test i ≡ false

first_some : (test : ℕ → Bool) (n k r : ℕ) → first_of test n k ≡ Some r → First test k r
unfolding first_of
first_some test zero k r e = absurd (none_some r e)
first_some test (suc n) k r e =
    elim (cases_Bool (test k)) [
      | inl y ↦
          (let is : k ≡ r = same_some k r (sym (cond-true _ _ _ y) ∙ e) in
          record { passes = ap test (sym is) ∙ y; earlier = λ i l h. absurd (omega arith) })
      | inr m ↦
          (let f = first_some test n (suc k) r (sym (cond-false _ _ _ m) ∙ e) in
          record { passes = f.passes; earlier = λ i l h. elim (cases_eq i k) [ inl is ↦ ap test is ∙ m | inr ne ↦ f.earlier i (omega arith) h ] })
    ]

first_none : (test : ℕ → Bool) (n k i : ℕ) → first_of test n k ≡ None → k ≤ i → i < k + n → test i ≡ false
unfolding first_of
first_none test zero k i e l h = absurd (omega arith)
first_none test (suc n) k i e l h =
    elim (cases_Bool (test k)) [
      | inl y ↦ absurd (none_some k (sym e ∙ cond-true _ _ _ y))
      | inr m ↦ elim (cases_eq i k) [ inl is ↦ ap test is ∙ m | inr ne ↦ first_none test n (suc k) i (sym (cond-false _ _ _ m) ∙ e) (omega arith) (omega arith) ]
    ]

pub some_is : (o : Option ℕ) → is_some o ≡ true → (n : ℕ) × (o ≡ Some n)
some_is None e = absurd (both_ways false refl e)
some_is (Some n) e = (n, refl)

pub none_is : (o : Option ℕ) → is_some o ≡ false → o ≡ None
none_is None e = refl
none_is (Some n) e = absurd (both_ways true e refl)

module _ (links : ℕ → Side → Option ℕ) (within : Within links) where
  lowest_root : (t r : ℕ) → t < 256 → lowest links t ≡ Some r → RootOf links t r
  unfolding lowest
  lowest_root t r h e =
      let f = first_some (λ x. is_some (distance links x t)) 256 0 r e in
      let s = some_is (distance links r t) f.passes in
      record {
        joined = (s.0, (distance_some links within r t s.0 s.1).chain);
        lowest = λ b j. elim (cases_lt b r) [ inl l ↦ absurd (distance_none links within b t h (none_is _ (f.earlier b (omega arith) l)) j) | inr l ↦ l ];
      }

  lowest_some : (t : ℕ) → t < 256 → (r : ℕ) × (lowest links t ≡ Some r)
  unfolding lowest
  lowest_some t h = pick (first_of (λ x. is_some (distance links x t)) 256 0) refl
    where
      pick : (o : Option ℕ) → first_of (λ x. is_some (distance links x t)) 256 0 ≡ o → (r : ℕ) × (first_of (λ x. is_some (distance links x t)) 256 0 ≡ Some r)
      pick (Some r) e = (r, e)
      pick None e = absurd (distance_none links within t t h (none_is _ (first_none (λ x. is_some (distance links x t)) 256 0 t e (omega arith) (omega arith))) (0, stay))

module _ (m : Layout) (size : Sized m) where
  pub root_present : (t : ℕ) → present m t ≡ true → (r : ℕ) × (root_of m t ≡ Some r) × RootOf (near m) t r
  unfolding root_of
  root_present t p =
      let h = present_small m size t p in
      let l = lowest_some (near m) (near_within m size) t h in
      (l.0, cond-true _ _ _ p ∙ l.1, lowest_root (near m) (near_within m size) t l.0 h l.1)

  pub root_absent : (t : ℕ) → present m t ≡ false → root_of m t ≡ None
  unfolding root_of
  root_absent t p = cond-false _ _ _ p

  pub root_some : (t r : ℕ) → root_of m t ≡ Some r → present m t ≡ true
  root_some t r e = elim (cases_Bool (present m t)) [ inl y ↦ y | inr n ↦ absurd (none_some r (sym (root_absent t n) ∙ e)) ]

  pub root_meant : (t r : ℕ) → root_of m t ≡ Some r → RootOf (near m) t r
  root_meant t r e = let p = root_present t (root_some t r e) in subst (λ x. RootOf (near m) t x) (same_some p.0 r (sym p.1 ∙ e)) p.2

  pub depth_some : (t r : ℕ) → root_of m t ≡ Some r → (e : ℕ) × (depth_of m t ≡ Some e) × DepthOf (near m) r t e
  unfolding depth_of
  depth_some t r e =
      let j = (root_meant t r e).joined in
      let d = fewest_of (near m) (near_within m size) r t j.0 j.1 in
      (d.0, ap (depth_under m t) e ∙ distance_at (near m) (near_within m size) r t d.0 (present_small m size t (root_some t r e)) d.1, d.1)

  pub depth_absent : (t : ℕ) → present m t ≡ false → depth_of m t ≡ None
  unfolding depth_of
  depth_absent t p = ap (depth_under m t) (root_absent t p)

  -- a table that is closed or missing is joined to itself alone
  pub alone : (t b : ℕ) → present m t ≡ false → Joined (near m) b t → b ≡ t
  alone t b p j = pick j.1 p
    where
      pick : {b t n : ℕ} → Chain (near m) b t n → present m t ≡ false → b ≡ t
      pick stay p = refl
      pick {b} {t} (link {b = y} s q e) p = absurd (both_ways _ p (near_present m size t y (opposite s) (near_both m size y t s e)))

  -- the root as a number: a table in no group stands for itself
  abbrev pub root_at : ℕ → ℕ
  root_at t = or_self (root_of m t) t

  alone_root : (t : ℕ) → present m t ≡ false → RootOf (near m) t t
  alone_root t p = record { joined = (0, stay); lowest = λ b j. omega (arith, alone t b p j) }

  pub depth_is : (t e : ℕ) → depth_of m t ≡ Some e → depth m t ≡ e
  unfolding depth
  depth_is t e h = ap or_zero h

  pub depth_none : (t : ℕ) → present m t ≡ false → depth m t ≡ 0
  unfolding depth
  depth_none t p = ap or_zero (depth_absent t p)

  pub sides_are : (t : ℕ) → parent_side m t ≡ up_side (near m) (depth m) t
  unfolding parent_side
  sides_are t = refl

  pub parents_are : (t : ℕ) → parent_of m t ≡ over (near m) t (parent_side m t)
  unfolding parent_of
  parents_are t = refl

  roots_are : (t : ℕ) → RootOf (near m) t (root_at t)
  roots_are t =
      elim (cases_Bool (present m t)) [
        | inl y ↦ (let r = root_present t y in subst (λ o. RootOf (near m) t (or_self o t)) (sym r.1) r.2)
        | inr n ↦ subst (λ o. RootOf (near m) t (or_self o t)) (sym (root_absent t n)) (alone_root t n)
      ]

  depths_are : (t : ℕ) → DepthOf (near m) (root_at t) t (depth m t)
  depths_are t =
      elim (cases_Bool (present m t)) [
        | inl y ↦
            (let r = root_present t y in
            let e = depth_some t r.0 r.1 in
            subst (λ o. DepthOf (near m) (or_self o t) t (depth m t)) (sym r.1) (subst (λ n. DepthOf (near m) r.0 t n) (sym (depth_is t e.0 e.1)) e.2))
        | inr n ↦ subst (λ o. DepthOf (near m) (or_self o t) t (depth m t)) (sym (root_absent t n)) (subst (λ n. DepthOf (near m) t t n) (sym (depth_none t n)) (record { chain = stay; fewest = λ i c. omega arith }))
      ]

  pub grown : TreeOf (near m) root_at (depth m) (parent_side m) (parent_of m)
  grown = record { roots = λ t h. roots_are t; depths = λ t h. depths_are t; sides = sides_are; parents = parents_are }

  pub joined_back : (t d : ℕ) → Joined (near m) t d → Joined (near m) d t
  joined_back t d j = (j.0, turned (near m) (near_both m size) j.1)

  -- tables of one root are joined
  pub one_group_lem : (t d : ℕ) → root_at t ≡ root_at d → Joined (near m) t d
  one_group_lem t d e =
      let a = (roots_are t).joined in let b = (roots_are d).joined in
      (a.0 + b.0, append (near m) t (root_at t) a.0 (turned (near m) (near_both m size) a.1) (subst (λ r. Chain (near m) r d b.0) (sym e) b.1))

  -- and two such are there
  pub both_there : (t d : ℕ) → (t ≡ d → ⊥) → Joined (near m) t d → present m d ≡ true
  both_there t d ne j = elim (cases_Bool (present m d)) [ inl y ↦ y | inr n ↦ absurd (ne (alone d t n j)) ]

  group_by : (t d r q : ℕ) → root_of m t ≡ Some r → root_of m d ≡ Some q → one_group (root_of m t) (root_of m d) ≡ eqb r q
  group_by t d r q e f = ap (λ o. one_group o (root_of m d)) e ∙ ap (one_group (Some r)) f

  root_number : (t r : ℕ) → root_of m t ≡ Some r → root_at t ≡ r
  root_number t r e = ap (λ o. or_self o t) e

  pub way_there : (t d : ℕ) → t ≡ d → tree_way m t d ≡ None
  unfolding tree_way
  way_there t d e = over_there (root_of m) (parent_side m) (parent_of m) t d e

  way_apart : (t d : ℕ) → (t ≡ d → ⊥) → one_group (root_of m t) (root_of m d) ≡ false → tree_way m t d ≡ None
  unfolding tree_way
  way_apart t d ne e = over_apart (root_of m) (parent_side m) (parent_of m) t d ne e

  way_on : (t d : ℕ) → (t ≡ d → ⊥) → one_group (root_of m t) (root_of m d) ≡ true → tree_way m t d ≡ noted (towards (parent_side m) t (child_on (parent_of m) 255 t d))
  unfolding tree_way
  way_on t d ne e = over_on (root_of m) (parent_side m) (parent_of m) t d _ ne e refl

  pub way_is : (d t : ℕ) → (t ≡ d → ⊥) → root_at t ≡ root_at d → tree_way m t d ≡ noted (towards (parent_side m) t (child_on (parent_of m) 255 t d))
  way_is d t ne e =
      let j = one_group_lem t d e in
      let rd = root_present d (both_there t d ne j) in
      let rt = root_present t (both_there d t (λ f. ne (sym f)) (joined_back t d j)) in
      let is : rt.0 ≡ rd.0 = sym (root_number t rt.0 rt.1) ∙ e ∙ root_number d rd.0 rd.1 in
      way_on t d ne (group_by t d rt.0 rd.0 rt.1 rd.1 ∙ eq-eqb _ _ is)

  group_none : (t d : ℕ) (o p : Option ℕ) → root_of m t ≡ o → root_of m d ≡ p → (Joined (near m) t d → ⊥) → one_group o p ≡ false
  group_none t d None p e f h = refl
  group_none t d (Some r) None e f h = refl
  group_none t d (Some r) (Some q) e f h = ne_eqb r q (λ is. h (one_group_lem t d (root_number t r e ∙ is ∙ sym (root_number d q f))))

  pub no_way : (t d : ℕ) → (Joined (near m) t d → ⊥) → tree_way m t d ≡ None
  no_way t d h = way_apart t d (λ e. h (0, subst (λ x. Chain (near m) t x 0) e stay)) (group_none t d (root_of m t) (root_of m d) refl refl h)

  pub keys_are : (n : ℕ) → tree_key m n ≡ key_over (near m) (depth m) (parent_side m) n
  unfolding tree_key
  keys_are n = refl

  module _ (t d : ℕ) (ne : t ≡ d → ⊥) (j : Joined (near m) t d) where
    small : d < 256
    small = present_small m size d (both_there t d ne j)

    fits : t < 256
    fits = starts_within (near m) (near_within m size) j.1 small

    same : root_at t ≡ root_at d
    same = one_root (near m) (near_both m size) (near_within m size) root_at (λ x h. roots_are x) t d j.0 j.1 small

    trip : (n : ℕ) × Going (near m) (λ x. tree_way m x d) (tree_key m) d t (255 - depth m t) n
    trip =
        arrives (near m) (near_both m size) (near_within m size) root_at (depth m) (parent_side m) (parent_of m) grown d small (λ x. tree_way m x d) (tree_key m)
        (λ x h apart e. way_is d x apart e)
        (λ x s h e. keys_are (segment x s) ∙ up_key (near m) (depth m) (parent_side m) x s h e)
        (λ x h u. keys_are _ ∙ down_key (near m) (near_both m size) (near_within m size) root_at (depth m) (parent_side m) (parent_of m) grown x h u)
        t fits same

    course_by : (n : ℕ) → Going (near m) (λ x. tree_way m x d) (tree_key m) d t (255 - depth m t) n → Course m t d
    course_by zero g = absurd (ne (sym g.starts ∙ g.ends))
    course_by (suc n) g = record {
      len = suc n;
      table = g.table;
      side = g.side;
      starts = g.starts;
      some = omega arith;
      asks = g.asks;
      leads = λ k l. (head_open m size (g.table k) (g.table (suc k)) (g.side k) (g.links k l)).0;
      opens = λ k l. (head_open m size (g.table k) (g.table (suc k)) (g.side k) (g.links k l)).1;
      rise = g.rise;
      ends = g.ends;
      not_sooner = λ k z l e. none_some _ (sym (way_there (g.table k) d e) ∙ g.asks k l);
    }

    course : Course m t d
    course = course_by trip.0 trip.1

  absent_by : (t : ℕ) → (present m t ≡ true → ⊥) → present m t ≡ false
  absent_by t h = elim (cases_Bool (present m t)) [ inl y ↦ absurd (h y) | inr n ↦ n ]

  no_group : (o : Option ℕ) → one_group o None ≡ false
  no_group None = refl
  no_group (Some r) = refl

  none_from : (t d : ℕ) → (present m t ≡ true → ⊥) → tree_way m t d ≡ None
  none_from t d h =
      elim (cases_eq t d) [
        | inl e ↦ way_there t d e
        | inr ne ↦ way_apart t d ne (ap (λ o. one_group o (root_of m d)) (root_absent t (absent_by t h)))
      ]

  none_to : (t d : ℕ) → (present m d ≡ true → ⊥) → tree_way m t d ≡ None
  none_to t d h =
      elim (cases_eq t d) [
        | inl e ↦ way_there t d e
        | inr ne ↦ way_apart t d ne (ap (one_group (root_of m t)) (root_absent d (absent_by d h)) ∙ no_group (root_of m t))
      ]

  pub leads : Leads m
  leads = record { joined = course; parted = no_way; there = λ d. way_there d d refl; none_from = none_from; none_to = none_to }

  pub meaning : Meaning m
  meaning = record { roots = root_present; depths = depth_some; no_root = λ t h. root_absent t (absent_by t h); no_depth = λ t h. depth_absent t (absent_by t h) }

  -- a table off the largest floor has no parent
  missing : (t : ℕ) → 256 ≤ t → depth m t ≡ 0
  missing t h = depth_none t (absent_by t (λ p. let l = present_small m size t p in omega arith))

  pub no_side : (t : ℕ) → 256 ≤ t → parent_side m t ≡ None
  no_side t h = side_at_root (near m) (near_both m size) (near_within m size) root_at (depth m) (parent_side m) (parent_of m) grown t (missing t h)

  pub no_parent : (t : ℕ) → 256 ≤ t → parent_of m t ≡ None
  no_parent t h = parents_are t ∙ ap (over (near m) t) (no_side t h)

  -- the side of a parent is that of a link
  linked : (t : ℕ) (s : Side) → parent_side m t ≡ Some s → (u : ℕ) × (near m t s ≡ Some u)
  linked t s e =
      elim (cases_lt t 256) [
        | inr big ↦ absurd (none_some s (sym (no_side t big) ∙ e))
        | inl l ↦ elim (cases_eq (depth m t) 0) [
          | inl z ↦ absurd (none_some s (sym (side_at_root (near m) (near_both m size) (near_within m size) root_at (depth m) (parent_side m) (parent_of m) grown t z) ∙ e))
          | inr n ↦
              (let u = step_up (near m) (near_both m size) (near_within m size) root_at (depth m) (parent_side m) (parent_of m) grown t l (omega arith) in
              let is : u.to ≡ s = same_some _ _ (sym u.side_is ∙ e) in
              (upper (parent_of m) t, ap (near m t) (sym is) ∙ u.links))
        ]
      ]

  -- the keys need no map: neighbours on the largest floor do
  pub keys_large : (n : ℕ) → key_over (beside 16 16) (depth m) (parent_side m) n ≡ tree_key m n
  keys_large n = key_same (near m) (near_both m size) (depth m) (parent_side m) linked (near_beside m size) n ∙ sym (keys_are n)
