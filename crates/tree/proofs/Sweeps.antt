-- Spreading from each table in turn that was not reached gives the roots and depths of the map.
use Rattle.std.proofs.Common.{◌≡◌, ℕ, ◌+◌, ◌≤◌, true, false, [], replicate, Some, None, Option, sym, refl, ap, ◌∙◌, subst, inl, inr, arith, below_more}
use Rattle.std.proofs.lemmas.Bool.{cases_lt, cases_Bool, both_ways}
use Rattle.std.proofs.lemmas.List.{length-replicate}
use Rattle.map.specs.declared.side.Side.{Side}
use Rattle.map.specs.Layouts.{Layout}
use Rattle.links.specs.Links.{near, present}
use Rattle.links.specs.Groups.{Chain, RootOf, DepthOf}
use Rattle.links.specs.Groups.Chain.{stay, link}
use Rattle.links.specs.Trees.{root_of, depth}
use Rattle.links.proofs.Chains.{none_some, append, turned, one_depth, one_lowest}
use Rattle.links.proofs.Nearby.{Sized, near_both, present_small}
use Rattle.links.proofs.Grown.{root_present, root_absent, depth_some, depth_is, depth_none, alone}
use Rattle.tree.specs.declared.growth.Growth.{Growth}
use Rattle.tree.specs.declared.growth.Mark.{Mark}
use Rattle.tree.specs.Growths.{marked_root, marked_depth, count, root_in, depth_in, From, Sound, Kept, Swept}
use Rattle.tree.proofs.Missing.{missing_all, unmarked_at}

abbrev pub bare : Growth
bare = record { marks = replicate 256 None; queue = record { items = [] } }

pub swept_none : (m : Layout) → Swept m 0 bare
swept_none m = record {
  sound = record {
    marks_long = length-replicate {A = Option Mark} 256 None;
    counted = missing_all 256;
    taken_few = omega arith;
    small = λ i l. absurd (omega arith);
    shallow = λ i l. absurd (omega arith);
    known = λ i l. absurd (omega arith);
    queued = λ t r e. absurd (none_some r (sym (ap marked_root (unmarked_at 256 t)) ∙ e));
    from = λ t r e. absurd (none_some r (sym (ap marked_root (unmarked_at 256 t)) ∙ e));
    unknown = λ t e. ap marked_depth (unmarked_at 256 t);
    around = λ i u s l e. absurd (omega arith);
  };
  done = λ x l p. absurd (omega arith);
}

module _ (m : Layout) (size : Sized m) (g : Growth) (h : Sound m (count g) g) where
  -- what is over a link of a table that was reached
  over_link : (t u r : ℕ) (s : Side) → root_in g t ≡ Some r → near m t s ≡ Some u → (root_in g u ≡ Some r) × (depth_in g u ≤ depth_in g t + 1)
  over_link t u r s root e =
      let q = h.queued t r root in
      let a = h.around q.0 u s q.1 (ap (λ x. near m x s) q.2 ∙ e) in
      subst (λ x. (root_in g u ≡ Some r) × (depth_in g u ≤ depth_in g x + 1)) q.2 (a.0 ∙ ap (root_in g) q.2 ∙ root, a.1)

  along : (r : ℕ) {a b n : ℕ} → root_in g a ≡ Some r → Chain (near m) a b n → (root_in g b ≡ Some r) × (depth_in g b ≤ depth_in g a + n)
  along r root stay = (root, omega arith)
  along r {a} {b} root (link {b = y} s q e) =
      let p = along r root q in
      let o = over_link y b r s p.0 e in
      (o.0, omega (arith, p.1, o.1))

  module _ (t r : ℕ) (root : root_in g t ≡ Some r) where
    f : From m g t r
    f = h.from t r root

    root_meant : RootOf (near m) t r
    root_meant = record {
      joined = (depth_in g t, f.chain);
      lowest = λ b j. f.lowest.lowest b (_, append (near m) b t j.0 j.1 (turned (near m) (near_both m size) f.chain));
    }

    depth_meant : DepthOf (near m) r t (depth_in g t)
    depth_meant = record { chain = f.chain; fewest = λ i c. omega (arith, (along r f.own c).1, f.none) }

    pub known_there : present m t ≡ true
    known_there = f.there

    pub root_right : root_in g t ≡ root_of m t
    root_right =
        let p = root_present m size t f.there in
        root ∙ ap Some (one_lowest (near m) t r p.0 root_meant p.2) ∙ sym p.1

    pub depth_right : depth_in g t ≡ depth m t
    depth_right =
        let e = depth_some m size t r (sym root_right ∙ root) in
        one_depth (near m) r t (depth_in g t) e.0 depth_meant e.2 ∙ sym (depth_is m size t e.0 e.1)

  pub unknown_gone : (t : ℕ) → present m t ≡ false → root_in g t ≡ None
  unknown_gone t p = pick (root_in g t) refl
    where
      pick : (o : Option ℕ) → root_in g t ≡ o → root_in g t ≡ None
      pick None e = e
      pick (Some r) e = absurd (both_ways _ p (known_there t r e))

module _ (m : Layout) (size : Sized m) (i : ℕ) (g : Growth) (w : Swept m i g) where
  -- the first table of a group that is met is its lowest
  pub lowest_next : root_in g i ≡ None → RootOf (near m) i i
  lowest_next fresh = record {
    joined = (0, stay);
    lowest = λ b j.
        elim (cases_lt b i) [
          | inr ge ↦ ge
          | inl lt ↦ absurd (
              elim (cases_Bool (present m b)) [
                | inl y ↦ (let k = w.done b lt y in none_some k.0 (sym fresh ∙ (along m size g w.sound k.0 k.1 j.1).0))
                | inr n ↦ (let same : i ≡ b = alone m size b i n (j.0, turned (near m) (near_both m size) j.1) in omega arith)
              ]
              )
        ];
  }

  pub swept_spread : (later : Growth) → Sound m (count later) later → Kept g later → root_in later i ≡ Some i → Swept m (i + 1) later
  swept_spread later s k own = record {
    sound = s;
    done = below_more (λ x. present m x ≡ true → (r : ℕ) × (root_in later x ≡ Some r)) i (λ x l p. (let d = w.done x l p in (d.0, k.roots x d.0 d.1))) (λ p. (i, own));
  }

  pub swept_gone : present m i ≡ false → Swept m (i + 1) g
  swept_gone n = record {
    sound = w.sound;
    done = below_more (λ x. present m x ≡ true → (r : ℕ) × (root_in g x ≡ Some r)) i w.done (λ p. absurd (both_ways _ n p));
  }

  pub swept_known : (r : ℕ) → root_in g i ≡ Some r → Swept m (i + 1) g
  swept_known r e = record {
    sound = w.sound;
    done = below_more (λ x. present m x ≡ true → (r : ℕ) × (root_in g x ≡ Some r)) i w.done (λ p. (r, e));
  }

module _ (m : Layout) (size : Sized m) (g : Growth) (w : Swept m 256 g) where
  pub roots_all : (t : ℕ) → root_in g t ≡ root_of m t
  roots_all t =
      elim (cases_Bool (present m t)) [
        | inl y ↦ (let k = w.done t (present_small m size t y) y in root_right m size g w.sound t k.0 k.1)
        | inr n ↦ unknown_gone m size g w.sound t n ∙ sym (root_absent m size t n)
      ]

  pub depths_all : (t : ℕ) → depth_in g t ≡ depth m t
  depths_all t =
      elim (cases_Bool (present m t)) [
        | inl y ↦ (let k = w.done t (present_small m size t y) y in depth_right m size g w.sound t k.0 k.1)
        | inr n ↦ w.sound.unknown t (unknown_gone m size g w.sound t n) ∙ sym (depth_none m size t n)
      ]
