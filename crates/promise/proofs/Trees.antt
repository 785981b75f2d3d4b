-- The check passes the tree plan exactly where open links join every two stops.
use Rattle.std.proofs.Common.{◌≡◌, ℕ, ◌+◌, ◌<◌, ◌≤◌, Bool, true, false, ◌&&◌, ◌||◌, eqb, ◌⊎◌, List, [], length, is_ok, Some, None, Ok, Err, Option, Result, sym, refl, ap, ◌∙◌, inl, inr, arith, ltb-true, eqb-true}
use borrow.Author.Tests.{eqb-false}
use Rattle.std.proofs.lemmas.Bool.{both_ways, cases_Bool, eq-eqb, lt-ltb, le-ltb}
use Rattle.map.specs.declared.side.Side.{Side}
use Rattle.map.specs.Layouts.{Layout, is_stop}
use Rattle.map.specs.Rules.{Lawful}
use Rattle.orders.specs.declared.key.Pair.{Pair}
use Rattle.links.specs.Links.{near}
use Rattle.links.specs.Groups.{Chain, Joined}
use Rattle.links.specs.Trees.{root_of}
use Rattle.links.specs.Ways.{one_group, way_over, tree_way, tree_key}
use Rattle.links.specs.Courses.{pair_before, Course}
use Rattle.links.proofs.Nearby.{Sized, near_both}
use Rattle.links.proofs.Chains.{append, turned}
use Rattle.links.proofs.Grown.{meaning, leads}
use Rattle.routes.specs.declared.refusal.Refusal.{Refusal}
use Rattle.routes.specs.Routings.{Routing, by_key}
use Rattle.routes.specs.Routes.{Route, segments_from}
use Rattle.routes.proofs.Limits.{Proper}
use Rattle.plancheck.specs.declared.pass.Pass.{Pass}
use Rattle.plancheck.specs.Pairs.{wanted_pairs}
use Rattle.plancheck.specs.Plans.{plan_check}
use Rattle.plancheck.specs.Decisions.{all_segments, longest_route}
use Rattle.plancheck.proofs.Decides.{passes, decided}
use Rattle.trays.proofs.Lists.{none_some}
use Rattle.promise.specs.Trees.{tree_routing, StopsJoined, TreePasses, EveryTreePasses}

-- Pairs of numbers are ordered strictly.

either : (x y : Bool) → (x || y) ≡ true → (x ≡ true) ⊎ (y ≡ true)
either true y e = inl refl
either false y e = inr e

both : (x y : Bool) → (x && y) ≡ true → (x ≡ true) × (y ≡ true)
both true y e = (refl, e)
both false y e = absurd (both_ways false refl e)

abbrev Less : Pair ℕ ℕ → Pair ℕ ℕ → Type 0
Less x y = (x.first < y.first) ⊎ ((x.first ≡ y.first) × (x.second < y.second))

less : (x y : Pair ℕ ℕ) → pair_before x y ≡ true → Less x y
less x y e =
    elim (either _ _ e) [
      | inl a ↦ inl (ltb-true _ _ a)
      | inr a ↦ let p = both _ _ a in inr (eqb-true _ _ p.0, ltb-true _ _ p.1)
    ]

more : (x y : Pair ℕ ℕ) → Less x y → pair_before x y ≡ true
more x y (inl a) = rw (lt-ltb x.first y.first a)
more x y (inr a) = let l : y.first ≤ x.first = omega (arith, a.0) in rw (le-ltb x.first y.first l, eq-eqb x.first y.first a.0, lt-ltb x.second y.second a.1)

pair_irreflexive : (x : Pair ℕ ℕ) → pair_before x x ≡ false
pair_irreflexive x =
    let a : x.first ≤ x.first = omega arith in
    let b : x.second ≤ x.second = omega arith in
    rw (le-ltb x.first x.first a, eq-eqb x.first x.first refl, le-ltb x.second x.second b)

less_on : (x y z : Pair ℕ ℕ) → Less x y → Less y z → Less x z
less_on x y z (inl a) (inl b) = inl (omega arith)
less_on x y z (inl a) (inr b) = inl (omega (arith, b.0))
less_on x y z (inr a) (inl b) = inl (omega (arith, a.0))
less_on x y z (inr a) (inr b) = inr (a.0 ∙ b.0, omega (arith, a.1, b.1))

pair_transitive : (x y z : Pair ℕ ℕ) → pair_before x y ≡ true → pair_before y z ≡ true → pair_before x z ≡ true
pair_transitive x y z e f = more x z (less_on x y z (less x y e) (less y z f))

module _ (m : Layout) (lawful : Lawful m) where
  size : Sized m
  size = record { wide = lawful.wide.1; high = lawful.high.1 }

  tree_proper : Proper (tree_routing m)
  tree_proper = record { wide = lawful.wide.1; high = lawful.high.1; irreflexive = λ x. pair_irreflexive (tree_key m x); transitive = λ x y z e f. pair_transitive (tree_key m x) (tree_key m y) (tree_key m z) e f }

  -- a chain from the root to each is a chain from the one to the other
  by_root : (r t d i j : ℕ) → Chain (near m) r t i → Chain (near m) r d j → Joined (near m) t d
  by_root r t d i j a b = (i + j, append (near m) t r i (turned (near m) (near_both m size) a) b)

  -- where there is a way, the tables are in one group
  by_roots : (t d : ℕ) (x y : Option ℕ) → root_of m t ≡ x → root_of m d ≡ y → one_group x y ≡ true → Joined (near m) t d
  by_roots t d None y e f g = absurd (both_ways false refl g)
  by_roots t d (Some r) None e f g = absurd (both_ways false refl g)
  by_roots t d (Some r) (Some q) e f g =
      let same = eqb-true r q g in
      let a = (meaning m size).depths t r e in
      let b = (meaning m size).depths d r (f ∙ ap Some (sym same)) in
      by_root r t d a.0 b.0 a.2.chain b.2.chain

  way_joins : (t d : ℕ) (a : Side × ℕ) → tree_way m t d ≡ Some a → Joined (near m) t d
  unfolding tree_way way_over
  way_joins t d a e =
      elim (cases_Bool (eqb t d)) [
        | inl same ↦ absurd (none_some (tree_way m t d) a (rw same) e)
        | inr other ↦ elim (cases_Bool (one_group (root_of m t) (root_of m d))) [
          | inl one ↦ by_roots t d _ _ refl refl one
          | inr two ↦ absurd (none_some (tree_way m t d) a (rw (other, two)) e)
        ]
      ]

  joined : (a : Pass) → plan_check (tree_routing m) ≡ Ok a → StopsJoined m
  joined a e o d i j ne =
      let route = (passes (tree_routing m) tree_proper a e).routed o d i j ne in
      let c = route.course in
      way_joins o d _ (ap (λ t. tree_way m t d) (sym c.starts) ∙ c.asks 0 c.some)

  -- the tree's course is a route
  tree_route : (o d : ℕ) (c : Course m o d) → Route (tree_routing m) o d (segments_from c.table c.side 0 c.len)
  tree_route o d c = record {
    len = c.len;
    course = record {
      table = c.table;
      note = λ k. 0;
      side = c.side;
      starts = c.starts;
      noted = refl;
      some = c.some;
      asks = c.asks;
      leads = c.leads;
      opens = c.opens;
      rise = c.rise;
      ends = c.ends;
      not_sooner = c.not_sooner;
    };
    is = refl;
  }

  module _ (all : StopsJoined m) where
    abbrev course : (o d : ℕ) → is_stop m o ≡ true → is_stop m d ≡ true → (o ≡ d → ⊥) → Course m o d
    course o d i j ne = (leads m size).joined o d ne (all o d i j ne)

    abbrev pick : (o d : ℕ) (x y z : Bool) → is_stop m o ≡ x → is_stop m d ≡ y → eqb o d ≡ z → List ℕ
    pick o d true true false i j e = let c = course o d i j (eqb-false o d e) in segments_from c.table c.side 0 c.len
    pick o d true true true i j e = []
    pick o d true false z i j e = []
    pick o d false y z i j e = []

    picked : (o d : ℕ) (x y z : Bool) (i : is_stop m o ≡ x) (j : is_stop m d ≡ y) (e : eqb o d ≡ z) → is_stop m o ≡ true → is_stop m d ≡ true → (o ≡ d → ⊥) → Route (tree_routing m) o d (pick o d x y z i j e)
    picked o d true true false i j e a b ne = tree_route o d (course o d i j (eqb-false o d e))
    picked o d true true true i j e a b ne = absurd (ne (eqb-true o d e))
    picked o d true false z i j e a b ne = absurd (both_ways _ j b)
    picked o d false y z i j e a b ne = absurd (both_ways _ i a)

    passed : (a : Pass) × (plan_check (tree_routing m) ≡ Ok a)
    passed =
        let routes : ℕ → ℕ → List ℕ = λ o d. pick o d _ _ _ refl refl refl in
        let a : Pass = record { pairs = length (wanted_pairs m); segments = all_segments routes (wanted_pairs m); longest = longest_route routes (wanted_pairs m) } in
        (a, (decided (tree_routing m) tree_proper (plan_check (tree_routing m)) refl).passed a (record { routes = routes; routed = λ o d i j ne. picked o d _ _ _ refl refl refl i j ne; pairs = refl; segments = refl; longest = refl }))

  ok_of : (r : Result Pass Refusal) → is_ok r ≡ true → (a : Pass) × (r ≡ Ok a)
  ok_of (Ok a) e = (a, refl)
  ok_of (Err x) e = absurd (both_ways false refl e)

  pub tree_passes : TreePasses m
  tree_passes = (λ e. let p = ok_of _ e in joined p.0 p.1, λ all. ap is_ok (passed all).1)

pub every_tree_passes : EveryTreePasses
every_tree_passes m lawful = tree_passes m lawful

-- a plan with the ways and keys of the tree is the tree plan
pub tree_plan : (m : Layout) (way : ℕ → ℕ → Option (Side × ℕ)) (key : ℕ → Pair ℕ ℕ) → ((t d : ℕ) → way t d ≡ tree_way m t d) → ((n : ℕ) → key n ≡ tree_key m n) → ◌≡◌ {A = Routing} (record { first = λ o d. 0; way = λ t d n. way t d; map = m; rises = by_key pair_before key }) (tree_routing m)
tree_plan m way key p q = λ i. record { first = λ o d. 0; way = λ t d n. p t d i; map = m; rises = λ a b. pair_before (q a i) (q b i) }
