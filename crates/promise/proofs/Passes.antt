-- What a pass is worth.
use Rattle.std.proofs.Common.{◌≡◌, ℕ, Bool, true, false, not, ◌&&◌, Some, None, Option, refl, inl, inr, arith}
use borrow.Author.Tests.{eqb-false}
use Rattle.std.proofs.lemmas.Bool.{both_ways, cases_lt, le-ltb, cond-false}
use Rattle.routes.specs.Routings.{Routing}
use Rattle.routes.specs.Steps.{route_check}
use Rattle.routes.specs.Routes.{Exact}
use Rattle.routes.proofs.Limits.{Proper}
use Rattle.routes.proofs.Exactly.{exact}
use Rattle.plancheck.proofs.Decides.{passes, longest_bounds}
use Rattle.trays.proofs.Ahead.{Routed, Within, Small}
use Rattle.trays.proofs.Keeps.{promised}
use Rattle.promise.specs.Floors.{site_for, FlowsAfterPass}
use Rattle.promise.proofs.Courses.{listed}

three : (x y z : Bool) → ((x && y) && not z) ≡ true → (x ≡ true) × (y ≡ true) × (z ≡ false)
three true true false e = (refl, refl, refl)
three true true true e = absurd (both_ways false refl e)
three true false z e = absurd (both_ways false refl e)
three false y z e = absurd (both_ways false refl e)

-- a segment that exists has a number below 1024
small : (s : Routing) → Small (site_for s)
small s q u e =
    elim (cases_lt q 1024) [
      | inl l ↦ l
      | inr g ↦ let none = cond-false _ _ _ (le-ltb q 1024 g) in let z : ◌≡◌ {A = ℕ} 0 1 = some_none _ u e none in absurd (omega arith)
    ]
  where
    some_none : (o : Option ℕ) (u : ℕ) → o ≡ Some u → o ≡ None → ◌≡◌ {A = ℕ} 0 1
    some_none o u p q = cc

module _ (s : Routing) (proper : Proper s) where
  exactly : (o d : ℕ) → Exact s o d (route_check s o d)
  exactly o d = exact s o d proper (route_check s o d) refl

  pub flows : FlowsAfterPass s
  flows a e =
      let p = passes s proper a e in
      let routed : Routed (site_for s) s.rises p.routes = λ o d two. let t = three _ _ _ two in listed s d o (p.routes o d) (p.routed o d t.0 t.1 (eqb-false o d t.2)) in
      let short : Within (site_for s) p.routes 960 = λ o d two. let t = three _ _ _ two in (exactly o d).short _ (p.routed o d t.0 t.1 (eqb-false o d t.2)) in
      let within : Within (site_for s) p.routes a.longest = λ o d two. let t = three _ _ _ two in longest_bounds s proper a e o d t.0 t.1 (eqb-false o d t.2) _ (p.routed o d t.0 t.1 (eqb-false o d t.2)) in
      record {
        routes = p.routes;
        routed = p.routed;
        no_other = λ o d qs rs x y. (exactly o d).once qs rs x y;
        after_every_list = promised (site_for s) s.rises (small s) (record { irreflexive = proper.irreflexive; transitive = proper.transitive }) p.routes routed short a.longest within;
      }
