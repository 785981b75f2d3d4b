-- A route by places is a route as a list.
use Rattle.std.proofs.Common.{◌≡◌, ℕ, zero, suc, ◌+◌, List, Some, sym, ap, ◌∙◌, subst, arith}
use Rattle.map.specs.Sides.{segment}
use Rattle.routes.specs.Routings.{Routing}
use Rattle.routes.specs.Routes.{Course, segments_from}
use Rattle.routes.specs.Routes as Routes
use Rattle.trays.specs.Sites.{wanted}
use Rattle.trays.proofs.Ahead.{Ahead, Route}
use Rattle.promise.specs.Floors.{site_for}

module _ (s : Routing) (d : ℕ) where
  ahead : (t n len : ℕ) (c : Course s d t n len) (k j : ℕ) → suc k + j ≡ len → Ahead (site_for s) s.rises d (segment (c.table k) (c.side k)) (c.note (suc k)) (segments_from c.table c.side (suc k) j)
  ahead t n len c k zero e = let here : suc k ≡ len = omega arith in c.leads k (omega arith) ∙ ap Some (ap c.table here ∙ c.ends)
  ahead t n len c k (suc j) e = (
    c.table (suc k),
    c.note (suc (suc k)),
    c.leads k (omega arith),
    c.not_sooner (suc k) (omega arith) (omega arith),
    ap (wanted (c.table (suc k))) (c.asks (suc k) (omega arith)),
    c.opens (suc k) (omega arith),
    c.rise k (omega arith),
    ahead t n len c (suc k) j (omega arith),
  )

  course_route : (o len : ℕ) (c : Course s d o (s.first o d) len) → Route (site_for s) s.rises d o (segments_from c.table c.side 0 len)
  course_route o zero c = let z = c.some in absurd (omega arith)
  course_route o (suc len) c = (
    c.note 1,
    ap (λ x. wanted x (s.way x d (s.first o d))) (sym c.starts) ∙ ap (λ y. wanted (c.table 0) (s.way (c.table 0) d y)) (sym c.noted) ∙ ap (wanted (c.table 0)) (c.asks 0 (omega arith)),
    c.opens 0 (omega arith),
    ahead o (s.first o d) (suc len) c 0 len (omega arith),
  )

  pub listed : (o : ℕ) (qs : List ℕ) → Routes.Route s o d qs → Route (site_for s) s.rises d o qs
  listed o qs r = subst (Route (site_for s) s.rises d o) (sym r.is) (course_route o r.len r.course)
