-- The check passes a plan exactly where all routes are there, and refuses it exactly where one fails.
use Rattle.std.proofs.Common.{◌≡◌, ℕ, suc, ◌+◌, ◌≤◌, List, [], ◌∷◌, ◌++◌, length, Ok, Err, Result, sym, refl, ap, ◌∙◌, inl, inr, arith}
use Rattle.routes.specs.declared.refusal.Refusal.{Refusal}
use Rattle.routes.specs.Routings.{Routing}
use Rattle.routes.specs.Steps.{route_check}
use Rattle.routes.specs.Routes.{Route, Exact}
use Rattle.routes.proofs.Limits.{Proper, ok_not_err, ok_same}
use Rattle.routes.proofs.Exactly.{exact}
use Rattle.plancheck.specs.declared.pass.Pass.{Pass}
use Rattle.plancheck.specs.Totals.{larger, no_pairs, counting}
use Rattle.plancheck.specs.Pairs.{wanted_pairs}
use Rattle.plancheck.specs.Wanted.{PairIn}
use Rattle.plancheck.specs.Plans.{counted, check_pairs, plan_check}
use Rattle.plancheck.specs.Decisions.{all_segments, longest_route, Passed, Fails, Decided}
use Rattle.plancheck.specs.Longest.{Longest-bounds}
use Rattle.plancheck.proofs.Joins.{and_then, join}
use Rattle.plancheck.proofs.Larger.{larger_larger, larger_none, larger_zero, first_within, second_within}
use Rattle.plancheck.proofs.AllPairs.{all_wanted}

abbrev pass_of : ℕ → ℕ → ℕ → Pass
pass_of x y z = record { pairs = x; segments = y; longest = z }

same_pass : (a : Pass) (x y z : ℕ) → a.pairs ≡ x → a.segments ≡ y → a.longest ≡ z → a ≡ pass_of x y z
same_pass a x y z e f g = ap (λ v. pass_of v a.segments a.longest) e ∙ ap (λ v. pass_of x v a.longest) f ∙ ap (λ v. pass_of x y v) g

ok_pass : (r : Result Pass Refusal) (a b : Pass) → r ≡ Ok a → r ≡ Ok b → a ≡ b
ok_pass r a b p q = cc

pass_not_err : (r : Result Pass Refusal) (a : Pass) (e : Refusal) → r ≡ Ok a → r ≡ Err e → ⊥
pass_not_err r a e p q = let z : ◌≡◌ {A = ℕ} 0 1 = cc in omega arith

ap_err : (y x : Refusal) → ◌≡◌ {A = Result Pass Refusal} (Err y) (Err x) → ◌≡◌ {A = Result ℕ Refusal} (Err y) (Err x)
ap_err y x e = let same : y ≡ x = cc in ap Err same

-- where each pair has its route, the routes are counted
totals : (s : Routing) (routes : ℕ → ℕ → List ℕ) (ps : List (ℕ × ℕ)) (a : Pass) → ((o d : ℕ) → PairIn o d ps → route_check s o d ≡ Ok (length (routes o d))) → check_pairs s a ps ≡ Ok (pass_of (a.pairs + length ps) (a.segments + all_segments routes ps) (larger a.longest (longest_route routes ps)))
totals s routes [] a fine =
    let e : a.pairs ≡ a.pairs + 0 = omega arith in
    let f : a.segments ≡ a.segments + 0 = omega arith in
    ap Ok (same_pass a _ _ _ e f (sym (larger_zero a.longest)))
totals s routes (p ∷ ps) a fine =
    let n = length (routes p.0 p.1) in
    let e : a.pairs + 1 + length ps ≡ a.pairs + suc (length ps) = omega arith in
    let f : a.segments + n + all_segments routes ps ≡ a.segments + (n + all_segments routes ps) = omega arith in
    ap (λ r. counted a r (λ b. check_pairs s b ps)) (fine p.0 p.1 (inl (refl, refl)))
    ∙ totals s routes ps (counting a n) (λ o d i. fine o d (inr i))
    ∙ ap Ok (same_pass _ _ _ _ e f (larger_larger a.longest n (longest_route routes ps)))

-- no route is longer than the longest
bounded : (routes : ℕ → ℕ → List ℕ) (ps : List (ℕ × ℕ)) (o d : ℕ) → PairIn o d ps → length (routes o d) ≤ longest_route routes ps
bounded routes [] o d i = absurd i
bounded routes (p ∷ ps) o d (inl e) = rw (e.0, e.1) (first_within _ _)
bounded routes (p ∷ ps) o d (inr i) =
    let on = bounded routes ps o d i in
    let more = second_within (length (routes p.0 p.1)) (longest_route routes ps) in
    omega arith

module _ (s : Routing) (proper : Proper s) where
  exactly : (o d : ℕ) → Exact s o d (route_check s o d)
  exactly o d = exact s o d proper (route_check s o d) refl

  pick : (o d : ℕ) (r : Result ℕ Refusal) → route_check s o d ≡ r → List ℕ
  pick o d (Ok n) e = ((exactly o d).passes n e).0
  pick o d (Err x) e = []

  picked : (o d : ℕ) (r : Result ℕ Refusal) (e : route_check s o d ≡ r) (n : ℕ) → r ≡ Ok n → Route s o d (pick o d r e) × (length (pick o d r e) ≡ n)
  unfolding pick
  picked o d (Ok m) e n p = (((exactly o d).passes m e).1, ((exactly o d).passes m e).2 ∙ ok_same (Ok m) m n refl p)
  picked o d (Err x) e n p = absurd (ok_not_err _ n x p refl)

  -- the route of a pair, where it has one
  route_of : ℕ → ℕ → List ℕ
  route_of o d = pick o d (route_check s o d) refl

  is_route : (o d n : ℕ) → route_check s o d ≡ Ok n → Route s o d (route_of o d)
  unfolding route_of
  is_route o d n e = (picked o d (route_check s o d) refl n e).0

  counts_route : (o d n : ℕ) → route_check s o d ≡ Ok n → route_check s o d ≡ Ok (length (route_of o d))
  unfolding route_of
  counts_route o d n e = e ∙ ap Ok (sym (picked o d (route_check s o d) refl n e).1)

  abbrev Fine : List (ℕ × ℕ) → Type 0
  Fine ps = (o d : ℕ) → PairIn o d ps → route_check s o d ≡ Ok (length (route_of o d))

  -- the first pair of ps that is refused, and those before it
  record First (ps : List (ℕ × ℕ)) (e : Refusal) : Type 0 where
    earlier : List (ℕ × ℕ)
    origin : ℕ
    destination : ℕ
    later : List (ℕ × ℕ)
    split : ps ≡ earlier ++ (origin, destination) ∷ later
    fine : Fine earlier
    refused : route_check s origin destination ≡ Err e

  module _ (p : ℕ × ℕ) (ps : List (ℕ × ℕ)) (a : Pass) where
    fine_one : (b : Pass) → ((c : Pass) → check_pairs s c ps ≡ Ok b → Fine ps) → (r : Result ℕ Refusal) → route_check s p.0 p.1 ≡ r → counted a r (λ c. check_pairs s c ps) ≡ Ok b → Fine (p ∷ ps)
    fine_one b ih (Ok n) is e o d (inl at) = rw (at.0, at.1) (counts_route _ _ n is)
    fine_one b ih (Ok n) is e o d (inr i) = ih (counting a n) e o d i
    fine_one b ih (Err x) is e o d i = absurd (pass_not_err _ b x e refl)

    first_one : (x : Refusal) → ((c : Pass) → check_pairs s c ps ≡ Err x → First ps x) → (r : Result ℕ Refusal) → route_check s p.0 p.1 ≡ r → counted a r (λ c. check_pairs s c ps) ≡ Err x → First (p ∷ ps) x
    first_one x ih (Ok n) is e =
        let f = ih (counting a n) e in
        record {
          earlier = p ∷ f.earlier;
          origin = f.origin;
          destination = f.destination;
          later = f.later;
          split = ap (λ qs. p ∷ qs) f.split;
          fine = λ o d. elim [ inl at ↦ rw (at.0, at.1) (counts_route _ _ n is) | inr i ↦ f.fine o d i ];
          refused = f.refused;
        }
    first_one x ih (Err y) is e =
        record { earlier = []; origin = p.0; destination = p.1; later = ps; split = refl; fine = λ o d i. absurd i; refused = is ∙ ap_err y x e }

  all_fine : (ps : List (ℕ × ℕ)) (a b : Pass) → check_pairs s a ps ≡ Ok b → Fine ps
  all_fine [] a b e = λ o d i. absurd i
  all_fine (p ∷ ps) a b e = fine_one p ps a b (λ c. all_fine ps c b) (route_check s p.0 p.1) refl e

  first_refused : (ps : List (ℕ × ℕ)) (a : Pass) (x : Refusal) → check_pairs s a ps ≡ Err x → First ps x
  first_refused [] a x e = absurd (pass_not_err _ a x refl e)
  first_refused (p ∷ ps) a x e = first_one p ps a x (λ c. first_refused ps c x) (route_check s p.0 p.1) refl e

  pub passes : (a : Pass) → plan_check s ≡ Ok a → Passed s a
  passes a p =
      let fine = all_fine (wanted_pairs s.map) no_pairs a p in
      let same = ok_pass _ a _ p (totals s route_of (wanted_pairs s.map) no_pairs fine) in
      record {
        routes = route_of;
        routed = λ o d i j ne. is_route o d _ (fine o d ((all_wanted s.map).has o d i j ne));
        pairs = ap (λ b. b.pairs) same ∙ omega arith;
        segments = ap (λ b. b.segments) same ∙ omega arith;
        longest = ap (λ b. b.longest) same ∙ larger_none _;
      }

  passed : (a : Pass) → Passed s a → plan_check s ≡ Ok a
  passed a c =
      let fine : (o d : ℕ) → PairIn o d (wanted_pairs s.map) → route_check s o d ≡ Ok (length (c.routes o d)) =
      λ o d i. let q = (all_wanted s.map).only o d i in (exactly o d).routed _ (c.routed o d q.0 q.1 q.2) in
      let pairs = c.pairs in
      let segments = c.segments in
      totals s c.routes (wanted_pairs s.map) no_pairs fine ∙ ap Ok (sym (same_pass a _ _ _ (omega arith) (omega arith) (c.longest ∙ sym (larger_none _))))

  refuses : (e : Refusal) → plan_check s ≡ Err e → Fails s e
  refuses e p =
      let f = first_refused (wanted_pairs s.map) no_pairs e p in
      record {
        earlier = f.earlier;
        origin = f.origin;
        destination = f.destination;
        later = f.later;
        wanted = f.split;
        routed = λ o d i. (route_of o d, is_route o d _ (f.fine o d i));
        fault = (exactly f.origin f.destination).refuses e f.refused;
        no_route = λ qs r. ok_not_err _ (length qs) e ((exactly f.origin f.destination).routed qs r) f.refused;
      }

  failing : (e : Refusal) → Fails s e → plan_check s ≡ Err e
  failing e f =
      let fine : Fine f.earlier = λ o d i. let q = f.routed o d i in counts_route o d _ ((exactly o d).routed q.0 q.1) in
      let rest = (f.origin, f.destination) ∷ f.later in
      let refused : (b : Pass) → check_pairs s b rest ≡ Err e =
      λ b. ap (λ x. counted b x (λ c. check_pairs s c f.later)) ((exactly f.origin f.destination).faulty e f.fault) in
      ap (check_pairs s no_pairs) f.wanted
      ∙ join s rest f.earlier no_pairs
      ∙ ap (λ x. and_then x (λ c. check_pairs s c rest)) (totals s route_of f.earlier no_pairs fine)
      ∙ refused _

  pub decided : (r : Result Pass Refusal) → r ≡ plan_check s → Decided s r
  decided r is =
      record { passes = λ a p. passes a (sym is ∙ p); passed = λ a p. is ∙ passed a p; refuses = λ e p. refuses e (sym is ∙ p); failing = λ e f. is ∙ failing e f }

  pub longest_bounds : Longest-bounds s
  longest_bounds a e o d i j ne qs r =
      let p = passes a e in
      let one = (exactly o d).once qs (p.routes o d) r (p.routed o d i j ne) in
      let same = ap length one in
      let less = bounded p.routes (wanted_pairs s.map) o d ((all_wanted s.map).has o d i j ne) in
      let longest = p.longest in
      omega arith
