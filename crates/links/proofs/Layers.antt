-- The number of the layer that has a table is the fewest links to it.
use Rattle.std.proofs.Common.{◌≡◌, ℕ, zero, suc, ◌+◌, ◌<◌, ◌≤◌, true, false, cond, ◌||◌, ◌⊎◌, List, [], ◌∷◌, ◌++◌, Some, None, Option, sym, refl, ap, ◌∙◌, subst, inl, inr, arith}
use Rattle.std.proofs.lemmas.Bool.{cases_lt, cases_eq, cases_Bool, both_ways, eq-eqb, eqb-true, or_cases, or_parts, or_left, or_right, cond-true, cond-false}
use Rattle.map.specs.declared.side.Side.{Side}
use Rattle.map.specs.declared.side.Side.TheVariants.{North, East, South, West}
use Rattle.links.specs.Groups.{Chain, Joined, DepthOf}
use Rattle.links.specs.Groups.Chain.{stay, link}
use Rattle.links.specs.Distances.{has, put, around, beyond, layer_of, distance}
use Rattle.links.proofs.Chains.{Within, none_some, same_some, last_link, one_depth}
use Rattle.links.proofs.Covers.{Covers, covered}

abbrev In : ℕ → List ℕ → Type 0
In x xs = has x xs ≡ true

has_none : (x : ℕ) → In x [] → ⊥
unfolding has
has_none x h = both_ways false refl h

empty : (x : ℕ) → has x [] ≡ false
unfolding has
empty x = refl

has_here : (x : ℕ) (xs : List ℕ) → In x (x ∷ xs)
unfolding has
has_here x xs = or_left _ _ (eq-eqb x x refl)

has_later : (x y : ℕ) (xs : List ℕ) → In x xs → In x (y ∷ xs)
unfolding has
has_later x y xs h = or_right _ _ h

has_cases : (x y : ℕ) (xs : List ℕ) → In x (y ∷ xs) → (x ≡ y) ⊎ In x xs
unfolding has
has_cases x y xs h = elim (or_cases _ _ h) [ inl e ↦ inl (eqb-true x y e) | inr i ↦ inr i ]

has_both : (x : ℕ) (xs ys : List ℕ) → In x (xs ++ ys) → In x xs ⊎ In x ys
has_both x [] ys h = inr h
has_both x (y ∷ xs) ys h =
    elim (has_cases x y (xs ++ ys) h) [
      | inl e ↦ inl (subst (λ z. In x (z ∷ xs)) e (has_here x xs))
      | inr i ↦ elim (has_both x xs ys i) [ inl j ↦ inl (has_later x y xs j) | inr j ↦ inr j ]
    ]

has_front : (x : ℕ) (xs ys : List ℕ) → In x xs → In x (xs ++ ys)
has_front x [] ys h = absurd (has_none x h)
has_front x (y ∷ xs) ys h =
    elim (has_cases x y xs h) [
      | inl e ↦ subst (λ z. In x (z ∷ (xs ++ ys))) e (has_here x (xs ++ ys))
      | inr i ↦ has_later x y (xs ++ ys) (has_front x xs ys i)
    ]

has_back : (x : ℕ) (xs ys : List ℕ) → In x ys → In x (xs ++ ys)
has_back x [] ys h = h
has_back x (y ∷ xs) ys h = has_later x y (xs ++ ys) (has_back x xs ys h)

module _ (reached : List ℕ) where
  -- what was put to a layer: it was not reached before
  put_from : (o : Option ℕ) (layer : List ℕ) (x : ℕ) → In x (put reached o layer) → In x layer ⊎ ((o ≡ Some x) × (has x reached ≡ false))
  unfolding put
  put_from None layer x h = inl h
  put_from (Some u) layer x h = pick (cases_Bool (has u reached || has u layer))
    where
      pick : ((has u reached || has u layer) ≡ true) ⊎ ((has u reached || has u layer) ≡ false) → In x layer ⊎ ((Some u ≡ Some x) × (has x reached ≡ false))
      pick (inl y) = inl (subst (λ l. In x l) (cond-true _ _ _ y) h)
      pick (inr n) =
          elim (has_cases x u layer (subst (λ l. In x l) (cond-false _ _ _ n) h)) [
            | inl e ↦ inr (ap Some (sym e), ap (λ z. has z reached) e ∙ (or_parts _ _ n).0)
            | inr i ↦ inl i
          ]

  put_keeps : (o : Option ℕ) (layer : List ℕ) (x : ℕ) → In x layer → In x (put reached o layer)
  unfolding put
  put_keeps None layer x h = h
  put_keeps (Some u) layer x h = pick (cases_Bool (has u reached || has u layer))
    where
      pick : ((has u reached || has u layer) ≡ true) ⊎ ((has u reached || has u layer) ≡ false) → In x (cond (has u reached || has u layer) layer (u ∷ layer))
      pick (inl y) = subst (λ l. In x l) (sym (cond-true _ layer (u ∷ layer) y)) h
      pick (inr n) = subst (λ l. In x l) (sym (cond-false _ layer (u ∷ layer) n)) (has_later x u layer h)

  put_has : (u : ℕ) (layer : List ℕ) → has u reached ≡ false → In u (put reached (Some u) layer)
  unfolding put
  put_has u layer fresh = pick (cases_Bool (has u reached || has u layer))
    where
      pick : ((has u reached || has u layer) ≡ true) ⊎ ((has u reached || has u layer) ≡ false) → In u (cond (has u reached || has u layer) layer (u ∷ layer))
      pick (inl y) = subst (λ l. In u l) (sym (cond-true _ layer (u ∷ layer) y)) (elim (or_cases _ _ y) [ inl r ↦ absurd (both_ways _ fresh r) | inr l ↦ l ])
      pick (inr n) = subst (λ l. In u l) (sym (cond-false _ layer (u ∷ layer) n)) (has_here u layer)

  module _ (near : ℕ → Side → Option ℕ) where
    -- x is over a link of t, and was not reached before
    abbrev Over : ℕ → ℕ → Type 0
    Over t x = (s : Side) × (near t s ≡ Some x) × (has x reached ≡ false)

    around_from : (t : ℕ) (layer : List ℕ) (x : ℕ) → In x (around near reached t layer) → In x layer ⊎ Over t x
    unfolding around
    around_from t layer x h =
        elim (put_from (near t West) _ x h) [
          | inr w ↦ inr (West, w.0, w.1)
          | inl h ↦ elim (put_from (near t South) _ x h) [
            | inr w ↦ inr (South, w.0, w.1)
            | inl h ↦ elim (put_from (near t East) _ x h) [
              | inr w ↦ inr (East, w.0, w.1)
              | inl h ↦ elim (put_from (near t North) _ x h) [
                | inr w ↦ inr (North, w.0, w.1)
                | inl h ↦ inl h
              ]
            ]
          ]
        ]

    around_keeps : (t : ℕ) (layer : List ℕ) (x : ℕ) → In x layer → In x (around near reached t layer)
    unfolding around
    around_keeps t layer x h = put_keeps (near t West) _ x (put_keeps (near t South) _ x (put_keeps (near t East) _ x (put_keeps (near t North) _ x h)))

    put_by : (o : Option ℕ) (layer : List ℕ) (u : ℕ) → o ≡ Some u → has u reached ≡ false → In u (put reached o layer)
    put_by o layer u e fresh = subst (λ p. In u (put reached p layer)) (sym e) (put_has u layer fresh)

    around_has : (t : ℕ) (s : Side) (layer : List ℕ) (u : ℕ) → near t s ≡ Some u → has u reached ≡ false → In u (around near reached t layer)
    unfolding around
    around_has t North layer u e f = put_keeps (near t West) _ u (put_keeps (near t South) _ u (put_keeps (near t East) _ u (put_by (near t North) _ u e f)))
    around_has t East layer u e f = put_keeps (near t West) _ u (put_keeps (near t South) _ u (put_by (near t East) _ u e f))
    around_has t South layer u e f = put_keeps (near t West) _ u (put_by (near t South) _ u e f)
    around_has t West layer u e f = put_by (near t West) _ u e f

    beyond_from : (ts : List ℕ) (x : ℕ) → In x (beyond near reached ts) → (t : ℕ) × In t ts × Over t x
    unfolding beyond
    beyond_from [] x h = absurd (has_none x h)
    beyond_from (t ∷ ts) x h =
        elim (around_from t (beyond near reached ts) x h) [
          | inl i ↦ (let r = beyond_from ts x i in (r.0, has_later r.0 t ts r.1, r.2))
          | inr o ↦ (t, has_here t ts, o)
        ]

    beyond_has : (ts : List ℕ) (t : ℕ) (s : Side) (u : ℕ) → In t ts → near t s ≡ Some u → has u reached ≡ false → In u (beyond near reached ts)
    unfolding beyond
    beyond_has [] t s u i e f = absurd (has_none t i)
    beyond_has (x ∷ ts) t s u i e f =
        elim (has_cases t x ts i) [
          | inl is ↦ around_has x s _ u (ap (λ z. near z s) (sym is) ∙ e) f
          | inr j ↦ around_keeps x (beyond near reached ts) u (beyond_has ts t s u j e f)
        ]

module _ (near : ℕ → Side → Option ℕ) (a : ℕ) where
  -- what holds when the layer at hand has the number k
  record Layered (k : ℕ) (reached layer : List ℕ) (b : ℕ) : Type 0 where
    from : (x : ℕ) → In x reached → (i : ℕ) × (i ≤ k) × Chain near a x i
    fresh : (x i : ℕ) → In x layer → Chain near a x i → k ≤ i
    among : (x : ℕ) → In x layer → In x reached
    shut : (x y : ℕ) (s : Side) → In x reached → has x layer ≡ false → near x s ≡ Some y → In y reached
    first : In a reached
    every : (x i : ℕ) → Chain near a x i → i ≤ k → In x reached
    not_before : In b reached → In b layer

  all_at_none : {x i : ℕ} → Chain near a x i → i ≤ 0 → In x (a ∷ [])
  all_at_none stay l = has_here a []
  all_at_none (link s q e) l = absurd (omega arith)

  start : (b : ℕ) → Layered 0 (a ∷ []) (a ∷ []) b
  start b = record {
    from = λ x h. elim (has_cases x a [] h) [ inl e ↦ (0, omega arith, subst (λ z. Chain near a z 0) (sym e) stay) | inr n ↦ absurd (has_none x n) ];
    fresh = λ x i h c. omega arith;
    among = λ x h. h;
    shut = λ x y s h n e. absurd (both_ways _ n h);
    first = has_here a [];
    every = λ x i c l. all_at_none c l;
    not_before = λ h. h;
  }

  module _ (k : ℕ) (reached layer : List ℕ) (b : ℕ) (l : Layered k reached layer b) (no : has b layer ≡ false) where
    abbrev next : List ℕ
    next = beyond near reached layer

    abbrev all : List ℕ
    all = next ++ reached

    -- what is over a link of a table reached is reached now
    over_it : (x y : ℕ) (s : Side) → In x reached → near x s ≡ Some y → In y all
    over_it x y s h e = pick (cases_Bool (has y reached)) (cases_Bool (has x layer))
      where
        pick : (has y reached ≡ true) ⊎ (has y reached ≡ false) → (has x layer ≡ true) ⊎ (has x layer ≡ false) → In y all
        pick (inl i) c = has_back y next reached i
        pick (inr n) (inl i) = has_front y next reached (beyond_has reached near layer x s y i e n)
        pick (inr n) (inr m) = has_back y next reached (l.shut x y s h m e)

    from_next : (x : ℕ) → In x next → (i : ℕ) × (i ≤ suc k) × Chain near a x i
    from_next x h =
        let r = beyond_from reached near layer x h in
        let f = l.from r.0 (l.among r.0 r.1) in
        let o = r.2 in
        (suc f.0, omega (arith, f.1), link o.0 f.2 o.1)

    every_next : (x i : ℕ) → Chain near a x i → i ≤ suc k → In x all
    every_next x i c m =
        elim (cases_lt k i) [
          | inr le ↦ has_back x next reached (l.every x i c le)
          | inl lt ↦
              (let p = last_link near c (omega arith) in
              over_it p.before x p.by (l.every p.before p.links p.chain (omega (arith, p.one_more))) p.over)
        ]

    onward : Layered (suc k) all next b
    onward = record {
      from = λ x h. elim (has_both x next reached h) [ inl n ↦ from_next x n | inr r ↦ (let f = l.from x r in (f.0, omega (arith, f.1), f.2)) ];
      fresh = λ x i h c.
          elim (cases_lt k i) [
            | inl lt ↦ omega arith
            | inr le ↦ absurd (let r = beyond_from reached near layer x h in both_ways _ r.2.2 (l.every x i c le))
          ];
      among = λ x h. has_front x next reached h;
      shut = λ x y s h n e. elim (has_both x next reached h) [ inl i ↦ absurd (both_ways _ n i) | inr r ↦ over_it x y s r e ];
      first = has_back a next reached l.first;
      every = every_next;
      not_before = λ h. elim (has_both b next reached h) [ inl i ↦ i | inr r ↦ absurd (both_ways _ no (l.not_before r)) ];
    }

  depth_here : (k : ℕ) (reached layer : List ℕ) (b : ℕ) → Layered k reached layer b → In b layer → DepthOf near a b k
  depth_here k reached layer b l h =
      let f = l.from b (l.among b h) in
      let e : f.0 ≡ k = omega (arith, f.1, l.fresh b f.0 h f.2) in
      record { chain = subst (λ i. Chain near a b i) e f.2; fewest = λ i c. l.fresh b i h c }

  -- with an empty layer there is nothing further
  ended : (k : ℕ) (reached : List ℕ) (b : ℕ) → Layered k reached [] b → {x i : ℕ} → Chain near a x i → In x reached
  ended k reached b l stay = l.first
  ended k reached b l {x} (link {b = y} s q e) = l.shut y x s (ended k reached b l q) (empty y) e

  found_depth : (n k : ℕ) (reached layer : List ℕ) (b j : ℕ) → Layered k reached layer b → layer_of near n k reached layer b ≡ Some j → DepthOf near a b j
  unfolding layer_of
  found_depth zero k reached layer b j l e = absurd (none_some j e)
  found_depth (suc n) k reached [] b j l e = absurd (none_some j e)
  found_depth (suc n) k reached (x ∷ xs) b j l e =
      elim (cases_Bool (has b (x ∷ xs))) [
        | inl y ↦ subst (λ i. DepthOf near a b i) (same_some k j (sym (cond-true _ _ _ y) ∙ e)) (depth_here k reached (x ∷ xs) b l y)
        | inr m ↦ found_depth n (suc k) _ _ b j (onward k reached (x ∷ xs) b l m) (sym (cond-false _ _ _ m) ∙ e)
      ]

  found_none : (n k : ℕ) (reached layer : List ℕ) (b i : ℕ) → Layered k reached layer b → layer_of near n k reached layer b ≡ None → Chain near a b i → i < k + n → ⊥
  unfolding layer_of
  found_none zero k reached layer b i l e c h = omega (arith, l.fresh b i (l.not_before (l.every b i c (omega arith))) c)
  found_none (suc n) k reached [] b i l e c h = has_none b (l.not_before (ended k reached b l c))
  found_none (suc n) k reached (x ∷ xs) b i l e c h =
      elim (cases_Bool (has b (x ∷ xs))) [
        | inl y ↦ none_some k (sym e ∙ cond-true _ _ _ y)
        | inr m ↦ found_none n (suc k) _ _ b i (onward k reached (x ∷ xs) b l m) (sym (cond-false _ _ _ m) ∙ e) c (omega arith)
      ]

-- for chains of any length: the layers that are needed are as many as the links, and one
module _ (near : ℕ → Side → Option ℕ) (within : Within near) where
  layers : ℕ → ℕ → ℕ → Option ℕ
  layers n a b = layer_of near n 0 (a ∷ []) (a ∷ []) b

  layers_some : (n a b j : ℕ) → layers n a b ≡ Some j → DepthOf near a b j
  unfolding layers
  layers_some n a b j e = found_depth near a n 0 (a ∷ []) (a ∷ []) b j (start near a b) e

  layers_none : (n a b i : ℕ) → layers n a b ≡ None → Chain near a b i → i < n → ⊥
  unfolding layers
  layers_none n a b i e c h = found_none near a n 0 (a ∷ []) (a ∷ []) b i (start near a b) e c (omega arith)

  -- there are fewest links wherever there are any
  pub fewest_of : (a b i : ℕ) → Chain near a b i → (j : ℕ) × DepthOf near a b j
  fewest_of a b i c = pick (layers (suc i) a b) refl
    where
      pick : (o : Option ℕ) → layers (suc i) a b ≡ o → (j : ℕ) × DepthOf near a b j
      pick None e = absurd (layers_none (suc i) a b i e c (omega arith))
      pick (Some j) e = (j, layers_some (suc i) a b j e)

  layers_at : (n a b j : ℕ) → DepthOf near a b j → j < n → layers n a b ≡ Some j
  layers_at n a b j d h = pick (layers n a b) refl
    where
      pick : (o : Option ℕ) → layers n a b ≡ o → layers n a b ≡ Some j
      pick None e = absurd (layers_none n a b j e d.chain h)
      pick (Some i) e = e ∙ ap Some (one_depth near a b i j (layers_some n a b i e) d)

  -- a table on the way is at each smaller distance
  pub passed : (a b k : ℕ) → b < 256 → DepthOf near a b k → (i : ℕ) → i ≤ k → (x : ℕ) × (x < 256) × DepthOf near a x i
  passed a b k h d i l = pick k b h d l
    where
      pick : (k b : ℕ) → b < 256 → DepthOf near a b k → i ≤ k → (x : ℕ) × (x < 256) × DepthOf near a x i
      pick zero b h d l = let e : 0 ≡ i = omega arith in (b, h, subst (λ j. DepthOf near a b j) e d)
      pick (suc k) b h d l =
          elim (cases_eq i (suc k)) [
            | inl e ↦ (b, h, subst (λ j. DepthOf near a b j) (sym e) d)
            | inr n ↦
                (let p = last_link near d.chain (omega arith) in
                let is : p.links ≡ k = omega (arith, p.one_more) in
                let less : DepthOf near a p.before k = record {
                  chain = subst (λ j. Chain near a p.before j) is p.chain;
                  fewest = λ j c. omega (arith, d.fewest (suc j) (link p.by c p.over));
                } in
                pick k p.before (within p.before b p.by p.over).0 less (omega arith))
          ]

  deep : Option ℕ → ℕ
  deep None = 0
  deep (Some n) = n

  deep_some : (o : Option ℕ) (n : ℕ) → o ≡ Some n → deep o ≡ n
  unfolding deep
  deep_some o n e = ap deep e

  pub depth_most : (a b k : ℕ) → b < 256 → DepthOf near a b k → k ≤ 255
  depth_most a b k h d =
      let all : Covers 256 (suc k) (λ x. deep (layers (suc k) a x)) =
      λ i l. (let p = passed a b k h d i (omega arith) in (p.0, p.1, deep_some _ i (layers_at (suc k) a p.0 i p.2 l))) in
      let many : suc k ≤ 256 = covered 256 (suc k) (λ x. deep (layers (suc k) a x)) all in
      omega arith

  pub distance_some : (a b j : ℕ) → distance near a b ≡ Some j → DepthOf near a b j
  unfolding distance
  distance_some a b j e = found_depth near a 256 0 (a ∷ []) (a ∷ []) b j (start near a b) e

  pub distance_at : (a b j : ℕ) → b < 256 → DepthOf near a b j → distance near a b ≡ Some j
  unfolding distance layers
  distance_at a b j h d = layers_at 256 a b j d (omega (arith, depth_most a b j h d))

  pub distance_none : (a b : ℕ) → b < 256 → distance near a b ≡ None → Joined near a b → ⊥
  distance_none a b h e j = let d = fewest_of a b j.0 j.1 in none_some d.0 (sym e ∙ distance_at a b d.0 h d.1)
