-- A route, segment by segment.
use Rattle.std.proofs.Common.{◌≡◌, ℕ, Bool, List, [], ◌∷◌, Some, sym, refl, ap, ◌∙◌, subst, ap₂}
use Rattle.std.proofs.lemmas.Option.{same_Some}
use Rattle.trays.specs.Sites.{Site}
use Rattle.trays.proofs.Ahead.{Ahead, Route}

module _ (s : Site) (rises : ℕ → ℕ → Bool) (d : ℕ) where
  pub record Starts (q m : ℕ) (route : List ℕ) : Type 0 where
    pub rest : List ℕ
    pub is : route ≡ q ∷ rest
    pub ahead : Ahead s rises d q m rest

  -- what is wanted first is the route's first
  pub begins : (o q m : ℕ) (route : List ℕ) → Route s rises d o route → s.wants o d (s.first o d) ≡ Some (q, m) → Starts q m route
  begins o q m [] r e = absurd r
  begins o q m (x ∷ xs) r e =
      let same = same_Some _ _ (sym r.1 ∙ e) in
      record { rest = xs; is = ap (λ v. v.0 ∷ xs) same; ahead = subst (λ (v : ℕ × ℕ). Ahead s rises d v.0 v.1 xs) same r.3 }

  pub ends : (p m : ℕ) (rest : List ℕ) → Ahead s rises d p m rest → s.head p ≡ Some d → rest ≡ []
  ends p m [] a e = refl
  ends p m (q ∷ qs) a e = absurd (a.3 (same_Some _ _ (sym a.2 ∙ e)))

  pub leads : (p m : ℕ) (rest : List ℕ) → Ahead s rises d p m rest → (u : ℕ) × (s.head p ≡ Some u)
  leads p m [] a = (d, a)
  leads p m (q ∷ qs) a = (a.0, a.2)

  -- what is wanted next is the route's next
  pub goes_on : (p m u q n : ℕ) (rest : List ℕ) → Ahead s rises d p m rest → s.head p ≡ Some u → (u ≡ d → ⊥) → s.wants u d m ≡ Some (q, n) → Starts q n rest
  goes_on p m u q n [] a l x e = absurd (x (same_Some _ _ (sym l ∙ a)))
  goes_on p m u q n (r ∷ rs) a l x e =
      let here = same_Some _ _ (sym a.2 ∙ l) in
      let same = same_Some _ _ (sym (ap (λ y. s.wants y d m) (sym here) ∙ a.4) ∙ e) in
      record { rest = rs; is = ap (λ v. v.0 ∷ rs) same; ahead = subst (λ (v : ℕ × ℕ). Ahead s rises d v.0 v.1 rs) same a.7 }

  -- there is one route at most
  ahead_one : (p m : ℕ) (xs ys : List ℕ) → Ahead s rises d p m xs → Ahead s rises d p m ys → xs ≡ ys
  ahead_one p m [] ys a c = sym (ends p m ys c a)
  ahead_one p m (x ∷ xs) [] a c = ends p m (x ∷ xs) a c
  ahead_one p m (x ∷ xs) (y ∷ ys) a c =
      let here = same_Some _ _ (sym a.2 ∙ c.2) in
      let same = same_Some _ _ (sym a.4 ∙ (ap (λ z. s.wants z d m) here ∙ c.4)) in
      ap₂ (λ u v. u ∷ v) (ap (λ z. z.0) same)
      (ahead_one x a.1 xs ys a.7 (subst (λ (z : ℕ × ℕ). Ahead s rises d z.0 z.1 ys) (sym same) c.7))
