-- Chains put together and turned round.
use Rattle.std.proofs.Common.{◌≡◌, ℕ, suc, ◌+◌, ◌<◌, Some, None, Option, refl, subst, arith}
use Rattle.map.specs.declared.side.Side.{Side}
use Rattle.map.specs.Sides.{opposite}
use Rattle.links.specs.Groups.{Chain, DepthOf, RootOf}
use Rattle.links.specs.Groups.Chain.{stay, link}

-- what is over a link on a side is linked back on the opposite side
abbrev pub Mutual : (ℕ → Side → Option ℕ) → Type 0
Mutual near = (t u : ℕ) (s : Side) → near t s ≡ Some u → near u (opposite s) ≡ Some t

-- only table numbers have links
abbrev pub Within : (ℕ → Side → Option ℕ) → Type 0
Within near = (t u : ℕ) (s : Side) → near t s ≡ Some u → (t < 256) × (u < 256)

pub none_some : {A : Type 0} (u : A) → None ≡ Some u → ⊥
none_some u e = let z : ◌≡◌ {A = ℕ} 0 1 = cc in omega arith

pub same_some : {A : Type 0} (t u : A) → Some t ≡ Some u → t ≡ u
same_some t u e = cc

module _ (near : ℕ → Side → Option ℕ) where
  pub counts : (a b m n : ℕ) → m ≡ n → Chain near a b m → Chain near a b n
  counts a b m n e c = subst (λ k. Chain near a b k) e c

  pub append : (a b m : ℕ) → Chain near a b m → {c n : ℕ} → Chain near b c n → Chain near a c (m + n)
  append a b m p stay = counts a b m (m + 0) (omega arith) p
  append a b m p {c} (link {n} s q e) = counts a c (suc (m + n)) (m + suc n) (omega arith) (link s (append a b m p q) e)

  pub turned : Mutual near → {a c n : ℕ} → Chain near a c n → Chain near c a n
  turned back stay = stay
  turned back {a} {c} (link {b} {n} s q e) =
      counts c a (1 + n) (suc n) (omega arith) (append c b 1 (link (opposite s) stay (back b c s e)) (turned back q))

  pub starts_within : Within near → {a b n : ℕ} → Chain near a b n → b < 256 → a < 256
  starts_within within stay h = h
  starts_within within (link {b} {c} s q e) h = starts_within within q (within b c s e).0

  pub chain_zero : {a b n : ℕ} → Chain near a b n → n ≡ 0 → a ≡ b
  chain_zero stay e = refl
  chain_zero (link s q f) e = absurd (omega arith)

  pub one_depth : (r a m n : ℕ) → DepthOf near r a m → DepthOf near r a n → m ≡ n
  one_depth r a m n x y = omega (arith, x.fewest n y.chain, y.fewest m x.chain)

  pub one_lowest : (a r q : ℕ) → RootOf near a r → RootOf near a q → r ≡ q
  one_lowest a r q x y = omega (arith, x.lowest q y.joined, y.lowest r x.joined)

-- the last link of a chain
pub record Last (near : ℕ → Side → Option ℕ) (a b n : ℕ) : Type 0 where
  pub before : ℕ
  pub links : ℕ
  pub by : Side
  pub chain : Chain near a before links
  pub over : near before by ≡ Some b
  pub one_more : n ≡ suc links

pub last_link : (near : ℕ → Side → Option ℕ) {a b n : ℕ} → Chain near a b n → 0 < n → Last near a b n
last_link near stay h = absurd (omega arith)
last_link near (link {b} {n} s q e) h = record { before = b; links = n; by = s; chain = q; over = e; one_more = refl }
