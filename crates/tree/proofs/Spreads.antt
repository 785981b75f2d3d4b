-- Each step of the search keeps what holds of the tables reached.
use Rattle.std.proofs.Common.{◌≡◌, ℕ, suc, ◌+◌, ◌<◌, ◌≤◌, true, ◌⊎◌, List, [], ◌∷◌, get_or, Some, None, sym, refl, ap, ◌∙◌, subst, inl, inr, arith}
use Rattle.std.proofs.lemmas.Bool.{cases_eq, cases_lt}
use Rattle.std.proofs.lemmas.List.{length-set, get_or-set_same, get_or-set_other, get_or_push, get_or_append_left, length_push}
use Rattle.map.specs.declared.side.Side.{Side}
use Rattle.map.specs.declared.side.Side.TheVariants.{North, East, South, West}
use Rattle.map.specs.Sides.{opposite}
use Rattle.map.specs.Layouts.{Layout}
use Rattle.links.specs.Links.{near, present}
use Rattle.links.specs.Groups.{Chain, RootOf}
use Rattle.links.specs.Groups.Chain.{stay, link}
use Rattle.links.proofs.Chains.{none_some, same_some}
use Rattle.links.proofs.Nearby.{Sized, near_both, near_within, near_present}
use Rattle.tree.specs.declared.growth.Growth.{Growth}
use Rattle.tree.specs.Growths.{marked_root, marked_depth, root_in, depth_in, placed, count, reached, From, Sound, Spreading, Seen, Kept}
use Rattle.tree.proofs.Missing.{missing_set}

-- the root is the table itself, or it was reached before
abbrev pub Origin : Growth → ℕ → ℕ → ℕ → Type 0
Origin g u r e = ((r ≡ u) × (e ≡ 0)) ⊎ ((root_in g r ≡ Some r) × (depth_in g r ≡ 0))

pub room : (m : Layout) (taken : ℕ) (g : Growth) (u : ℕ) → Sound m taken g → u < 256 → root_in g u ≡ None → (count g) < 256
room m taken g u h small fresh = omega (arith, h.counted, missing_set g.marks u 0 0 (omega (arith, h.marks_long)) fresh)

module _ (m : Layout) (taken : ℕ) (g : Growth) (u r e : ℕ) (h : Sound m taken g) (small : u < 256) (fresh : root_in g u ≡ None) where
  abbrev new : Growth
  new = reached g u r e

  free : (count g) < 256
  free = room m taken g u h small fresh

  root_new : root_in new u ≡ Some r
  root_new = ap marked_root (get_or-set_same g.marks u _ None (omega (arith, h.marks_long)))

  depth_new : depth_in new u ≡ e
  depth_new = ap marked_depth (get_or-set_same g.marks u _ None (omega (arith, h.marks_long)))

  place_new : placed new (count g) ≡ u
  place_new = get_or_push g.queue.items u 0 (count g) refl

  root_old : (t : ℕ) → (t ≡ u → ⊥) → root_in new t ≡ root_in g t
  root_old t ne = ap marked_root (get_or-set_other g.marks u t _ None ne)

  depth_old : (t : ℕ) → (t ≡ u → ⊥) → depth_in new t ≡ depth_in g t
  depth_old t ne = ap marked_depth (get_or-set_other g.marks u t _ None ne)

  place_old : (i : ℕ) → i < count g → placed new i ≡ placed g i
  place_old i l = get_or_append_left g.queue.items (u ∷ []) 0 i l

  pub one_more : (count new) ≡ count g + 1
  one_more = length_push g.queue.items u

  -- what was reached is another table
  other : (t q : ℕ) → root_in g t ≡ Some q → t ≡ u → ⊥
  other t q is same = none_some q (sym fresh ∙ ap (root_in g) (sym same) ∙ is)

  pub kept : Kept g new
  kept = record {
    roots = λ t q is. root_old t (other t q is) ∙ is;
    depths = λ t q is. depth_old t (other t q is);
    places = place_old;
    more = omega (arith, one_more);
  }

  other_place : (i : ℕ) → i < count g → placed g i ≡ u → ⊥
  other_place i l = let k = h.known i l in other (placed g i) k.0 k.1

  depth_place : (i : ℕ) → i < count g → depth_in new (placed new i) ≡ depth_in g (placed g i)
  depth_place i l = ap (depth_in new) (place_old i l) ∙ depth_old (placed g i) (other_place i l)

  root_place : (i : ℕ) → i < count g → root_in new (placed new i) ≡ root_in g (placed g i)
  root_place i l = ap (root_in new) (place_old i l) ∙ root_old (placed g i) (other_place i l)

  depth_last : depth_in new (placed new (count g)) ≡ e
  depth_last = ap (depth_in new) place_new ∙ depth_new

  root_last : root_in new (placed new (count g)) ≡ Some r
  root_last = ap (root_in new) place_new ∙ root_new

  -- what holds of each place before, and of the last
  each_place : (P : ℕ → Type 0) → ((i : ℕ) → i < count g → P i) → P (count g) → (i : ℕ) → i < count new → P i
  each_place P below here i l = elim (cases_eq i (count g)) [ inl is ↦ subst P (sym is) here | inr ne ↦ below i (omega (arith, one_more)) ]

  module _ (there : present m u ≡ true) (lowest : RootOf (near m) r r) (chain : Chain (near m) r u e) (few : e ≤ count g) (origin : Origin g u r e) where
    own_new : Origin g u r e → root_in new r ≡ Some r
    own_new (inl o) = ap (root_in new) o.0 ∙ root_new
    own_new (inr o) = kept.roots r r o.0

    none_new : Origin g u r e → depth_in new r ≡ 0
    none_new (inl o) = ap (depth_in new) o.0 ∙ depth_new ∙ o.1
    none_new (inr o) = kept.depths r r o.0 ∙ o.1

    from_new : From m new u r
    from_new = record { there = there; lowest = lowest; chain = subst (λ n. Chain (near m) r u n) (sym depth_new) chain; own = own_new origin; none = none_new origin }

    from_old : (t q : ℕ) → root_in g t ≡ Some q → From m new t q
    from_old t q is =
        let f = h.from t q is in
        record {
          there = f.there;
          lowest = f.lowest;
          chain = subst (λ n. Chain (near m) q t n) (sym (kept.depths t q is)) f.chain;
          own = kept.roots q q f.own;
          none = kept.depths q q f.own ∙ f.none;
        }

    from_each : (t q : ℕ) → root_in new t ≡ Some q → From m new t q
    from_each t q is =
        elim (cases_eq t u) [
          | inl same ↦
              (let q-is : r ≡ q = same_some r q (sym root_new ∙ ap (root_in new) (sym same) ∙ is) in
              subst (λ x. From m new x q) (sym same) (subst (λ x. From m new u x) q-is from_new))
          | inr ne ↦ from_old t q (sym (root_old t ne) ∙ is)
        ]

    queued_each : (t q : ℕ) → root_in new t ≡ Some q → (i : ℕ) × (i < count new) × (placed new i ≡ t)
    queued_each t q is =
        elim (cases_eq t u) [
          | inl same ↦ ((count g), omega (arith, one_more), place_new ∙ sym same)
          | inr ne ↦ (let o = h.queued t q (sym (root_old t ne) ∙ is) in (o.0, omega (arith, o.1, one_more), place_old o.0 o.1 ∙ o.2))
        ]

    unknown_each : (t : ℕ) → root_in new t ≡ None → depth_in new t ≡ 0
    unknown_each t is =
        elim (cases_eq t u) [
          | inl same ↦ absurd (none_some r (sym is ∙ ap (root_in new) same ∙ root_new))
          | inr ne ↦ depth_old t ne ∙ h.unknown t (sym (root_old t ne) ∙ is)
        ]

    around_each : (i v : ℕ) (s : Side) → i < taken → near m (placed new i) s ≡ Some v → (root_in new v ≡ root_in new (placed new i)) × (depth_in new v ≤ depth_in new (placed new i) + 1)
    around_each i v s l over =
        let li : i < count g = omega (arith, h.taken_few) in
        let a = h.around i v s l (ap (λ x. near m x s) (sym (place_old i li)) ∙ over) in
        let k = h.known i li in
        let known : root_in g v ≡ Some k.0 = a.0 ∙ k.1 in
        (kept.roots v k.0 known ∙ sym k.1 ∙ sym (root_place i li), omega (arith, a.1, kept.depths v k.0 known, depth_place i li))

    pub sound : Sound m taken new
    sound = record {
      marks_long = length-set g.marks u _ ∙ h.marks_long;
      counted = omega (arith, h.counted, one_more, missing_set g.marks u r e (omega (arith, h.marks_long)) fresh);
      taken_few = omega (arith, h.taken_few, one_more);
      small = each_place (λ i. placed new i < 256) (λ i l. omega (arith, place_old i l, h.small i l)) (omega (arith, place_new));
      shallow = each_place (λ i. depth_in new (placed new i) ≤ i) (λ i l. omega (arith, depth_place i l, h.shallow i l)) (omega (arith, depth_last));
      known = each_place (λ i. (q : ℕ) × (root_in new (placed new i) ≡ Some q)) (λ i l. (let k = h.known i l in (k.0, root_place i l ∙ k.1))) (r, root_last);
      queued = queued_each;
      from = from_each;
      unknown = unknown_each;
      around = around_each;
    }

-- a link of the table that is taken leads to one not reached before
module _ (m : Layout) (size : Sized m) (r place : ℕ) (g : Growth) (h : Spreading m r place g) (l : place < count g) (s : Side) (u : ℕ) (over : near m (placed g place) s ≡ Some u) where
  abbrev here : ℕ
  here = placed g place

  mine : root_in g here ≡ Some r
  mine = h.own place (omega arith) l

  pub within : u < 256
  within = (near_within m size here u s over).1

  back : near m u (opposite s) ≡ Some here
  back = near_both m size here u s over

  module _ (e : ℕ) (fresh : root_in g u ≡ None) (is : e ≡ depth_in g here + 1) where
    abbrev later : Growth
    later = reached g u r e

    few : e ≤ count g
    few = omega (arith, h.sound.shallow place l)

    chained : Chain (near m) r u e
    chained =
        let f = h.sound.from here r mine in
        let one : suc (depth_in g here) ≡ e = omega arith in
        subst (λ n. Chain (near m) r u n) one (link s f.chain over)

    sound_new : Sound m place later
    sound_new =
        let f = h.sound.from here r mine in
        sound m place g u r e h.sound within fresh (near_present m size u here (opposite s) back) f.lowest chained few (inr (f.own, f.none))

    depth_at : (i : ℕ) → i < count g → depth_in later (placed later i) ≡ depth_in g (placed g i)
    depth_at = depth_place m place g u r e h.sound within fresh

    depth_end : depth_in later (placed later (count g)) ≡ e
    depth_end = depth_last m place g u r e h.sound within fresh

    -- no table from the one taken on is deeper than the new one
    not_deeper : (i : ℕ) → place ≤ i → i < count g → depth_in g (placed g i) ≤ e
    not_deeper i p q = omega (arith, h.level (placed g i) l (h.own i p q))

    sorted_new : (i j : ℕ) → place ≤ i → i ≤ j → j < count later → depth_in later (placed later i) ≤ depth_in later (placed later j)
    sorted_new i j p q k =
        let more = one_more m place g u r e h.sound within fresh in
        elim (cases_eq j (count g)) [
          | inl jc ↦ elim (cases_eq i (count g)) [
            | inl ic ↦ (let same : i ≡ j = omega arith in subst (λ x. depth_in later (placed later i) ≤ depth_in later (placed later x)) same (omega arith))
            | inr ne ↦ subst (λ x. depth_in later (placed later i) ≤ depth_in later (placed later x)) (sym jc) (omega (arith, depth_end, depth_at i (omega arith), not_deeper i p (omega arith)))
          ]
          | inr ne ↦ omega (arith, depth_at i (omega arith), depth_at j (omega arith), h.sorted i j p q (omega arith))
        ]

    level_new : (v : ℕ) → root_in later v ≡ Some r → depth_in later v ≤ depth_in later (placed later place) + 1
    level_new v root =
        elim (cases_eq v u) [
          | inl same ↦ subst (λ x. depth_in later x ≤ depth_in later (placed later place) + 1) (sym same) (omega (arith, depth_new m place g u r e h.sound within fresh, depth_at place l))
          | inr ne ↦
              (let old : root_in g v ≡ Some r = sym (root_old m place g u r e h.sound within fresh v ne) ∙ root in
              omega (arith, depth_old m place g u r e h.sound within fresh v ne, depth_at place l, h.level v l old))
        ]

    own_each : (i : ℕ) → place ≤ i → i < count later → root_in later (placed later i) ≡ Some r
    own_each i p q =
        let more = one_more m place g u r e h.sound within fresh in
        elim (cases_eq i (count g)) [
          | inl is ↦ ap (λ x. root_in later (placed later x)) is ∙ root_last m place g u r e h.sound within fresh
          | inr ne ↦ root_place m place g u r e h.sound within fresh i (omega arith) ∙ h.own i p (omega arith)
        ]

    pub spreading_new : Spreading m r place later
    spreading_new = record { sound = sound_new; own = own_each; sorted = sorted_new; level = λ v p root. level_new v root }

    pub kept_new : Kept g later
    kept_new = kept m place g u r e h.sound within fresh

    pub seen_new : Seen m r place s later
    seen_new v over-v =
        let at : near m here s ≡ Some v = ap (λ x. near m x s) (sym (place_old m place g u r e h.sound within fresh place l)) ∙ over-v in
        let same : u ≡ v = same_some u v (sym over ∙ at) in
        let root : root_in later v ≡ Some r = subst (λ x. root_in later x ≡ Some r) same (root_new m place g u r e h.sound within fresh) in
        (root, level_new v root)

  -- or to one reached before
  root_before : (q : ℕ) → root_in g u ≡ Some q → root_in g u ≡ Some r
  root_before q root =
      let p = h.sound.queued u q root in
      elim (cases_lt p.0 place) [
        | inl lt ↦
            (let a = h.sound.around p.0 here (opposite s) lt (ap (λ x. near m x (opposite s)) p.2 ∙ back) in
            ap (root_in g) (sym p.2) ∙ sym a.0 ∙ mine)
        | inr ge ↦ ap (root_in g) (sym p.2) ∙ h.own p.0 ge p.1
      ]

  pub seen_old : (q : ℕ) → root_in g u ≡ Some q → Seen m r place s g
  seen_old q root v e =
      let same : u ≡ v = same_some u v (sym over ∙ e) in
      let known : root_in g v ≡ Some r = subst (λ x. root_in g x ≡ Some r) same (root_before q root) in
      (known, h.level v l known)

pub kept_all : (g : Growth) → Kept g g
kept_all g = record { roots = λ t r e. e; depths = λ t r e. refl; places = λ i l. refl; more = omega arith }

pub kept_on : (f g h : Growth) → Kept f g → Kept g h → Kept f h
kept_on f g h a b = record {
  roots = λ t r e. b.roots t r (a.roots t r e);
  depths = λ t r e. b.depths t r (a.roots t r e) ∙ a.depths t r e;
  places = λ i l. b.places i (omega (arith, a.more)) ∙ a.places i l;
  more = omega (arith, a.more, b.more);
}

module _ (m : Layout) (r place : ℕ) where
  -- what was seen stays so
  pub seen_kept : (s : Side) (g h : Growth) → Spreading m r place g → place < count g → Kept g h → Seen m r place s g → Seen m r place s h
  seen_kept s g h p l k seen u e =
      let at : placed h place ≡ placed g place = k.places place l in
      let o = seen u (ap (λ x. near m x s) (sym at) ∙ e) in
      let here : depth_in h (placed h place) ≡ depth_in g (placed g place) = ap (depth_in h) at ∙ k.depths (placed g place) r (p.own place (omega arith) l) in
      (k.roots u r o.0, omega (arith, o.1, k.depths u r o.0))

  -- with all four sides seen the next table is taken
  module _ (g : Growth) (h : Spreading m r place g) (l : place < count g) (seen : (s : Side) → Seen m r place s g) where
    around_more : (i u : ℕ) (s : Side) → i < suc place → near m (placed g i) s ≡ Some u → (root_in g u ≡ root_in g (placed g i)) × (depth_in g u ≤ depth_in g (placed g i) + 1)
    around_more i u s k e =
        elim (cases_eq i place) [
          | inl is ↦
              (let o = seen s u (ap (λ x. near m (placed g x) s) (sym is) ∙ e) in
              subst (λ x. (root_in g u ≡ root_in g (placed g x)) × (depth_in g u ≤ depth_in g (placed g x) + 1)) (sym is) (o.0 ∙ sym (h.own place (omega arith) l), o.1))
          | inr ne ↦ h.sound.around i u s (omega arith) e
        ]

    pub taken : Spreading m r (suc place) g
    taken = record {
      sound = record {
        marks_long = h.sound.marks_long;
        counted = h.sound.counted;
        taken_few = omega arith;
        small = h.sound.small;
        shallow = h.sound.shallow;
        known = h.sound.known;
        queued = h.sound.queued;
        from = h.sound.from;
        unknown = h.sound.unknown;
        around = around_more;
      };
      own = λ i p q. h.own i (omega arith) q;
      sorted = λ i j p q k. h.sorted i j (omega arith) q k;
      level = λ u p root. omega (arith, h.level u l root, h.sorted place (suc place) (omega arith) (omega arith) p);
    }

abbrev pub sides : List Side
sides = North ∷ East ∷ South ∷ West ∷ []

pub four_seen : (m : Layout) (r place : ℕ) (g : Growth) → ((k : ℕ) → k < 4 → Seen m r place (get_or sides k North) g) → (s : Side) → Seen m r place s g
four_seen m r place g seen North = seen 0 (omega arith)
four_seen m r place g seen East = seen 1 (omega arith)
four_seen m r place g seen South = seen 2 (omega arith)
four_seen m r place g seen West = seen 3 (omega arith)

-- a new group starts at its lowest table
module _ (m : Layout) (r : ℕ) (g : Growth) (h : Sound m (count g) g) (small : r < 256) (fresh : root_in g r ≡ None) (there : present m r ≡ true) (lowest : RootOf (near m) r r) where
  abbrev begun : Growth
  begun = reached g r r 0

  more_begun : (count begun) ≡ count g + 1
  more_begun = one_more m (count g) g r r 0 h small fresh

  sound_begun : Sound m (count g) begun
  sound_begun = sound m (count g) g r r 0 h small fresh there lowest stay (omega arith) (inl (refl, refl))

  pub begins : Spreading m r (count g) begun
  begins = record {
    sound = sound_begun;
    own = λ i p q. (let is : i ≡ count g = omega (arith, more_begun) in ap (λ x. root_in begun (placed begun x)) is ∙ root_last m (count g) g r r 0 h small fresh);
    sorted = λ i j p q k. (let is : i ≡ j = omega (arith, more_begun) in subst (λ x. depth_in begun (placed begun i) ≤ depth_in begun (placed begun x)) is (omega arith));
    level = λ u p root.
        elim (cases_eq u r) [
          | inl is ↦ (let z : depth_in begun u ≡ 0 = ap (depth_in begun) is ∙ depth_new m (count g) g r r 0 h small fresh in omega arith)
          | inr ne ↦ absurd (none_some r (sym fresh ∙ (h.from u r (sym (root_old m (count g) g r r 0 h small fresh u ne) ∙ root)).own))
        ];
  }

  pub kept_begun : Kept g begun
  kept_begun = kept m (count g) g r r 0 h small fresh

  pub own_begun : root_in begun r ≡ Some r
  own_begun = root_new m (count g) g r r 0 h small fresh
