-- A tree that holds what its map has gives the map's ways and keys.
use Rattle.std.proofs.Common.{◌≡◌, ℕ, ◌+◌, ◌<◌, ◌≤◌, ◌==◌, List, [], ◌∷◌, Some, Option, refl, length, get_or, None, sym, ap, ◌∙◌, inl, inr, arith}
use Rattle.std.proofs.lemmas.Bool.{cases_lt, cases_Bool}
use Rattle.std.proofs.lemmas.List.{get_or_past}
use mathlib.Core.Path.{fun_ext}
use Rattle.map.specs.declared.side.Side.{Side}
use Rattle.map.specs.declared.side.Side.TheVariants.{North, East, South, West}
use Rattle.map.specs.Floors.{beside}
use Rattle.map.specs.Layouts.{Layout}
use Rattle.links.specs.Links.{near}
use Rattle.links.specs.Trees.{root_of, depth, up_side, over, leads_up, first_side, parent_side, parent_of}
use Rattle.links.specs.Ways.{way_over, tree_way, key_over, tree_key}
use Rattle.links.proofs.Nearby.{Sized}
use Rattle.links.proofs.Grown.{no_side, no_parent, sides_are, parents_are, keys_large}
use Rattle.tree.specs.declared.growth.Growth.{Growth}
use Rattle.tree.specs.declared.tree.Tree.{Tree}
use Rattle.tree.specs.declared.upward.Node.{Node}
use Rattle.tree.specs.Growths.{marked_root, marked_depth, root_in, depth_in}
use Rattle.tree.specs.Nodes.{alone, up_by, side_up, parent_up, node_in}
use Rattle.tree.specs.Finders.{node_of, sides_of, parents_of, Holds, way_by, key_by}

module _ (links : ℕ → Side → Option ℕ) (t : ℕ) where
  parent_kept : (s : Option Side) → parent_up (up_by s (over links t s)) ≡ over links t s
  parent_kept None = refl
  parent_kept (Some s) = at (links t s)
    where
      at : (p : Option ℕ) → parent_up (up_by (Some s) p) ≡ p
      at None = refl
      at (Some p) = refl

  module _ (deep : ℕ → ℕ) where
    -- a side that leads up has a table over it
    first_kept : (ss : List Side) → side_up (up_by (first_side (leads_up links deep t) ss) (over links t (first_side (leads_up links deep t) ss))) ≡ first_side (leads_up links deep t) ss
    first_kept [] = refl
    first_kept (s ∷ ss) = at (links t s) refl (first_kept ss)
      where
        at : (p : Option ℕ) → links t s ≡ p → side_up (up_by (first_side (leads_up links deep t) ss) (over links t (first_side (leads_up links deep t) ss))) ≡ first_side (leads_up links deep t) ss → side_up (up_by (first_side (leads_up links deep t) (s ∷ ss)) (over links t (first_side (leads_up links deep t) (s ∷ ss)))) ≡ first_side (leads_up links deep t) (s ∷ ss)
        at None e h = rw e h
        at (Some p) e h = elim (cases_Bool (deep p + 1 == deep t)) [ inl y ↦ rw (e, y) (rw e) | inr n ↦ rw (e, n) h ]

    side_kept : side_up (up_by (up_side links deep t) (over links t (up_side links deep t))) ≡ up_side links deep t
    unfolding up_side
    side_kept = first_kept (North ∷ East ∷ South ∷ West ∷ [])

module _ (m : Layout) (size : Sized m) where
  module _ (g : Growth) (long : length g.marks ≡ 256) (roots : (t : ℕ) → root_in g t ≡ root_of m t) (depths : (t : ℕ) → depth_in g t ≡ depth m t) where
    side_same : (t : ℕ) → up_side (near m) (depth_in g) t ≡ parent_side m t
    side_same t = ap (λ f. up_side (near m) f t) (fun_ext depths) ∙ sym (sides_are m size t)

    parent_same : (t : ℕ) → over (near m) t (up_side (near m) (depth_in g) t) ≡ parent_of m t
    parent_same t = ap (over (near m) t) (side_same t) ∙ sym (parents_are m size t)

    module _ (w : Tree) (whole : length w.nodes ≡ 256) (h : (t : ℕ) → t < 256 → node_of w t ≡ node_in m g t) where
      -- past the end there are no tables
      past : (t : ℕ) → 256 ≤ t → node_of w t ≡ alone
      past t l = get_or_past w.nodes t alone (omega arith)

      unmarked_past : (t : ℕ) → 256 ≤ t → get_or g.marks t None ≡ None
      unmarked_past t l = get_or_past g.marks t None (omega arith)

      pub held : Holds m w
      held = record {
        roots = λ t.
            elim (cases_lt t 256) [
              | inl l ↦ ap (λ (x : Node). x.root) (h t l) ∙ roots t
              | inr p ↦ ap (λ (x : Node). x.root) (past t p) ∙ sym (ap marked_root (unmarked_past t p)) ∙ roots t
            ];
        depths = λ t.
            elim (cases_lt t 256) [
              | inl l ↦ ap (λ (x : Node). x.depth) (h t l) ∙ depths t
              | inr p ↦ ap (λ (x : Node). x.depth) (past t p) ∙ sym (ap marked_depth (unmarked_past t p)) ∙ depths t
            ];
        sides = λ t.
            elim (cases_lt t 256) [
              | inl l ↦ ap (λ (x : Node). side_up x.up) (h t l) ∙ side_kept (near m) t (depth_in g) ∙ side_same t
              | inr p ↦ ap (λ (x : Node). side_up x.up) (past t p) ∙ sym (no_side m size t p)
            ];
        parents = λ t.
            elim (cases_lt t 256) [
              | inl l ↦ ap (λ (x : Node). parent_up x.up) (h t l) ∙ parent_kept (near m) t _ ∙ parent_same t
              | inr p ↦ ap (λ (x : Node). parent_up x.up) (past t p) ∙ sym (no_parent m size t p)
            ];
      }

  module _ (w : Tree) (h : Holds m w) where
    pub ways_held : (t d : ℕ) → way_by w t d ≡ tree_way m t d
    unfolding tree_way
    ways_held t d =
        ap (λ f. way_over f (sides_of w) (parents_of w) t d) (fun_ext h.roots)
        ∙ ap (λ f. way_over (root_of m) f (parents_of w) t d) (fun_ext h.sides)
        ∙ ap (λ f. way_over (root_of m) (parent_side m) f t d) (fun_ext h.parents)

    pub keys_held : (n : ℕ) → key_by w n ≡ tree_key m n
    keys_held n =
        ap (λ f. key_over (beside 16 16) f (sides_of w) n) (fun_ext h.depths)
        ∙ ap (λ f. key_over (beside 16 16) (depth m) f n) (fun_ext h.sides)
        ∙ keys_large m size n
