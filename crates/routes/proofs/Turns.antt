-- One step of the written answer, by cases: it refuses, arrives or moves on.
use Rattle.std.proofs.Common.{◌≡◌, ℕ, suc, ◌+◌, true, Some, None, Ok, Err, Option, refl, inl, inr}
use Rattle.std.proofs.lemmas.Bool.{cases_Bool, cases_eq}
use Rattle.map.specs.declared.side.Side.{Side}
use Rattle.map.specs.Sides.{segment}
use Rattle.map.specs.Layouts.{head_in, open_in}
use Rattle.routes.specs.declared.refusal.Reason.{Reason}
use Rattle.routes.specs.declared.refusal.Reason.TheVariants.{NoWay, NoSegment, Closed, NotRising}
use Rattle.routes.specs.Routings.{Routing, follows}
use Rattle.routes.specs.Steps.{refused, steps}
use Rattle.routes.specs.Routes.{Wants, Why}
use Rattle.routes.proofs.Forward.{no_way, no_segment, closed, not_rising, there, further}

-- a step that is taken: from t with note n to u with note m
pub record Taken (s : Routing) (d : ℕ) (h : Option ℕ) (t n : ℕ) (side : Side) (m u : ℕ) : Type 0 where
  pub asks : s.way t d n ≡ Some (side, m)
  pub leads : head_in s.map (segment t side) ≡ Some u
  pub opens : open_in s.map (segment t side) ≡ true
  pub follow : follows s.rises h (segment t side) ≡ true

pub data Turn (s : Routing) (o d j k : ℕ) (h : Option ℕ) (t n : ℕ) : Type 0 where
  refuses : (why : Reason) (q : Option ℕ) → Why s d h t n why q → steps s o d (suc j) k h t n ≡ Err (refused why o d k h q) → Turn s o d j k h t n
  arrives : (side : Side) (m u : ℕ) → Taken s d h t n side m u → u ≡ d → steps s o d (suc j) k h t n ≡ Ok k → Turn s o d j k h t n
  moves : (side : Side) (m u : ℕ) → Taken s d h t n side m u → (u ≡ d → ⊥) → steps s o d (suc j) k h t n ≡ steps s o d j (k + 1) (Some (segment t side)) u m → Turn s o d j k h t n

module _ (s : Routing) (o d j k : ℕ) (h : Option ℕ) (t n : ℕ) where
  module _ (side : Side) (m : ℕ) (e : s.way t d n ≡ Some (side, m)) where
    wants : Wants s d t n (Some (segment t side))
    wants = record { side = side; note = m; asks = e; is = refl }

    turn_head : (x : Option ℕ) → head_in s.map (segment t side) ≡ x → Turn s o d j k h t n
    unfolding wants
    turn_head None f = refuses NoSegment (Some (segment t side)) (wants, f) (no_segment s o d j k h t n (segment t side) m side e refl f)
    turn_head (Some u) f =
        elim (cases_Bool (open_in s.map (segment t side))) [
          | inr c ↦ refuses Closed (Some (segment t side)) (wants, u, f, c) (closed s o d j k h t n (segment t side) m side e refl u f c)
          | inl c ↦ elim (cases_Bool (follows s.rises h (segment t side))) [
            | inr a ↦ refuses NotRising (Some (segment t side)) (wants, u, f, c, a) (not_rising s o d j k h t n (segment t side) m side e refl u f c a)
            | inl a ↦
                let taken : Taken s d h t n side m u = record { asks = e; leads = f; opens = c; follow = a } in
                elim (cases_eq u d) [
                  | inl x ↦ arrives side m u taken x (there s o d j k h t n (segment t side) m side e refl u f c a x)
                  | inr x ↦ moves side m u taken x (further s o d j k h t n (segment t side) m side e refl u f c a x)
                ]
          ]
        ]

  turn_way : (a : Option (Side × ℕ)) → s.way t d n ≡ a → Turn s o d j k h t n
  turn_way None e = refuses NoWay None (e, refl) (no_way s o d j k h t n e)
  turn_way (Some a) e = turn_head a.0 a.1 e _ refl

  pub turn : Turn s o d j k h t n
  turn = turn_way _ refl
