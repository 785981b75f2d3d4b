-- Some tray can go on.
use Rattle.std.proofs.Common.{◌≡◌, ℕ, zero, suc, ◌<◌, Bool, true, false, ◌⊎◌, List, [], ◌∷◌, length, get_or, Some, None, Option, sym, refl, ap, ◌∙◌, inl, inr, arith}
use Rattle.std.proofs.lemmas.Option.{none-some}
use Rattle.std.proofs.lemmas.Bool.{both_ways, cases_Bool, cases_lt, eq-eqb, ne_eqb}
use Rattle.trays.specs.Logs.{Log}
use Rattle.trays.specs.declared.tray.Tray.{Tray}
use Rattle.trays.specs.declared.trays.Trays.{Trays}
use Rattle.trays.specs.declared.event.Call.TheVariants.{Advance}
use Rattle.trays.specs.declared.event.Event.{Event}
use Rattle.trays.specs.Sites.{Site}
use Rattle.trays.specs.Runs.{event}
use Rattle.trays.proofs.Ahead.{Ahead, Strict}
use Rattle.trays.specs.Words.{accepted}
use Rattle.trays.specs.Promises.{CanAdvance}
use Rattle.trays.proofs.Lists.{some_in}
use Rattle.trays.proofs.Ways.{leads}
use Rattle.trays.proofs.Agrees.{Agrees, rider}

module _ (rises : ℕ → ℕ → Bool) (strict : Strict rises) (xs : List (Option Tray)) where
  -- a tray whose segment is below that of none of the first k
  pub record Top (k : ℕ) : Type 0 where
    pub at : ℕ
    pub tray : Tray
    pub there : get_or xs at None ≡ Some tray
    pub highest : (r : ℕ) (t : Tray) → r < k → get_or xs r None ≡ Some t → rises at r ≡ false

  last_or : (r k : ℕ) → r < suc k → (r < k) ⊎ (r ≡ k)
  last_or r k l = elim (cases_lt r k) [ inl x ↦ inl x | inr x ↦ inr (omega arith) ]

  stays : (k : ℕ) (t : Top k) → ((u : Tray) → get_or xs k None ≡ Some u → rises t.at k ≡ false) → Top (suc k)
  stays k t low =
      record {
        at = t.at;
        tray = t.tray;
        there = t.there;
        highest = λ r u l e. elim (last_or r k l) [ inl x ↦ t.highest r u x e | inr x ↦ ap (rises t.at) x ∙ low u (ap (λ y. get_or xs y None) (sym x) ∙ e) ];
      }

  above : (m x y : ℕ) → rises m x ≡ true → rises m y ≡ false → rises x y ≡ false
  above m x y up low =
      elim (cases_Bool (rises x y)) [ inl e ↦ absurd (both_ways (rises m y) low (strict.transitive m x y up e)) | inr e ↦ e ]

  takes : (k : ℕ) (u : Tray) → get_or xs k None ≡ Some u → ((r : ℕ) (t : Tray) → r < k → get_or xs r None ≡ Some t → rises k r ≡ false) → Top (suc k)
  takes k u e low =
      record {
        at = k;
        tray = u;
        there = e;
        highest = λ r t l g. elim (last_or r k l) [ inl x ↦ low r t x g | inr x ↦ ap (rises k) x ∙ strict.irreflexive k ];
      }

  abbrev Bare : ℕ → Type 0
  Bare k = (r : ℕ) → r < k → get_or xs r None ≡ None

  extend : (k : ℕ) (x : Option Tray) → get_or xs k None ≡ x → Bare k ⊎ Top k → Bare (suc k) ⊎ Top (suc k)
  extend k None e (inl none) = inl (λ r l. elim (last_or r k l) [ inl x ↦ none r x | inr x ↦ ap (λ y. get_or xs y None) x ∙ e ])
  extend k None e (inr t) = inr (stays k t (λ u g. absurd (none-some u (sym e ∙ g))))
  extend k (Some u) e (inl none) = inr (takes k u e (λ r t l g. absurd (none-some t (sym (none r l) ∙ g))))
  extend k (Some u) e (inr t) =
      elim (cases_Bool (rises t.at k)) [
        | inl up ↦ inr (takes k u e (λ r v l g. above t.at k r up (t.highest r v l g)))
        | inr low ↦ inr (stays k t (λ v g. low))
      ]

  pub top_below : (k : ℕ) → Bare k ⊎ Top k
  top_below zero = inl (λ r l. absurd (omega arith))
  top_below (suc k) = extend k _ refl (top_below k)

module _ (s : Site) (rises : ℕ → ℕ → Bool) (strict : Strict rises) (routes : ℕ → ℕ → List ℕ) (b : Trays) (h : Log Event) (ag : Agrees s rises routes b h) where
  module _ (top : Top rises strict b.records (length b.records)) where
    vacant : (q : ℕ) → rises top.at q ≡ true → (x : Option Tray) → get_or b.records q None ≡ x → get_or b.records q None ≡ None
    vacant q up None e = e
    vacant q up (Some t) e = absurd (both_ways (rises top.at q) (top.highest q t (some_in b.records q t e) e) up)

    moves : (rest : List ℕ) → Ahead s rises top.tray.destination top.at top.tray.note rest → accepted (event s b (Advance top.at)) ≡ true
    moves [] a = rw (a, top.there, eq-eqb top.tray.destination top.tray.destination refl)
    moves (q ∷ qs) a =
        let lead = leads s rises top.tray.destination q a.1 qs a.7 in
        rw (a.2, top.there, ne_eqb a.0 top.tray.destination a.3, a.4, lead.1, a.5, vacant q a.6 _ refl)

    pub top_moves : CanAdvance s b
    top_moves = (top.at, let r = rider s rises routes b h ag top.at top.tray top.there in moves r.rest r.ahead)

  -- where a tray stands, some advance is accepted
  pub can_advance : (p : ℕ) (t : Tray) → get_or b.records p None ≡ Some t → CanAdvance s b
  can_advance p t e =
      elim (top_below rises strict b.records (length b.records)) [
        | inl none ↦ absurd (none-some t (sym (none p (some_in b.records p t e)) ∙ e))
        | inr top ↦ top_moves top
      ]
