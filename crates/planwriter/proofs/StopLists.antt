-- The stops of a map, one after another.
use Rattle.std.proofs.Common.{◌≡◌, ℕ, zero, suc, ◌+◌, ◌-◌, ◌<◌, ◌≤◌, Bool, true, false, cond, List, [], ◌∷◌, ◌++◌, length, get_or, drop, sym, refl, ap, ◌∙◌, ⊎_elim, arith}
use Rattle.std.proofs.lemmas.List.{drop_more, drop_all, get_or_past, append_assoc, append-nil, length-append}
use Rattle.std.proofs.lemmas.Bool.{cond-true, cond-false, cases_lt}
use Rattle.map.specs.Counts.{how_many}
use Rattle.map.specs.Layouts.{Layout, is_stop}
use Rattle.planwriter.specs.Stops.{stops_from, stops_of}

module _ (m : Layout) where
  step : (k t : ℕ) → 0 < k → stops_from m k t ≡ cond (is_stop m t) (t ∷ stops_from m (k - 1) (t + 1)) (stops_from m (k - 1) (t + 1))
  unfolding stops_from
  step zero t h = absurd (omega arith)
  step (suc k) t h = let e : k ≡ suc k - 1 = omega arith in ap (λ j. cond (is_stop m t) (t ∷ stops_from m j (t + 1)) (stops_from m j (t + 1))) e

  nothing : (t : ℕ) → stops_from m 0 t ≡ []
  unfolding stops_from
  nothing t = refl

  -- from table t on to the table before e
  pub is_next : (e t : ℕ) → t < e → is_stop m t ≡ true → stops_from m (e - t) t ≡ t ∷ stops_from m (e - (t + 1)) (t + 1)
  is_next e t h b =
      let less : e - t - 1 ≡ e - (t + 1) = omega arith in
      step (e - t) t (omega arith) ∙ cond-true _ _ _ b ∙ ap (λ j. t ∷ stops_from m j (t + 1)) less

  pub is_later : (e t : ℕ) → t < e → is_stop m t ≡ false → stops_from m (e - t) t ≡ stops_from m (e - (t + 1)) (t + 1)
  is_later e t h b =
      let less : e - t - 1 ≡ e - (t + 1) = omega arith in
      step (e - t) t (omega arith) ∙ cond-false _ _ _ b ∙ ap (λ j. stops_from m j (t + 1)) less

  pub no_more : (e t : ℕ) → e ≤ t → stops_from m (e - t) t ≡ []
  no_more e t h = let done : e - t ≡ 0 = omega arith in ap (λ j. stops_from m j t) done ∙ nothing t

  -- the flag of table t, if any, and those behind it
  flags : (t : ℕ) → how_many (drop t m.stops) ≡ cond (is_stop m t) 1 0 + how_many (drop (t + 1) m.stops)
  flags t =
      ⊎_elim (λ (h : t < length m.stops). ap how_many (drop_more m.stops t false h))
      (λ h. ap how_many (drop_all t m.stops h)
      ∙ sym (ap (λ b. cond b 1 0 + how_many (drop (t + 1) m.stops)) (get_or_past m.stops t false h) ∙ ap (λ l. 0 + how_many l) (drop_all (t + 1) m.stops (omega arith))))
      (cases_lt t (length m.stops))

  -- the stops from table t on: one step, where t is a stop and where it is not
  pub data First (k t : ℕ) : Type 0 where
    now_here : is_stop m t ≡ true → stops_from m (suc k) t ≡ t ∷ stops_from m k (t + 1) → First k t
    not_here : is_stop m t ≡ false → stops_from m (suc k) t ≡ stops_from m k (t + 1) → First k t

  pub first : (k t : ℕ) → First k t
  unfolding stops_from
  first k t = go (is_stop m t) refl
    where
      go : (b : Bool) → is_stop m t ≡ b → First k t
      go true e = now_here e (cond-true _ _ _ e)
      go false e = not_here e (cond-false _ _ _ e)

  pub few : (k t : ℕ) → length (stops_from m k t) ≤ how_many (drop t m.stops)
  few zero t = let none = ap length (nothing t) in omega arith
  few (suc k) t =
      elim (first k t) [
        | now_here b e ↦ let rest = few k (t + 1) in let n = flags t ∙ ap (λ x. cond x 1 0 + how_many (drop (t + 1) m.stops)) b in let l = ap length e in omega arith
        | not_here b e ↦ let rest = few k (t + 1) in let n = flags t ∙ ap (λ x. cond x 1 0 + how_many (drop (t + 1) m.stops)) b in let l = ap length e in omega arith
      ]

  -- a stop from table t on, before table e
  pub record StopBetween (t e stop : ℕ) : Type 0 where
    pub low : t ≤ stop
    pub high : stop < e
    pub is : is_stop m stop ≡ true

  here_each : (k t : ℕ) (xs : List ℕ) → is_stop m t ≡ true → ((i : ℕ) → i < length xs → StopBetween (t + 1) (t + 1 + k) (get_or xs i 0))
      → (i : ℕ) → i < length (t ∷ xs) → StopBetween t (t + suc k) (get_or (t ∷ xs) i 0)
  here_each k t xs b rest zero l = record { low = omega arith; high = omega arith; is = b }
  here_each k t xs b rest (suc j) l =
      let r = rest j (omega arith) in
      record { low = omega (arith, r.low); high = omega (arith, r.high); is = r.is }

  pub each : (k t i : ℕ) → i < length (stops_from m k t) → StopBetween t (t + k) (get_or (stops_from m k t) i 0)
  each zero t i h = let none = ap length (nothing t) in absurd (omega arith)
  each (suc k) t i h =
      elim (first k t) [
        | now_here b e ↦ let l = ap length e in rw e (here_each k t (stops_from m k (t + 1)) b (each k (t + 1)) i (omega arith))
        | not_here b e ↦
            let l = ap length e in
            let r = each k (t + 1) i (omega arith) in
            rw e (record { low = omega (arith, r.low); high = omega (arith, r.high); is = r.is })
      ]

  here_rising : (t : ℕ) (xs : List ℕ) → ((i : ℕ) → i < length xs → t < get_or xs i 0) → ((i : ℕ) → i + 1 < length xs → get_or xs i 0 < get_or xs (i + 1) 0)
      → (i : ℕ) → i + 1 < length (t ∷ xs) → get_or (t ∷ xs) i 0 < get_or (t ∷ xs) (i + 1) 0
  here_rising t xs above rest zero l = above 0 (omega arith)
  here_rising t xs above rest (suc j) l = let next : suc j + 1 ≡ suc (j + 1) = omega arith in rw next (rest j (omega arith))

  pub rising : (k t i : ℕ) → i + 1 < length (stops_from m k t) → get_or (stops_from m k t) i 0 < get_or (stops_from m k t) (i + 1) 0
  rising zero t i h = let none = ap length (nothing t) in absurd (omega arith)
  rising (suc k) t i h =
      elim (first k t) [
        | now_here b e ↦
            let l = ap length e in
            rw e (here_rising t (stops_from m k (t + 1)) (λ j q. let r = each k (t + 1) j q in omega (arith, r.low)) (rising k (t + 1)) i (omega arith))
        | not_here b e ↦ let l = ap length e in rw e (rising k (t + 1) i (omega arith))
      ]

  -- the stops that were found before table t, and those that come
  abbrev pub Found : List ℕ → ℕ → Type 0
  Found stops t = stops ++ stops_from m (256 - t) t ≡ stops_of m

  pub has_room : (stops : List ℕ) (t : ℕ) → how_many m.stops ≤ 64 → t < 256 → is_stop m t ≡ true → Found stops t → length stops < 64
  has_room stops t most h b all =
      let next = ap length (is_next 256 t h b) in
      let whole = ap length all in
      let l = few 256 0 in
      omega (arith, length-append stops (stops_from m (256 - t) t))

  pub found_more : (stops later : List ℕ) (t : ℕ) → t < 256 → is_stop m t ≡ true → later ≡ stops ++ t ∷ [] → Found stops t → Found later (t + 1)
  found_more stops later t h b p all =
      ap (λ x. x ++ stops_from m (256 - (t + 1)) (t + 1)) p
      ∙ append_assoc stops (t ∷ []) (stops_from m (256 - (t + 1)) (t + 1))
      ∙ ap (λ x. stops ++ x) (sym (is_next 256 t h b)) ∙ all

  pub found_other : (stops later : List ℕ) (t : ℕ) → t < 256 → is_stop m t ≡ false → later ≡ stops → Found stops t → Found later (t + 1)
  found_other stops later t h b p all =
      ap (λ x. x ++ stops_from m (256 - (t + 1)) (t + 1)) p
      ∙ ap (λ x. stops ++ x) (sym (is_later 256 t h b)) ∙ all

  pub found_all : (stops : List ℕ) (t : ℕ) → 256 ≤ t → Found stops t → stops ≡ stops_of m
  found_all stops t h all = sym (append-nil stops) ∙ ap (λ x. stops ++ x) (sym (no_more 256 t h)) ∙ all
