-- A plan is written again with its own keys.
use Rattle.std.proofs.Common.{◌≡◌, ℕ, ◌<◌, List, ◌++◌, length, get_or, drop, IfOk, Ok, Err, Result, refl, ap, ◌∙◌, subst, zero-add, MatchResult}
use Rattle.std.proofs.lemmas.List.FromFn.{length-map-range_with_len, get_or-map-range_with_len}
use Rattle.map.specs.Layouts.{Layout}
use Rattle.blocks.specs.Changes.{AllBytes}
use Rattle.planfile.specs.declared.refusal.Refusal.{Refusal}
use Rattle.planfile.specs.Plans.{way_in, key_in}
use Rattle.planfile.specs.Promises.{PlanFile}
use Rattle.planwriter.specs.Files.{file_of, source_of, write_outcome}
use Rattle.planwriter.specs.Promises.{WrittenAgain, keys_in, SameFloor}

keys_long : (file : List ℕ) → length (keys_in file) ≡ 1024
unfolding keys_in
keys_long file = length-map-range_with_len (key_in file) 0 1024

key_is : (file : List ℕ) (s : ℕ) → s < 1024 → get_or (keys_in file) s 0 ≡ key_in file s
unfolding keys_in
key_is file s h = get_or-map-range_with_len (key_in file) 0 1024 s s 0 h (zero-add s)

module _ (layout : Layout) (file keys was is : List ℕ) (own : keys ≡ keys_in file) where
  pub outcome_again : (r : Result ℕ Refusal) (n : ℕ) → r ≡ write_outcome (length keys) (length was) n → r ≡ write_outcome 1024 (length was) n
  outcome_again r n e = e ∙ ap (λ k. write_outcome k (length was) n) (ap length own ∙ keys_long file)

  abbrev Later : List ℕ → ℕ → Type 0
  Later ks n = is ≡ file_of (source_of layout (λ _ _. 0) (λ t d _. way_in file t d) ks) ++ drop n was

  pub later_again : (r : Result ℕ Refusal) → MatchResult r (Later keys) (λ _. is ≡ was) → MatchResult r (Later (keys_in file)) (λ _. is ≡ was)
  later_again (Ok n) e = subst (λ ks. Later ks n) own e
  later_again (Err x) e = e

  pub bytes_again : (r : Result ℕ Refusal) → MatchResult r (Later keys) (λ _. is ≡ was) → IfOk r (λ _. WrittenAgain layout (λ _ _. 0) (λ t d _. way_in file t d) keys)
      → IfOk r (λ n. AllBytes file → PlanFile file → SameFloor layout file → is ≡ file ++ drop n was)
  bytes_again (Err x) later again = tt
  bytes_again (Ok n) later again = λ bytes plan floor.
      later
      ∙ ap (λ f. f ++ drop n was)
      (again file bytes plan
      (record {
        width = floor.width;
        height = floor.height;
        stops = floor.stops;
        ways = λ t d note. refl;
        each_key = λ s h. ap (λ l. get_or l s 0) own ∙ key_is file s h;
      }))
