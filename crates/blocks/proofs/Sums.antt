-- Laws of the word sum.
use Rattle.std.proofs.Common.{◌≡◌, ℕ, zero, suc, ◌+◌, ◌-◌, ◌*◌, ◌/◌, ◌%◌, ◌^◌, ◌<◌, ◌⊎◌, List, [], ◌∷◌, ◌++◌, map, length, get_or, take, drop, set, sym, refl, ap, ◌∙◌, inl, inr, ⊎_elim, add-zero, mod-eq_of_lt, arith}
use Rattle.std.proofs.lemmas.Nat.{mod-mul-add, div-mul-add, shr-shr, div_below}
use Rattle.std.proofs.lemmas.List.{ext_get_or, length-take-le, length-drop, get_or-drop, take-append-drop, length-set, get_or-set_same, get_or-set_other}
use Rattle.std.proofs.lemmas.Bool.{cases_eq}
use Rattle.std.specs.List.{fold}
use Rattle.std.specs.Simd.{first_chunks}
use Rattle.std.specs.Int.{from_be_bytes, w32}
use Rattle.blocks.specs.Words.{words, word_sum, big_endian, last_word, closed}
use Rattle.blocks.specs.Changes.{AllBytes, OnlyAt}

pub words_few : (bs : List ℕ) → length bs < 4 → words bs ≡ 0
words_few [] h = refl
words_few (a ∷ []) h = refl
words_few (a ∷ b ∷ []) h = refl
words_few (a ∷ b ∷ c ∷ []) h = refl
words_few (a ∷ b ∷ c ∷ d ∷ bs) h = absurd (omega arith)

-- a word more, modulo 2^32
abbrev pub added : ℕ → ℕ → ℕ
added total word = (total + word) % 2 ^ 32

-- the sum over the whole words of a block, from a total on
pub sum_of_words : (k : ℕ) (bs : List ℕ) (total : ℕ) → length bs / 4 ≡ k → total < 2 ^ 32 → fold added total (map (from_be_bytes w32) (first_chunks 4 k bs)) ≡ (total + words bs) % 2 ^ 32
sum_of_words zero bs t e h = let none = words_few bs (omega arith) in omega arith
sum_of_words (suc k) [] t e h = absurd (omega arith)
sum_of_words (suc k) (a ∷ []) t e h = absurd (omega arith)
sum_of_words (suc k) (a ∷ b ∷ []) t e h = absurd (omega arith)
sum_of_words (suc k) (a ∷ b ∷ c ∷ []) t e h = absurd (omega arith)
sum_of_words (suc k) (a ∷ b ∷ c ∷ d ∷ bs) t e h =
    let now = added t (from_be_bytes w32 (a ∷ b ∷ c ∷ d ∷ [])) in
    let rest = sum_of_words k bs now (omega arith) (omega arith) in
    omega arith

-- what the byte at i counts for in its word
abbrev pub weight : ℕ → ℕ
weight i = 256 ^ (3 - i % 4)

pub words_set : (bs : List ℕ) (n i b : ℕ) → length bs ≡ 4 * n → i < length bs → words (set bs i b) + get_or bs i 0 * weight i ≡ words bs + b * weight i
words_set [] n i b e h = absurd (omega arith)
words_set (p ∷ []) n i b e h = absurd (omega arith)
words_set (p ∷ q ∷ []) n i b e h = absurd (omega arith)
words_set (p ∷ q ∷ r ∷ []) n i b e h = absurd (omega arith)
words_set (p ∷ q ∷ r ∷ s ∷ bs) n zero b e h = omega arith
words_set (p ∷ q ∷ r ∷ s ∷ bs) n (suc zero) b e h = omega arith
words_set (p ∷ q ∷ r ∷ s ∷ bs) n (suc (suc zero)) b e h = omega arith
words_set (p ∷ q ∷ r ∷ s ∷ bs) n (suc (suc (suc zero))) b e h = omega arith
words_set (p ∷ q ∷ r ∷ s ∷ bs) n (suc (suc (suc (suc i)))) b e h =
    let same : weight (suc (suc (suc (suc i)))) ≡ weight i = ap (λ k. 256 ^ (3 - k)) (omega arith) in
    let ih = words_set bs (n - 1) i b (omega arith) (omega arith) in
    rw same (omega arith)

remainders : (i : ℕ) → (i % 4 ≡ 0) ⊎ (i % 4 ≡ 1) ⊎ (i % 4 ≡ 2) ⊎ (i % 4 ≡ 3)
remainders i = grind arith

-- the four weights
pub weights : (i : ℕ) → (weight i ≡ 16777216) ⊎ (weight i ≡ 65536) ⊎ (weight i ≡ 256) ⊎ (weight i ≡ 1)
weights i =
    ⊎_elim (λ h. inl (ap (λ k. 256 ^ (3 - k)) h))
    (⊎_elim (λ h. inr (inl (ap (λ k. 256 ^ (3 - k)) h)))
    (⊎_elim (λ h. inr (inr (inl (ap (λ k. 256 ^ (3 - k)) h))))
    (λ h. inr (inr (inr (ap (λ k. 256 ^ (3 - k)) h))))))
    (remainders i)

-- a digit below k is what is left over by k
digit : (k x y p q : ℕ) → x < k → y < k → p * k + x ≡ q * k + y → x ≡ y
digit k x y p q hx hy e = sym (mod-mul-add p k x hx) ∙ ap (λ n. n % k) e ∙ mod-mul-add q k y hy

-- a byte that is changed changes the sum
pub sum_tells : (bs : List ℕ) (n i b : ℕ) → length bs ≡ 4 * n → i < length bs → get_or bs i 0 < 256 → b < 256 → (get_or bs i 0 ≡ b → ⊥) → word_sum (set bs i b) ≡ word_sum bs → ⊥
sum_tells bs n i b e h old new ne same =
    let moved = words_set bs n i b e h in
    let p = words (set bs i b) / 2 ^ 32 in
    let q = words bs / 2 ^ 32 in
    let x = get_or bs i 0 in
    ne
    (⊎_elim (λ w. let m = rw w at moved in digit (2 ^ 8) x b p q (omega arith) (omega arith) (omega arith))
    (⊎_elim (λ w. let m = rw w at moved in digit (2 ^ 16) x b p q (omega arith) (omega arith) (omega arith))
    (⊎_elim (λ w. let m = rw w at moved in digit (2 ^ 24) x b p q (omega arith) (omega arith) (omega arith))
    (λ w. let m = rw w at moved in digit (2 ^ 32) x b p q (omega arith) (omega arith) (omega arith))))
    (weights i))

pub words_append : (bs cs : List ℕ) (n : ℕ) → length bs ≡ 4 * n → words (bs ++ cs) ≡ words bs + words cs
words_append [] cs n e = omega arith
words_append (p ∷ []) cs n e = absurd (omega arith)
words_append (p ∷ q ∷ []) cs n e = absurd (omega arith)
words_append (p ∷ q ∷ r ∷ []) cs n e = absurd (omega arith)
words_append (p ∷ q ∷ r ∷ s ∷ bs) cs n e = let ih = words_append bs cs (n - 1) (omega arith) in omega arith

pub words_big_endian : (w : ℕ) → w < 2 ^ 32 → words (big_endian w) ≡ w
words_big_endian w h =
    let two : w / 256 / 256 ≡ w / 65536 = shr-shr w 8 8 in
    let three : w / 65536 / 256 ≡ w / 16777216 = shr-shr w 16 8 in
    let high : w / 16777216 < 256 = div_below w 16777216 256 (omega arith) (omega arith) in
    let top : w / 16777216 % 256 ≡ w / 16777216 = mod-eq_of_lt high in
    omega arith

-- what is closed adds up
pub sum_closed : (front : List ℕ) (n : ℕ) → length front ≡ 4 * n → word_sum (closed front) ≡ 4294967295
sum_closed front n e =
    let w = last_word front in
    let last = words_big_endian w (omega arith) in
    let all = words_append front (big_endian w) n e in
    omega arith

-- two blocks that differ in one byte have two sums
pub one_byte : (i n : ℕ) (b d : List ℕ) → AllBytes b → AllBytes d → length b ≡ 4 * n → OnlyAt i b d → word_sum d ≡ word_sum b → ⊥
one_byte i n b d hb hd e o same =
    let within = o.within in
    let y = get_or d i 0 in
    let is : set b i y ≡ d =
    ext_get_or 0 (set b i y) d (length-set b i y ∙ o.long)
    (λ k h. ⊎_elim (λ (q : k ≡ i). rw q (get_or-set_same b i y 0 within)) (λ ne. get_or-set_other b i k y 0 ne ∙ o.elsewhere k ne) (cases_eq k i)) in
    sum_tells b n i y e within (hb i) (hd i) o.here (ap word_sum is ∙ same)

-- the quotient of a number that is given as a row and a column
quotient : (n k a b : ℕ) → n ≡ a * k + b → b < k → n / k ≡ a
quotient n k a b e h = ap (λ m. m / k) e ∙ div-mul-add a k b h

-- four bytes are the big-endian bytes of their word
pub big_endian_word : (w a b c d : ℕ) → w ≡ a * 16777216 + b * 65536 + c * 256 + d → a < 256 → b < 256 → c < 256 → d < 256 → big_endian w ≡ a ∷ b ∷ c ∷ d ∷ []
big_endian_word w a b c d e ha hb hc hd =
    let p = quotient w 16777216 a (b * 65536 + c * 256 + d) (omega arith) (omega arith) in
    let q = quotient w 65536 (a * 256 + b) (c * 256 + d) (omega arith) (omega arith) in
    let r = quotient w 256 (a * 65536 + b * 256 + c) d (omega arith) (omega arith) in
    let first : w / 16777216 % 256 ≡ a = omega arith in
    let second : w / 65536 % 256 ≡ b = omega arith in
    let third : w / 256 % 256 ≡ c = omega arith in
    let fourth : w % 256 ≡ d = omega arith in
    rw (first, second, third, fourth)

four_are : (l : List ℕ) → length l ≡ 4 → l ≡ get_or l 0 0 ∷ get_or l 1 0 ∷ get_or l 2 0 ∷ get_or l 3 0 ∷ []
four_are [] e = absurd (omega arith)
four_are (a ∷ []) e = absurd (omega arith)
four_are (a ∷ b ∷ []) e = absurd (omega arith)
four_are (a ∷ b ∷ c ∷ []) e = absurd (omega arith)
four_are (a ∷ b ∷ c ∷ d ∷ []) e = refl
four_are (a ∷ b ∷ c ∷ d ∷ f ∷ l) e = absurd (omega arith)

-- in a block that adds up, the bytes before the last word decide the last word
pub closed_back : (b : List ℕ) → length b ≡ 512 → AllBytes b → word_sum b ≡ 4294967295 → closed (take 508 b) ≡ b
closed_back b long bytes adds =
    let front = take 508 b in
    let tail = drop 508 b in
    let size : length front ≡ 4 * 127 = length-take-le 508 b (omega arith) in
    let four : length tail ≡ 4 = length-drop 508 b ∙ ap (λ n. n - 508) long in
    let at : (i : ℕ) → get_or tail i 0 < 256 = λ i. let e = get_or-drop 508 b i 0 in let l = bytes (508 + i) in omega arith in
    let w = get_or tail 0 0 * 16777216 + get_or tail 1 0 * 65536 + get_or tail 2 0 * 256 + get_or tail 3 0 in
    let a0 = at 0 in
    let a1 = at 1 in
    let a2 = at 2 in
    let a3 = at 3 in
    let last : words tail ≡ w = ap words (four_are tail four) ∙ add-zero w in
    let parts : words b ≡ words front + words tail = ap words (sym (take-append-drop 508 b)) ∙ words_append front tail 127 size in
    let is : last_word front ≡ w = omega arith in
    ap (λ l. front ++ l) (big_endian_word (last_word front) (get_or tail 0 0) (get_or tail 1 0) (get_or tail 2 0) (get_or tail 3 0) is a0 a1 a2 a3 ∙ sym (four_are tail four))
    ∙ take-append-drop 508 b
