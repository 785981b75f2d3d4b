-- Tables read one by one come to the tables of all the words.
use Rattle.std.proofs.Common.{◌≡◌, ℕ, suc, ◌+◌, ◌<◌, ◌≤◌, List, [], ◌∷◌, ◌++◌, length, get_or, set, take, drop, Ok, Err, Result, refl, sym, ap, ◌∙◌, add-one, append_assoc, append-nil, arith, drop-cons, Bor}
use Rattle.std.proofs.Math.Seq.{take-suc-set}
use Rattle.std.proofs.lemmas.List.{drop_all, take_all}
use Rattle.std.proofs.lemmas.Bool.{cond-true, eq-eqb}
use Rattle.script.specs.declared.call.Fault.{Fault}
use Rattle.script.specs.declared.call.Fault.TheVariants.{WrongWords}
use Rattle.script.specs.Parts.{texts, table_of, each_table, tables_of, into, then}

-- a word as the code holds it
abbrev Word : Type 0
Word = Bor (List ℕ)

abbrev word_at : List Word → ℕ → Word → List ℕ
word_at ws i d = (get_or ws i d).now

-- what is read already, in front of what is read after it
abbrev pub before : List ℕ → Result (List ℕ) Fault → Result (List ℕ) Fault
before xs r = into (λ ys. xs ++ ys) r

more : (xs : List ℕ) (t : ℕ) (r : Result (List ℕ) Fault) → before (xs ++ (t ∷ [])) r ≡ before xs (into (λ ts. t ∷ ts) r)
more xs t (Ok ys) = ap Ok (append_assoc xs (t ∷ []) ys)
more xs t (Err e) = refl

next_word : (d : Word) (ws : List Word) (i : ℕ) → i < length ws → texts (drop i ws) ≡ word_at ws i d ∷ texts (drop (i + 1) ws)
next_word d ws i lt = rw add-one (ap texts (drop-cons ws i d lt))

pub goes_on : (d : Word) (xs : List ℕ) (ws : List Word) (i t : ℕ) (all : Result (List ℕ) Fault) → i < length ws → i < length xs → Ok t ≡ table_of (word_at ws i d)
    → before (take i xs) (each_table (texts (drop i ws))) ≡ all → before (take (i + 1) (set xs i t)) (each_table (texts (drop (i + 1) ws))) ≡ all
goes_on d xs ws i t all lt le e h =
    let taken : take (i + 1) (set xs i t) ≡ take i xs ++ (t ∷ []) = rw add-one (take-suc-set xs i t le) in
    let left = each_table (texts (drop (i + 1) ws)) in
    let opened : each_table (texts (drop i ws)) ≡ into (λ ts. t ∷ ts) left =
    ap each_table (next_word d ws i lt) ∙ sym (ap (λ o. then o (λ u. into (λ ts. u ∷ ts) left)) e) in
    ap (λ ts. before ts left) taken ∙ (more (take i xs) t left ∙ (sym (ap (before (take i xs)) opened) ∙ h))

length_texts : (ws : List Word) → length (texts ws) ≡ length ws
length_texts [] = refl
length_texts (w ∷ ws) = ap suc (length_texts ws)

pub ends : (xs : List ℕ) (ws : List Word) (i : ℕ) → length ws ≤ i → length xs ≡ length ws
    → before (take i xs) (each_table (texts (drop i ws))) ≡ each_table (texts ws) → Ok xs ≡ tables_of (length ws) (texts ws)
ends xs ws i le n h =
    let none : texts (drop i ws) ≡ [] = ap texts (drop_all i ws le) in
    let all : take i xs ++ [] ≡ xs = append-nil (take i xs) ∙ take_all i xs (omega arith) in
    let same : length (texts ws) ≡ length ws = length_texts ws in
    sym
    (cond-true _ (each_table (texts ws)) (Err WrongWords) (eq-eqb _ _ same)
    ∙ (sym h ∙ (ap (λ t. before (take i xs) (each_table t)) none ∙ ap Ok all)))
