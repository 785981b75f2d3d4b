-- What the words behind the first one name.
use Rattle.std.specs.Prelude.{ℕ, cond, List, [], ◌∷◌, map, length, slice_index, Ok, Err, codes, Result, ◌==◌}
use Rattle.std.specs.Borrow.{Bor}
use Rattle.std.specs.Str.{bytes_eq}
use Rattle.script.specs.declared.call.Fault.{Fault}
use Rattle.script.specs.declared.call.Fault.TheVariants.{NoSuchCall, WrongWords}
use Rattle.script.specs.declared.call.Part.{Part}
use Rattle.script.specs.declared.call.Part.TheVariants.{Table, Segment}
use Rattle.script.specs.declared.call.PlanKind.{PlanKind}
use Rattle.script.specs.Verbs.{plan_named}
use Rattle.script.specs.Numbers.{number_up_to}

-- the bytes of each word of a line
abbrev pub texts : List (Bor (List ℕ)) → List (List ℕ)
texts ws = map (λ w. w.now) ws

-- what is read, put into the call or part that it belongs to; a fault stays what it is
abbrev pub into : {A B : Type 0} → (A → B) → Result A Fault → Result B Fault
into f (Ok a) = Ok (f a)
into f (Err e) = Err e

abbrev pub then : {A B : Type 0} → Result A Fault → (A → Result B Fault) → Result B Fault
then (Ok a) f = f a
then (Err e) f = Err e

-- tables, widths and heights are bytes, and segments have 16 bits
abbrev pub table_of : List ℕ → Result ℕ Fault
table_of w = number_up_to 255 w

abbrev pub segment_of : List ℕ → Result ℕ Fault
segment_of w = number_up_to 65535 w

-- nothing may follow
abbrev pub nothing : List (List ℕ) → Result (Unit {0}) Fault
nothing [] = Ok tt
nothing (w ∷ ws) = Err WrongWords

-- the first word that is at fault tells the fault
abbrev pub each_table : List (List ℕ) → Result (List ℕ) Fault
each_table [] = Ok []
each_table (w ∷ ws) = then (table_of w) (λ t. into (λ ts. t ∷ ts) (each_table ws))

-- the number of words has to be that of the call
abbrev pub tables_of : ℕ → List (List ℕ) → Result (List ℕ) Fault
tables_of n ws = cond (length ws == n) (each_table ws) (Err WrongWords)

abbrev pub one_segment : List (List ℕ) → Result ℕ Fault
one_segment [] = Err WrongWords
one_segment (w ∷ []) = segment_of w
one_segment (v ∷ w ∷ ws) = Err WrongWords

-- what is closed or reopened is a table or a segment
abbrev pub part_by : List ℕ → List (List ℕ) → Result Part Fault
part_by kind ws =
    cond (bytes_eq kind (codes "table")) (into (λ ts. Table (slice_index ts 0)) (tables_of 1 ws))
    (cond (bytes_eq kind (codes "segment")) (into Segment (one_segment ws)) (Err NoSuchCall))

-- a table or a segment, with its kind in front
abbrev pub part_of : List (List ℕ) → Result Part Fault
part_of [] = Err WrongWords
part_of (k ∷ ws) = part_by k ws

-- a plan, by its name alone
abbrev pub plan_of : List (List ℕ) → Result PlanKind Fault
plan_of [] = Err WrongWords
plan_of (k ∷ ws) = then (plan_named k) (λ p. into (λ _. p) (nothing ws))
