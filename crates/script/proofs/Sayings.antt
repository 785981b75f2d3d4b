-- What is written of a number reads as that number, and so each call's wording as that call.
use Rattle.std.proofs.Common.{◌≡◌, ℕ, ◌+◌, ◌-◌, ◌*◌, ◌/◌, ◌%◌, ◌^◌, ◌<◌, ◌≤◌, Bool, true, false, cond, List, [], ◌∷◌, ◌++◌, length, Some, None, Ok, decimal, refl, ap, ◌∙◌, arith}
use Rattle.std.specs.Char.{is_ascii_digit}
use Rattle.std.proofs.lemmas.Fmt.{decimal_by_steps, decimal_nonempty}
use Rattle.std.proofs.lemmas.Bool.{le-leb, cond-true}
use Rattle.std.proofs.lemmas.Bool.Decides.{nat_tests}
use Rattle.script.specs.declared.call.Call.TheVariants.{MakeMap, ChangeMap, DrawMap, ChoosePlan, AddDetour, ChangeVias, CheckPlan, OpenFloor, UseFloor}
use Rattle.script.specs.declared.call.Change.TheVariants.{MarkStop, UnmarkStop, Close, Reopen}
use Rattle.script.specs.declared.call.Part.TheVariants.{Table, Segment}
use Rattle.script.specs.declared.call.PlanKind.TheVariants.{RowFirst, Tree}
use Rattle.script.specs.declared.call.ViaChange.TheVariants.{AddVia, RemoveVia}
use Rattle.script.specs.declared.call.FloorUse.TheVariants.{EnterTray, AdvanceTray, CountLeft, LookAt, TellCounts}
use Rattle.script.specs.Numbers.{read_on, number_of, up_to, number_up_to}
use Rattle.script.specs.Parts.{table_of, segment_of}
use Rattle.script.specs.Wordings.{EveryCallCanBeSaid}

-- what was read of the front is carried on
on_by : (t : Bool) (n k : ℕ) (xs ys : List ℕ) → (read_on n xs ≡ Some k → read_on n (xs ++ ys) ≡ read_on k ys)
    → cond t (read_on n xs) None ≡ Some k → cond t (read_on n (xs ++ ys)) None ≡ read_on k ys
on_by true n k xs ys h e = h e
on_by false n k xs ys h e = let z : ◌≡◌ {A = ℕ} 0 1 = cc in elim (absurd z) [ ]
  where
    absurd : ◌≡◌ {A = ℕ} 0 1 → ⊥
    absurd z = omega arith

reads_on : (n k : ℕ) (xs ys : List ℕ) → read_on n xs ≡ Some k → read_on n (xs ++ ys) ≡ read_on k ys
reads_on n k [] ys e = let same : n ≡ k = cc in ap (λ m. read_on m ys) same
reads_on n k (x ∷ xs) ys e = on_by (is_ascii_digit x) (10 * n + (x - 48)) k xs ys (reads_on (10 * n + (x - 48)) k xs ys) e

last_digit : (k d : ℕ) → d < 10 → read_on k ((48 + d) ∷ []) ≡ Some (10 * k + d)
last_digit k d h =
    let t : is_ascii_digit (48 + d) ≡ true = grind (arith, nat_tests) in
    let v : 10 * k + (48 + d - 48) ≡ 10 * k + d = omega arith in
    cond-true (is_ascii_digit (48 + d)) (Some (10 * k + (48 + d - 48))) None t ∙ ap Some v

reads_decimal : (n : ℕ) → n < 2 ^ 64 → read_on 0 (decimal n) ≡ Some n
reads_decimal = decimal_by_steps (λ n ds. read_on 0 ds ≡ Some n)
    (λ n h. last_digit 0 n h ∙ ap Some (omega arith))
    (λ n ds h e. reads_on 0 (n / 10) ds ((48 + n % 10) ∷ []) e ∙ (last_digit (n / 10) (n % 10) (omega arith) ∙ ap Some (omega arith)))

some_number : (ds : List ℕ) → 0 < length ds → number_of ds ≡ read_on 0 ds
some_number [] h = elim (absurd h) [ ]
  where
    absurd : 0 < 0 → ⊥
    absurd h = omega arith
some_number (d ∷ ds) h = refl

reads_back : (most n : ℕ) → n ≤ most → n < 2 ^ 64 → number_up_to most (decimal n) ≡ Ok n
reads_back most n le lt =
    ap (up_to most) (some_number (decimal n) (decimal_nonempty n lt) ∙ reads_decimal n lt)
    ∙ cond-true _ (Ok n) _ (le-leb n most le)

table_back : (t : ℕ) → t < 256 → table_of (decimal t) ≡ Ok t
table_back t h = reads_back 255 t (omega arith) (omega arith)

segment_back : (n : ℕ) → n < 65536 → segment_of (decimal n) ≡ Ok n
segment_back n h = reads_back 65535 n (omega arith) (omega arith)

pub every_call_can_be_said : EveryCallCanBeSaid
every_call_can_be_said (MakeMap w h) r = rw (table_back w r.0, table_back h r.1)
every_call_can_be_said (ChangeMap (MarkStop t)) r = rw (table_back t r)
every_call_can_be_said (ChangeMap (UnmarkStop t)) r = rw (table_back t r)
every_call_can_be_said (ChangeMap (Close (Table t))) r = rw (table_back t r)
every_call_can_be_said (ChangeMap (Reopen (Table t))) r = rw (table_back t r)
every_call_can_be_said (ChangeMap (Close (Segment n))) r = rw (segment_back n r)
every_call_can_be_said (ChangeMap (Reopen (Segment n))) r = rw (segment_back n r)
every_call_can_be_said DrawMap r = refl
every_call_can_be_said (ChoosePlan RowFirst) r = refl
every_call_can_be_said (ChoosePlan Tree) r = refl
every_call_can_be_said AddDetour r = refl
every_call_can_be_said (ChangeVias (AddVia o d v)) r = rw (table_back o r.0, table_back d r.1, table_back v r.2)
every_call_can_be_said (ChangeVias (RemoveVia o d)) r = rw (table_back o r.0, table_back d r.1)
every_call_can_be_said CheckPlan r = refl
every_call_can_be_said OpenFloor r = refl
every_call_can_be_said (UseFloor (EnterTray o d)) r = rw (table_back o r.0, table_back d r.1)
every_call_can_be_said (UseFloor (AdvanceTray n)) r = rw (segment_back n r)
every_call_can_be_said (UseFloor (CountLeft n)) r = rw (segment_back n r)
every_call_can_be_said (UseFloor (LookAt n)) r = rw (segment_back n r)
every_call_can_be_said (UseFloor TellCounts) r = refl
