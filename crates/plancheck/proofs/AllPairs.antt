-- What the wanted pairs are, together.
use Rattle.std.proofs.Common.{◌≡◌, ◌+◌, ◌*◌, length, subst, arith}
use Rattle.map.specs.Layouts.{Layout, stop_count}
use Rattle.plancheck.specs.Pairs.{stops_of, wanted_pairs}
use Rattle.plancheck.specs.Wanted.{AllWanted}
use Rattle.plancheck.proofs.Marks.{marks_have, marks_only, marks_climb, climbs_apart, marks_count}
use Rattle.plancheck.proofs.Wants.{from_has, from_parts}
use Rattle.plancheck.proofs.Counts.{from_length}
use Rattle.plancheck.proofs.Rises.{rising_from}

pub all_wanted : (m : Layout) → AllWanted m
all_wanted m =
    let climbs = marks_climb m.stops 0 in
    let pairs : length (wanted_pairs m) + stop_count m ≡ stop_count m * stop_count m =
    subst (λ k. length (wanted_pairs m) + k ≡ k * k) (marks_count m.stops 0) (from_length (stops_of m) (stops_of m) (climbs_apart _ climbs) (λ o i. i)) in
    record {
      has = λ o d i j ne. from_has o d (stops_of m) (stops_of m) (marks_have m.stops o i) (marks_have m.stops d j) ne;
      only = λ o d i.
          let p = from_parts o d (stops_of m) (stops_of m) i in
          (marks_only m.stops o p.from, marks_only m.stops d p.to, p.differ);
      rising = rising_from (stops_of m) (stops_of m) climbs climbs;
      count = omega arith;
    }
