use Rattle.std.proofs.Common.{sym, rules}
use Rattle.std.proofs.lemmas.Bool.{both_ways}
use Rattle.map.proofs.Flags.{none_set, none_counted}
use Rattle.map.proofs.map.Map.new.Goals as goal

pub invariant_of-result-clause-tables_there : goal.invariant_of-result-clause-tables_there
invariant_of-result-clause-tables_there c = λ t h. absurd (both_ways _ (none_set 256 t) h)

pub invariant_of-result-clause-segments_there : goal.invariant_of-result-clause-segments_there
invariant_of-result-clause-segments_there c = λ n h. absurd (both_ways _ (none_set 1024 n) h)

pub invariant_of-result-clause-stops_there : goal.invariant_of-result-clause-stops_there
invariant_of-result-clause-stops_there c = λ t h. absurd (both_ways _ (none_set 256 t) h)

pub invariant_of-result-clause-counted : goal.invariant_of-result-clause-counted
invariant_of-result-clause-counted c = sym (none_counted 256)

pub returns-clause-bare : goal.returns-clause-bare
returns-clause-bare c =
    record { width = search rules; height = search rules; tables = none_set 256; segments = none_set 1024; stops = none_set 256 }
