-- What was done, in the order in which it was done.
infixl 5 ◌then◌
pub data Log (A : Type 0) : Type 0 where
  start : Log A
  ◌then◌ : Log A → A → Log A

-- the log, and then a rest
abbrev pub joined : {A : Type 0} → Log A → Log A → Log A
joined h start = h
joined h (rest then x) = joined h rest then x

abbrev pub each : {A B : Type 0} → (A → B) → Log A → Log B
each f start = start
each f (h then x) = each f h then f x
