use Rattle.std.proofs.Common.{◌≡◌, length, take, drop}
use Rattle.script.specs.Parts.{texts, each_table}
use Rattle.script.proofs.Tables.{before}
use Rattle.script.proofs.parts.read_tables.Given as goal

-- what is read, and what is left to read, come to all the tables
abbrev pub invariant-loop-place : goal.invariant-loop-place
invariant-loop-place g l = (length l.tables ≡ length l.words) × (before (take l.place l.tables) (each_table (texts (drop l.place l.words))) ≡ each_table (texts l.words))
