-- How counters grow, and what they come to over a list, newest first.
use Rattle.std.specs.Prelude.{ℕ, suc, ◌+◌, min, Bool, List, [], ◌∷◌}
use Rattle.refusal.specs.Choice.{pick}

-- A count grows by 1. It is held at the greatest number of its byte, which no count of a test reaches (`loaded_test/proofs/Passing: bounded`): read + 1.
abbrev pub bump : ℕ → ℕ
bump n = min (n + 1) 255

-- A count of seconds in a row.
unfoldable pub in_row : Bool → ℕ → ℕ
in_row holds n = pick holds (bump n) 0

-- A count of seconds in all.
unfoldable pub in_all : Bool → ℕ → ℕ
in_all holds n = pick holds (bump n) n

-- How many of the newest hold in a row.
unfoldable pub row_of : List Bool → ℕ
row_of [] = 0
row_of (holds ∷ l) = pick holds (suc (row_of l)) 0

-- How many hold in all.
unfoldable pub all_of : List Bool → ℕ
all_of [] = 0
all_of (holds ∷ l) = pick holds (suc (all_of l)) (all_of l)
