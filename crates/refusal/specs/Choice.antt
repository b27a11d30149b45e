-- Choices by tests, for definitions that go by cases on numbers: the first value where the test holds, else the second; and the
-- first of several tests that does not hold.
use Rattle.std.specs.Prelude.{ℕ, ◌+◌, Bool, true, false, List, [], ◌∷◌}

-- The first where the test holds, else the second.
unfoldable pub pick : {A : Type 0} → Bool → A → A → A
pick true a b = a
pick false a b = b

-- The place of the first that is unfit, counted from n; 0 where all are fit.
unfoldable pub first_unfit : ℕ → List Bool → ℕ
first_unfit n [] = 0
first_unfit n (true ∷ l) = first_unfit (n + 1) l
first_unfit n (false ∷ l) = n
