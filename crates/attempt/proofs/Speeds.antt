-- The speed drop: each of seconds 1 to 10, told from the list and kept second by second. Assumes nothing.
use Prim.Native.Nat.{ℕ, suc, ◌+◌, ◌-◌, ◌≤◌, min}
use native.Mathlib.Omega.{arith}
use mathlib.Core.Bool.{true}
use mathlib.Core.Path.{◌≡◌, refl, ap}
use mathlib.Core.List.{List, [], ◌∷◌}
use lib.ListN.{length, drop, length-drop}
use Rattle.std.proofs.lemmas.Bool.Decides.{nat_tests}
use Rattle.refusal.specs.Choice.{pick}
use Rattle.attempt.specs.Speeds.{speed_at, first_ten, all_held, speed_held}
use Rattle.attempt.specs.Measuring.{first_speed}
use Rattle.attempt.specs.Laws.{HeldExactly, HeldMore}

at_newest : (speed : ℕ) (l : List ℕ) → speed_at (suc (length l)) (speed ∷ l) ≡ speed
unfolding speed_at pick
at_newest speed l = grind (arith, nat_tests)

at_older : (k speed : ℕ) (l : List ℕ) → k ≤ length l → speed_at k (speed ∷ l) ≡ speed_at k l
unfolding speed_at pick
at_older k speed l h = grind (arith, nat_tests)

-- Each of a list's speeds has held, by their numbers.
held_each :
    (first : ℕ) (l : List ℕ) →
    all_held first l ≡ true →
    (k : ℕ) → 1 ≤ k → k ≤ length l → first ≤ speed_at k l + 8
unfolding all_held speed_at pick
held_each first [] e k least most = absurd (omega arith)
held_each first (speed ∷ l) e k least most = grind (arith, nat_tests, held_each first l)

each_held :
    (first : ℕ) (l : List ℕ) →
    ((k : ℕ) → 1 ≤ k → k ≤ length l → first ≤ speed_at k l + 8) →
    all_held first l ≡ true
unfolding all_held
each_held first [] h = refl
each_held first (speed ∷ l) h =
    let a : first ≤ speed + 8 = rw at_newest at (h (suc (length l)) (omega arith) (omega arith)) in
    let b : all_held first l ≡ true =
    each_held first l (λ k least most. rw (at_older k speed l most) at (h k least (omega arith)))
    in
    grind (arith, nat_tests)

-- The first ten of ten or fewer are all of them; a later second is none of them.
ten_all : (l : List ℕ) → length l ≤ 10 → first_ten l ≡ l
unfolding first_ten
ten_all l h = let e : length l - 10 ≡ 0 = omega arith in ap (λ (n : ℕ). drop n l) e

ten_past : (speed : ℕ) (l : List ℕ) → 10 ≤ length l → first_ten (speed ∷ l) ≡ first_ten l
unfolding first_ten
ten_past speed l h =
    let e : suc (length l) - 10 ≡ suc (length l - 10) = omega arith in ap (λ (n : ℕ). drop n (speed ∷ l)) e

ten_at : (k : ℕ) (l : List ℕ) → k ≤ 10 → speed_at k (first_ten l) ≡ speed_at k l
ten_at k [] h = ap (speed_at k) (ten_all [] (omega arith))
ten_at k (speed ∷ l) h = grind (arith, nat_tests, ten_at k l h, ten_all (speed ∷ l), ten_past speed l, at_older k speed l)

ten_length : (l : List ℕ) → length (first_ten l) ≡ min (length l) 10
unfolding first_ten
ten_length l = let e = length-drop (length l - 10) l in omega arith

pub held_exactly : HeldExactly
unfolding speed_held
held_exactly l = (
  λ e k least most there. grind (arith, ten_length l, ten_at k l most, held_each (speed_at 1 l) (first_ten l) e k least),
  λ h. each_held (speed_at 1 l) (first_ten l) (λ k least most. grind (arith, ten_length l, ten_at k l, h k)),
)

-- One second more, its number held at the greatest of its byte.
pub first_more :
    (t speed : ℕ) (l : List ℕ) →
    t ≡ min (suc (length l)) 255 →
    first_speed t speed (speed_at 1 l) ≡ speed_at 1 (speed ∷ l)
unfolding first_speed speed_at pick
first_more t speed [] h = grind (arith, nat_tests)
first_more t speed (x ∷ l) h = grind (arith, nat_tests)

all_held_first : (speed : ℕ) (l : List ℕ) → all_held (speed_at 1 (speed ∷ l)) l ≡ all_held (speed_at 1 l) l
unfolding all_held
all_held_first speed [] = refl
all_held_first speed (x ∷ l) =
    ap (λ (first : ℕ). all_held first (x ∷ l)) (at_older 1 speed (x ∷ l) (omega arith))

pub held_more : HeldMore
unfolding speed_held all_held
held_more t speed l h =
    grind (arith, nat_tests, ten_all (speed ∷ l), ten_all l, all_held_first speed l, ten_past speed l, at_older 1 speed l)
