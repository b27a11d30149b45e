-- What the first standing row of the table says: 11 of the last clock, 14 of the locks. Assumes nothing.
use Prim.Native.Nat.{ℕ, ◌<◌}
use native.Mathlib.Omega.{arith}
use mathlib.Core.Bool.{Bool, true, false, true≢false, ◌||◌}
use mathlib.Core.Path.{◌≡◌, refl, ap, sym, ◌∙◌, subst}
use mathlib.Core.Logic.{◌↔◌}
use mathlib.Core.List.{List, [], ◌∷◌, ◌++◌}
use borrow.Author.Tests.{ltb-true, lt-ltb, eqb-false}
use lib.ListN.{take, drop}
use lib.Dec.{eqb, ltb}
use Rattle.std.proofs.lemmas.Bool.{or_parts}
use Rattle.refusal.specs.declared.Refusal.TheVariants.{ClockEarlier, StartLocked}
use Rattle.std.specs.Prelude.{None, Some, Option}
use Rattle.refusal.specs.Choice.{pick}
use Rattle.refusal.specs.Table.{number_of}
use Rattle.refusal.specs.declared.Refusal.{Refusal}
use Rattle.locks.specs.declared.Event.{Event}
use Rattle.locks.specs.Events.{clock_of, Starting}
use Rattle.locks.specs.Accepted.{Accepted}
use Rattle.locks.specs.declared.Lock.{Lock}
use Rattle.locks.specs.declared.Lock.TheVariants as lock
use Rattle.locks.specs.Locks.{standing_in, lock_number, lock_of}
use Rattle.locks.proofs.First.{first_exactly}
use Rattle.bench.specs.History.{History}
use Rattle.bench.specs.Causes.{Cause, locked, locked_row, causes, first_cause}
use Rattle.bench.specs.Laws.{LockStands, lock1, lock2, lock3, lock4, lock5, lock6, lock7, lock8, LeastLock}

-- One of these rows has this number.
abbrev has : ℕ → List Cause → Bool
has n [] = false
has n (c ∷ l) = eqb (number_of c.refusal) n || has n l

-- Rows of other numbers are passed by.
past :
    (l m : List Cause) (r : Refusal) →
    has (number_of r) l ≡ false →
    first_cause (l ++ m) ≡ Some r →
    first_cause m ≡ Some r
unfolding first_cause pick
past [] m r other h = h
past (c ∷ l) m r other h = go c.stands h (past l m r others.1)
  where
    others : (eqb (number_of c.refusal) (number_of r) ≡ false) × (has (number_of r) l ≡ false)
    others = or_parts _ _ other

    go :
        (b : Bool) →
        pick b (Some c.refusal) (first_cause (l ++ m)) ≡ Some r →
        (first_cause (l ++ m) ≡ Some r → first_cause m ≡ Some r) →
        first_cause m ≡ Some r
    go true e later =
        let same : c.refusal ≡ r = cc in
        absurd (eqb-false _ _ others.0 (ap number_of same))
    go false e later = later e

module _ (validity limit : ℕ) (h : History) (e : Event) where
  abbrev rows : List Cause
  rows = causes validity limit h e

  -- 11 is the first row: it refuses exactly where it stands, with the last clock.
  pub clock_exactly : (n : ℕ) → (first_cause rows ≡ Some (ClockEarlier n)) ↔ ((n ≡ h.last) × (clock_of e < n))
  unfolding causes first_cause pick
  clock_exactly n = go (ltb (clock_of e) h.last) refl
    where
      others : first_cause (drop 1 rows) ≡ Some (ClockEarlier n) → ⊥
      others p = cc (past (drop 1 rows) [] (ClockEarlier n) refl p)

      go :
          (b : Bool) →
          ltb (clock_of e) h.last ≡ b →
          (pick b (Some (ClockEarlier h.last)) (first_cause (drop 1 rows)) ≡ Some (ClockEarlier n)) ↔
          ((n ≡ h.last) × (clock_of e < n))
      go true t = (
        (λ p. let q : n ≡ h.last = cc in (q, subst (λ m. clock_of e < m) (sym q) (ltb-true (clock_of e) h.last t))),
        (λ p. ap (λ m. Some (ClockEarlier m)) (sym p.0)),
      )
      go false f = (
        (λ p. absurd (others p)),
        (λ p. absurd (true≢false (sym (lt-ltb (clock_of e) h.last (subst (λ m. clock_of e < m) p.0 p.1)) ∙ f))),
      )

-- The last row, alone: the lock that it returns.
last_row :
    (o : Option Lock) (x : Option Starting) (n : ℕ) →
    first_cause (locked_row o x ∷ []) ≡ Some (StartLocked n) →
    (k : Lock) × (o ≡ Some k) × (lock_number k ≡ n)
unfolding first_cause pick locked
last_row o None n h = cc
last_row None (Some s) n h = cc
last_row (Some k) (Some s) n h = (k, refl, cc)

-- A lock stands by its number as it does by its name.
module _ (validity limit now : ℕ) (l : List Accepted) where
  stands_as : (k : Lock) → standing_in validity limit now l k ≡ true → LockStands validity limit now l (lock_number k)
  stands_as lock.NotWarm h = lock1 h
  stands_as lock.Inactive h = lock2 h
  stands_as lock.NotCalibrated h = lock3 h
  stands_as lock.NotSignedIn h = lock4 h
  stands_as lock.Password h = lock5 h
  stands_as lock.Authority h = lock6 h
  stands_as lock.Unsent h = lock7 h
  stands_as lock.Unprepared h = lock8 h

  named : (m : ℕ) → LockStands validity limit now l m → (k : Lock) × (lock_number k ≡ m) × (standing_in validity limit now l k ≡ true)
  named _ (lock1 h) = (lock.NotWarm, refl, h)
  named _ (lock2 h) = (lock.Inactive, refl, h)
  named _ (lock3 h) = (lock.NotCalibrated, refl, h)
  named _ (lock4 h) = (lock.NotSignedIn, refl, h)
  named _ (lock5 h) = (lock.Password, refl, h)
  named _ (lock6 h) = (lock.Authority, refl, h)
  named _ (lock7 h) = (lock.Unsent, refl, h)
  named _ (lock8 h) = (lock.Unprepared, refl, h)

-- 14 is the last row: it gives the least lock.
pub locked_least :
    (validity limit : ℕ) (h : History) (e : Event) (n : ℕ) →
    first_cause (causes validity limit h e) ≡ Some (StartLocked n) →
    LeastLock validity limit (clock_of e) h.events n
unfolding causes lock_of
locked_least validity limit h e n c =
    let stands = (first_exactly (standing_in validity limit (clock_of e) h.events)).first row.0 in
    let first = stands.0 row.1 in
    let now = clock_of e in
    record {
      stands = subst (LockStands validity limit now h.events) row.2 (stands_as validity limit now h.events row.0 first.0);
      none_lower = λ m less s.
          let q = named validity limit now h.events m s in
          true≢false (sym q.2 ∙ first.1 q.0 (omega (arith, less, row.2, q.1)));
    }
  where
    row : (k : Lock) × (lock_of validity limit (clock_of e) h.events ≡ Some k) × (lock_number k ≡ n)
    row = last_row _ _ n (past (take 10 (causes validity limit h e)) _ (StartLocked n) refl c)
