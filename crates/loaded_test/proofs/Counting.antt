-- c is the number of the attempt's seconds from the first with speed above 10 on. Assumes nothing.
use Prim.Native.Nat.{ℕ, suc, ◌≤◌, ◌<◌}
use native.Mathlib.Omega.{arith}
use mathlib.Core.Bool.{true}
use mathlib.Core.Path.{◌≡◌, refl, sym, ap, ◌∙◌, subst⁻¹}
use mathlib.Core.List.{List, [], ◌∷◌, ◌++◌, map}
use lib.ListN.{length}
use Rattle.refusal.specs.Choice.{pick}
use Rattle.reading.specs.declared.Second.{Second}
use Rattle.loaded_test.specs.declared.Did.{Did}
use Rattle.loaded_test.specs.declared.Next.TheVariants.{GoesOn}
use Rattle.loaded_test.specs.Log.{Entry, Input, a_second}
use Rattle.loaded_test.specs.Claim.{begins, Clean, no_second, and_clean, attempt_in, Waits, AllWait, FirstAbove, Unvoided}

-- The inputs of an attempt that is not void, and its c.
pub record Counts (l : List Input) (c : ℕ) : Type 0 where
  pub unvoided : Unvoided l
  pub number : length unvoided.counted ≡ c

-- No input.
pub none_counted : Counts [] 0
none_counted = record {
  unvoided = record { counted = []; waiting = []; split = refl; first = tt; waits = tt; clean = no_second; most = omega arith };
  number = refl;
}

-- With the entry that begins an attempt.
pub attempt_begins : (e : Entry) (log : List Entry) → begins e.next ≡ true → Counts (attempt_in (e ∷ log)) 0
unfolding attempt_in pick
attempt_begins e log b = rw b none_counted

-- With an entry after which the attempt goes on.
pub attempt_goes :
    (i : Input) (d : Did) (log : List Entry) (c : ℕ) →
    Counts (i ∷ attempt_in log) c →
    Counts (attempt_in (record { input = i; did = d; next = GoesOn } ∷ log)) c
unfolding attempt_in begins pick
attempt_goes i d log c h = h

no_seconds : (l : List Second) → length l ≡ 0 → l ≡ []
no_seconds [] e = refl
no_seconds (s ∷ l) e = absurd (omega arith)

-- At c = 0 an input that leaves the test waiting.
pub waits_on : (i : Input) (l : List Input) (c : ℕ) → c ≡ 0 → Waits i → Counts l c → Counts (i ∷ l) c
waits_on i l c z w h =
    let e : h.unvoided.counted ≡ [] = no_seconds _ (h.number ∙ z) in
    let f : l ≡ h.unvoided.waiting =
    h.unvoided.split ∙ ap (λ (x : List Second). map a_second x ++ h.unvoided.waiting) e
    in
    record {
      unvoided = record {
        counted = [];
        waiting = i ∷ l;
        split = refl;
        first = tt;
        waits = (w, subst⁻¹ AllWait f h.unvoided.waits);
        clean = no_second;
        most = omega arith;
      };
      number = sym z;
    }

above : (s : Second) (l : List Second) → (l ≡ [] → 10 < s.speed) → FirstAbove l → FirstAbove (s ∷ l)
above s [] h f = h refl
above s (r ∷ l) h f = f

-- A second that is counted.
pub counts_on :
    (s : Second) (l : List Input) (c : ℕ) →
    (c ≡ 0 → 10 < s.speed) →
    Clean s →
    c ≤ 144 →
    Counts l c →
    Counts (a_second s ∷ l) (suc c)
counts_on s l c fast clean most h =
    let n = h.number in
    record {
      unvoided = record {
        counted = s ∷ h.unvoided.counted;
        waiting = h.unvoided.waiting;
        split = ap (λ (x : List Input). a_second s ∷ x) h.unvoided.split;
        first = above s h.unvoided.counted (λ e. fast (sym h.number ∙ ap length e)) h.unvoided.first;
        waits = h.unvoided.waits;
        clean = and_clean clean h.unvoided.clean;
        most = omega arith;
      };
      number = ap suc h.number;
    }
