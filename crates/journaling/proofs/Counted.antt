-- The bytes behind a journal's events, and their count. Assumes nothing.
use Rattle.std.proofs.Common.{◌≡◌, ℕ, zero, suc, ◌-◌, ◌+◌, ◌<◌, ◌≤◌, false, List, ◌∷◌, length, Result, Ok, Err, refl, sym, ap, ◌∙◌, arith}
use Rattle.std.proofs.lemmas.Bool.{eq-eqb, ne_eqb}
use lib.Dec.{eqb}
use Rattle.journal_entry.specs.declared.Entry.{Entry}
use Rattle.journal_entry.specs.declared.Fault.{Fault}
use Rattle.journal_entry.specs.declared.Fault.TheVariants.{Left}
use Rattle.journal_entry.specs.Reading.{◌>>=◌, entry_of}
use Rattle.journal_entry.proofs.Taken.{Fine, on_answer}
use Rattle.journaling.specs.declared.Shape.{Shape}
use Rattle.journaling.specs.Content.{shape_of}
use Rattle.journaling.specs.Reading.{heading_of, entries_of, events_end, nothing_left, made_of, must, journal_of, shape_in}

abbrev Events : Type 0
Events = Result (List Entry × List ℕ) Fault

-- The end of events is that of those behind the first.
-- Where events end.
abbrev end_of : Events → Result (List ℕ) Fault
end_of r = r >>= λ x. Ok x.1

-- Events behind a first one.
abbrev behind : Entry → Events → Events
behind e r = r >>= λ x. Ok (e ∷ x.0, x.1)

shorter : (e : Entry) (r : Events) → end_of (behind e r) ≡ end_of r
shorter e (Ok x) = refl
shorter e (Err d) = refl

module _ (count i : ℕ) (bytes : List ℕ) (total : Result (List ℕ) Fault) (so_far : events_end (count - i) bytes ≡ total) where
  pub one_less :
      (e : Entry) (after : List ℕ) → i < count → entry_of bytes ≡ Ok (e, after) → events_end (count - (i + 1)) after ≡ total
  unfolding entries_of
  one_less e after lt h =
      let k : count - i ≡ suc (count - (i + 1)) = omega arith in
      let one : events_end (count - i) bytes ≡ events_end (count - (i + 1)) after = rw (k, h) (shorter e (entries_of (count - (i + 1)) after)) in
      sym one ∙ so_far

  pub faulty : (d : Fault) → i < count → entry_of bytes ≡ Err d → total ≡ Err d
  unfolding entries_of
  faulty d lt h =
      let k : count - i ≡ suc (count - (i + 1)) = omega arith in
      let one : events_end (count - i) bytes ≡ Err d = rw (k, h) refl in
      sym so_far ∙ one

  pub none_left : count ≤ i → total ≡ Ok bytes
  unfolding entries_of
  none_left le =
      let k : count - i ≡ 0 = omega arith in
      let one : events_end (count - i) bytes ≡ Ok bytes = rw k refl in
      sym so_far ∙ one

-- As many events are read as were asked for.
abbrev pub CountedAs : ℕ → Events → Type 0
CountedAs n = Fine {A = List Entry × List ℕ} (λ x. length x.0 ≡ n)

one_more : (n : ℕ) (e : Entry) (r : Events) → CountedAs n r → CountedAs (suc n) (behind e r)
one_more n e (Ok x) h = ap suc h
one_more n e (Err d) h = tt

pub counted : (n : ℕ) (bytes : List ℕ) → CountedAs n (entries_of n bytes)
unfolding entries_of
counted zero bytes = refl
counted (suc n) bytes =
    on_answer (CountedAs (suc n)) (λ d. tt) (entry_of bytes) _ λ first e.
    one_more n first.0 (entries_of n first.1) (counted n first.1)

-- What is answered of a journal of a heading, by where its events end.
module _ (h : Shape) where
  answered : Events → Result Shape Fault
  answered r = (r >>= λ events. nothing_left events.1 >>= λ ended. Ok (made_of h events.0)) >>= λ x. Ok (shape_of x)

  stopped : (r : Events) (d : Fault) → end_of r ≡ Err d → answered r ≡ Err d
  unfolding answered
  stopped (Ok x) d e = absurd cc
  stopped (Err b) d e = cc

  ended : (r : Events) (left : List ℕ) → end_of r ≡ Ok left → CountedAs h.count r → length left ≡ 0 → answered r ≡ Ok h
  unfolding answered nothing_left must
  ended (Ok x) left e c z =
      let same : x.1 ≡ left = cc in
      rw (same, eq-eqb _ _ z, c) refl
  ended (Err b) left e c z = absurd cc

  run_on : (r : Events) (left : List ℕ) → end_of r ≡ Ok left → 0 < length left → answered r ≡ Err (Left (length left))
  unfolding answered nothing_left must
  run_on (Ok x) left e z =
      let same : x.1 ≡ left = cc in
      let more : eqb (length left) 0 ≡ false = ne_eqb _ _ (λ e. omega (arith, z, e)) in
      rw (same, more) refl
  run_on (Err b) left e z = absurd cc

module _ (s : List ℕ) where
  pub heading_faulty : (d : Fault) → heading_of s ≡ Err d → shape_in s ≡ Err d
  unfolding journal_of
  heading_faulty d e = rw e refl

  module _ (h : Shape) (rest : List ℕ) (e : heading_of s ≡ Ok (h, rest)) where
    pub events_faulty : (d : Fault) → events_end h.count rest ≡ Err d → shape_in s ≡ Err d
    unfolding journal_of answered
    events_faulty d k = rw e (stopped h (entries_of h.count rest) d k)

    pub whole : (left : List ℕ) → events_end h.count rest ≡ Ok left → length left ≡ 0 → shape_in s ≡ Ok h
    unfolding journal_of answered
    whole left k z = rw e (ended h (entries_of h.count rest) left k (counted h.count rest) z)

    pub more_left : (left : List ℕ) → events_end h.count rest ≡ Ok left → 0 < length left → shape_in s ≡ Err (Left (length left))
    unfolding journal_of answered
    more_left left k z = rw e (run_on h (entries_of h.count rest) left k z)
