-- The laws beside demand 3, and what opening a bench carries. Assumes nothing.
use Prim.Native.Nat.{ℕ, ◌≤◌, ◌<◌}
use mathlib.Core.Bool.{true, false}
use mathlib.Core.Path.{◌≡◌, refl, sym, ◌∙◌}
use mathlib.Core.Logic.{◌↔◌}
use mathlib.Core.List.{List}
use borrow.Author.Tests.{leb-true}
use Rattle.refusal.specs.declared.Refusal.TheVariants.{ClockEarlier, StartLocked}
use Rattle.refusal.specs.Choice.{pick}
use Rattle.std.specs.Prelude.{Ok, Err, Some}
use Rattle.refusal.specs.declared.Refusal.{Refusal}
use Rattle.std.proofs.lemmas.Bool.{and_parts}
use Rattle.locks.specs.declared.Event.{Event}
use Rattle.locks.specs.declared.Event.TheVariants.{CoastDown, Prepare}
use Rattle.locks.specs.Events.{clock_of}
use Rattle.locks.specs.Accepted.{since, latest_of}
use Rattle.locks.proofs.Stands.{stands_exactly}
use Rattle.bench.specs.declared.Bench.{Bench}
use Rattle.bench.specs.History.{fresh_history}
use Rattle.bench.specs.Causes.{causes, first_cause}
use Rattle.bench.specs.Running.{replayed_from, test_in}
use Rattle.locks.specs.Locks.{parameters_fit}
use Rattle.bench.specs.Stepping.{fresh_bench, opened_of}
use Rattle.bench.specs.Demand.{answer_after, history_of}
use Rattle.bench.specs.Laws.{last_clock, Laws}
use Rattle.bench.specs.Claims.{Opens}
use Rattle.bench.proofs.Refusing.{struck, split}
use Rattle.bench.proofs.Given.{FromEvents, after_read}
use Rattle.bench.proofs.Firsts.{clock_exactly, locked_least}
use Rattle.bench.proofs.Coasting.{run_answered, in_test}
use Rattle.bench.proofs.Preparing.{prepare_answered}
use Rattle.bench.proofs.Decided.{refused_exactly}
use Rattle.bench.proofs.Demanded.{told, all_accounted, demanded, bounded}

fresh_read : FromEvents fresh_history
unfolding last_clock test_in since latest_of replayed_from
fresh_read = record { clock = refl; test = refl }

module _ (validity limit : ℕ) (fit : limit ≤ 255) where
  -- Refused exactly by the first row that stands, after a list.
  first_row :
      (es : List Event) (e : Event) (r : Refusal) →
      (answer_after validity limit es e ≡ Err r) ↔
      (first_cause (causes validity limit (history_of validity limit es) e) ≡ Some r)
  first_row es e r = rw (told validity limit fit es e) (refused_exactly validity limit (history_of validity limit es) e r)

  read : (es : List Event) → FromEvents (history_of validity limit es)
  read es = after_read validity limit es fresh_history fresh_read

  clock_law :
      (es : List Event) (e : Event) (n : ℕ) →
      (answer_after validity limit es e ≡ Err (ClockEarlier n)) ↔
      ((n ≡ last_clock (history_of validity limit es).events) × (clock_of e < n))
  clock_law es e n =
      let first = first_row es e (ClockEarlier n) in
      let exactly = clock_exactly validity limit (history_of validity limit es) e n in (
        (λ a. let c = exactly.0 (first.0 a) in (c.0 ∙ (read es).clock, c.1)),
        (λ c. first.1 (exactly.1 (c.0 ∙ sym (read es).clock, c.1))),
      )

  pub laws : Laws validity limit
  unfolding causes
  laws = record {
    struck = λ es e r fs f h. struck (fresh_bench validity limit) es e r fs f h;
    order = λ h e. refl;
    least = λ es e n a. locked_least validity limit (history_of validity limit es) e n ((first_row es e (StartLocked n)).0 a);
    locks = stands_exactly validity limit;
    clock = clock_law;
    coast_down = λ es clock run order idle. rw (told validity limit fit es (CoastDown clock run)) (run_answered validity limit (history_of validity limit es) clock run order idle);
    coast_down_in_test = λ es clock run test order running. told validity limit fit es (CoastDown clock run) ∙ in_test validity limit (history_of validity limit es) (CoastDown clock run) refl order test running;
    prepare = λ es clock check order idle. rw (told validity limit fit es (Prepare clock check)) (prepare_answered validity limit (history_of validity limit es) clock check order idle);
    prepare_in_test = λ es clock check test order running. told validity limit fit es (Prepare clock check) ∙ in_test validity limit (history_of validity limit es) (Prepare clock check) refl order test running;
    accounted = all_accounted validity limit fit;
    split = λ es e fs. split (fresh_bench validity limit) es e fs;
    test = λ es. (read es).test;
  }

-- A refused opening gives no bench.
shut : (validity limit : ℕ) → parameters_fit validity limit ≡ false → (b : Bench) → opened_of validity limit ≡ Ok b → ⊥
unfolding opened_of pick
shut validity limit unfit b h = cc (unfit, h)

fit_limit : (validity limit : ℕ) → parameters_fit validity limit ≡ true → limit ≤ 255
fit_limit validity limit h =
    leb-true limit 255 (and_parts _ _ (and_parts _ _ h).1).1

-- What opening a bench carries.
pub opens : (validity limit : ℕ) → Opens validity limit
opens validity limit = record {
  demand = λ f. demanded validity limit (fit_limit validity limit f);
  laws = λ f. laws validity limit (fit_limit validity limit f);
  shut = shut validity limit;
  bounded = λ f. bounded validity limit (fit_limit validity limit f);
}
