-- A refused event gives back the bench that it was given to. Assumes nothing.
use mathlib.Core.Path.{◌≡◌, refl, ap, sym, ◌∙◌, subst⁻¹}
use mathlib.Core.List.{List, [], ◌∷◌, ◌++◌}
use lib.ListN.{length, take, drop}
use Rattle.std.specs.Prelude.{Ok, Err, Result}
use Rattle.refusal.specs.declared.Refusal.{Refusal}
use Rattle.reading.specs.Units.{second_of}
use Rattle.loaded_test.specs.declared.Next.{Next}
use Rattle.loaded_test.specs.declared.Next.TheVariants.{Ends}
use Rattle.loaded_test.specs.declared.Stepped.{Stepped}
use Rattle.loaded_test.specs.declared.Test.{Test}
use Rattle.loaded_test.specs.Steps.{second, stop}
use Rattle.locks.specs.declared.Event.{Event}
use Rattle.locks.specs.declared.Carried.{Carried}
use Rattle.locks.specs.declared.Carried.TheVariants as carried
use Rattle.locks.specs.declared.Contents.{Contents}
use Rattle.locks.specs.Events.{contents_of, clock_of, carried_by}
use Rattle.bench.specs.declared.Bench.{Bench}
use Rattle.bench.specs.declared.Handled.{Handled}
use Rattle.bench.specs.Stepping.{unless_refused, service_check, service_taken, start_check, start_taken, followed, test_taken, second_taken, stop_taken, taken, order_check, step_by, step}
use Rattle.bench.specs.Demand.{bench_after, bench_answers}
use Rattle.bench.specs.Laws.{BackIfRefused}

module _ (b : Bench) (e : Event) where
  -- A check that refuses gives back the bench.
  checked_back :
      {A : Type 0} (x : Result A Refusal) (take : A → Handled) →
      ((y : A) → BackIfRefused b (take y)) →
      BackIfRefused b (unless_refused x b take)
  checked_back (Ok y) take f = f y
  checked_back (Err r) take f = λ _ h. refl

  followed_back : (next : Next) (t : Test) → BackIfRefused b (followed next b.desk e t)
  followed_back (Ends x) t r h = cc
  followed_back _ t r h = cc

  given_back : (x : Stepped) → BackIfRefused b (test_taken x b e)
  given_back x = checked_back x.answer _ (λ told. followed_back told.next x.test)

  taken_back : (x : Carried) → BackIfRefused b (taken b e x)
  unfolding service_taken start_taken second_taken stop_taken
  taken_back (carried.Service x) = checked_back (service_check x) _ (λ _ r h. cc)
  taken_back (carried.Start settings p) =
      checked_back (start_check b.desk (clock_of e) settings p) _ (λ _ r h. cc)
  taken_back (carried.Second readings) =
      checked_back (second_of readings b.test.vehicle.automatic) _ (λ s. given_back (second b.test s))
  taken_back (carried.Stop cause) = given_back (stop b.test cause)

-- Of every bench, whether or not events lead to it.
pub step_back : (b : Bench) (e : Event) → BackIfRefused b (step b e)
unfolding step step_by
step_back b e = checked_back b e (order_check b (contents_of e)) _ (λ _. taken_back b e (carried_by e))

-- What the step of a bench carries.
pub stepped :
    (b : Bench) (e : Event) (x : Contents) (r : Handled) →
    x ≡ contents_of e →
    r ≡ step_by b e x →
    (r ≡ step b e) × BackIfRefused b r
unfolding step
stepped b e x r x' h =
    let same : r ≡ step b e = h ∙ ap (step_by b e) x' in
    (same, subst⁻¹ (BackIfRefused b) same (step_back b e))

-- A list in two parts, one after the other.
pub after_append : (b : Bench) (es fs : List Event) → bench_after b (es ++ fs) ≡ bench_after (bench_after b es) fs
unfolding bench_after
after_append b [] fs = refl
after_append b (e ∷ es) fs = after_append (step b e).bench es fs

-- A refused event leaves every later answer as it is without it.
pub struck :
    (b : Bench) (es : List Event) (e : Event) (r : Refusal) (fs : List Event) (f : Event) →
    (step (bench_after b es) e).answer ≡ Err r →
    (step (bench_after b (es ++ e ∷ fs)) f).answer ≡ (step (bench_after b (es ++ fs)) f).answer
unfolding bench_after
struck b es e r fs f h =
    ap (λ x. (step x f).answer)
    (after_append b es (e ∷ fs) ∙
    ap (λ x. bench_after x fs) (step_back (bench_after b es) e r h) ∙
    sym (after_append b es fs))

-- The answer to an event is the answers' element at its place.
pub split :
    (b : Bench) (es : List Event) (e : Event) (fs : List Event) →
    take 1 (drop (length es) (bench_answers b (es ++ e ∷ fs))) ≡ (step (bench_after b es) e).answer ∷ []
unfolding bench_after bench_answers
split b [] e fs = refl
split b (x ∷ es) e fs = split (step b x).bench es e fs
