-- Demand 3, whole: the bench's run and the plain history, event by event and over every list. Assumes nothing.
use Prim.Native.Nat.{ℕ, ◌≤◌}
use native.Mathlib.Omega.{arith}
use mathlib.Core.Path.{◌≡◌, refl, ap, sym, ◌∙◌, subst, subst⁻¹}
use mathlib.Core.List.{List, [], ◌∷◌}
use Rattle.std.specs.Prelude.{Some, Ok, None, Option}
use Rattle.vehicle.specs.Checked.{vehicle_of}
use Rattle.loaded_test.specs.declared.Verdict.{Verdict}
use Rattle.loaded_test.specs.declared.Test.{Test}
use Rattle.loaded_test.specs.Laws.{Bounded as TestBounded, VerdictAccounted}
use Rattle.loaded_test.proofs.Passing.{bounded as test-within}
use Rattle.locks.specs.declared.Event.{Event}
use Rattle.locks.specs.declared.Event.TheVariants.{Start}
use Rattle.locks.specs.Accepted.{Accepted, since, latest_of}
use Rattle.locks.specs.Locks.{verdicts_in, unsent_in}
use Rattle.bench.specs.History.{History, fresh_history}
use Rattle.bench.specs.Causes.{automatic_of}
use Rattle.bench.specs.Telling.{tell, history_after, history_answers}
use Rattle.bench.specs.Stepping.{step, fresh_bench}
use Rattle.bench.specs.Running.{inputs_since}
use Rattle.bench.specs.Passes.{pass, PassEarned}
use Rattle.bench.specs.Demand.{bench_after, bench_answers, answer_after, history_of, Gives, Demand3}
use Rattle.bench.specs.Claims.{Bounded}
use Rattle.locks.proofs.Kept.{fresh_of, wrong_most, unsent_same}
use Rattle.bench.proofs.Summary.{test_or, summary}
use Rattle.bench.proofs.Sound.{Follows, Runs, Sound}
use Rattle.bench.proofs.Tied.{tied}
use Rattle.bench.proofs.Kept.{kept}
use Rattle.bench.proofs.Decided.{accepted_exactly, refused_exactly, admitted_exactly, verdicts_exactly}
use Rattle.bench.proofs.Earning.{earned_pass, verdict_accounted}

fresh_sound : (limit : ℕ) → Sound limit fresh_history
unfolding unsent_in since verdicts_in
fresh_sound limit = record { unsent = omega arith; test = tt }

fresh_summary : (validity limit : ℕ) → summary validity limit fresh_history ≡ fresh_bench validity limit
unfolding latest_of automatic_of test_or
fresh_summary validity limit = rw fresh_of

module _ (validity limit : ℕ) (fit : limit ≤ 255) where
  sound_after : (es : List Event) (h : History) → Sound limit h → Sound limit (history_after validity limit h es)
  unfolding history_after
  sound_after [] h s = s
  sound_after (e ∷ es) h s = sound_after es (tell validity limit h e).history (kept validity limit h e s)

  after : (es : List Event) (h : History) → Sound limit h → bench_after (summary validity limit h) es ≡ summary validity limit (history_after validity limit h es)
  unfolding bench_after history_after
  after [] h s = refl
  after (e ∷ es) h s =
      ap (λ x. bench_after x.bench es) (tied validity limit h e fit s) ∙
      after es (tell validity limit h e).history (kept validity limit h e s)

  answers_after :
      (es : List Event) (h : History) →
      Sound limit h →
      bench_answers (summary validity limit h) es ≡ history_answers validity limit h es
  unfolding bench_answers history_answers
  answers_after [] h s = refl
  answers_after (e ∷ es) h s =
      ap (λ x. x.answer ∷ bench_answers x.bench es) (tied validity limit h e fit s) ∙
      ap (λ l. (tell validity limit h e).answer ∷ l) (answers_after es (tell validity limit h e).history (kept validity limit h e s))

  -- The history of a list is sound, and the bench's answer to an event after it is the history's.
  pub sound : (es : List Event) → Sound limit (history_of validity limit es)
  sound es = sound_after es fresh_history (fresh_sound limit)

  pub told : (es : List Event) (e : Event) → answer_after validity limit es e ≡ (tell validity limit (history_of validity limit es) e).answer
  told es e =
      ap (λ b. (step (bench_after b es) e).answer) (sym (fresh_summary validity limit)) ∙
      ap (λ b. (step b e).answer) (after es fresh_history (fresh_sound limit)) ∙
      ap (λ x. x.answer) (tied validity limit (history_of validity limit es) e fit (sound es))

  follows : (l : List Accepted) (o : Option Test) (t : Test) → o ≡ Some t → Runs limit l o → Follows l t
  follows l o t h r = (subst (Runs limit l) h r).2

  given : (es : List Event) (e : Event) (x : Verdict) → answer_after validity limit es e ≡ Ok (Some x) → Gives (history_of validity limit es) e x
  given es e x a = ((verdicts_exactly validity limit (history_of validity limit es) e x).0 (sym (told es e) ∙ a)).1

  passes_earned :
      (es : List Event) (e : Event) (t passing failing invalid : ℕ) →
      answer_after validity limit es e ≡ Ok (Some (pass t passing failing invalid)) →
      PassEarned (history_of validity limit es).events e t passing failing invalid
  passes_earned es e t passing failing invalid a =
      let h : History = history_of validity limit es in
      let g : Gives h e (pass t passing failing invalid) = given es e _ a in
      earned_pass h.events e g.test g.input g.did t passing failing invalid
      (follows h.events h.test g.test g.running (sound es).test) g.given g.told

  pub all_accounted :
      (es : List Event) (e : Event) (x : Verdict) →
      answer_after validity limit es e ≡ Ok (Some x) →
      VerdictAccounted x
  all_accounted es e x a =
      let h : History = history_of validity limit es in
      let g : Gives h e x = given es e x a in
      verdict_accounted h.events g.test g.input g.did x (follows h.events h.test g.test g.running (sound es).test) g.told

  -- Demand 3.
  pub demanded : Demand3 validity limit
  demanded = record {
    answers = λ es.
        ap (λ b. bench_answers b es) (sym (fresh_summary validity limit)) ∙ answers_after es fresh_history (fresh_sound limit);
    accepted = λ es e. rw (told es e) (accepted_exactly validity limit (history_of validity limit es) e);
    refused = λ es e r. rw (told es e) (refused_exactly validity limit (history_of validity limit es) e r);
    admitted = λ es clock settings saturation order idle place vapour.
        rw (told es (Start clock settings saturation))
        (admitted_exactly validity limit (history_of validity limit es) clock settings saturation order idle place vapour);
    verdicts = λ es e x. rw (told es e) (verdicts_exactly validity limit (history_of validity limit es) e x);
    passes = passes_earned;
  }

  test_bounded : (l : List Accepted) (o : Option Test) → Runs limit l o → TestBounded (test_or o).progress
  unfolding test_or
  test_bounded l None r = omega arith
  test_bounded l (Some t) r =
      subst⁻¹ (λ (y : Test). TestBounded y.progress) r.2.replayed
      (test-within (vehicle_of r.2.settings r.2.saturation) (inputs_since l))

  -- The greatest counts of the bench and of its test.
  pub bounded : (es : List Event) → Bounded limit (bench_after (fresh_bench validity limit) es)
  bounded es =
      subst (Bounded limit)
      (sym (after es fresh_history (fresh_sound limit)) ∙ ap (λ b. bench_after b es) (fresh_summary validity limit))
      (record {
        wrong = wrong_most (history_of validity limit es).events;
        unsent = rw unsent_same (sound es).unsent;
        test = test_bounded (history_of validity limit es).events (history_of validity limit es).test (sound es).test;
      })
