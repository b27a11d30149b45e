-- What a prepare is answered, by its background, where no test runs. Assumes nothing.
use Prim.Native.Nat.{ℕ, ◌≤◌}
use mathlib.Core.Path.{◌≡◌, refl, ap}
use mathlib.Core.Logic.{◌↔◌}
use borrow.Author.Tests.{le-ltb}
use Rattle.refusal.specs.declared.Refusal.TheVariants.{BackgroundUnfit}
use Rattle.refusal.specs.Choice.{pick}
use Rattle.std.specs.Prelude.{None, Ok, Err, Some, Option, is_some}
use native.Mathlib.Omega.{arith}
use Rattle.reading.specs.declared.Channel.{Channel}
use Rattle.reading.specs.declared.Channel.TheVariants.{Hc, Co, No}
use Rattle.reading.specs.Channel.{code_of}
use Rattle.prepare.specs.declared.ZeroCheck.{ZeroCheck}
use Rattle.prepare.specs.Standing.{above_greatest}
use Rattle.prepare.proofs.Exact.{background_claims}
use Rattle.locks.specs.declared.Event.{Event}
use Rattle.locks.specs.declared.Event.TheVariants.{Prepare}
use Rattle.bench.specs.History.{History, Answer}
use Rattle.bench.specs.Causes.{number_in, setting_at, saturation_bad, cause_bad, reading_at, inertia_bad, power_bad, background_in, locked, causes, first_cause}
use Rattle.bench.specs.Telling.{added, judged, tell}
use Rattle.bench.specs.Laws.{PrepareAnswered}

-- Two channels of one code are one.
same_code : (c d : Channel) → code_of c ≡ code_of d → c ≡ d
same_code c d h = grind arith

module _ (validity limit : ℕ) (h : History) (clock : ℕ) (check : ZeroCheck) (order : h.last ≤ clock) where
  abbrev e : Event
  e = Prepare clock check

  rows :
      h.test ≡ None →
      first_cause (causes validity limit h e)
      ≡ pick (is_some (above_greatest check)) (Some (BackgroundUnfit (number_in code_of (above_greatest check)))) None
  unfolding causes first_cause setting_at saturation_bad cause_bad reading_at inertia_bad power_bad background_in locked pick
  rows idle = rw (le-ltb clock h.last order, idle) refl

  -- By the channel that refuses it, if one does.
  module _ (x : Answer) where
    abbrev Told : Option Channel → Type 0
    Told o = x ≡ (judged (pick (is_some o) (Some (BackgroundUnfit (number_in code_of o))) None) h e).answer

    refused_by : (o : Option Channel) (c : Channel) → Told o → (x ≡ Err (BackgroundUnfit (code_of c))) ↔ (o ≡ Some c)
    unfolding judged added pick
    refused_by None c t = (
      (λ a. cc),
      (λ a. cc),
    )
    refused_by (Some d) c t = ((λ a. ap Some (same_code d c cc)), (λ a. cc))

    accepted_by : (o : Option Channel) → Told o → (x ≡ Ok None) ↔ (o ≡ None)
    unfolding judged added pick
    accepted_by None t = ((λ _. refl), (λ _. t))
    accepted_by (Some d) t = (
      (λ a. cc),
      (λ a. cc),
    )

  -- One after the other.
  through : {P Q R : Type 0} → P ↔ Q → Q ↔ R → P ↔ R
  through f g = ((λ p. g.0 (f.0 p)), (λ r. f.1 (g.1 r)))

  -- Where no test runs.
  pub prepare_answered : h.test ≡ None → PrepareAnswered check (tell validity limit h e).answer
  unfolding tell
  prepare_answered idle =
      let told = ap (λ o. (judged o h e).answer) (rows idle) in
      let lowest = background_claims check in
      record {
        hc = through (refused_by _ (above_greatest check) Hc told) lowest.hc;
        co = through (refused_by _ (above_greatest check) Co told) lowest.co;
        no = through (refused_by _ (above_greatest check) No told) lowest.no;
        fit = through (accepted_by _ (above_greatest check) told) lowest.none;
      }
