-- The claims about what is printed. Assumes nothing.
use mathlib.Core.Bool.{Bool, true, false, true≢false}
use mathlib.Core.Path.{◌≡◌, refl, sym, ap, subst, ◌∙◌}
use mathlib.Core.List.{List}
use Prim.Native.Nat.{ℕ, suc, ◌*◌, ◌/◌, ◌^◌, ◌≤◌, ◌<◌}
use native.Mathlib.Nat.{suc-mul, div-mul-le_self, lt-div-mul-add}
use lib.IntN.{ℤ}
use lib.Ieee.{Float, fin, up, down}
use lib.Ieee.Fits.{down_pos}
use Rattle.std.specs.Prelude.{Ok, Result, Some, None, Option, IsSome, codes}
use Rattle.refusal.specs.Choice.{pick}
use Rattle.refusal.specs.declared.Refusal.{Refusal}
use Rattle.nearness.specs.Ratio.{Ratio}
use Rattle.record.specs.declared.Shape.{Shape}
use Rattle.loaded_test.specs.declared.Test.{Test}
use Rattle.rejudging.specs.Inputs.{record_inputs}
use Rattle.rejudging.specs.Laws.{TestOf}
use Rattle.rejudging.specs.Rejudging.{settings_of, saturation_of}
use Rattle.rejudging.proofs.FirstBytes.{first_bytes_tested_lem}
use Rattle.rejudging.proofs.Tested.{test_replayed}
use Rattle.averaging.specs.Exact.{ExactAverages}
use Rattle.averaging.specs.Answers.{Answers, AllNear, no_averages, Answered, exact_of_test}
use Rattle.averaging.specs.Decimals.{billionths, decimal_text, number_text}
use Rattle.averaging.specs.Claims.{OfLastWindow}
use Rattle.averaging.specs.Printing.{averages_line, Printed, CutNear, Numbers, OfRecord, PrintClaims}
use Rattle.averaging.specs.declared.FloatAverages.{FloatAverages}
use Rattle.averaging.proofs.LastWindow.{windows_meet}
use Rattle.averaging.proofs.Reading.{in_decimal}

-- A float that is answered has its digits.
record Told (v : Ratio) (x : Float) : Type 0 where
  n : ℕ
  cut : CutNear n v
  text : number_text (billionths x) ≡ decimal_text n

told : (v : Ratio) (x : Float) → Answers v x → Told v x
told v x h = go (billionths x) refl h.digits
  where
    go : (o : Option ℕ) → billionths x ≡ o → IsSome o → Told v x
    go (Some n) e i = record { n = n; cut = (x, h.near, e); text = ap number_text e }
    go None e i = absurd (true≢false (sym i))

numbers_of : (e : ExactAverages) (a : FloatAverages) (text : List ℕ) → AllNear e a → text ≡ averages_line a → Numbers e text
numbers_of e a text h t =
    let x = told e.hc a.hc h.hc in
    let y = told e.co a.co h.co in
    let z = told e.no a.no h.nitric in
    record {
      hc = x.n;
      co = y.n;
      nitric = z.n;
      hc_cut = x.cut;
      co_cut = y.cut;
      nitric_cut = z.cut;
      same = t ∙ rw (x.text, y.text, z.text) refl;
    }

none_of : (a : FloatAverages) (text : List ℕ) → a ≡ no_averages → text ≡ averages_line a → text ≡ codes "- - -\n"
unfolding billionths
none_of a text e t = t ∙ ap averages_line e

numbers_printed : (x : Test) (e : ExactAverages) (text : List ℕ) → exact_of_test x ≡ Some e → Printed (Ok x) text → Numbers e text
numbers_printed x e text s (a, h, t) = numbers_of e a text (subst (λ (o : Option ExactAverages). Answered o a) s h) t

none_printed : (x : Test) (text : List ℕ) → exact_of_test x ≡ None → Printed (Ok x) text → text ≡ codes "- - -\n"
none_printed x text s (a, h, t) = none_of a text (subst (λ (o : Option ExactAverages). Answered o a) s h) t

-- The quotient is cut.
picked : (b : Bool) (q n : ℕ) → pick b (Some q) None ≡ Some n → q ≡ n
unfolding pick
picked true q n e = cc
picked false q n e = cc

quotient_cut : (a d n : ℕ) → 0 < d → a / d ≡ n → (n * d ≤ a) × (a < suc n * d)
quotient_cut a d n D e =
    subst (λ (k : ℕ). (k * d ≤ a) × (a < suc k * d)) e
    (div-mul-le_self a d, subst (λ (k : ℕ). a < k) (sym (suc-mul (a / d) d)) (lt-div-mul-add D))

cut_lem : (m n : ℕ) (e : ℤ) → billionths (fin false m e) ≡ Some n → (n * down e ≤ m * up e * 10 ^ 9) × (m * up e * 10 ^ 9 < suc n * down e)
unfolding billionths
cut_lem m n e h = quotient_cut (m * up e * 10 ^ 9) (down e) n (down_pos e) (picked _ _ n h)

module _ (s : List ℕ) (shape : Shape) (x : Test) (text : List ℕ) (p : Printed (Ok x) text) (own : TestOf s shape x) where
  -- What is printed of the record's own test.
  last : OfLastWindow (settings_of s shape) (saturation_of s shape) own.vehicle (record_inputs s shape)
  last = windows_meet (settings_of s shape) (saturation_of s shape) own.vehicle own.checked (record_inputs s shape)

  of_record : OfRecord s shape text
  of_record =
      record {
        vehicle = own.vehicle;
        checked = own.checked;
        window = λ h. numbers_printed x _ text (ap exact_of_test own.replayed ∙ last.meets h) p;
        none = λ h. none_printed x text (ap exact_of_test own.replayed ∙ last.none h) p;
      }

pub print_claims : PrintClaims
print_claims =
    record {
      record_shown = λ s shape x text r t p. of_record s shape x text p (test_replayed s shape x r t);
      cut = cut_lem;
      decimals = in_decimal;
      first_bytes = λ s k text h p. subst (λ (r : Result Test Refusal). Printed r text) (first_bytes_tested_lem s k h) p;
    }
