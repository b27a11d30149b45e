-- Rejudging and the bench agree: the bench follows the test item by item. Assumes nothing.
use Prim.Native.Nat.{ℕ, ◌≤◌}
use mathlib.Core.Bool.{Bool, true, false, not, true≢false}
use mathlib.Core.List.{List, [], ◌∷◌}
use mathlib.Core.Path.{◌≡◌, refl, sym, ◌∙◌, ap, subst}
use native.Mathlib.Omega.{arith}
use native.Mathlib.Nat.{le_refl}
use Rattle.std.specs.Prelude.{Some, None, Option, Ok, Err, Result}
use Rattle.refusal.specs.declared.Refusal.{Refusal}
use Rattle.vehicle.specs.declared.Vehicle.{Vehicle}
use Rattle.reading.specs.declared.Second.{Second}
use Rattle.refusal.specs.Choice.{pick}
use Rattle.reading.specs.Units.{keep, second_of}
use Rattle.vehicle.specs.Checked.{vehicle_of, checked_of}
use Rattle.vehicle.specs.declared.Settings.{Settings}
use Rattle.record.specs.Reading.{stop_cause_in}
use Rattle.record.specs.declared.Shape.{Shape}
use Rattle.loaded_test.specs.Going.{is_running, has_ended, ends_in, Goes}
use Rattle.loaded_test.specs.State.{verdict_of, began}
use Rattle.loaded_test.specs.Steps.{begin, begun_by, second, stop}
use Rattle.loaded_test.specs.declared.Next.{Next}
use Rattle.loaded_test.specs.declared.Next.TheVariants.{GoesOn, Rests, RestEnded, ModeTwo, Ends}
use Rattle.loaded_test.specs.declared.Stage.{Stage}
use Rattle.loaded_test.specs.declared.Stage.TheVariants.{NotBegun, Settling, Measuring, Rest, Ended}
use Rattle.loaded_test.specs.declared.Stepped.{Stepped}
use Rattle.loaded_test.specs.declared.Test.{Test}
use Rattle.loaded_test.specs.declared.Verdict.{Verdict}
use Rattle.loaded_test.specs.declared.Word.{Word}
use Rattle.loaded_test.proofs.Going.{second_goes, stop_goes, running_open}
use Rattle.loaded_test.proofs.Driven.{second_same, stop_same}
use Rattle.locks.specs.Events.{clock_after}
use Rattle.locks.specs.declared.Event.{Event}
use Rattle.bench.specs.Demand.{bench_after, bench_answers}
use Rattle.bench.specs.Stepping.{gone_on, second_taken, test_taken, running as test_runs, step}
use Rattle.bench.specs.declared.Bench.{Bench}
use Rattle.bench.specs.declared.Handled.{Handled}
use Rattle.rejudging.specs.Items.{items_of}
use Rattle.rejudging.specs.declared.items.Item.{Item}
use Rattle.rejudging.specs.declared.items.Item.TheVariants as item
use Rattle.vehicle.specs.Settings.{automatic}
use Rattle.vehicle.proofs.FitVehicle.{checked_fit}
use Rattle.rejudging.specs.Rejudging.{settings_of, saturation_of}
use Rattle.rejudging.specs.Rows.{readings_in, row_start}
use Rattle.rejudging.specs.Sheets.{word_of, sheet_of}
use Rattle.rejudging.specs.Taking.{units_given, row_given, item_given, stepped, ran_by}
use Rattle.rejudging.proofs.WasRead.{vehicle_in}
use Rattle.refusal.proofs.Answers.{ok_same}
use Rattle.rejudging.proofs.Tested.{run_of, sheet_tested}
use Rattle.rejudging.proofs.WasRead.{start_fit}
use Rattle.agreement.specs.Agreement.{event_of, EventsOf, verdicts_in, verdict_shown, Agrees, Agreement}
use Rattle.agreement.proofs.Causes.{CausesFit, causes_fit}
use Rattle.agreement.proofs.Following.{admitted, second_taken_lem, stop_taken_lem, goes_on, ends}

-- A bench whose test is x, with its last clock and gearbox.
pub record Tracks (b : Bench) (last : ℕ) (automatic : Bool) (x : Test) : Type 0 where
  pub clock : b.desk.clock ≤ last
  pub gearbox : x.vehicle.automatic ≡ automatic
  pub test : b.test ≡ x

-- Its test runs where x does.
runs_too : (b : Bench) (x : Test) → b.test ≡ x → is_running x.progress.stage ≡ true → test_runs b ≡ true
runs_too b x e h = ap (λ y. is_running y.progress.stage) e ∙ h

-- Before a verdict a test is open.
open_shown : (st : Stage) → has_ended st ≡ false → word_of st ≡ None
unfolding has_ended
open_shown NotBegun h = refl
open_shown Settling h = refl
open_shown Measuring h = refl
open_shown Rest h = refl
open_shown (Ended w) h = absurd (true≢false h)

not_open : (w : Word) → ◌≡◌ {A = Option Word} (Some w) None → ⊥
not_open w h = let z : ◌≡◌ {A = ℕ} 0 1 = cc in omega arith

-- A verdict's sheet shows it.
shows_verdict :
    (w : Word) (v : Verdict) (x : Test) →
    x.progress.stage ≡ Ended w →
    v ≡ verdict_of w x.progress.measuring →
    v ∷ [] ≡ verdict_shown (sheet_of x).word (sheet_of x)
unfolding verdict_shown sheet_of
shows_verdict w v x e h = rw (e, h)

module _ (s : List ℕ) (shape : Shape) (automatic : Bool) where
  -- After the last item of an open test.
  agrees_open :
      (b : Bench) (last : ℕ) (x final : Test) →
      Tracks b last automatic x →
      is_running x.progress.stage ≡ true →
      x ≡ final →
      Agrees b [] (sheet_of final)
  unfolding bench_answers bench_after verdicts_in verdict_shown sheet_of
  agrees_open b last x final t h e =
      subst (λ (y : Test). Agrees b [] (sheet_of y)) e
      (record {
        accepted = tt;
        verdicts = rw (open_shown x.progress.stage (running_open _ h));
        running = λ _. runs_too b x t.test h;
        sheet = λ _. rw t.test;
      })

  -- After a verdict no item is left.
  agrees_ended :
      (l : List Item) (es : List Event) (clock : ℕ) (b : Bench) (e : Event) (y : Stepped) (g : Goes y) (v : Verdict) (final : Test) →
      g.told.next ≡ Ends v →
      step b e ≡ test_taken y b e →
      EventsOf s shape clock l es →
      ran_by s shape automatic l y.test ≡ Ok final →
      Agrees b (e ∷ es) (sheet_of final)
  unfolding ran_by has_ended pick bench_answers bench_after verdicts_in sheet_of
  agrees_ended [] [] clock b e y g v final n q ev r =
      let h = q ∙ ends y b e g v n in
      let k = g.verdict v n in
      subst (λ (x : Test). Agrees b (e ∷ []) (sheet_of x)) (ok_same _ _ r)
      (record {
        accepted = rw h tt;
        verdicts = rw h (shows_verdict v.word v y.test k.0 k.1);
        running = λ o. absurd (not_open v.word (rw k.0 at o));
        sheet = λ o. absurd (not_open v.word (rw k.0 at o));
      })
  agrees_ended [] (f ∷ es) clock b e y g v final n q ev r = absurd ev
  agrees_ended (i ∷ l) es clock b e y g v final n q ev r =
      let w : Err _ ≡ Ok final = rw (g.verdict v n).0 at r in
      let z : ◌≡◌ {A = ℕ} 0 1 = cc in
      absurd (omega arith)

  -- An item that leaves the test open.
  agrees_on :
      (es : List Event) (clock : ℕ) (b : Bench) (e : Event) (y : Stepped) (g : Goes y) (final : Test) →
      ends_in g.told.next ≡ false →
      step b e ≡ test_taken y b e →
      y.test.vehicle.automatic ≡ automatic →
      clock_after e ≡ clock →
      ((c : Bench) → Tracks c clock automatic y.test → Agrees c es (sheet_of final)) →
      Agrees b (e ∷ es) (sheet_of final)
  unfolding bench_answers bench_after verdicts_in
  agrees_on es clock b e y g final n q a k next =
      let h : step b e ≡ _ = q ∙ goes_on y b e g n in
      let c : Agrees (gone_on b.desk e y.test).bench es (sheet_of final) =
      next _ (record { clock = rw k (le_refl _); gearbox = a; test = refl })
      in
      record {
        accepted = rw h c.accepted;
        verdicts = rw h c.verdicts;
        running = λ o. subst (λ (z : Handled). test_runs (bench_after z.bench es) ≡ true) (sym h) (c.running o);
        sheet = λ o. subst (λ (z : Handled). sheet_of (bench_after z.bench es).test ≡ sheet_of final) (sym h) (c.sheet o);
      }

  -- What is left after an item agrees with the bench after its event.
  abbrev Remaining : List Item → List Event → ℕ → Test → Type 0
  Remaining l es clock final =
      (x : Test) →
      ran_by s shape automatic l x ≡ Ok final →
      (c : Bench) →
      Tracks c clock automatic x →
      is_running x.progress.stage ≡ true →
      Agrees c es (sheet_of final)

  agrees_step :
      (l : List Item) (es : List Event) (clock : ℕ) (b : Bench) (e : Event) (y : Stepped) (g : Goes y) (final : Test) →
      step b e ≡ test_taken y b e →
      y.test.vehicle.automatic ≡ automatic →
      clock_after e ≡ clock →
      EventsOf s shape clock l es →
      ran_by s shape automatic l y.test ≡ Ok final →
      Remaining l es clock final →
      Agrees b (e ∷ es) (sheet_of final)
  unfolding ends_in
  agrees_step l es clock b e y g final q a k ev r rest = go g.told.next refl
    where
      on : ends_in g.told.next ≡ false → Agrees b (e ∷ es) (sheet_of final)
      on n = agrees_on es clock b e y g final n q a k (λ c t. rest y.test r c t (g.stage ∙ ap not n))

      go : (n : Next) → g.told.next ≡ n → Agrees b (e ∷ es) (sheet_of final)
      go GoesOn n = on (rw n refl)
      go Rests n = on (rw n refl)
      go RestEnded n = on (rw n refl)
      go ModeTwo n = on (rw n refl)
      go (Ends v) n = agrees_ended l es clock b e y g v final n q ev r

  -- A row: its units were fit, or rejudging would have refused it.
  agrees_row :
      (row : ℕ) (l : List Item) (es : List Event) (last clock : ℕ) (b : Bench) (x final : Test) (u : Result Second Refusal) →
      second_of (readings_in s shape (row_start shape row)) automatic ≡ u →
      last ≤ clock →
      Tracks b last automatic x →
      is_running x.progress.stage ≡ true →
      EventsOf s shape clock l es →
      ran_by s shape automatic (item.Row row ∷ l) x ≡ Ok final →
      Remaining l es clock final →
      Agrees b (event_of s shape clock (item.Row row) ∷ es) (sheet_of final)
  unfolding ran_by item_given row_given units_given stepped keep second_taken pick
  agrees_row row l es last clock b x final (Ok u) f k t h ev r rest =
      let q = second_taken_lem b clock (runs_too b x t.test h) (omega (arith, t.clock)) (readings_in s shape (row_start shape row)) in
      let w : step b (event_of s shape clock (item.Row row)) ≡ test_taken (second x u) b (event_of s shape clock (item.Row row)) =
      q ∙ simp (t.test, t.gearbox, f)
      in
      agrees_step l es clock b (event_of s shape clock (item.Row row)) (second x u) (second_goes x u h) final w
      (ap (λ v. v.automatic) (second_same x u) ∙ t.gearbox) refl ev
      (rw (running_open _ h, f) at r)
      rest
  agrees_row row l es last clock b x final (Err r₀) f k t h ev r rest =
      let w : Err _ ≡ Ok final = rw (running_open _ h, f) at r in
      let z : ◌≡◌ {A = ℕ} 0 1 = cc in
      absurd (omega arith)

  -- A stop, of a fit cause.
  agrees_stop :
      (i : ℕ) (l : List Item) (es : List Event) (last clock : ℕ) (b : Bench) (x final : Test) →
      last ≤ clock →
      Tracks b last automatic x →
      is_running x.progress.stage ≡ true →
      CausesFit s shape (item.Stop i ∷ l) →
      EventsOf s shape clock l es →
      ran_by s shape automatic (item.Stop i ∷ l) x ≡ Ok final →
      Remaining l es clock final →
      Agrees b (event_of s shape clock (item.Stop i) ∷ es) (sheet_of final)
  unfolding ran_by item_given stepped keep pick
  agrees_stop i l es last clock b x final k t h c ev r rest =
      let w : step b (event_of s shape clock (item.Stop i)) ≡ test_taken (stop x (stop_cause_in s shape i)) b (event_of s shape clock (item.Stop i)) =
      stop_taken_lem b clock (runs_too b x t.test h) (omega (arith, t.clock)) (stop_cause_in s shape i) ∙ simp t.test
      in
      agrees_step l es clock b (event_of s shape clock (item.Stop i)) (stop x (stop_cause_in s shape i)) (stop_goes x _ c.0 h) final w
      (ap (λ v. v.automatic) (stop_same x (stop_cause_in s shape i)) ∙ t.gearbox) refl ev (rw (running_open _ h) at r) rest

  follows :
      (l : List Item) (es : List Event) (last : ℕ) (b : Bench) (x final : Test) →
      EventsOf s shape last l es →
      CausesFit s shape l →
      Tracks b last automatic x →
      is_running x.progress.stage ≡ true →
      ran_by s shape automatic l x ≡ Ok final →
      Agrees b es (sheet_of final)
  unfolding ran_by
  follows [] [] last b x final ev c t h r = agrees_open b last x final t h (ok_same _ _ r)
  follows [] (e ∷ es) last b x final ev c t h r = absurd ev
  follows (i ∷ l) [] last b x final ev c t h r = absurd ev
  follows (item.Row row ∷ l) (e ∷ es) last b x final ev c t h r =
      rw ev.2
      (agrees_row row l es last ev.0 b x final _ refl ev.1 t h ev.3 r
      (λ y q d u n. follows l es ev.0 d y final ev.3 c u n q))
  follows (item.Stop i ∷ l) (e ∷ es) last b x final ev c t h r =
      rw ev.2
      (agrees_stop i l es last ev.0 b x final ev.1 t h c ev.3 r
      (λ y q d u n. follows l es ev.0 d y final ev.3 c.1 u n q))

-- A vehicle's gearbox is that of its settings.
gearbox_of : (settings : Settings) (p : ℕ) (v : Vehicle) → checked_of settings p ≡ Ok v → v.automatic ≡ automatic settings
unfolding vehicle_of
gearbox_of settings p v e = ap (λ (x : Vehicle). x.automatic) (checked_fit settings p v e).derived

pub same_verdict : Agreement
unfolding begin begun_by is_running
same_verdict s shape x below e r b clock es a ev =
    let settings = settings_of s shape in
    let p = saturation_of s shape in
    let v = vehicle_in s shape in
    let fit = start_fit s shape e in
    let t = sheet_tested s x r in
    rw (admitted b clock settings p (began v) (rw fit refl) a, t.2)
    (follows s shape (automatic settings) (items_of s shape) es clock _ (began v) t.0 ev (causes_fit s shape below e)
    (record { clock = le_refl clock; gearbox = gearbox_of settings p v fit; test = refl })
    refl
    (run_of s shape t.0 e t.1))
