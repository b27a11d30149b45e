-- Each lock, as it is computed from the accepted events, stands exactly if its plain proposition holds. Assumes nothing.
use Prim.Native.Nat.{ℕ, zero, suc, ◌+◌}
use native.Mathlib.Omega.{arith}
use Rattle.std.proofs.Common.{rules}
use Rattle.std.proofs.lemmas.Bool.Decides.{nat_tests}
use mathlib.Core.Bool.{Bool, true, false, not, ◌&&◌, ◌||◌, false≢true, true≢false}
use mathlib.Core.Path.{◌≡◌, refl, ap, sym, ◌∙◌}
use mathlib.Core.List.{List, [], ◌∷◌, ◌++◌}
use mathlib.Core.Logic.{◌⊎◌, inl, inr, ◌↔◌}
use Rattle.std.specs.Prelude.{Some, None, Option}
use lib.Dec.{ltb, leb}
use borrow.Author.Tests.{le-leb, lt-leb, ltb-false, le-ltb, eqb-true, eq-eqb, ne_eqb, not-true}
use Rattle.refusal.specs.Choice.{pick}
use Rattle.refusal.proofs.Exactly.{ltb_exactly, and_exactly, or_exactly, not_exactly}
use Rattle.coast_down.specs.declared.SpeedRange.{SpeedRange}
use Rattle.coast_down.specs.declared.SpeedRange.TheVariants.{Faster, Slower}
use Rattle.coast_down.specs.declared.Run.{Run}
use Rattle.coast_down.specs.Passing.{run_passed}
use Rattle.prepare.specs.Standing.{prepare_stands}
use Rattle.prepare.proofs.Exact.{prepare_claims}
use Rattle.locks.specs.declared.Calibration.TheVariants.{Passed}
use Rattle.locks.specs.declared.Try.{Try as Tried}
use Rattle.locks.specs.declared.Try.TheVariants.{Good, Wrong}
use Rattle.locks.specs.declared.Event.{Event}
use Rattle.locks.specs.declared.Event.TheVariants.{Calibration, Try, CoastDown, Prepare}
use Rattle.locks.specs.declared.Kind.{Kind}
use Rattle.locks.specs.declared.Kind.TheVariants as kind
use Rattle.locks.specs.Events.{kind_number, kind_of, clock_of, same_kind, calibration_in, try_in, same_speeds, of_speeds, run_at, prepare_in, Calibrating, Preparing}
use Rattle.locks.specs.Accepted.{Accepted, is_kind, since, any, or_else, latest_of}
use Rattle.locks.specs.Locks.{voids, voiding, renews, not_warm, active_clock, overdue, inactive, expired, none_valid, latest_calibration, latest_run, some_passed, not_coasted, not_calibrated, none_good, latest_try, not_signed_in, is_wrong, ends_row, row_end, wrong_tries, wrong_row, password_lock, authority_lock, verdicts_in, unsent_in, unsent_lock, ends_prepare, prepare_end, latest_prepare, none_stands, not_prepared}
use Rattle.locks.specs.Plain.{IsKind, Voids, NoneIs, Has, NotWarm, Active, ActiveBefore, Inactive, PassedWithin, RunOf, PassedRun, NoneCalibrated, NotCoasted, NotCalibrated, GoodWithin, NotSignedIn, WrongTry, GoodTry, Unlocks, EndsRow, WrongInRow, PasswordLocked, AuthorityLocked, Uploads, Unsent, StandsWithin, EndsPrepare, NotPrepared}
use Rattle.locks.specs.Claims.{LockClaims}
use Rattle.locks.proofs.Kept.{any_since, latest_since, wrong_since}
use Rattle.locks.proofs.Found.{Found, found_here, found_later, found_exactly}

-- Where nothing is asked of the events before.
abbrev All : List Accepted → Type 0
All l = Unit {0}

always : (l : List Accepted) → (true ≡ true) ↔ All l
always l = ((λ _. tt), (λ _. refl))

-- Such an event stands, or not.
has_exactly : {P Q : Accepted → Type 0} (b : Bool) (l : List Accepted) → (b ≡ true) ↔ Found P Q All l → (b ≡ true) ↔ Has P Q l
has_exactly b l h = ((λ e. (h.0 e).0), (λ x. h.1 (x, tt)))

-- Two kinds with one number are one.
one_kind : (a b : Kind) → kind_number a ≡ kind_number b → a ≡ b
one_kind a b h = grind arith

same_exactly : (a b : Kind) → (same_kind a b ≡ true) ↔ (a ≡ b)
same_exactly a b = ((λ h. one_kind a b (eqb-true _ _ h)), (λ h. eq-eqb _ _ (ap kind_number h)))

is_kind_lem : (k : Kind) (a : Accepted) → (is_kind k a ≡ true) ↔ IsKind k a
is_kind_lem k a = same_exactly (kind_of a.event) k

not_kind : (k : Kind) (a : Accepted) → (IsKind k a → ⊥) → is_kind k a ≡ false
not_kind k a h = ne_eqb _ _ (λ e. h (one_kind _ _ e))

kind_not : (k : Kind) (a : Accepted) → is_kind k a ≡ false → IsKind k a → ⊥
kind_not k a h x = true≢false (sym ((is_kind_lem k a).1 x) ∙ h)

-- A test of the kind, by the kinds that pass.
voids_either : (k : Kind) → voids k ≡ same_kind k kind.PowerOn || same_kind k kind.ClockSetting
voids_either k = search rules

renews_either : (k : Kind) → renews k ≡ same_kind k kind.WarmUp || same_kind k kind.Second
renews_either k = search rules

ends_either : (k : Kind) → ends_prepare k ≡ voids k || same_kind k kind.Start
ends_either k = search rules

is_voiding : (a : Accepted) → (voiding a ≡ true) ↔ Voids a
is_voiding a =
    rw (voids_either (kind_of a.event))
    (or_exactly _ _ (is_kind_lem kind.PowerOn a) (is_kind_lem kind.ClockSetting a))

-- An event of one kind since one of another.
any_exactly :
    (k : Kind) (q : Accepted → Bool) (Q : Accepted → Type 0) →
    ((a : Accepted) → (q a ≡ true) ↔ Q a) →
    ((a : Accepted) → is_kind k a ≡ true → q a ≡ false) →
    (l : List Accepted) →
    (any (is_kind k) (since q l) ≡ true) ↔ Has (IsKind k) Q l
unfolding any since pick
any_exactly k q Q such apart l =
    has_exactly _ l
    (found_exactly (IsKind k) Q All (λ l. any (is_kind k) (since q l)) (λ _. true) (is_kind k) q refl step (is_kind_lem k) such always l)
  where
    go : (f b c : Bool) → (b ≡ true → c ≡ false) → pick c false (b || f) ≡ b && true || not c && f
    go f b c h = grind arith

    step : (a : Accepted) (l : List Accepted) → any (is_kind k) (since q (a ∷ l)) ≡ is_kind k a && true || not (q a) && any (is_kind k) (since q l)
    step a l = any_since (is_kind k) q a l ∙ go (any (is_kind k) (since q l)) (is_kind k a) (q a) (apart a)

-- Lock 1.
warm_up_lem : (l : List Accepted) → (not_warm l ≡ true) ↔ NotWarm l
unfolding not_warm
warm_up_lem l = not_exactly _ (any_exactly kind.WarmUp voiding Voids is_voiding apart l)
  where
    apart : (a : Accepted) → is_kind kind.WarmUp a ≡ true → voiding a ≡ false
    apart a h = rw ((is_kind_lem kind.WarmUp a).0 h)

-- Lock 2.
is_active : (a : Accepted) → (renews (kind_of a.event) ≡ true) ↔ Active a
is_active a =
    rw (renews_either (kind_of a.event))
    (or_exactly _ _ (is_kind_lem kind.WarmUp a) (is_kind_lem kind.Second a))

activity : (now : ℕ) (l : List Accepted) → (inactive now l ≡ true) ↔ Inactive now l
unfolding inactive latest_of active_clock or_else pick
activity now l =
    has_exactly _ l
    (found_exactly (ActiveBefore now) Active All (λ l. inactive now l) (λ _. true)
    (λ a. renews (kind_of a.event) && ltb (clock_of a.event + 1800) now)
    (λ a. renews (kind_of a.event))
    refl
    (λ a l. go (clock_of a.event) (latest_of active_clock l) (renews (kind_of a.event)) (ltb (clock_of a.event + 1800) now) refl)
    (λ a. and_exactly _ _ (is_active a) (ltb_exactly (clock_of a.event + 1800) now))
    is_active always l)
  where
    go :
        (clock : ℕ) (o : Option ℕ) (b c : Bool) →
        ltb (clock + 1800) now ≡ c →
        overdue now (or_else (pick b (Some clock) None) o) ≡ (b && c) && true || not b && overdue now o
    go clock o true true h = h
    go clock o true false h = h
    go clock o false c h = refl

-- A lock that stands exactly where nothing lifts it.
lifted_exactly : {P : Type 0} (x : Bool) → (not x ≡ true) ↔ P → (x ≡ true) ↔ (P → ⊥)
lifted_exactly true h = ((λ e p. absurd (false≢true (h.1 p))), (λ _. refl))
lifted_exactly false h = ((λ e. absurd (false≢true e)), (λ n. absurd (n (h.0 refl))))

-- Locks 3, 4 and 8: the latest of a sort that is not void, where there is one, lifts the lock or not. Only events of that sort carry one, and
-- None of them voids.
abbrev Kinded : {A : Type 0} → Bool → Bool → Option A → Type 0
Kinded is void None = is ≡ false
Kinded is void (Some x) = (is ≡ true) × (void ≡ false)

module _ {A : Type 0} (lifts : Option A → Bool) (never : lifts None ≡ false) where
  lifted : (b : Bool) → b ≡ (true && b) && true || false
  lifted true = refl
  lifted false = refl

  not_lifted :
      (void : Bool) (o : Option A) →
      lifts (pick void None o) ≡ (not void && lifts None) && true || not (false || void) && lifts o
  unfolding pick
  not_lifted true o = never
  not_lifted false o = rw never

  latest_step :
      (is void : Bool) (x o : Option A) →
      Kinded is void x →
      lifts (pick void None (or_else x o)) ≡ (not void && lifts x) && true || not (is || void) && lifts o
  unfolding or_else pick
  latest_step is void None o h = rw h (not_lifted void o)
  latest_step is void (Some x) o h = rw (h.0, h.1) (lifted (lifts (Some x)))

  none_yet : (ends : Accepted → Bool) (f : Event → Option A) → lifts (latest_of f (since ends [])) ≡ false
  unfolding latest_of since
  none_yet ends f = never

  latest_exactly :
      (ends : Accepted → Bool) (Ends : Accepted → Type 0) →
      ((a : Accepted) → (ends a ≡ true) ↔ Ends a) →
      (is : Accepted → Bool) (Is : Accepted → Type 0) (f : Event → Option A) (P : Accepted → Type 0) →
      ((a : Accepted) → (is a ≡ true) ↔ Is a) →
      ((a : Accepted) → Kinded (is a) (ends a) (f a.event)) →
      ((a : Accepted) → (not (ends a) && lifts (f a.event) ≡ true) ↔ P a) →
      (l : List Accepted) →
      (lifts (latest_of f (since ends l)) ≡ true) ↔ Has P (λ a. Is a ⊎ Ends a) l
  latest_exactly ends Ends ended is Is f P sort kinded exactly l =
      has_exactly _ l
      (found_exactly P (λ a. Is a ⊎ Ends a) All
      (λ l. lifts (latest_of f (since ends l)))
      (λ _. true)
      (λ a. not (ends a) && lifts (f a.event))
      (λ a. is a || ends a)
      (none_yet ends f) step exactly
      (λ a. or_exactly (is a) (ends a) (sort a) (ended a))
      always l)
    where
      step :
          (a : Accepted) (l : List Accepted) →
          lifts (latest_of f (since ends (a ∷ l)))
          ≡ (not (ends a) && lifts (f a.event)) && true
          || not (is a || ends a) && lifts (latest_of f (since ends l))
      step a l =
          ap lifts (latest_since f ends a l) ∙
          latest_step (is a) (ends a) (f a.event) (latest_of f (since ends l)) (kinded a)

-- Lock 3, as to the calibration.
module _ (validity now : ℕ) where
  valid : Option Calibrating → Bool
  valid o = not (none_valid validity now o)

  none_valid_lem : valid None ≡ false
  unfolding valid none_valid
  none_valid_lem = refl

  calibration_kinded : (a : Accepted) → Kinded (is_kind kind.Calibration a) (voiding a) (calibration_in a.event)
  calibration_kinded a = go a.event
    where
      go : (e : Event) → Kinded (same_kind (kind_of e) kind.Calibration) (voids (kind_of e)) (calibration_in e)
      go (Calibration clock outcome) = (refl, refl)
      go _ = refl

  passed_exactly :
      (a : Accepted) → (not (voiding a) && valid (calibration_in a.event) ≡ true) ↔ PassedWithin validity now a
  unfolding valid none_valid expired
  passed_exactly a = ((λ h. found a.event refl h), back)
    where
      found :
          (e : Event) →
          a.event ≡ e →
          not (voids (kind_of e)) && valid (calibration_in e) ≡ true →
          PassedWithin validity now a
      found (Calibration clock Passed) s h =
          record { clock = clock; passed = s; valid = ltb-false (clock + validity) now (not-true _ h) }
      found _ s h = absurd (false≢true h)

      back : PassedWithin validity now a → not (voids (kind_of a.event)) && valid (calibration_in a.event) ≡ true
      back x = rw (x.passed, le-ltb (x.clock + validity) now x.valid)

  calibration : (l : List Accepted) → (none_valid validity now (latest_calibration l) ≡ true) ↔ NoneCalibrated validity now l
  unfolding valid latest_calibration
  calibration l =
      lifted_exactly _
      (latest_exactly valid none_valid_lem voiding Voids is_voiding (is_kind kind.Calibration) (IsKind kind.Calibration) calibration_in (PassedWithin validity now) (is_kind_lem kind.Calibration) calibration_kinded passed_exactly l)

-- Lock 3, as to the rollers.
module _ (speeds : SpeedRange) where
  abbrev is_run : Option Run → Bool
  is_run None = false
  is_run (Some run) = true

  none_passed : some_passed None ≡ false
  unfolding some_passed
  none_passed = refl

  same_speeds_lem : (v : SpeedRange) → (same_speeds speeds v ≡ true) ↔ (v ≡ speeds)
  same_speeds_lem v = search rules

  of_run : (a : Accepted) → (is_run (run_at speeds a.event) ≡ true) ↔ RunOf speeds a
  unfolding of_speeds pick
  of_run a = ((λ h. found a.event refl h), back)
    where
      picked : (run : Run) (b : Bool) → is_run (pick b (Some run) None) ≡ b
      picked run true = refl
      picked run false = refl

      found : (e : Event) → a.event ≡ e → is_run (run_at speeds e) ≡ true → RunOf speeds a
      found (CoastDown clock run) s h =
          record { clock = clock; run = run; ran = s; same = (same_speeds_lem run.speeds).0 (sym (picked run (same_speeds speeds run.speeds)) ∙ h) }
      found _ s h = absurd (false≢true h)

      back : RunOf speeds a → is_run (run_at speeds a.event) ≡ true
      back x = rw (x.ran, (same_speeds_lem x.run.speeds).1 x.same)

  run_kinded : (a : Accepted) → Kinded (is_run (run_at speeds a.event)) (voiding a) (run_at speeds a.event)
  unfolding of_speeds pick
  run_kinded a = go a.event
    where
      picked : (run : Run) (b : Bool) → Kinded (is_run (pick b (Some run) None)) false (pick b (Some run) None)
      picked run true = (refl, refl)
      picked run false = refl

      go : (e : Event) → Kinded (is_run (run_at speeds e)) (voids (kind_of e)) (run_at speeds e)
      go (CoastDown clock run) = picked run (same_speeds speeds run.speeds)
      go _ = refl

  ran_exactly : (a : Accepted) → (not (voiding a) && some_passed (run_at speeds a.event) ≡ true) ↔ PassedRun speeds a
  unfolding some_passed of_speeds pick
  ran_exactly a = ((λ h. found a.event refl h), back)
    where
      both : (run : Run) (b : Bool) → some_passed (pick b (Some run) None) ≡ true → (b ≡ true) × (run_passed run ≡ true)
      both run true h = (refl, h)
      both run false h = absurd (false≢true h)

      found :
          (e : Event) →
          a.event ≡ e →
          not (voids (kind_of e)) && some_passed (run_at speeds e) ≡ true →
          PassedRun speeds a
      found (CoastDown clock run) s h =
          let b = both run (same_speeds speeds run.speeds) h in
          record { of = record { clock = clock; run = run; ran = s; same = (same_speeds_lem run.speeds).0 b.0 }; passed = b.1 }
      found _ s h = absurd (false≢true h)

      back : PassedRun speeds a → not (voids (kind_of a.event)) && some_passed (run_at speeds a.event) ≡ true
      back x = rw (x.of.ran, (same_speeds_lem x.of.run.speeds).1 x.of.same, x.passed)

  coasted : (l : List Accepted) → (not (some_passed (latest_run speeds l)) ≡ true) ↔ NotCoasted speeds l
  unfolding latest_run
  coasted l =
      not_exactly _
      (latest_exactly some_passed none_passed voiding Voids is_voiding (λ a. is_run (run_at speeds a.event)) (RunOf speeds) (run_at speeds) (PassedRun speeds) of_run run_kinded ran_exactly l)

-- Lock 3.
calibrated : (validity now : ℕ) (l : List Accepted) → (not_calibrated validity now l ≡ true) ↔ NotCalibrated validity now l
unfolding not_calibrated not_coasted
calibrated validity now l = or_exactly _ _ (calibration validity now l) (or_exactly _ _ (coasted Faster l) (coasted Slower l))

-- Lock 4.
module _ (now : ℕ) where
  good : Option Tried → Bool
  good o = not (none_good now o)

  none_good_lem : good None ≡ false
  unfolding good none_good
  none_good_lem = refl

  try_kinded : (a : Accepted) → Kinded (is_kind kind.Try a) (voiding a) (try_in a.event)
  try_kinded a = go a.event
    where
      go : (e : Event) → Kinded (same_kind (kind_of e) kind.Try) (voids (kind_of e)) (try_in e)
      go (Try clock outcome) = (refl, refl)
      go _ = refl

  good_exactly : (a : Accepted) → (not (voiding a) && good (try_in a.event) ≡ true) ↔ GoodWithin now a
  unfolding good none_good
  good_exactly a = ((λ h. found a.event refl h), back)
    where
      found :
          (e : Event) →
          a.event ≡ e →
          not (voids (kind_of e)) && good (try_in e) ≡ true →
          GoodWithin now a
      found (Try clock (Good expiry)) s h =
          record { clock = clock; expiry = expiry; good = s; valid = ltb-false expiry now (not-true _ h) }
      found _ s h = absurd (false≢true h)

      back : GoodWithin now a → not (voids (kind_of a.event)) && good (try_in a.event) ≡ true
      back x = rw (x.good, le-ltb x.expiry now x.valid)

  sign_in_lem : (l : List Accepted) → (not_signed_in now l ≡ true) ↔ NotSignedIn now l
  unfolding not_signed_in good latest_try
  sign_in_lem l = lifted_exactly _ (latest_exactly good none_good_lem voiding Voids is_voiding (is_kind kind.Try) (IsKind kind.Try) try_in (GoodWithin now) (is_kind_lem kind.Try) try_kinded good_exactly l)

-- Lock 5.
is_wrong_try : Accepted → Bool
is_wrong_try a = not (row_end a) && is_wrong a.event

wrong_exactly : (a : Accepted) → (is_wrong_try a ≡ true) ↔ WrongTry a
unfolding is_wrong_try
wrong_exactly a = ((λ h. found a.event refl h), back)
  where
    found :
        (e : Event) →
        a.event ≡ e →
        not (same_kind (kind_of e) kind.AuthorityUnlock || ends_row e) && is_wrong e ≡ true →
        WrongTry a
    found (Try clock Wrong) s h = record { clock = clock; wrong = s }
    found _ s h = absurd (false≢true h)

    back : WrongTry a → not (same_kind (kind_of a.event) kind.AuthorityUnlock || ends_row a.event) && is_wrong a.event ≡ true
    back x = rw x.wrong

good_try_lem : (a : Accepted) → (ends_row a.event ≡ true) ↔ GoodTry a
good_try_lem a = ((λ h. found a.event refl h), back)
  where
    found : (e : Event) → a.event ≡ e → ends_row e ≡ true → GoodTry a
    found (Try clock (Good expiry)) s h = record { clock = clock; expiry = expiry; good = s }
    found _ s h = absurd (false≢true h)

    back : GoodTry a → ends_row a.event ≡ true
    back x = rw x.good

row_end_lem : (a : Accepted) → (row_end a ≡ true) ↔ EndsRow a
row_end_lem a = or_exactly (is_kind kind.AuthorityUnlock a) (ends_row a.event) (is_kind_lem kind.AuthorityUnlock a) (good_try_lem a)

-- The row with one accepted event more.
row_step :
    (n w : ℕ) (ends wrong : Bool) →
    leb (suc n) (pick ends 0 (pick wrong (suc w) w)) ≡ (not ends && wrong) && leb n w || not ends && leb (suc n) w
unfolding pick
row_step n w ends wrong = grind (arith, nat_tests)

row_none : wrong_row [] ≡ 0
unfolding wrong_row wrong_tries since
row_none = refl

row_more :
    (a : Accepted) (l : List Accepted) →
    wrong_row (a ∷ l) ≡ pick (row_end a) 0 (pick (is_wrong a.event) (suc (wrong_row l)) (wrong_row l))
unfolding wrong_row
row_more a l = wrong_since row_end a l

row_exactly :
    (n : ℕ) →
    ((l : List Accepted) → (leb n (wrong_row l) ≡ true) ↔ WrongInRow n l) →
    (l : List Accepted) →
    (leb (suc n) (wrong_row l) ≡ true) ↔ WrongInRow (suc n) l
unfolding is_wrong_try
row_exactly n before =
    found_exactly WrongTry EndsRow (WrongInRow n) (λ l. leb (suc n) (wrong_row l)) (λ l. leb n (wrong_row l)) is_wrong_try row_end
    (ap (leb (suc n)) row_none ∙ lt-leb (suc n) 0 (omega arith))
    (λ a l. ap (leb (suc n)) (row_more a l) ∙ row_step n (wrong_row l) (row_end a) (is_wrong a.event))
    wrong_exactly row_end_lem before

in_row : (n : ℕ) (l : List Accepted) → (leb n (wrong_row l) ≡ true) ↔ WrongInRow n l
in_row zero l = ((λ _. tt), (λ _. le-leb 0 (wrong_row l) (omega arith)))
in_row (suc n) l = row_exactly n (in_row n) l

row_cleared : (a : Accepted) (n : ℕ) → is_kind kind.AuthorityUnlock a ≡ true → pick (row_end a) 0 n ≡ 0
unfolding pick
row_cleared a n h = rw h

-- A row of four locks at once.
row_locks : (l : List Accepted) → leb 4 (wrong_row l) ≡ true → password_lock l ≡ true
unfolding password_lock
row_locks [] h = absurd (false≢true (sym (ap (leb 4) row_none) ∙ h))
row_locks (a ∷ l) h = go (is_kind kind.AuthorityUnlock a) refl
  where
    go : (b : Bool) → is_kind kind.AuthorityUnlock a ≡ b → not b && (leb 4 (wrong_row (a ∷ l)) || password_lock l) ≡ true
    go true e = absurd (false≢true (sym (ap (leb 4) (row_more a l ∙ row_cleared a _ e)) ∙ h))
    go false e = rw h

password_step :
    (w : ℕ) (f unlocks ends wrong : Bool) →
    (leb 4 w ≡ true → f ≡ true) →
    not unlocks && (leb 4 (pick (unlocks || ends) 0 (pick wrong (suc w) w)) || f)
    ≡ (not (unlocks || ends) && wrong) && leb 3 w || not unlocks && f
unfolding pick
password_step w f unlocks ends wrong h = grind (arith, nat_tests)

password : (l : List Accepted) → (password_lock l ≡ true) ↔ PasswordLocked l
unfolding password_lock is_wrong_try
password l = (
  (λ h. let x = exactly.0 h in record { newest = x.0; others = x.1 }),
  (λ x. exactly.1 (x.newest, x.others)),
)
  where
    step :
        (a : Accepted) (l : List Accepted) →
        password_lock (a ∷ l) ≡ is_wrong_try a && leb 3 (wrong_row l) || not (is_kind kind.AuthorityUnlock a) && password_lock l
    step a l =
        ap (λ n. not (is_kind kind.AuthorityUnlock a) && (leb 4 n || password_lock l)) (row_more a l) ∙
        password_step (wrong_row l) (password_lock l) (is_kind kind.AuthorityUnlock a) (ends_row a.event) (is_wrong a.event) (row_locks l)

    exactly : (password_lock l ≡ true) ↔ Found WrongTry Unlocks (WrongInRow 3) l
    exactly =
        found_exactly WrongTry Unlocks (WrongInRow 3) password_lock (λ l. leb 3 (wrong_row l)) is_wrong_try (is_kind kind.AuthorityUnlock) refl step wrong_exactly (is_kind_lem kind.AuthorityUnlock) (in_row 3) l

-- Lock 6.
authority : (l : List Accepted) → (authority_lock l ≡ true) ↔ AuthorityLocked l
unfolding authority_lock
authority l = any_exactly kind.AuthorityLock (is_kind kind.AuthorityUnlock) Unlocks (is_kind_lem kind.AuthorityUnlock) apart l
  where
    apart : (a : Accepted) → is_kind kind.AuthorityLock a ≡ true → is_kind kind.AuthorityUnlock a ≡ false
    apart a h = rw ((is_kind_lem kind.AuthorityLock a).0 h)

-- Lock 7.
uploaded : (l after : List Accepted) (a : Accepted) (before : List Accepted) → l ≡ after ++ a ∷ before → Uploads a → NoneIs Uploads after → since (is_kind kind.Upload) l ≡ after
unfolding since pick
uploaded l [] a before s is n = rw (s, (is_kind_lem kind.Upload a).1 is)
uploaded l (b ∷ after) a before s is n =
    rw (s, not_kind kind.Upload b n.0) (ap (◌∷◌ b) (uploaded (after ++ a ∷ before) after a before refl is n.1))

not_uploaded : (l : List Accepted) → NoneIs Uploads l → since (is_kind kind.Upload) l ≡ l
unfolding since pick
not_uploaded [] n = refl
not_uploaded (a ∷ l) n = rw (not_kind kind.Upload a n.0) (ap (◌∷◌ a) (not_uploaded l n.1))

upload_or_none : (l : List Accepted) → Has Uploads Uploads l ⊎ NoneIs Uploads l
upload_or_none [] = inr tt
upload_or_none (a ∷ l) = go (is_kind kind.Upload a) refl (upload_or_none l)
  where
    go : (b : Bool) → is_kind kind.Upload a ≡ b → Has Uploads Uploads l ⊎ NoneIs Uploads l → Has Uploads Uploads (a ∷ l) ⊎ NoneIs Uploads (a ∷ l)
    go true e o = inl (found_here Uploads Uploads All a l ((is_kind_lem kind.Upload a).0 e) tt).0
    go false e (inl x) = inl (found_later Uploads Uploads All a l (kind_not kind.Upload a e) (x, tt)).0
    go false e (inr n) = inr (kind_not kind.Upload a e, n)

unsent : (limit : ℕ) (l : List Accepted) → (unsent_lock limit l ≡ true) ↔ Unsent limit l
unfolding unsent_lock unsent_in
unsent limit l = ((λ h. there (eqb-true _ _ h) (upload_or_none l)), (λ x. eq-eqb _ _ (back x)))
  where
    there : verdicts_in (since (is_kind kind.Upload) l) ≡ limit → Has Uploads Uploads l ⊎ NoneIs Uploads l → Unsent limit l
    there h (inl x) = inl (x, sym (ap verdicts_in (uploaded l x.after x.event x.before x.split x.is x.none_after)) ∙ h)
    there h (inr n) = inr (n, sym (ap verdicts_in (not_uploaded l n)) ∙ h)

    back : Unsent limit l → verdicts_in (since (is_kind kind.Upload) l) ≡ limit
    back (inl x) = ap verdicts_in (uploaded l x.0.after x.0.event x.0.before x.0.split x.0.is x.0.none_after) ∙ x.1
    back (inr x) = ap verdicts_in (not_uploaded l x.0) ∙ x.1

-- Lock 8.
is_prepare_end : (a : Accepted) → (prepare_end a ≡ true) ↔ EndsPrepare a
is_prepare_end a =
    rw (ends_either (kind_of a.event)) (or_exactly _ _ (is_voiding a) (is_kind_lem kind.Start a))

module _ (now : ℕ) where
  ready : Option Preparing → Bool
  ready o = not (none_stands now o)

  none_ready : ready None ≡ false
  unfolding ready none_stands
  none_ready = refl

  prepare_kinded : (a : Accepted) → Kinded (is_kind kind.Prepare a) (prepare_end a) (prepare_in a.event)
  prepare_kinded a = go a.event
    where
      go : (e : Event) → Kinded (same_kind (kind_of e) kind.Prepare) (ends_prepare (kind_of e)) (prepare_in e)
      go (Prepare clock check) = (refl, refl)
      go _ = refl

  stands_exactly_within : (a : Accepted) → (not (prepare_end a) && ready (prepare_in a.event) ≡ true) ↔ StandsWithin now a
  unfolding ready none_stands
  stands_exactly_within a = ((λ h. found a.event refl h), back)
    where
      both : (x y : Bool) → not (not x || y) ≡ true → (x ≡ true) × (y ≡ false)
      both true true h = absurd (false≢true h)
      both true false h = (refl, refl)
      both false y h = absurd (false≢true h)

      found :
          (e : Event) →
          a.event ≡ e →
          not (ends_prepare (kind_of e)) && ready (prepare_in e) ≡ true →
          StandsWithin now a
      found (Prepare clock check) s h =
          let b = both (prepare_stands check) (ltb (clock + 120) now) h in
          record {
            clock = clock;
            check = check;
            prepared = s;
            stands = (prepare_claims.stands check).0 b.0;
            valid = ltb-false (clock + 120) now b.1;
          }
      found _ s h = absurd (false≢true h)

      back : StandsWithin now a → not (ends_prepare (kind_of a.event)) && ready (prepare_in a.event) ≡ true
      back x = rw (x.prepared, (prepare_claims.stands x.check).1 x.stands, le-ltb (x.clock + 120) now x.valid)

  prepared : (l : List Accepted) → (not_prepared now l ≡ true) ↔ NotPrepared now l
  unfolding not_prepared ready latest_prepare
  prepared l =
      lifted_exactly _
      (latest_exactly ready none_ready prepare_end EndsPrepare is_prepare_end (is_kind kind.Prepare) (IsKind kind.Prepare) prepare_in (StandsWithin now) (is_kind_lem kind.Prepare) prepare_kinded stands_exactly_within l)

-- All eight.
pub stands_exactly : LockClaims
stands_exactly validity limit now l = record {
  warm_up = warm_up_lem l;
  activity = activity now l;
  calibration = calibrated validity now l;
  sign_in = sign_in_lem now l;
  password = password l;
  authority = authority l;
  unsent = unsent limit l;
  prepare = prepared now l;
}
