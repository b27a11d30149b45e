-- The fields of each kind, read and spelt: the laws of Taken.antt for each. Assumes nothing.
use Rattle.std.proofs.Common.{◌≡◌, ℕ, ◌^◌, ◌<◌, Bool, true, false, List, [], ◌++◌, Result, Ok, Err, refl}
use Rattle.reading.specs.declared.ByChannel.{ByChannel}
use Rattle.vehicle.specs.declared.Settings.{Settings}
use Rattle.coast_down.specs.declared.SpeedRange.{SpeedRange}
use Rattle.coast_down.specs.declared.SpeedRange.TheVariants.{Faster, Slower}
use Rattle.coast_down.specs.declared.Run.{Run}
use Rattle.prepare.specs.declared.ZeroCheck.{ZeroCheck}
use Rattle.locks.specs.declared.Calibration.TheVariants.{Passed, Failed}
use Rattle.locks.specs.declared.Try.TheVariants.{Good, Wrong}
use Rattle.locks.specs.declared.Kind.{Kind}
use Rattle.locks.specs.declared.Kind.TheVariants as kind
use Rattle.journal_entry.specs.declared.Fault.{Fault}
use Rattle.journal_entry.specs.declared.Fields.{Fields}
use Rattle.journal_entry.specs.declared.Fields.TheVariants.{PowerOn, ClockSetting, WarmUp, Calibration, Try, AuthorityLock, AuthorityUnlock, Upload, Start, Second, Stop, CoastDown, Prepare}
use Rattle.journal_entry.specs.Claims.{IsBytes}
use Rattle.journal_entry.specs.Spelling.{short, long, yes_no_bytes, settings_bytes, bits_bytes, is_faster, run_bytes, check_bytes, kind_in, fields_bytes, HeldSettings, HeldBits, HeldRun, HeldCheck, HeldFields}
use Rattle.journal_entry.specs.Reading.{clock_setting_at, calibration_of, calibration_at, outcome_at, try_at, settings_at, start_at, bits_at, second_at, stop_at, speeds_of, coast_down_at, prepare_at, fields_at}
use Rattle.journal_entry.proofs.Taken.{Takes, both, nothing, Laws, on, resume, Fine, fine_at, shorts, longs, bytes, yes_nos}

abbrev settings_taken : List ℕ → Settings × List ℕ → Type 0
settings_taken s x = Takes s (settings_bytes x.0) x.1 × HeldSettings x.0

settings_fine : (s : List ℕ) → IsBytes s → Fine (settings_taken s) (settings_at s)
unfolding settings_at
settings_fine s fits =
    let P : Result (Settings × List ℕ) Fault → Type 0 = Fine (settings_taken s) in
    let bad : (d : Fault) → P (Err d) = λ d. tt in
    on shorts P bad s _ fits λ a ra ta ha.
    on shorts P bad ra _ ta.rest_fits λ b rb tb hb.
    on shorts P bad rb _ tb.rest_fits λ c rc tc hc.
    on shorts P bad rc _ tc.rest_fits λ d rd td hd.
    on shorts P bad rd _ td.rest_fits λ e re te he.
    on shorts P bad re _ te.rest_fits λ f rf tf hf.
    on shorts P bad rf _ tf.rest_fits λ g rg tg hg.
    (both ta (both tb (both tc (both td (both te (both tf tg))))), record { kind = ha; year = hb; displacement = hc; gearbox = hd; humidity = he; temperature = hf; pressure = hg })

settings_again : (x : Settings) (rest : List ℕ) → HeldSettings x → settings_at (settings_bytes x ++ rest) ≡ Ok (x, rest)
unfolding settings_at
settings_again x rest h =
    let r6 : List ℕ = short x.pressure ++ rest in
    let r5 : List ℕ = short x.temperature ++ r6 in
    let r4 : List ℕ = short x.humidity ++ r5 in
    let r3 : List ℕ = short x.gearbox ++ r4 in
    let r2 : List ℕ = short x.displacement ++ r3 in
    let r1 : List ℕ = short x.year ++ r2 in
    resume shorts x.kind r1 _ _ h.kind (
    resume shorts x.year r2 _ _ h.year (
    resume shorts x.displacement r3 _ _ h.displacement (
    resume shorts x.gearbox r4 _ _ h.gearbox (
    resume shorts x.humidity r5 _ _ h.humidity (
    resume shorts x.temperature r6 _ _ h.temperature (
    resume shorts x.pressure rest _ _ h.pressure refl))))))

settings : Laws settings_at settings_bytes HeldSettings
settings = record { takes = λ s x fits e. fine_at (settings_taken s) x (settings_fine s fits) e; again = settings_again }

abbrev bits_taken : List ℕ → ByChannel ℕ × List ℕ → Type 0
bits_taken s x = Takes s (bits_bytes x.0) x.1 × HeldBits x.0

bits_fine : (s : List ℕ) → IsBytes s → Fine (bits_taken s) (bits_at s)
unfolding bits_at
bits_fine s fits =
    let P : Result (ByChannel ℕ × List ℕ) Fault → Type 0 = Fine (bits_taken s) in
    let bad : (d : Fault) → P (Err d) = λ d. tt in
    on longs P bad s _ fits λ a ra ta ha.
    on longs P bad ra _ ta.rest_fits λ b rb tb hb.
    on longs P bad rb _ tb.rest_fits λ c rc tc hc.
    on longs P bad rc _ tc.rest_fits λ d rd td hd.
    on longs P bad rd _ td.rest_fits λ e re te he.
    on longs P bad re _ te.rest_fits λ f rf tf hf.
    on longs P bad rf _ tf.rest_fits λ g rg tg hg.
    on longs P bad rg _ tg.rest_fits λ h rh th hh.
    (both ta (both tb (both tc (both td (both te (both tf (both tg th)))))), record { speed = ha; load = hb; engine = hc; hc = hd; co = he; no = hf; co2 = hg; o2 = hh })

bits_again : (x : ByChannel ℕ) (rest : List ℕ) → HeldBits x → bits_at (bits_bytes x ++ rest) ≡ Ok (x, rest)
unfolding bits_at
bits_again x rest h =
    let r7 : List ℕ = long x.o2 ++ rest in
    let r6 : List ℕ = long x.co2 ++ r7 in
    let r5 : List ℕ = long x.no ++ r6 in
    let r4 : List ℕ = long x.co ++ r5 in
    let r3 : List ℕ = long x.hc ++ r4 in
    let r2 : List ℕ = long x.engine ++ r3 in
    let r1 : List ℕ = long x.load ++ r2 in
    resume longs x.speed r1 _ _ h.speed (
    resume longs x.load r2 _ _ h.load (
    resume longs x.engine r3 _ _ h.engine (
    resume longs x.hc r4 _ _ h.hc (
    resume longs x.co r5 _ _ h.co (
    resume longs x.no r6 _ _ h.no (
    resume longs x.co2 r7 _ _ h.co2 (
    resume longs x.o2 rest _ _ h.o2 refl)))))))

bits : Laws bits_at bits_bytes HeldBits
bits = record { takes = λ s x fits e. fine_at (bits_taken s) x (bits_fine s fits) e; again = bits_again }

-- The fields of a kind: they hold, and are of that kind.
abbrev pub OfKind : Kind → Fields → Type 0
OfKind k x = HeldFields x × (kind_in x ≡ k)

abbrev Taken : Kind → List ℕ → Fields × List ℕ → Type 0
Taken k s x = Takes s (fields_bytes x.0) x.1 × OfKind k x.0

-- What reading the fields of a kind answers.
abbrev FineOf : Kind → List ℕ → Result (Fields × List ℕ) Fault → Type 0
FineOf k s = Fine (Taken k s)

bad : (k : Kind) (s : List ℕ) (d : Fault) → FineOf k s (Err d)
bad k s d = tt

clock_setting_fine : (s : List ℕ) → IsBytes s → FineOf kind.ClockSetting s (clock_setting_at s)
unfolding clock_setting_at
clock_setting_fine s fits =
    on longs (FineOf kind.ClockSetting s) (bad kind.ClockSetting s) s _ fits λ a ra ta ha. (ta, (ha, refl))

calibration_spelt :
    (passed : Bool) (s rest : List ℕ) →
    Takes s (yes_no_bytes passed) rest →
    Taken kind.Calibration s (calibration_of passed, rest)
calibration_spelt true s rest t = (t, (tt, refl))
calibration_spelt false s rest t = (t, (tt, refl))

calibration_fine : (s : List ℕ) → IsBytes s → FineOf kind.Calibration s (calibration_at s)
unfolding calibration_at
calibration_fine s fits =
    on yes_nos (FineOf kind.Calibration s) (bad kind.Calibration s) s _ fits λ a ra ta ha. calibration_spelt a s ra ta

outcome_fine :
    (good : Bool) (s rest : List ℕ) →
    Takes s (yes_no_bytes good) rest →
    FineOf kind.Try s (outcome_at good rest)
outcome_fine false s rest t = (t, (tt, refl))
outcome_fine true s rest t =
    on longs (FineOf kind.Try s) (bad kind.Try s) rest _ t.rest_fits λ b rb tb hb. (both t tb, (hb, refl))

try_fine : (s : List ℕ) → IsBytes s → FineOf kind.Try s (try_at s)
unfolding try_at
try_fine s fits = on yes_nos (FineOf kind.Try s) (bad kind.Try s) s _ fits λ a ra ta ha. outcome_fine a s ra ta

start_fine : (s : List ℕ) → IsBytes s → FineOf kind.Start s (start_at s)
unfolding start_at
start_fine s fits =
    let P : Result (Fields × List ℕ) Fault → Type 0 = FineOf kind.Start s in
    on settings P (bad kind.Start s) s _ fits λ a ra ta ha.
    on shorts P (bad kind.Start s) ra _ ta.rest_fits λ b rb tb hb.
    (both ta tb, ((ha, hb), refl))

second_fine : (s : List ℕ) → IsBytes s → FineOf kind.Second s (second_at s)
unfolding second_at
second_fine s fits = on bits (FineOf kind.Second s) (bad kind.Second s) s _ fits λ a ra ta ha. (ta, (ha, refl))

stop_fine : (s : List ℕ) → IsBytes s → FineOf kind.Stop s (stop_at s)
unfolding stop_at
stop_fine s fits = on bytes (FineOf kind.Stop s) (bad kind.Stop s) s _ fits λ a ra ta ha. (ta, (ha, refl))

faster_again : (faster : Bool) → is_faster (speeds_of faster) ≡ faster
faster_again true = refl
faster_again false = refl

coast_down_fine : (s : List ℕ) → IsBytes s → FineOf kind.CoastDown s (coast_down_at s)
unfolding coast_down_at
coast_down_fine s fits =
    let P : Result (Fields × List ℕ) Fault → Type 0 = FineOf kind.CoastDown s in
    on shorts P (bad kind.CoastDown s) s _ fits λ a ra ta ha.
    on shorts P (bad kind.CoastDown s) ra _ ta.rest_fits λ b rb tb hb.
    on yes_nos P (bad kind.CoastDown s) rb _ tb.rest_fits λ c rc tc hc.
    on longs P (bad kind.CoastDown s) rc _ tc.rest_fits λ d rd td hd. (
      rw (faster_again c) (both ta (both tb (both tc td))),
      (record { inertia = ha; power = hb; milliseconds = hd }, refl),
    )

prepare_fine : (s : List ℕ) → IsBytes s → FineOf kind.Prepare s (prepare_at s)
unfolding prepare_at
prepare_fine s fits =
    let P : Result (Fields × List ℕ) Fault → Type 0 = FineOf kind.Prepare s in
    on shorts P (bad kind.Prepare s) s _ fits λ a ra ta ha.
    on shorts P (bad kind.Prepare s) ra _ ta.rest_fits λ b rb tb hb.
    on shorts P (bad kind.Prepare s) rb _ tb.rest_fits λ c rc tc hc.
    on shorts P (bad kind.Prepare s) rc _ tc.rest_fits λ d rd td hd.
    (both ta (both tb (both tc td)), (record { hc = ha; co = hb; no = hc; residue = hd }, refl))

none_fine : (k : Kind) (f : Fields) (s : List ℕ) → fields_bytes f ≡ [] → OfKind k f → IsBytes s → FineOf k s (Ok (f, s))
none_fine k f s none of_kind fits = (rw none (nothing fits), of_kind)

fields_fine : (k : Kind) (s : List ℕ) → IsBytes s → FineOf k s (fields_at k s)
unfolding fields_at
fields_fine kind.PowerOn s fits = none_fine kind.PowerOn PowerOn s refl (tt, refl) fits
fields_fine kind.ClockSetting s fits = clock_setting_fine s fits
fields_fine kind.WarmUp s fits = none_fine kind.WarmUp WarmUp s refl (tt, refl) fits
fields_fine kind.Calibration s fits = calibration_fine s fits
fields_fine kind.Try s fits = try_fine s fits
fields_fine kind.AuthorityLock s fits = none_fine kind.AuthorityLock AuthorityLock s refl (tt, refl) fits
fields_fine kind.AuthorityUnlock s fits = none_fine kind.AuthorityUnlock AuthorityUnlock s refl (tt, refl) fits
fields_fine kind.Upload s fits = none_fine kind.Upload Upload s refl (tt, refl) fits
fields_fine kind.Start s fits = start_fine s fits
fields_fine kind.Second s fits = second_fine s fits
fields_fine kind.Stop s fits = stop_fine s fits
fields_fine kind.CoastDown s fits = coast_down_fine s fits
fields_fine kind.Prepare s fits = prepare_fine s fits

run_again : (x : Run) (rest : List ℕ) → HeldRun x → coast_down_at (run_bytes x ++ rest) ≡ Ok (CoastDown x, rest)
unfolding coast_down_at
run_again x rest h = go x.inertia x.power x.speeds x.milliseconds h.inertia h.power h.milliseconds
  where
    go :
        (w q : ℕ) (speeds : SpeedRange) (ms : ℕ) →
        w < 2 ^ 16 →
        q < 2 ^ 16 →
        ms < 2 ^ 32 →
        coast_down_at (run_bytes (record { inertia = w; power = q; speeds = speeds; milliseconds = ms }) ++ rest)
        ≡ Ok (CoastDown (record { inertia = w; power = q; speeds = speeds; milliseconds = ms }), rest)
    go w q Faster ms hw hq hm =
        let r3 : List ℕ = long ms ++ rest in
        let r2 : List ℕ = yes_no_bytes true ++ r3 in
        let r1 : List ℕ = short q ++ r2 in
        resume shorts w r1 _ _ hw (resume shorts q r2 _ _ hq (resume yes_nos true r3 _ _ tt (resume longs ms rest _ _ hm refl)))
    go w q Slower ms hw hq hm =
        let r3 : List ℕ = long ms ++ rest in
        let r2 : List ℕ = yes_no_bytes false ++ r3 in
        let r1 : List ℕ = short q ++ r2 in
        resume shorts w r1 _ _ hw (resume shorts q r2 _ _ hq (resume yes_nos false r3 _ _ tt (resume longs ms rest _ _ hm refl)))

check_again : (x : ZeroCheck) (rest : List ℕ) → HeldCheck x → prepare_at (check_bytes x ++ rest) ≡ Ok (Prepare x, rest)
unfolding prepare_at
check_again x rest h =
    let r3 : List ℕ = short x.residue.0 ++ rest in
    let r2 : List ℕ = short x.no ++ r3 in
    let r1 : List ℕ = short x.co ++ r2 in
    resume shorts x.hc r1 _ _ h.hc (resume shorts x.co r2 _ _ h.co (resume shorts x.no r3 _ _ h.no (resume shorts x.residue.0 rest _ _ h.residue refl)))

-- What an entry carries is read again, by its kind.
fields_again : (f : Fields) (rest : List ℕ) → HeldFields f → fields_at (kind_in f) (fields_bytes f ++ rest) ≡ Ok (f, rest)
unfolding fields_at clock_setting_at calibration_at try_at start_at second_at stop_at
fields_again PowerOn rest h = refl
fields_again (ClockSetting new) rest h = resume longs new rest _ _ h refl
fields_again WarmUp rest h = refl
fields_again (Calibration Passed) rest h = resume yes_nos true rest _ _ tt refl
fields_again (Calibration Failed) rest h = resume yes_nos false rest _ _ tt refl
fields_again (Try (Good expiry)) rest h = resume yes_nos true (long expiry ++ rest) _ _ tt (resume longs expiry rest _ _ h refl)
fields_again (Try Wrong) rest h = resume yes_nos false rest _ _ tt refl
fields_again AuthorityLock rest h = refl
fields_again AuthorityUnlock rest h = refl
fields_again Upload rest h = refl
fields_again (Start x p) rest h = resume settings x (short p ++ rest) _ _ h.0 (resume shorts p rest _ _ h.1 refl)
fields_again (Second x) rest h = resume bits x rest _ _ h refl
fields_again (Stop cause) rest h = resume bytes cause rest _ _ h refl
fields_again (CoastDown x) rest h = run_again x rest h
fields_again (Prepare x) rest h = check_again x rest h

pub fields : (k : Kind) → Laws (fields_at k) fields_bytes (OfKind k)
fields k =
    record {
      takes = λ s x fits e. fine_at (Taken k s) x (fields_fine k s fits) e;
      again = λ f rest h. rw (← h.1) (fields_again f rest h.0);
    }
