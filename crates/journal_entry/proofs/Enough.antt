-- Where an entry's bytes are there, what follows them changes nothing but what is left: 37 bytes are enough. Assumes nothing.
use Rattle.std.proofs.Common.{◌≡◌, ℕ, zero, suc, ◌+◌, ◌≤◌, Bool, true, false, List, [], ◌∷◌, ◌++◌, length, Some, None, Option, Result, Ok, Err, refl, ap, arith}
use Rattle.std.specs.Int.{Width, w16, w32, byte_len}
use Rattle.std.proofs.lemmas.Bool.{le-ltb}
use Rattle.std.proofs.lemmas.List.{length-append, length-drop, take-append-le, drop-append-le}
use Rattle.locks.specs.declared.Kind.{Kind}
use Rattle.locks.specs.declared.Kind.TheVariants as kind
use Rattle.journal_entry.specs.declared.Fault.{Fault}
use Rattle.journal_entry.specs.declared.Fault.TheVariants.{Short, Count, Parameters, Left}
use Rattle.journal_entry.specs.declared.Fault.TheVariants as fault
use Rattle.journal_entry.specs.declared.Fields.{Fields}
use Rattle.journal_entry.specs.Kinds.{kind_of}
use Rattle.journal_entry.specs.Reading.{◌>>=◌, byte_at, number_at, yes_no_at, known, kind_at, clock_setting_at, calibration_at, outcome_at, try_at, settings_at, start_at, bits_at, second_at, stop_at, coast_down_at, prepare_at, fields_at, entry_of}

-- A fault of bytes that so many more follow.
abbrev pub later : ℕ → Fault → Fault
later k Short = Short
later k (Count left) = Count (left + k)
later k Parameters = Parameters
later k (fault.Event left) = fault.Event (left + k)
later k (Left left) = Left (left + k)

-- What is read of bytes that more follow.
abbrev pub extended : {A : Type 0} → List ℕ → Result (A × List ℕ) Fault → Result (A × List ℕ) Fault
extended q (Ok x) = Ok (x.0, x.1 ++ q)
extended q (Err d) = Err (later (length q) d)

-- Not for want of bytes.
abbrev pub NotShort : Fault → Type 0
NotShort Short = ⊥
NotShort _ = Unit {0}

-- At most m bytes were taken, and none was wanting.
abbrev pub Enough : {A : Type 0} → ℕ → List ℕ → Result (A × List ℕ) Fault → Type 0
Enough m s (Ok x) = length s ≤ length x.1 + m
Enough m s (Err d) = NotShort d

-- What is read of s and of s ++ q is the same.
pub record Same {A : Type 0} (m : ℕ) (s q : List ℕ) (r long : Result (A × List ℕ) Fault) : Type 0 where
  pub alike : long ≡ extended q r
  pub enough : Enough m s r

-- m bytes are enough.
abbrev pub Bounded : {A : Type 0} → ℕ → (List ℕ → Result (A × List ℕ) Fault) → Type 0
Bounded m read = (s q : List ℕ) → m ≤ length s → Same m s q (read s) (read (s ++ q))

pub end : {A : Type 0} (x : A) (s q : List ℕ) → Same 0 s q (Ok (x, s)) (Ok (x, s ++ q))
end x s q = record { alike = refl; enough = omega arith }

module _ {A B : Type 0} {m : ℕ} {read : List ℕ → Result (A × List ℕ) Fault} (b : Bounded m read) where
  -- A step, and what follows it.
  pub along :
      (s q : List ℕ) (k : ℕ) (f g : A × List ℕ → Result (B × List ℕ) Fault) →
      m + k ≤ length s →
      ((a : A) (rest : List ℕ) → k ≤ length rest → Same k rest q (f (a, rest)) (g (a, rest ++ q))) →
      Same (m + k) s q (read s >>= f) (read (s ++ q) >>= g)
  along s q k f g h next =
      let t : Same m s q (read s) (read (s ++ q)) = b s q (omega (arith, h)) in
      go (read s) (read (s ++ q)) t.alike t.enough
    where
      more : (x : A × List ℕ) → length s ≤ length x.1 + m → (r : Result (B × List ℕ) Fault) → Enough k x.1 r → Enough (m + k) s r
      more x l (Ok y) e = omega (arith, l, e)
      more x l (Err d) e = e

      go : (r long : Result (A × List ℕ) Fault) → long ≡ extended q r → Enough m s r → Same (m + k) s q (r >>= f) (long >>= g)
      go (Ok x) long e l =
          let t : Same k x.1 q (f x) (g (x.0, x.1 ++ q)) = next x.0 x.1 (omega (arith, h, l)) in
          record { alike = rw e t.alike; enough = more x l (f x) t.enough }
      go (Err d) long e l = record { alike = rw e refl; enough = l }

pub weaker : {A : Type 0} (m k : ℕ) (s q : List ℕ) (r long : Result (A × List ℕ) Fault) → m ≤ k → Same m s q r long → Same k s q r long
weaker m k s q (Ok x) long h t = record { alike = t.alike; enough = omega (arith, t.enough, h) }
weaker m k s q (Err d) long h t = record { alike = t.alike; enough = t.enough }

number_bounded : (w : Width) → Bounded (byte_len w) (number_at w)
number_bounded w s q h =
    let n : ℕ = byte_len w in
    let short = le-ltb (length s) n h in
    let long = le-ltb (length (s ++ q)) n (omega (arith, length-append s q, h)) in
    record {
      alike = rw (short, long, take-append-le, drop-append-le) refl;
      enough = rw short (omega (arith, length-drop n s, h));
    }

pub shorts : Bounded 2 (number_at w16)
shorts = number_bounded w16

pub longs : Bounded 4 (number_at w32)
longs = number_bounded w32

pub bytes : Bounded 1 byte_at
unfolding byte_at
bytes [] q h = absurd (omega (arith, h))
bytes (b ∷ s) q h = record { alike = refl; enough = omega arith }

yes_nos : Bounded 1 yes_no_at
unfolding yes_no_at
yes_nos [] q h = absurd (omega (arith, h))
yes_nos (zero ∷ s) q h = record { alike = refl; enough = omega arith }
yes_nos (suc zero ∷ s) q h = record { alike = refl; enough = omega arith }
yes_nos (suc (suc b) ∷ s) q h =
    record { alike = ap (λ (n : ℕ). Err (fault.Event n)) (length-append (suc (suc b) ∷ s) q); enough = tt }

kinds : Bounded 1 kind_at
unfolding kind_at byte_at
kinds [] q h = absurd (omega (arith, h))
kinds (b ∷ s) q h = go (kind_of b)
  where
    go :
        (o : Option Kind) →
        Same 1 (b ∷ s) q (known o (length (b ∷ s)) >>= λ k. Ok (k, s)) (known o (length (b ∷ (s ++ q))) >>= λ k. Ok (k, s ++ q))
    go (Some k) = record { alike = refl; enough = omega arith }
    go None = record { alike = ap (λ (n : ℕ). Err (fault.Event n)) (length-append (b ∷ s) q); enough = tt }

clock_settings : Bounded 4 clock_setting_at
unfolding clock_setting_at
clock_settings s q h = along longs s q 0 _ _ h λ a r1 h1. end _ r1 q

calibrations : Bounded 1 calibration_at
unfolding calibration_at
calibrations s q h = along yes_nos s q 0 _ _ h λ a r1 h1. end _ r1 q

outcomes : (good : Bool) → Bounded 4 (outcome_at good)
outcomes false s q h = weaker 0 4 s q _ _ (omega arith) (end _ s q)
outcomes true s q h = along longs s q 0 _ _ h λ a r1 h1. end _ r1 q

tries : Bounded 5 try_at
unfolding try_at
tries s q h = along yes_nos s q 4 _ _ h λ a r1 h1. outcomes a r1 q h1

settings : Bounded 14 settings_at
unfolding settings_at
settings s q h =
    along shorts s q 12 _ _ h λ a r1 h1.
    along shorts r1 q 10 _ _ h1 λ b r2 h2.
    along shorts r2 q 8 _ _ h2 λ c r3 h3.
    along shorts r3 q 6 _ _ h3 λ d r4 h4.
    along shorts r4 q 4 _ _ h4 λ e r5 h5.
    along shorts r5 q 2 _ _ h5 λ f r6 h6.
    along shorts r6 q 0 _ _ h6 λ g r7 h7.
    end _ r7 q

starts : Bounded 16 start_at
unfolding start_at
starts s q h = along settings s q 2 _ _ h λ a r1 h1. along shorts r1 q 0 _ _ h1 λ b r2 h2. end _ r2 q

bits : Bounded 32 bits_at
unfolding bits_at
bits s q h =
    along longs s q 28 _ _ h λ a r1 h1.
    along longs r1 q 24 _ _ h1 λ b r2 h2.
    along longs r2 q 20 _ _ h2 λ c r3 h3.
    along longs r3 q 16 _ _ h3 λ d r4 h4.
    along longs r4 q 12 _ _ h4 λ e r5 h5.
    along longs r5 q 8 _ _ h5 λ f r6 h6.
    along longs r6 q 4 _ _ h6 λ g r7 h7.
    along longs r7 q 0 _ _ h7 λ k r8 h8.
    end _ r8 q

seconds : Bounded 32 second_at
unfolding second_at
seconds s q h = along bits s q 0 _ _ h λ a r1 h1. end _ r1 q

stops : Bounded 1 stop_at
unfolding stop_at
stops s q h = along bytes s q 0 _ _ h λ a r1 h1. end _ r1 q

coast_downs : Bounded 9 coast_down_at
unfolding coast_down_at
coast_downs s q h =
    along shorts s q 7 _ _ h λ a r1 h1.
    along shorts r1 q 5 _ _ h1 λ b r2 h2.
    along yes_nos r2 q 4 _ _ h2 λ c r3 h3.
    along longs r3 q 0 _ _ h3 λ d r4 h4.
    end _ r4 q

prepares : Bounded 8 prepare_at
unfolding prepare_at
prepares s q h =
    along shorts s q 6 _ _ h λ a r1 h1.
    along shorts r1 q 4 _ _ h1 λ b r2 h2.
    along shorts r2 q 2 _ _ h2 λ c r3 h3.
    along shorts r3 q 0 _ _ h3 λ d r4 h4.
    end _ r4 q

-- The fields of every kind.
fields : (k : Kind) → Bounded 32 (fields_at k)
unfolding fields_at
fields k s q h = go k
  where
    by : (m : ℕ) {read : List ℕ → Result (Fields × List ℕ) Fault} → m ≤ 32 → Bounded m read → Same 32 s q (read s) (read (s ++ q))
    by m l b = weaker m 32 s q _ _ l (b s q (omega (arith, l, h)))

    none : (f : Fields) → Same 32 s q (Ok (f, s)) (Ok (f, s ++ q))
    none f = weaker 0 32 s q _ _ (omega arith) (end f s q)

    go : (k : Kind) → Same 32 s q (fields_at k s) (fields_at k (s ++ q))
    go kind.PowerOn = none _
    go kind.ClockSetting = by 4 (omega arith) clock_settings
    go kind.WarmUp = none _
    go kind.Calibration = by 1 (omega arith) calibrations
    go kind.Try = by 5 (omega arith) tries
    go kind.AuthorityLock = none _
    go kind.AuthorityUnlock = none _
    go kind.Upload = none _
    go kind.Start = by 16 (omega arith) starts
    go kind.Second = seconds s q h
    go kind.Stop = by 1 (omega arith) stops
    go kind.CoastDown = by 9 (omega arith) coast_downs
    go kind.Prepare = by 8 (omega arith) prepares

pub entries_bounded : Bounded 37 entry_of
unfolding entry_of
entries_bounded s q h =
    along kinds s q 36 _ _ h λ a r1 h1.
    along longs r1 q 32 _ _ h1 λ b r2 h2.
    along (fields a) r2 q 0 _ _ h2 λ c r3 h3.
    end _ r3 q
