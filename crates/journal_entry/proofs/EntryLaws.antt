-- An entry, read and spelt. Assumes nothing.
use Rattle.std.proofs.Common.{◌≡◌, ℕ, ◌≤◌, Bool, true, false, List, [], ◌∷◌, ◌++◌, length, Some, None, Option, Result, Ok, Err, refl, sym, ap, ◌∙◌, arith, find}
use Rattle.std.proofs.lemmas.List.{length-append}
use Rattle.std.proofs.lemmas.Bool.{eqb-true}
use Rattle.locks.specs.declared.Kind.{Kind}
use Rattle.locks.specs.declared.Kind.TheVariants as kind
use Rattle.locks.specs.declared.Try.TheVariants.{Good, Wrong}
use Rattle.locks.specs.declared.Calibration.TheVariants.{Passed, Failed}
use Rattle.locks.specs.Events.{kind_number}
use Rattle.journal_entry.specs.declared.Entry.{Entry}
use Rattle.journal_entry.specs.declared.Fault.{Fault}
use Rattle.journal_entry.specs.declared.Fields.{Fields}
use Rattle.journal_entry.specs.declared.Fields.TheVariants.{PowerOn, ClockSetting, WarmUp, Calibration, Try, AuthorityLock, AuthorityUnlock, Upload, Start, Second, Stop, CoastDown, Prepare}
use Rattle.journal_entry.specs.Claims.{IsBytes, EntryClaims}
use Rattle.journal_entry.specs.Kinds.{kinds, has_number, kind_of}
use Rattle.journal_entry.specs.Spelling.{short, long, yes_no_bytes, is_faster, kind_in, fields_bytes, entry_bytes, Held}
use Rattle.journal_entry.specs.Reading.{◌>>=◌, byte_at, known, kind_at, entry_of}
use Rattle.journal_entry.proofs.Taken.{Takes, both, Laws, on, resume, Fine, fine_at, one, Any, bytes, longs}
use Rattle.journal_entry.proofs.FieldLaws.{fields}

-- The kind that a number has is of that number.
found : (number : ℕ) (l : List Kind) (k : Kind) → find (has_number number) l ≡ Some k → kind_number k ≡ number
found number [] k e = absurd cc
found number (x ∷ l) k e = go (has_number number x) refl (found number l k)
  where
    go : (b : Bool) → has_number number x ≡ b → (find (has_number number) l ≡ Some k → kind_number k ≡ number) → kind_number k ≡ number
    go true t later =
        let here : find (has_number number) (x ∷ l) ≡ Some x = rw t refl in
        let same : x ≡ k = cc (here, e) in
        sym (ap kind_number same) ∙ eqb-true _ _ t
    go false t later =
        let rest : find (has_number number) (x ∷ l) ≡ find (has_number number) l = rw t refl in
        later (sym rest ∙ e)

numbered : (k : Kind) → kind_of (kind_number k) ≡ Some k
unfolding kind_of
numbered kind.PowerOn = refl
numbered kind.ClockSetting = refl
numbered kind.WarmUp = refl
numbered kind.Calibration = refl
numbered kind.Try = refl
numbered kind.AuthorityLock = refl
numbered kind.AuthorityUnlock = refl
numbered kind.Upload = refl
numbered kind.Start = refl
numbered kind.Second = refl
numbered kind.Stop = refl
numbered kind.CoastDown = refl
numbered kind.Prepare = refl

-- The kind byte.
abbrev kind_bytes : Kind → List ℕ
kind_bytes k = one (kind_number k)

abbrev KindTaken : List ℕ → Kind × List ℕ → Type 0
KindTaken s x = Takes s (kind_bytes x.0) x.1 × Any x.0

kind_known : (number left : ℕ) (s rest : List ℕ) (o : Option Kind) → kind_of number ≡ o → Takes s (one number) rest → Fine (KindTaken s) (known o left >>= λ k. Ok (k, rest))
unfolding kind_of
kind_known number left s rest (Some k) e t = (rw (found number kinds k e) t, tt)
kind_known number left s rest None e t = tt

kind_fine : (s : List ℕ) → IsBytes s → Fine (KindTaken s) (kind_at s)
unfolding kind_at
kind_fine s fits = on bytes (Fine (KindTaken s)) (λ d. tt) s _ fits λ a ra ta ha. kind_known a (length s) s ra (kind_of a) refl ta

kind_again : (k : Kind) (rest : List ℕ) → Any k → kind_at (kind_bytes k ++ rest) ≡ Ok (k, rest)
unfolding kind_at byte_at
kind_again k rest h = rw (numbered k) refl

kind_laws : Laws kind_at kind_bytes Any
kind_laws = record { takes = λ s x fits e. fine_at (KindTaken s) x (kind_fine s fits) e; again = kind_again }

abbrev EntryTaken : List ℕ → Entry × List ℕ → Type 0
EntryTaken s x = Takes s (entry_bytes x.0) x.1 × Held x.0

entry_fine : (s : List ℕ) → IsBytes s → Fine (EntryTaken s) (entry_of s)
unfolding entry_of
entry_fine s fits =
    let P : Result (Entry × List ℕ) Fault → Type 0 = Fine (EntryTaken s) in
    let bad : (d : Fault) → P (Err d) = λ d. tt in
    on kind_laws P bad s _ fits λ a ra ta ha.
    on longs P bad ra _ ta.rest_fits λ b rb tb hb.
    on (fields a) P bad rb _ tb.rest_fits λ c rc tc hc.
    (rw hc.1 (both ta (both tb tc)), record { clock = hb; fields = hc.0 })

entry_again : (e : Entry) (rest : List ℕ) → Held e → entry_of (entry_bytes e ++ rest) ≡ Ok (e, rest)
unfolding entry_of
entry_again e rest h =
    let r2 : List ℕ = fields_bytes e.fields ++ rest in
    let r1 : List ℕ = long e.clock ++ r2 in
    resume kind_laws (kind_in e.fields) r1 _ _ tt
    (resume longs e.clock r2 _ _ h.clock
    (resume (fields (kind_in e.fields)) e.fields rest _ _ (h.fields, refl) refl))

pub entries : Laws entry_of entry_bytes Held
entries = record { takes = λ s x fits e. fine_at (EntryTaken s) x (entry_fine s fits) e; again = entry_again }

fields_longest : (f : Fields) → length (fields_bytes f) ≤ 32
fields_longest PowerOn = omega arith
fields_longest (ClockSetting new) = omega arith
fields_longest WarmUp = omega arith
fields_longest (Calibration Passed) = omega arith
fields_longest (Calibration Failed) = omega arith
fields_longest (Try (Good expiry)) = omega arith
fields_longest (Try Wrong) = omega arith
fields_longest AuthorityLock = omega arith
fields_longest AuthorityUnlock = omega arith
fields_longest Upload = omega arith
fields_longest (Start settings p) = omega arith
fields_longest (Second bits) = omega arith
fields_longest (Stop cause) = omega arith
fields_longest (CoastDown run) = go (is_faster run.speeds)
  where
    go : (b : Bool) → length (short run.inertia ++ (short run.power ++ (yes_no_bytes b ++ long run.milliseconds))) ≤ 32
    go true = omega arith
    go false = omega arith
fields_longest (Prepare check) = omega arith

pub entry_claims : EntryClaims
entry_claims =
    record {
      spelt_so = λ bytes rest e fits h. (entries.takes bytes (e, rest) fits h).0.parts;
      held = λ bytes rest e fits h. (entries.takes bytes (e, rest) fits h).1;
      read_again = entry_again;
      longest = λ e. omega (arith, fields_longest e.fields, length-append (long e.clock) (fields_bytes e.fields));
    }
