-- Both round trips, and what the reader answers and gives of a journal. Assumes nothing.
use Rattle.std.proofs.Common.{◌≡◌, ℕ, zero, suc, ◌+◌, ◌≤◌, true, List, ◌∷◌, ◌++◌, length, take, drop, Result, Ok, Err, refl, sym, ap, subst, ◌∙◌, zero-add, arith}
use Rattle.std.specs.Int.{w16, w32}
use Rattle.std.proofs.lemmas.List.{take_at, drop_at, drop-drop}
use borrow.Author.Tests.{leb-true, le-leb}
use lib.Dec.{leb, eqb}
use Rattle.refusal.specs.declared.Refusal.{Refusal}
use Rattle.refusal.specs.Checking.{Check, fine, ◌⨾◌}
use Rattle.refusal.proofs.Checks.{after_fine, fine_first, fine_second, need_true, need_holds}
use Rattle.locks.specs.Locks.{parameters_fit}
use Rattle.journal_entry.specs.declared.Entry.{Entry}
use Rattle.journal_entry.specs.declared.Fault.{Fault}
use Rattle.journal_entry.specs.Reading.{◌>>=◌, byte_at, number_at, entry_of, told}
use Rattle.journal_entry.proofs.Taken.{Fine, fine_at, on_answer, number_rest, byte_rest}
use Rattle.journaling.specs.declared.Shape.{Shape}
use Rattle.journaling.specs.Content.{Content, journal_bytes, shape_of}
use Rattle.journaling.specs.Reading.{heading_of, entries_of, nothing_left, made_of, journal_of, read_journal, entries_from, entries_in}
use Rattle.journaling.specs.Writing.{judge_content, space_check, written_as, write_journal, output_of, written_output}
use Rattle.journaling.specs.Claims.{Allowed, IsRead, IsWritten, ReadWrite, WriteRead, ReadIfWritten, Answers, OutputKept}
use Rattle.journaling.proofs.Counted.{counted}
use Rattle.journaling.proofs.EventLaws.{on_must, JournalTaken, journal_taken, journal_again}
use Rattle.journaling.proofs.Written.{few, whole_as, whole_leaves}

-- A content of fit V and U and at most 1,700 events is refused by nothing but the space.
judged_fine : (x : Content) → parameters_fit x.validity x.limit ≡ true → length x.entries ≤ 1700 → judge_content x ≡ fine
unfolding judge_content
judged_fine x fit few = after_fine (need_holds _ fit) ∙ need_holds _ (le-leb _ _ few)

judged_fit : (x : Content) → judge_content x ≡ fine → parameters_fit x.validity x.limit ≡ true
unfolding judge_content
judged_fit x j = need_true _ _ (fine_first _ _ j)

pub read_write : ReadWrite
read_write s out x fits e room =
    let t : JournalTaken s x = journal_taken s x fits e in
    let j : judge_content x ≡ fine = judged_fine x t.fit t.few in
    let size : length (journal_bytes x) ≡ length s = ap length t.bytes in
    let enough : length (journal_bytes x) ≤ length out = omega (arith, room, size) in (
      whole_as x j out enough ∙ ap Ok size,
      whole_leaves x j out enough
          ∙ ap (λ (l : List ℕ). l ++ drop (0 + length l) out) t.bytes
          ∙ ap (λ (n : ℕ). s ++ drop n out) (zero-add (length s)),
    )

-- A content that was written was refused by nothing.
record WasWritten (space : ℕ) (x : Content) : Type 0 where
  judged : judge_content x ≡ fine
  room : length (journal_bytes x) ≤ space

was_written : (space n : ℕ) (x : Content) → write_journal space x ≡ Ok n → WasWritten space x
unfolding write_journal space_check
was_written space n x e = go (judge_content x ⨾ space_check space x) refl e
  where
    go : (c : Check) → judge_content x ⨾ space_check space x ≡ c → written_as c x ≡ Ok n → WasWritten space x
    go (Ok _) k e = record { judged = fine_first _ _ k; room = leb-true _ _ (need_true _ _ (fine_second _ _ k)) }
    go (Err r) k e = absurd cc

pub write_read : WriteRead
write_read x out held e =
    let w : WasWritten (length out) x = was_written (length out) (length (journal_bytes x)) x e in
    let left : written_output x out ≡ journal_bytes x ++ drop (0 + length (journal_bytes x)) out = whole_leaves x w.judged out w.room in
    let front : take (length (journal_bytes x)) (written_output x out) ≡ journal_bytes x =
    ap (take (length (journal_bytes x))) left ∙ take_at (journal_bytes x) (drop (0 + length (journal_bytes x)) out) (length (journal_bytes x)) refl
    in
    ap journal_of front ∙ journal_again x held (judged_fit x w.judged) (few x w.judged)

pub read_if_written : ReadIfWritten
read_if_written s x fits = (
  (λ e.
      let t : JournalTaken s x = journal_taken s x fits e in
      let size : length (journal_bytes x) ≡ length s = ap length t.bytes in
      let j : judge_content x ≡ fine = judged_fine x t.fit t.few in
      (t.held, go s size j, t.bytes)),
  (λ w.
      let k : WasWritten (length s) x = was_written (length s) (length (journal_bytes x)) x w.1 in
      ap journal_of (sym w.2) ∙ journal_again x w.0 (judged_fit x k.judged) (few x k.judged)),
)
  where
    go : (s : List ℕ) → length (journal_bytes x) ≡ length s → judge_content x ≡ fine → IsWritten (length s) x
    go s size j = whole_as x j s (omega (arith, size))

-- The events as far as they can be read are those that were read.
events_given : (n : ℕ) (s : List ℕ) → Fine {A = List Entry × List ℕ} (λ x. entries_from n s ≡ x.0) (entries_of n s)
unfolding entries_of entries_from
events_given zero s = refl
events_given (suc n) s =
    let P : Result (List Entry × List ℕ) Fault → Type 0 = Fine {A = List Entry × List ℕ} (λ x. entries_from (suc n) s ≡ x.0) in
    on_answer P (λ d. tt) (entry_of s) _ λ first e.
    on_answer P (λ d. tt) (entries_of n first.1) _ λ others k.
    let given : entries_from n first.1 ≡ others.0 =
    fine_at (λ (x : List Entry × List ℕ). entries_from n first.1 ≡ x.0) others (events_given n first.1) k
    in
    rw e (ap (λ (l : List Entry). first.0 ∷ l) given)

-- The events stand behind the first 11 bytes.
heading_end : (s : List ℕ) → Fine {A = Shape × List ℕ} (λ x. drop 11 s ≡ x.1) (heading_of s)
unfolding heading_of
heading_end s =
    let P : Result (Shape × List ℕ) Fault → Type 0 = Fine {A = Shape × List ℕ} (λ x. drop 11 s ≡ x.1) in
    let bad : (d : Fault) → P (Err d) = λ d. tt in
    on_answer P bad (byte_at s) _ λ a ea.
    on_must P (eqb a.0 2) _ _ tt λ two.
    on_answer P bad (number_at w32 a.1) _ λ b eb.
    on_answer P bad (number_at w16 b.1) _ λ c ec.
    on_must P (parameters_fit b.0 c.0) _ _ tt λ fit.
    on_answer P bad (number_at w32 c.1) _ λ d ed.
    on_must P (leb d.0 1700) _ _ tt λ few.
    let to_b : b.1 ≡ drop 5 s = number_rest w32 a.1 b eb ∙ ap (drop 4) (byte_rest s a ea) ∙ drop-drop 4 1 s in
    let to_c : c.1 ≡ drop 7 s = number_rest w16 b.1 c ec ∙ ap (drop 2) to_b ∙ drop-drop 2 5 s in
    sym (number_rest w32 c.1 d ed ∙ ap (drop 4) to_c ∙ drop-drop 4 7 s)

abbrev done : Content → Result Content Fault
done x = Ok x

content_is : (x y : Content) → done x ≡ done y → x ≡ y
content_is x y e = cc

-- What a heading that is read allows.
abbrev pub AllowedHeading : Shape × List ℕ → Type 0
AllowedHeading x = (parameters_fit x.0.validity x.0.limit ≡ true) × (x.0.count ≤ 1700)

pub heading_allows : (s : List ℕ) → Fine AllowedHeading (heading_of s)
unfolding heading_of
heading_allows s =
    let P : Result (Shape × List ℕ) Fault → Type 0 = Fine AllowedHeading in
    let bad : (d : Fault) → P (Err d) = λ d. tt in
    on_answer P bad (byte_at s) _ λ a ea.
    on_must P (eqb a.0 2) _ _ tt λ two.
    on_answer P bad (number_at w32 a.1) _ λ b eb.
    on_answer P bad (number_at w16 b.1) _ λ c ec.
    on_must P (parameters_fit b.0 c.0) _ _ tt λ fit.
    on_answer P bad (number_at w32 c.1) _ λ d ed.
    on_must P (leb d.0 1700) _ _ tt λ few.
    (fit, leb-true d.0 1700 few)

pub allowed : (s : List ℕ) (x : Content) → IsRead s x → Allowed x
unfolding journal_of nothing_left
allowed s x =
    let P : Result Content Fault → Type 0 = λ r. r ≡ Ok x → Allowed x in
    let bad : (d : Fault) → P (Err d) = λ d e. absurd cc in
    on_answer P bad (heading_of s) _ λ h hk.
    on_answer P bad (entries_of h.0.count h.1) _ λ es k.
    on_must P (eqb (length es.1) 0) _ _ (λ e. absurd cc) λ ended e.
    let a = fine_at AllowedHeading h (heading_allows s) hk in
    let count : length es.0 ≡ h.0.count = fine_at (λ (y : List Entry × List ℕ). length y.0 ≡ h.0.count) es (counted h.0.count h.1) k in
    let whole : Allowed (made_of h.0 es.0) = record { fit = a.0; few = omega (arith, a.1, count) } in
    subst Allowed (content_is (made_of h.0 es.0) x e) whole

pub answers : (s : List ℕ) (x : Content) → IsRead s x → Answers s x
unfolding journal_of nothing_left read_journal
answers s x e = (read s x e, given s x e)
  where
    read : (s : List ℕ) (x : Content) → IsRead s x → read_journal s ≡ Ok (shape_of x)
    read s x e = ap (λ (r : Result Content Fault). told (length s) (r >>= λ c. Ok (shape_of c))) e

    given : (s : List ℕ) (x : Content) → IsRead s x → entries_in s (length x.entries) ≡ x.entries
    given s x =
        let P : Result Content Fault → Type 0 = λ r. r ≡ Ok x → entries_in s (length x.entries) ≡ x.entries in
        let bad : (d : Fault) → P (Err d) = λ d e. absurd cc in
        on_answer P bad (heading_of s) _ λ h hk.
        on_answer P bad (entries_of h.0.count h.1) _ λ es k.
        on_must P (eqb (length es.1) 0) _ _ (λ e. absurd cc) λ ended e.
        let rest : drop 11 s ≡ h.1 = fine_at (λ (y : Shape × List ℕ). drop 11 s ≡ y.1) h (heading_end s) hk in
        let same : es.0 ≡ x.entries = ap (λ (c : Content). c.entries) (content_is (made_of h.0 es.0) x e) in
        let count : length es.0 ≡ h.0.count = fine_at (λ (y : List Entry × List ℕ). length y.0 ≡ h.0.count) es (counted h.0.count h.1) k in
        let all : entries_from h.0.count h.1 ≡ es.0 = fine_at (λ (y : List Entry × List ℕ). entries_from h.0.count h.1 ≡ y.0) es (events_given h.0.count h.1) k in
        rw (rest, ← same, count) all

pub content : (s : List ℕ) (h : Shape) → read_journal s ≡ Ok h → (x : Content) × IsRead s x × (h ≡ shape_of x)
unfolding read_journal
content s h e = go (journal_of s) refl e
  where
    go : (r : Result Content Fault) → journal_of s ≡ r → told (length s) (r >>= λ x. Ok (shape_of x)) ≡ Ok h → (x : Content) × IsRead s x × (h ≡ shape_of x)
    go (Ok x) k e = (x, k, cc)
    go (Err d) k e = absurd cc

pub output_kept : OutputKept
unfolding written_output
output_kept =
    record {
      refused = λ x out r e. ap (λ (w : Result ℕ Refusal). output_of w x out) e;
      beyond = λ x out n e. kept x out n e;
    }
  where
    kept : (x : Content) (out : List ℕ) (n : ℕ) → write_journal (length out) x ≡ Ok n → drop n (output_of (write_journal (length out) x) x out) ≡ drop n out
    kept x out n e =
        let w : WasWritten (length out) x = was_written (length out) n x e in
        let same : n ≡ length (journal_bytes x) = cc (e, whole_as x w.judged out w.room) in
        ap (λ (r : Result ℕ Refusal). drop n (output_of r x out)) e
        ∙ drop_at (journal_bytes x) (drop n out) n (sym same)
