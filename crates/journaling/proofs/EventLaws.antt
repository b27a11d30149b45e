-- Events one behind the other, the heading, and a whole journal: what is read is spelt so, and what is spelt so is read again. Assumes nothing.
use Rattle.std.proofs.Common.{◌≡◌, ℕ, zero, suc, ◌^◌, ◌<◌, ◌≤◌, Bool, true, false, List, [], ◌∷◌, ◌++◌, length, Result, Ok, Err, refl, sym, ap, subst, ◌∙◌, append_assoc, arith}
use Rattle.std.specs.Prelude.{⊤}
use Rattle.std.specs.List.{flat_map, AllByRecursion}
use Rattle.std.proofs.lemmas.Bool.{eqb-true}
use Rattle.std.proofs.lemmas.List.{append-nil, nil_from_length}
use Rattle.std.proofs.lemmas.List.Concat.{flat_map-cons}
use borrow.Author.Tests.{leb-true, le-leb}
use lib.Dec.{leb, eqb}
use Rattle.locks.specs.Locks.{parameters_fit}
use Rattle.journal_entry.specs.declared.Entry.{Entry}
use Rattle.journal_entry.specs.declared.Fault.{Fault}
use Rattle.journal_entry.specs.Claims.{IsBytes}
use Rattle.journal_entry.specs.Spelling.{short, long, entry_bytes}
use Rattle.journal_entry.specs.Spelling as entry
use Rattle.journal_entry.specs.Reading.{◌>>=◌}
use Rattle.journal_entry.proofs.Taken.{Takes, both, nothing, on, on_answer, resume, Fine, fine_at, one, bytes, shorts, longs}
use Rattle.journal_entry.proofs.EntryLaws.{entries}
use Rattle.journaling.specs.declared.Shape.{Shape}
use Rattle.journaling.specs.Content.{Content, Held, heading_bytes, journal_bytes}
use Rattle.journaling.specs.Reading.{must, heading_of, entries_of, nothing_left, made_of, journal_of}

-- A test that is passed or refuses.
pub on_must :
    {B : Type 0} (P : Result B Fault → Type 0) (b : Bool) (d : Fault) (f : ⊤ → Result B Fault) →
    P (Err d) →
    (b ≡ true → P (f _)) →
    P (must b d >>= f)
unfolding must
on_must P true d f bad good = good refl
on_must P false d f bad good = bad

passed : {B : Type 0} (b : Bool) (d : Fault) (f : ⊤ → Result B Fault) (y : Result B Fault) → b ≡ true → f _ ≡ y → (must b d >>= f) ≡ y
unfolding must
passed b d f y e h = rw e h

-- The events' bytes, and what holds of events that are read.
abbrev spell : List Entry → List ℕ
spell es = flat_map entry_bytes es

abbrev AllHeld : List Entry → Type 0
AllHeld = AllByRecursion entry.Held

-- What reading n events answers.
abbrev EventsTaken : ℕ → List ℕ → List Entry × List ℕ → Type 0
EventsTaken n s x = Takes s (spell x.0) x.1 × AllHeld x.0 × (length x.0 ≡ n)

events_fine : (n : ℕ) (s : List ℕ) → IsBytes s → Fine (EventsTaken n s) (entries_of n s)
unfolding entries_of
events_fine zero s fits = (nothing fits, tt, refl)
events_fine (suc n) s fits =
    let P : Result (List Entry × List ℕ) Fault → Type 0 = Fine (EventsTaken (suc n) s) in
    on entries P (λ d. tt) s _ fits λ e re te he.
    on_answer P (λ d. tt) (entries_of n re) _ λ x k.
    let t : EventsTaken n re x = fine_at (EventsTaken n re) x (events_fine n re te.rest_fits) k in
    (rw flat_map-cons (both te t.0), (he, t.1), ap suc t.2)

events_again : (es : List Entry) (rest : List ℕ) → AllHeld es → entries_of (length es) (spell es ++ rest) ≡ Ok (es, rest)
unfolding entries_of
events_again [] rest h = refl
events_again (e ∷ es) rest h =
    let regrouped : spell (e ∷ es) ++ rest ≡ entry_bytes e ++ (spell es ++ rest) =
    ap (λ (x : List ℕ). x ++ rest) (flat_map-cons entry_bytes e es) ∙ append_assoc (entry_bytes e) (spell es) rest
    in
    ap (entries_of (suc (length es))) regrouped
    ∙ resume entries e (spell es ++ rest) _ _ h.0 (rw (events_again es rest h.1) refl)

-- The heading of a shape.
abbrev shape_bytes : Shape → List ℕ
shape_bytes h = one 2 ++ (long h.validity ++ (short h.limit ++ long h.count))

-- What holds of a heading that is read.
pub record Allowed (h : Shape) : Type 0 where
  pub validity : h.validity < 2 ^ 32
  pub limit : h.limit < 2 ^ 16
  pub fit : parameters_fit h.validity h.limit ≡ true
  pub count : h.count ≤ 1700

abbrev HeadingTaken : List ℕ → Shape × List ℕ → Type 0
HeadingTaken s x = Takes s (shape_bytes x.0) x.1 × Allowed x.0

heading_fine : (s : List ℕ) → IsBytes s → Fine (HeadingTaken s) (heading_of s)
unfolding heading_of
heading_fine s fits =
    let P : Result (Shape × List ℕ) Fault → Type 0 = Fine (HeadingTaken s) in
    let bad : (d : Fault) → P (Err d) = λ d. tt in
    on bytes P bad s _ fits λ a ra ta ha.
    on_must P (eqb a 2) _ _ tt λ two.
    on longs P bad ra _ ta.rest_fits λ b rb tb hb.
    on shorts P bad rb _ tb.rest_fits λ c rc tc hc.
    on_must P (parameters_fit b c) _ _ tt λ fit.
    on longs P bad rc _ tc.rest_fits λ d rd td hd.
    on_must P (leb d 1700) _ _ tt λ few.
    let first : Takes s (one 2) ra = subst (λ (n : ℕ). Takes s (one n) ra) (eqb-true a 2 two) ta in
    (both first (both tb (both tc td)), record { validity = hb; limit = hc; fit = fit; count = leb-true d 1700 few })

heading_again : (h : Shape) (rest : List ℕ) → Allowed h → heading_of (shape_bytes h ++ rest) ≡ Ok (h, rest)
unfolding heading_of
heading_again h rest a =
    let r3 : List ℕ = long h.count ++ rest in
    let r2 : List ℕ = short h.limit ++ r3 in
    let r1 : List ℕ = long h.validity ++ r2 in
    let small : h.count < 2 ^ 32 = omega (arith, a.count) in
    resume bytes 2 r1 _ _ (omega arith)
    (passed (eqb 2 2) _ _ _ refl
    (resume longs h.validity r2 _ _ a.validity
    (resume shorts h.limit r3 _ _ a.limit
    (passed (parameters_fit h.validity h.limit) _ _ _ a.fit
    (resume longs h.count rest _ _ small
    (passed (leb h.count 1700) _ _ _ (le-leb h.count 1700 a.count) refl))))))

-- What holds of the content of a journal that is read.
pub record JournalTaken (s : List ℕ) (x : Content) : Type 0 where
  pub held : Held x
  pub fit : parameters_fit x.validity x.limit ≡ true
  pub few : length x.entries ≤ 1700
  pub bytes : journal_bytes x ≡ s

-- A heading's bytes and its events' with none left are a journal's.
spelt_all :
    (s : List ℕ) (h : Shape) (es : List Entry) (left : List ℕ) →
    left ≡ [] →
    length es ≡ h.count →
    Takes s (shape_bytes h ++ spell es) left →
    journal_bytes (made_of h es) ≡ s
unfolding journal_bytes
spelt_all s h es left none count t =
    let all : s ≡ shape_bytes h ++ spell es = t.parts ∙ ap (λ (l : List ℕ). (shape_bytes h ++ spell es) ++ l) none ∙ append-nil (shape_bytes h ++ spell es) in
    let head : heading_bytes (made_of h es) ≡ shape_bytes h = ap (λ (n : ℕ). one 2 ++ (long h.validity ++ (short h.limit ++ long n))) count in
    ap (λ (l : List ℕ). l ++ spell es) head ∙ sym all

journal_fine : (s : List ℕ) → IsBytes s → Fine (JournalTaken s) (journal_of s)
unfolding journal_of nothing_left
journal_fine s fits =
    let P : Result Content Fault → Type 0 = Fine (JournalTaken s) in
    on_answer P (λ d. tt) (heading_of s) _ λ h hk.
    let ht : HeadingTaken s h = fine_at (HeadingTaken s) h (heading_fine s fits) hk in
    on_answer P (λ d. tt) (entries_of h.0.count h.1) _ λ x k.
    let t : EventsTaken h.0.count h.1 x = fine_at (EventsTaken h.0.count h.1) x (events_fine h.0.count h.1 ht.0.rest_fits) k in
    on_must P (eqb (length x.1) 0) _ _ tt λ ended.
    let none : x.1 ≡ [] = nil_from_length x.1 (eqb-true _ _ ended) in
    record {
      held = record { validity = ht.1.validity; limit = ht.1.limit; entries = t.1 };
      fit = ht.1.fit;
      few = omega (arith, t.2, ht.1.count);
      bytes = spelt_all s h.0 x.0 x.1 none t.2 (both ht.0 t.0);
    }

pub journal_taken : (s : List ℕ) (x : Content) → IsBytes s → journal_of s ≡ Ok x → JournalTaken s x
journal_taken s x fits e = fine_at (JournalTaken s) x (journal_fine s fits) e

-- What is spelt is read again.
pub journal_again :
    (x : Content) →
    Held x →
    parameters_fit x.validity x.limit ≡ true →
    length x.entries ≤ 1700 →
    journal_of (journal_bytes x) ≡ Ok x
unfolding journal_of journal_bytes nothing_left
journal_again x h fit few =
    let shape : Shape = record { validity = x.validity; limit = x.limit; count = length x.entries } in
    let heading : heading_of (journal_bytes x) ≡ Ok (shape, spell x.entries) =
    heading_again shape (spell x.entries) (record { validity = h.validity; limit = h.limit; fit = fit; count = few })
    in
    let events : entries_of (length x.entries) (spell x.entries) ≡ Ok (x.entries, []) =
    ap (entries_of (length x.entries)) (sym (append-nil (spell x.entries))) ∙ events_again x.entries [] h.entries
    in
    rw (heading, events) (passed true _ _ _ refl refl)
