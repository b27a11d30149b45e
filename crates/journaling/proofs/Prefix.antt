-- No byte behind the longest journal's length and one more counts. Assumes nothing.
use Rattle.std.proofs.Common.{[], ◌≡◌, ℕ, zero, suc, ◌+◌, ◌*◌, ◌<◌, ◌≤◌, Bool, true, false, List, ◌++◌, length, take, drop, Result, Ok, Err, refl, sym, ap, ◌∙◌, arith, inl, inr}
use Rattle.std.specs.Prelude.{⊤}
use Rattle.std.proofs.lemmas.Bool.{cases_lt, ne_eqb}
use Rattle.std.proofs.lemmas.List.{length-append, length-take, take-append-drop, take_all}
use lib.Dec.{leb, eqb}
use Rattle.refusal.specs.declared.Refusal.TheVariants.{CountNotAllowed, EventUnfit, BytesLeft}
use Rattle.locks.specs.Locks.{parameters_fit}
use Rattle.journal_entry.specs.declared.Entry.{Entry}
use Rattle.journal_entry.specs.declared.Fault.{Fault}
use Rattle.journal_entry.specs.declared.Fault.TheVariants.{Short, Count, Parameters, Left}
use Rattle.journal_entry.specs.declared.Fault.TheVariants as fault
use Rattle.journal_entry.specs.Reading.{◌>>=◌, placed}
use Rattle.journal_entry.proofs.Taken.{Fine}
use Rattle.journal_entry.proofs.Enough.{later, extended, NotShort, Enough, Same, Bounded, end, along, weaker, bytes, shorts, longs, entries_bounded}
use Rattle.journaling.specs.declared.Shape.{Shape}
use Rattle.journaling.specs.Content.{Content}
use Rattle.journaling.specs.Reading.{must, heading_of, entries_of, nothing_left, journal_of, shape_in, read_journal}
use Rattle.journaling.specs.Claims.{IsRead, JudgedAlike}
use Rattle.journaling.proofs.Trips.{AllowedHeading, heading_allows, content}

-- A test between two steps.
test :
    {B : Type 0} (k : ℕ) (s q : List ℕ) (b : Bool) (d e : Fault) (f g : ⊤ → Result (B × List ℕ) Fault) →
    e ≡ later (length q) d →
    NotShort d →
    Same k s q (f _) (g _) →
    Same k s q (must b d >>= f) (must b e >>= g)
unfolding must
test k s q true d e f g l n t = t
test k s q false d e f g l n t = record { alike = ap Err l; enough = n }

headings : Bounded 11 heading_of
unfolding heading_of
headings s q h =
    along bytes s q 10 _ _ h λ a r1 h1.
    test 10 r1 q (eqb a 2) _ _ _ _ (ap Count (length-append s q)) tt
    (along longs r1 q 6 _ _ h1 λ v r2 h2.
    along shorts r2 q 4 _ _ h2 λ u r3 h3.
    test 4 r3 q (parameters_fit v u) _ _ _ _ refl tt
    (along longs r3 q 0 _ _ h3 λ n r4 h4.
    test 0 r4 q (leb n 1700) _ _ _ _ (ap Count (length-append r3 q)) tt (end _ r4 q)))

events : (n : ℕ) → Bounded (n * 37) (entries_of n)
unfolding entries_of
events zero s q h = end _ s q
events (suc n) s q h =
    let two : Same (37 + (n * 37 + 0)) s q (entries_of (suc n) s) (entries_of (suc n) (s ++ q)) =
    along entries_bounded s q (n * 37 + 0) _ _ (omega (arith, h)) λ first r1 h1.
    along (events n) r1 q 0 _ _ h1 λ others r2 h2.
    end _ r2 q
    in
    weaker (37 + (n * 37 + 0)) (suc n * 37) s q _ _ (omega arith) two

-- Bytes that are longer than every journal have a fault, and more bytes behind them the same.
record Faulty (p q : List ℕ) : Type 0 where
  is : Fault
  not_short : NotShort is
  here : journal_of p ≡ Err is
  longer : journal_of (p ++ q) ≡ Err (later (length q) is)

faulty : (p q : List ℕ) → 62911 < length p → Faulty p q
unfolding journal_of nothing_left must
faulty p q h =
    let t = headings p q (omega (arith, h)) in
    heading (heading_of p) refl t.alike t.enough (heading_allows p)
  where
    left :
        (x : Shape × List ℕ) (y : List Entry × List ℕ) →
        heading_of p ≡ Ok x →
        heading_of (p ++ q) ≡ Ok (x.0, x.1 ++ q) →
        entries_of x.0.count x.1 ≡ Ok y →
        entries_of x.0.count (x.1 ++ q) ≡ Ok (y.0, y.1 ++ q) →
        0 < length y.1 →
        Faulty p q
    left x y e f k l more =
        let many : eqb (length y.1) 0 ≡ false = ne_eqb _ _ (λ z. omega (arith, z, more)) in
        let many_more : eqb (length (y.1 ++ q)) 0 ≡ false = ne_eqb _ _ (λ z. omega (arith, z, more, length-append y.1 q)) in
        record {
          is = Left (length y.1);
          not_short = tt;
          here = rw (e, k, many) refl;
          longer = rw (f, l, many_more) (ap (λ (n : ℕ). Err (Left n)) (length-append y.1 q));
        }

    event :
        (x : Shape × List ℕ) →
        heading_of p ≡ Ok x →
        heading_of (p ++ q) ≡ Ok (x.0, x.1 ++ q) →
        62900 < length x.1 →
        x.0.count ≤ 1700 →
        (r : Result (List Entry × List ℕ) Fault) →
        entries_of x.0.count x.1 ≡ r →
        entries_of x.0.count (x.1 ++ q) ≡ extended q r →
        Enough (x.0.count * 37) x.1 r →
        Faulty p q
    event x e f long small (Ok y) k l n = left x y e f k l (omega (arith, n, long, small))
    event x e f long small (Err d) k l n = record { is = d; not_short = n; here = rw (e, k) refl; longer = rw (f, l) refl }

    heading :
        (r : Result (Shape × List ℕ) Fault) →
        heading_of p ≡ r →
        heading_of (p ++ q) ≡ extended q r →
        Enough 11 p r →
        Fine AllowedHeading r →
        Faulty p q
    heading (Ok x) e f n allows =
        let small : x.0.count ≤ 1700 = allows.1 in
        let long : 62900 < length x.1 = omega (arith, n, h) in
        let t = events x.0.count x.1 q (omega (arith, long, small)) in
        event x e f long small (entries_of x.0.count x.1) refl t.alike t.enough
    heading (Err d) e f n allows = record { is = d; not_short = n; here = rw e refl; longer = rw f refl }

-- So they are refused alike.
same_place : (d : Fault) (n k : ℕ) → NotShort d → placed (n + k) (later k d) ≡ placed n d
same_place Short n k s = absurd s
same_place (Count left) n k s = ap CountNotAllowed (omega arith)
same_place Parameters n k s = refl
same_place (fault.Event left) n k s = ap EventUnfit (omega arith)
same_place (Left left) n k s = ap BytesLeft (omega arith)

longer : (p q : List ℕ) → 62911 < length p → read_journal p ≡ read_journal (p ++ q)
unfolding read_journal
longer p q h =
    let f : Faulty p q = faulty p q h in
    let here : shape_in p ≡ Err f.is = rw f.here refl in
    let there : shape_in (p ++ q) ≡ Err (later (length q) f.is) = rw f.longer refl in
    let size : length (p ++ q) ≡ length p + length q = length-append p q in
    rw (here, there, size) (ap Err (sym (same_place f.is (length p) (length q) f.not_short)))

pub most : (s : List ℕ) (x : Content) → IsRead s x → length s ≤ 62911
most s x e =
    elim (cases_lt 62911 (length s)) [
      | inl lt ↦ let f : Faulty s [] = faulty s [] lt in let z : ◌≡◌ {A = ℕ} 0 1 = cc (f.here, e) in absurd (omega arith)
      | inr le ↦ le
    ]

alike : (s : List ℕ) (n : ℕ) → 62911 < n → read_journal (take n s) ≡ read_journal s
alike s n h =
    elim (cases_lt n (length s)) [
      | inl lt ↦
          longer (take n s) (drop n s) (omega (arith, h, length-take n s, lt)) ∙ ap read_journal (take-append-drop n s)
      | inr le ↦ ap read_journal (take_all n s le)
    ]

pub judged_alike : JudgedAlike
judged_alike s n h = (
  alike s n h,
  (λ shape e.
      let c = content s shape e in
      take_all n s (omega (arith, h, most s c.0 c.1))),
)
