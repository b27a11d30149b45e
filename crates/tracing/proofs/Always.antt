-- Where lock 5, 6 or 7 stands, there is an event to name. Assumes nothing.
use Rattle.std.proofs.Common.{◌≡◌, ℕ, ◌≤◌, Bool, true, false, not, ◌&&◌, ◌||◌, leb, List, [], ◌∷◌, map, Some, None, Option, refl, sym, ap, ◌∙◌, arith}
use mathlib.Core.Bool.{false≢true}
use borrow.Author.Tests.{eqb-true}
use Rattle.refusal.specs.Choice.{pick}
use Rattle.loaded_test.specs.declared.Verdict.{Verdict}
use Rattle.locks.specs.declared.Kind.TheVariants as kind
use Rattle.locks.specs.Accepted.{Accepted, is_kind, since, any}
use Rattle.locks.specs.Locks.{is_wrong, unlocks, row_end, wrong_tries, wrong_row, password_lock, authority_lock, with_verdict, verdicts_in, unsent_in, unsent_lock}
use Rattle.tracing.specs.declared.Told.{Told}
use Rattle.tracing.specs.Origins.{accepted_in, newest, judges, fourth_try}

newest_behind : (sort : Accepted → Bool) (y : Told) (l : List Told) → sort (accepted_in y) ≡ false → newest sort (y ∷ l) ≡ newest sort l
unfolding newest
newest_behind sort y l t = simp t

-- One of a sort since an event of another: the newest of the sort is there.
any_named : (sort end : Accepted → Bool) (l : List Told) → any sort (since end (map accepted_in l)) ≡ true → (x : Told) × (newest sort l ≡ Some x)
unfolding any since pick newest
any_named sort end [] h = absurd (false≢true h)
any_named sort end (y ∷ l) h = go (end (accepted_in y)) (sort (accepted_in y)) refl h (any_named sort end l)
  where
    go :
        (e s : Bool) →
        sort (accepted_in y) ≡ s →
        any sort (pick e [] (accepted_in y ∷ since end (map accepted_in l))) ≡ true →
        (any sort (since end (map accepted_in l)) ≡ true → (x : Told) × (newest sort l ≡ Some x)) →
        (x : Told) × (newest sort (y ∷ l) ≡ Some x)
    go true s t h later = absurd (false≢true h)
    go false true t h later = (y, simp t)
    go false false t h later =
        let rest : (sort (accepted_in y) || any sort (since end (map accepted_in l))) ≡ any sort (since end (map accepted_in l)) = simp t in
        let r = later (sym rest ∙ h) in
        (r.0, newest_behind sort y l t ∙ r.1)

pub authority_named : (l : List Told) → authority_lock (map accepted_in l) ≡ true → (x : Told) × (newest (is_kind kind.AuthorityLock) l ≡ Some x)
unfolding authority_lock
authority_named l h = any_named (is_kind kind.AuthorityLock) unlocks l h

-- A verdict that is counted is one.
counted_judges : (l : List Accepted) → 1 ≤ verdicts_in l → any judges l ≡ true
unfolding verdicts_in any with_verdict
counted_judges [] h = absurd (omega (arith, h))
counted_judges (a ∷ l) h = go a.verdict refl h (counted_judges l)
  where
    go : (v : Option Verdict) → a.verdict ≡ v → 1 ≤ with_verdict v (verdicts_in l) → (1 ≤ verdicts_in l → any judges l ≡ true) → any judges (a ∷ l) ≡ true
    go (Some x) e h later = simp e
    go None e h later =
        let rest : any judges (a ∷ l) ≡ any judges l = simp e in
        rest ∙ later h

pub unsent_named : (limit : ℕ) (l : List Told) → 1 ≤ limit → unsent_lock limit (map accepted_in l) ≡ true → (x : Told) × (newest judges l ≡ Some x)
unfolding unsent_lock unsent_in
unsent_named limit l u h =
    any_named judges (is_kind kind.Upload) l
    (counted_judges (since (is_kind kind.Upload) (map accepted_in l)) (omega (arith, u, eqb-true _ _ h)))

both_hold : (u x q : Bool) → u ≡ false → x ≡ true → (not u && (x || q)) ≡ true
both_hold u x q h k = rw (h, k) refl

-- Four in a row lock.
row_locks : (l : List Accepted) → leb 4 (wrong_row l) ≡ true → password_lock l ≡ true
unfolding wrong_row wrong_tries since pick password_lock
row_locks [] h = absurd (false≢true h)
row_locks (a ∷ l) h = go (unlocks a) refl
  where
    go : (u : Bool) → unlocks a ≡ u → password_lock (a ∷ l) ≡ true
    go true u =
        let none : leb 4 (wrong_row (a ∷ l)) ≡ false = simp u in
        absurd (false≢true (sym none ∙ h))
    go false u = both_hold (unlocks a) (leb 4 (wrong_row (a ∷ l))) (password_lock l) u h

-- An event that is no wrong try makes no row longer.
row_before : (a : Accepted) (l : List Accepted) → is_wrong a.event ≡ false → leb 4 (wrong_row (a ∷ l)) ≡ true → leb 4 (wrong_row l) ≡ true
unfolding wrong_row wrong_tries since pick
row_before a l w h = go (row_end a) h
  where
    go : (e : Bool) → leb 4 (wrong_tries (pick e [] (a ∷ since row_end l))) ≡ true → leb 4 (wrong_row l) ≡ true
    go true h = absurd (false≢true h)
    go false h =
        let same : wrong_tries (a ∷ since row_end l) ≡ wrong_tries (since row_end l) = simp w in
        ap (leb 4) (sym same) ∙ h

first_holds : (u x : Bool) → (not u && (x || false)) ≡ true → x ≡ true
first_holds true x h = absurd (false≢true h)
first_holds false true h = refl
first_holds false false h = h

pub password_named : (l : List Told) → password_lock (map accepted_in l) ≡ true → (x : Told) × (fourth_try l ≡ Some x)
unfolding password_lock fourth_try
password_named [] h = absurd (false≢true h)
password_named (y ∷ l) h = go (password_lock (map accepted_in l)) refl (is_wrong y.event) refl (password_named l)
  where
    go :
        (p : Bool) →
        password_lock (map accepted_in l) ≡ p →
        (w : Bool) →
        is_wrong y.event ≡ w →
        (password_lock (map accepted_in l) ≡ true → (x : Told) × (fourth_try l ≡ Some x)) →
        (x : Told) × (fourth_try (y ∷ l) ≡ Some x)
    go true p false w later =
        let r = later p in
        let rest : fourth_try (y ∷ l) ≡ fourth_try l = simp w in
        (r.0, rest ∙ r.1)
    go true p true w later =
        let r = later p in
        let rest : fourth_try (y ∷ l) ≡ fourth_try l = simp (w, p) in
        (r.0, rest ∙ r.1)
    go false p true w later = (y, simp (w, p))
    go false p false w later =
        let a : Accepted = accepted_in y in
        let m : List Accepted = map accepted_in l in
        let four : leb 4 (wrong_row (a ∷ m)) ≡ true =
        first_holds (unlocks a) (leb 4 (wrong_row (a ∷ m)))
        (ap (λ (q : Bool). not (unlocks a) && (leb 4 (wrong_row (a ∷ m)) || q)) (sym p) ∙ h)
        in
        absurd (false≢true (sym p ∙ row_locks m (row_before a m w four)))
