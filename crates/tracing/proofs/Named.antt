-- The event that is named is one of those accepted before, with its number. Assumes nothing.
use Rattle.std.proofs.Common.{◌≡◌, ℕ, ◌+◌, Bool, true, false, cond, List, [], ◌∷◌, ◌++◌, length, map, Some, None, Ok, Err, refl, sym, ap, subst, ◌∙◌, append_assoc, arith}
use Rattle.std.proofs.lemmas.List.{length-append}
use Rattle.coast_down.specs.declared.SpeedRange.TheVariants.{Faster, Slower}
use Rattle.locks.specs.declared.Event.{Event}
use Rattle.locks.specs.declared.Lock.{Lock}
use Rattle.locks.specs.declared.Lock.TheVariants.{NotWarm, Inactive, NotCalibrated, NotSignedIn, Password, Authority, Unsent, Unprepared}
use Rattle.locks.specs.Accepted.{Accepted}
use Rattle.locks.specs.Locks.{is_wrong, password_lock}
use Rattle.bench.specs.History.{Answer}
use Rattle.tracing.specs.declared.Told.{Told}
use Rattle.tracing.specs.Origins.{accepted_in, calibrates_or_voids, runs_or_voids, told_after, newest, fourth_try, trail_of, wanting, left_standing}
use Rattle.tracing.specs.Claims.{told_by, Given, Among}

-- One more in front.
abbrev behind : (y x : Told) (l : List Told) → Among x l → Among x (y ∷ l)
behind y x l a = record { after = y ∷ a.after; before = a.before; split = ap (λ (l : List Told). y ∷ l) a.split }

abbrev first : (x : Told) (l : List Told) → Among x (x ∷ l)
first x l = record { after = []; before = l; split = refl }

none_more : (sort : Accepted → Bool) (y : Told) (l : List Told) → sort (accepted_in y) ≡ false → newest sort l ≡ None → newest sort (y ∷ l) ≡ None
unfolding newest
none_more sort y l t e = rw t e

pub newest_is :
    (sort : Accepted → Bool) (l : List Told) (x : Told) →
    newest sort l ≡ Some x →
    (a : Among x l) × (sort (accepted_in x) ≡ true) × (newest sort a.after ≡ None)
unfolding newest
newest_is sort [] x e = absurd cc
newest_is sort (y ∷ l) x e = go (sort (accepted_in y)) refl (newest_is sort l x)
  where
    go :
        (b : Bool) →
        sort (accepted_in y) ≡ b →
        (newest sort l ≡ Some x → (a : Among x l) × (sort (accepted_in x) ≡ true) × (newest sort a.after ≡ None)) →
        (a : Among x (y ∷ l)) × (sort (accepted_in x) ≡ true) × (newest sort a.after ≡ None)
    go true t later =
        let here : newest sort (y ∷ l) ≡ Some y = rw t refl in
        let same : y ≡ x = cc (here, e) in
        subst (λ (z : Told). (a : Among z (y ∷ l)) × (sort (accepted_in z) ≡ true) × (newest sort a.after ≡ None)) same (first y l, t, refl)
    go false t later =
        let rest : newest sort (y ∷ l) ≡ newest sort l = rw t refl in
        let r = later (sym rest ∙ e) in
        (behind y x l r.0, r.1, none_more sort y r.0.after t r.2)

pub fourth_is :
    (l : List Told) (x : Told) →
    fourth_try l ≡ Some x →
    (a : Among x l) × (is_wrong x.event ≡ true) × (password_lock (map accepted_in a.before) ≡ false)
unfolding fourth_try
fourth_is [] x e = absurd cc
fourth_is (y ∷ l) x e = go (is_wrong y.event) refl (password_lock (map accepted_in l)) refl (fourth_is l x)
  where
    go :
        (w : Bool) →
        is_wrong y.event ≡ w →
        (p : Bool) →
        password_lock (map accepted_in l) ≡ p →
        (fourth_try l ≡ Some x → (a : Among x l) × (is_wrong x.event ≡ true) × (password_lock (map accepted_in a.before) ≡ false)) →
        (a : Among x (y ∷ l)) × (is_wrong x.event ≡ true) × (password_lock (map accepted_in a.before) ≡ false)
    go true t false q later =
        let here : fourth_try (y ∷ l) ≡ Some y = simp (t, q) in
        let same : y ≡ x = cc (here, e) in
        subst (λ (z : Told). (a : Among z (y ∷ l)) × (is_wrong z.event ≡ true) × (password_lock (map accepted_in a.before) ≡ false)) same (first y l, t, q)
    go true t true q later =
        let rest : fourth_try (y ∷ l) ≡ fourth_try l = simp (t, q) in
        let r = later (sym rest ∙ e) in
        (behind y x l r.0, r.1, r.2)
    go false t p q later =
        let rest : fourth_try (y ∷ l) ≡ fourth_try l = rw t refl in
        let r = later (sym rest ∙ e) in
        (behind y x l r.0, r.1, r.2)

-- Whatever the lock, one of the list is named.
of_newest : (sort : Accepted → Bool) (l : List Told) (x : Told) → newest sort l ≡ Some x → Among x l
of_newest sort l x e = (newest_is sort l x e).0

of_wanting : (validity now : ℕ) (l : List Told) (x : Told) → wanting validity now (trail_of l) ≡ Some x → Among x l
of_wanting validity now l x e = go _ _ e
  where
    go :
        (b c : Bool) →
        cond b (newest calibrates_or_voids l) (cond c (newest (runs_or_voids Slower) l) (newest (runs_or_voids Faster) l)) ≡ Some x →
        Among x l
    go true c e = of_newest _ l x e
    go false true e = of_newest _ l x e
    go false false e = of_newest _ l x e

among : (validity now : ℕ) (lock : Lock) (l : List Told) (x : Told) → left_standing validity now lock l ≡ Some x → Among x l
among validity now NotWarm l x e = of_newest _ l x e
among validity now Inactive l x e = of_newest _ l x e
among validity now NotCalibrated l x e = of_wanting validity now l x e
among validity now NotSignedIn l x e = of_newest _ l x e
among validity now Password l x e = (fourth_is l x e).0
among validity now Authority l x e = of_newest _ l x e
among validity now Unsent l x e = of_newest _ l x e
among validity now Unprepared l x e = of_newest _ l x e

-- Each that was told was given with its number.
AllGiven : List Event → List Answer → List Told → Type 0
AllGiven es answers [] = Unit {0}
AllGiven es answers (x ∷ l) = Given es answers x × AllGiven es answers l

-- Events and answers behind those given before change nothing of them.
given_more : (es fs : List Event) (answers bs : List Answer) (x : Told) → Given es answers x → Given (es ++ fs) (answers ++ bs) x
given_more es fs answers bs x g =
    record {
      before = g.before;
      after = g.after ++ fs;
      events = ap (λ (l : List Event). l ++ fs) g.events ∙ append_assoc g.before (x.event ∷ g.after) fs;
      number = g.number;
      answers_before = g.answers_before;
      answers_after = g.answers_after ++ bs;
      answered = ap (λ (l : List Answer). l ++ bs) g.answered ∙ append_assoc g.answers_before (Ok x.verdict ∷ g.answers_after) bs;
      same = g.same;
    }

all_more : (es fs : List Event) (answers bs : List Answer) (l : List Told) → AllGiven es answers l → AllGiven (es ++ fs) (answers ++ bs) l
unfolding AllGiven
all_more es fs answers bs [] h = tt
all_more es fs answers bs (x ∷ l) h = (given_more es fs answers bs x h.0, all_more es fs answers bs l h.1)

-- With the next event and its answer.
told_more :
    (es : List Event) (answers : List Answer) (l : List Told) (e : Event) (a : Answer) →
    length answers ≡ length es →
    AllGiven es answers l →
    AllGiven (es ++ e ∷ []) (answers ++ a ∷ []) (told_after (length es + 1) e a l)
unfolding AllGiven
told_more es answers l e (Ok verdict) n h = (
  record {
    before = es;
    after = [];
    events = refl;
    number = refl;
    answers_before = answers;
    answers_after = [];
    answered = refl;
    same = n;
  },
  all_more es (e ∷ []) answers (Ok verdict ∷ []) l h,
)
told_more es answers l e (Err r) n h = all_more es (e ∷ []) answers (Err r ∷ []) l h

told_given :
    (es : List Event) (answers : List Answer) (fs : List Event) (bs : List Answer) (l : List Told) →
    length answers ≡ length es →
    AllGiven es answers l →
    AllGiven (es ++ fs) (answers ++ bs) (told_by (length es + 1) l fs bs)
unfolding told_by
told_given es answers [] bs l n h = all_more es [] answers bs l h
told_given es answers (f ∷ fs) [] l n h = all_more es (f ∷ fs) answers [] l h
told_given es answers (f ∷ fs) (b ∷ bs) l n h =
    let m : length (answers ++ b ∷ []) ≡ length (es ++ f ∷ []) = omega (arith, n, length-append answers (b ∷ []), length-append es (f ∷ [])) in
    let later = told_given (es ++ f ∷ []) (answers ++ b ∷ []) fs bs (told_after (length es + 1) f b l) m (told_more es answers l f b n h) in
    let k : length (es ++ f ∷ []) + 1 ≡ length es + 1 + 1 = omega (arith, length-append es (f ∷ [])) in
    let next : List Told = told_after (length es + 1) f b l in
    let told : List Told = told_by (length (es ++ f ∷ []) + 1) next fs bs in
    subst (λ (n : ℕ). AllGiven (es ++ f ∷ fs) (answers ++ b ∷ bs) (told_by n next fs bs)) k
    (subst (λ (l : List Event). AllGiven l (answers ++ b ∷ bs) told) (append_assoc es (f ∷ []) fs)
    (subst (λ (l : List Answer). AllGiven ((es ++ f ∷ []) ++ fs) l told) (append_assoc answers (b ∷ []) bs) later))

all_among : (es : List Event) (answers : List Answer) (x : Told) (after before : List Told) → AllGiven es answers (after ++ x ∷ before) → Given es answers x
unfolding AllGiven
all_among es answers x [] before h = h.0
all_among es answers x (y ∷ after) before h = all_among es answers x after before h.1

pub named :
    (validity now : ℕ) (lock : Lock) (es : List Event) (answers : List Answer) (x : Told) →
    left_standing validity now lock (told_by 1 [] es answers) ≡ Some x →
    Given es answers x
unfolding AllGiven
named validity now lock es answers x e =
    let a : Among x (told_by 1 [] es answers) = among validity now lock (told_by 1 [] es answers) x e in
    all_among es answers x a.after a.before (subst (AllGiven es answers) a.split (told_given [] [] es answers [] refl tt))
