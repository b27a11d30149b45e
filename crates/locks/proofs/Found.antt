-- A list in which one accepted event is so and none after it is such, by its first element. Assumes nothing.
use mathlib.Core.Bool.{Bool, true, false, not, ◌&&◌, ◌||◌, false≢true}
use mathlib.Core.Path.{◌≡◌, refl, ap, sym, subst, ◌∙◌}
use mathlib.Core.List.{List, [], ◌∷◌, ◌++◌, nil≢cons, head-eq_of_cons-eq, tail-eq_of_cons-eq}
use mathlib.Core.Logic.{◌⊎◌, inl, inr, ◌↔◌}
use Rattle.refusal.proofs.Exactly.{and_exactly, or_exactly, not_exactly}
use Rattle.locks.specs.Accepted.{Accepted}
use Rattle.locks.specs.Plain.{NoneIs, Has}

module _ (P Q : Accepted → Type 0) (R : List Accepted → Type 0) where
  -- Such an event, with what holds of those before it.
  abbrev pub Found : List Accepted → Type 0
  Found l = (x : Has P Q l) × R x.before

  pub none_found : Found [] → ⊥
  none_found x = go x.0.after x.0.split
    where
      go : (n : List Accepted) → [] ≡ n ++ x.0.event ∷ x.0.before → ⊥
      go [] h = nil≢cons h
      go (b ∷ n) h = nil≢cons h

  pub found_here : (a : Accepted) (l : List Accepted) → P a → R l → Found (a ∷ l)
  found_here a l p r = (record { after = []; event = a; before = l; split = refl; is = p; none_after = tt }, r)

  pub found_later : (a : Accepted) (l : List Accepted) → (Q a → ⊥) → Found l → Found (a ∷ l)
  found_later a l q x = (
    record {
      after = a ∷ x.0.after;
      event = x.0.event;
      before = x.0.before;
      split = ap (◌∷◌ a) x.0.split;
      is = x.0.is;
      none_after = (q, x.0.none_after);
    },
    x.1,
  )

  pub found_first : (a : Accepted) (l : List Accepted) → Found (a ∷ l) → (P a × R l) ⊎ ((Q a → ⊥) × Found l)
  found_first a l x = go x.0.after x.0.split x.0.none_after
    where
      go :
          (n : List Accepted) →
          a ∷ l ≡ n ++ x.0.event ∷ x.0.before →
          NoneIs Q n →
          (P a × R l) ⊎ ((Q a → ⊥) × Found l)
      go [] h q = inl (subst P (sym (head-eq_of_cons-eq h)) x.0.is, subst R (sym (tail-eq_of_cons-eq h)) x.1)
      go (b ∷ n) h q =
          inr (
            subst (λ (c : Accepted). Q c → ⊥) (sym (head-eq_of_cons-eq h)) q.0,
            (
              record {
                after = n;
                event = x.0.event;
                before = x.0.before;
                split = tail-eq_of_cons-eq h;
                is = x.0.is;
                none_after = q.1;
              },
              x.1,
            ),
          )

  -- A test of a list that goes by the first element so is true exactly where there is such an event.
  pub found_exactly :
      (f r : List Accepted → Bool) (x y : Accepted → Bool) →
      f [] ≡ false →
      ((a : Accepted) (l : List Accepted) → f (a ∷ l) ≡ x a && r l || not (y a) && f l) →
      ((a : Accepted) → (x a ≡ true) ↔ P a) →
      ((a : Accepted) → (y a ≡ true) ↔ Q a) →
      ((l : List Accepted) → (r l ≡ true) ↔ R l) →
      (l : List Accepted) →
      (f l ≡ true) ↔ Found l
  found_exactly f r x y none step p q before [] = (
    (λ h. absurd (false≢true (sym none ∙ h))),
    (λ h. absurd (none_found h)),
  )
  found_exactly f r x y none step p q before (a ∷ l) = go (found_exactly f r x y none step p q before l)
    where
      first :
          (f l ≡ true) ↔ Found l →
          (x a && r l || not (y a) && f l ≡ true) ↔ ((P a × R l) ⊎ ((Q a → ⊥) × Found l))
      first rest =
          or_exactly (x a && r l) (not (y a) && f l)
          (and_exactly (x a) (r l) (p a) (before l))
          (and_exactly (not (y a)) (f l) (not_exactly (y a) (q a)) rest)

      there : (P a × R l) ⊎ ((Q a → ⊥) × Found l) → Found (a ∷ l)
      there (inl h) = found_here a l h.0 h.1
      there (inr h) = found_later a l h.0 h.1

      go : (f l ≡ true) ↔ Found l → (f (a ∷ l) ≡ true) ↔ Found (a ∷ l)
      go rest = (
        (λ h. there ((first rest).0 (sym (step a l) ∙ h))),
        (λ h. step a l ∙ (first rest).1 (found_first a l h)),
      )
