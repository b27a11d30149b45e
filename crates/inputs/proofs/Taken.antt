-- What two reads, one after the other, give together. Assumes nothing.
use Rattle.std.proofs.Common.{ℕ, ◌+◌, ◌≡◌, List, Some, None, IfSome, Result, Ok, drop, refl, ap, subst, ◌∙◌}
use Rattle.std.specs.declared.option.Option.{Option}
use Rattle.std.proofs.lemmas.List.{drop-drop}
use Rattle.inputs.specs.Inputs.{Takes}

-- What `Takes` says of an answer v.
abbrev pub Took : {A : Type 0} → ℕ → (List ℕ → A) → Option (List ℕ) → A → Option (List ℕ) → Type 0
Took n of old v new = IfSome old (λ xs. (v ≡ of xs) × (new ≡ Some (drop n xs)))

pub took : {A E : Type 0} (n : ℕ) (of : List ℕ → A) (old : Option (List ℕ)) (r : Result A E) (new : Option (List ℕ)) (v : A) →
    r ≡ Ok v → Takes n of old r new → Took n of old v new
took n of old r new v is t = subst (λ r. Takes n of old r new) is t

-- Before the first read.
pub started : {A : Type 0} (v : A) (old : Option (List ℕ)) → Took 0 (λ _. v) old v old
started v None = tt
started v (Some xs) = (refl, refl)

-- An answer f, which takes the next one a.
pub and_then : {A B : Type 0} (n m : ℕ) (first : List ℕ → A → B) (next : List ℕ → A) (old mid new : Option (List ℕ)) (f : A → B) (a : A) →
    Took n first old f mid → Took m next mid a new → Took (n + m) (λ xs. first xs (next (drop n xs))) old (f a) new
and_then n m first next None mid new f a p q = tt
and_then n m first next (Some xs) mid new f a p q =
    let r = subst (λ k. Took m next k a new) p.1 q in
    (ap (λ k. k a) p.0 ∙ ap (λ k. first xs k) r.0, r.1 ∙ ap (λ l. Some l) (drop-drop m n xs))

-- An answer made of another one.
pub made : {A B : Type 0} (f : A → B) (n : ℕ) (of : List ℕ → A) (old new : Option (List ℕ)) (v : A) (w : B) →
    Took n of old v new → w ≡ f v → Took n (λ xs. f (of xs)) old w new
made f n of None new v w p e = tt
made f n of (Some xs) new v w p e = (e ∙ ap f p.0, p.1)
