-- A run over the events of a journal, one event a turn. Assumes nothing.
use Rattle.std.proofs.Common.{◌≡◌, ℕ, List, [], ◌∷◌, ◌++◌, Option, Some, None, refl, sym, ap, ◌∙◌, append_assoc}
use Rattle.std.proofs.lemmas.List.{append-nil}
use Rattle.std.specs.Io.KnownBytes.{Appends}
use Rattle.bench.specs.Demand.{bench_answers}
use Rattle.bench.specs.Stepping.{step}
use Rattle.bench.specs.declared.Bench.{Bench}
use Rattle.bench.specs.declared.Handled.{Handled}
use Rattle.locks.specs.declared.Event.{Event}
use Rattle.journal_entry.specs.declared.Entry.{Entry}
use Rattle.journal_entry.specs.Events.{event_of}
use Rattle.replaying.specs.Starts.{event_text, lines, lines_from}

-- One piece behind another.
pub appends_then : (a b c : Option (List ℕ)) (x y : List ℕ) → Appends a b x → Appends b c y → Appends a c (x ++ y)
appends_then None b c x y p q = p
appends_then (Some a) None c x y p q = absurd p
appends_then (Some a) (Some b) None x y p q = absurd q
appends_then (Some a) (Some b) (Some c) x y p q = q ∙ ap (λ (l : List ℕ). l ++ y) p ∙ append_assoc a x y

pub appends_nothing : (a : Option (List ℕ)) → Appends a a []
appends_nothing None = tt
appends_nothing (Some a) = sym (append-nil a)

pub appends_same : (a b : Option (List ℕ)) (x y : List ℕ) → x ≡ y → Appends a b x → Appends a b y
appends_same a b x y e p = rw (← e) p

-- What was written so far, and what the events that are left come to, is the whole.
pub record SoFar (old now : Option (List ℕ)) (b : Bench) (left : List Entry) (whole : List ℕ) : Type 0 where
  pub front : List ℕ
  pub written : Appends old now front
  pub rest : front ++ lines_from b left ≡ whole

pub begun : (old : Option (List ℕ)) (b : Bench) (all : List Entry) → SoFar old old b all (lines_from b all)
begun old b all = record { front = []; written = appends_nothing old; rest = refl }

pub one_more :
    (old now new : Option (List ℕ)) (b : Bench) (left others : List Entry) (e : Entry) (whole : List ℕ) →
    SoFar old now b left whole →
    left ≡ e ∷ others →
    (event : Event) (h : Handled) →
    event ≡ event_of e →
    h ≡ step b event →
    Appends now new (event_text event h.answer) →
    SoFar old new h.bench others whole
unfolding lines_from lines bench_answers
one_more old now new b left others e whole t is event h k l w =
    let text : List ℕ = event_text event h.answer in
    let first : lines_from b (e ∷ others) ≡ text ++ lines_from h.bench others = rw (l, k) refl in
    record {
      front = t.front ++ text;
      written = appends_then old now new t.front text t.written w;
      rest =
          append_assoc t.front text (lines_from h.bench others)
          ∙ ap (λ (l : List ℕ). t.front ++ l) (sym first)
          ∙ ap (λ (l : List Entry). t.front ++ lines_from b l) (sym is)
          ∙ t.rest;
    }

pub none_left : (old now : Option (List ℕ)) (b : Bench) (left : List Entry) (whole : List ℕ) → SoFar old now b left whole → left ≡ [] → Appends old now whole
unfolding lines_from lines bench_answers
none_left old now b left whole t is =
    let all : t.front ≡ whole = sym (append-nil t.front) ∙ ap (λ (l : List Entry). t.front ++ lines_from b l) (sym is) ∙ t.rest in
    appends_same old now t.front whole all t.written
