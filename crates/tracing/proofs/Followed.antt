-- The newest of each sort, one accepted event after another, and the lines so far. Assumes nothing.
use Rattle.std.proofs.Common.{◌≡◌, ℕ, ◌+◌, ◌<◌, ◌≤◌, List, [], ◌∷◌, ◌++◌, length, map, Option, Ok, Err, refl, sym, ap, ◌∙◌, append_assoc, arith}
use Rattle.std.proofs.lemmas.List.{append-nil}
use Rattle.std.specs.Io.KnownBytes.{Appends}
use Rattle.locks.specs.declared.Event.{Event}
use Rattle.locks.specs.declared.Security.{Security}
use Rattle.locks.specs.State.{security_after}
use Rattle.locks.specs.Locks.{password_lock}
use Rattle.locks.specs.declared.Locks.{Locks}
use Rattle.locks.proofs.Kept.{security_of, security_kept, locks_of, fresh_of}
use Rattle.bench.specs.Demand.{bench_answers}
use Rattle.bench.specs.History.{Answer}
use Rattle.bench.specs.Stepping.{step}
use Rattle.bench.specs.declared.Handled.{Handled}
use Rattle.journal_entry.specs.declared.Entry.{Entry}
use Rattle.journal_entry.specs.Events.{event_of}
use Rattle.journaling.specs.declared.Shape.{Shape}
use Rattle.journaling.specs.Reading.{read_journal, entries_in}
use Rattle.journaling.proofs.Trips.{allowed, answers, content}
use Rattle.replaying.proofs.Turns.{appends_then, appends_nothing, appends_same}
use Rattle.tracing.specs.declared.Told.{Told}
use Rattle.tracing.specs.declared.Watch.{Watch}
use Rattle.tracing.specs.Origins.{accepted_in, told_after, newest, fourth_try, trail_of}
use Rattle.tracing.specs.Trails.{trail_after, watch_after, Begins}
use Rattle.tracing.specs.Whys.{event_why, whys, whys_from}

-- With one accepted event more.
trail_kept : (x : Told) (l : List Told) → trail_after (trail_of l) (password_lock (map accepted_in l)) x ≡ trail_of (x ∷ l)
unfolding newest fourth_try
trail_kept x l = refl

-- What is kept is that of these accepted events.
pub record Follows (w : Watch) (l : List Told) : Type 0 where
  pub trail : w.trail ≡ trail_of l
  pub security : w.locks.security ≡ security_of (map accepted_in l)

follows_told :
    (w : Watch) (l : List Told) (e : Event) (h : Handled) (a : Answer) → h.answer ≡ a → Follows w l → Follows (watch_after w e h) (told_after w.number e a l)
follows_told w l e h (Err r) k f = record { trail = rw k f.trail; security = rw k f.security }
follows_told w l e h (Ok verdict) k f =
    let x : Told = record { number = w.number; event = e; verdict = verdict } in
    let locked : w.locks.security.password ≡ password_lock (map accepted_in l) = ap (λ (s : Security). s.password) (f.security) in
    record {
      trail = rw (k, f.trail, locked) (trail_kept x l);
      security = rw k (ap (λ (s : Security). security_after s e) f.security ∙ sym (security_kept e verdict (map accepted_in l)));
    }

-- What was written so far, and what the events that are left come to, is the whole.
pub record SoFar (old now : Option (List ℕ)) (w : Watch) (left : List Entry) (whole : List ℕ) : Type 0 where
  pub front : List ℕ
  pub told : List Told
  pub written : Appends old now front
  pub follows : Follows w told
  pub small : w.number + length left ≤ 65536
  pub rest : front ++ whys_from w.validity w.number told w.bench left ≡ whole

pub begun :
    (old : Option (List ℕ)) (w : Watch) (all : List Entry) → Begins w → length all < 65536 → SoFar old old w all (whys_from w.validity 1 [] w.bench all)
unfolding newest fourth_try locks_of
begun old w all b small =
    record {
      front = [];
      told = [];
      written = appends_nothing old;
      follows = record { trail = b.2; security = ap (λ (k : Locks). k.security) (b.1 ∙ sym fresh_of) };
      small = omega (arith, b.0, small);
      rest = ap (λ (n : ℕ). whys_from w.validity n [] w.bench all) b.0;
    }

pub one_more :
    (old now new : Option (List ℕ)) (w next : Watch) (left others : List Entry) (e : Entry) (whole : List ℕ) →
    SoFar old now w left whole →
    left ≡ e ∷ others →
    (event : Event) (h : Handled) →
    event ≡ event_of e →
    h ≡ step w.bench event →
    Appends now new (event_why w.validity w.number w.trail event h.answer) →
    next ≡ watch_after w event h →
    SoFar old new next others whole
unfolding whys_from whys bench_answers
one_more old now new w next left others e whole t is event h k l write n =
    let text : List ℕ = event_why w.validity w.number (trail_of t.told) event h.answer in
    let written : Appends now new text = rw (← t.follows.trail) write in
    let told : List Told = told_after w.number event h.answer t.told in
    let after : List ℕ = whys_from w.validity (w.number + 1) told h.bench others in
    let first : whys_from w.validity w.number t.told w.bench (e ∷ others) ≡ text ++ after = rw (l, k) refl in
    record {
      front = t.front ++ text;
      told = told;
      written = appends_then old now new t.front text t.written written;
      follows = rw n (follows_told w t.told event h h.answer refl t.follows);
      small = rw n (omega (arith, t.small, ap length is));
      rest =
          rw n
          (append_assoc t.front text after
          ∙ ap (λ (l : List ℕ). t.front ++ l) (sym first)
          ∙ ap (λ (l : List Entry). t.front ++ whys_from w.validity w.number t.told w.bench l) (sym is)
          ∙ t.rest
          );
    }

pub in_bounds : (old now : Option (List ℕ)) (w : Watch) (left others : List Entry) (e : Entry) (whole : List ℕ) → SoFar old now w left whole → left ≡ e ∷ others → w.number < 65536
in_bounds old now w left others e whole t is = omega (arith, t.small, ap length is)

pub none_left : (old now : Option (List ℕ)) (w : Watch) (left : List Entry) (whole : List ℕ) → SoFar old now w left whole → left ≡ [] → Appends old now whole
unfolding whys_from whys bench_answers
none_left old now w left whole t is =
    let all : t.front ≡ whole = sym (append-nil t.front) ∙ ap (λ (l : List Entry). t.front ++ whys_from w.validity w.number t.told w.bench l) (sym is) ∙ t.rest in
    appends_same old now t.front whole all t.written

-- Of a journal that is read there are few events.
pub few : (s : List ℕ) (h : Shape) (left : List Entry) → read_journal s ≡ Ok h → left ≡ entries_in s h.count → length left < 65536
few s h left e is =
    let c = content s h e in
    let n : length left ≡ h.count =
    ap length (is ∙ ap (λ (x : Shape). entries_in s x.count) c.2 ∙ (answers s c.0 c.1).1) ∙ sym (ap (λ (x : Shape). x.count) c.2)
    in
    omega (arith, n, ap (λ (x : Shape). x.count) c.2, (allowed s c.0 c.1).few)
