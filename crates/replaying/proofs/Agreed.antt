-- The lines are a live bench's, and so the plain history's. Assumes nothing.
use Rattle.std.proofs.Common.{◌≡◌, ℕ, List, refl, ap, ◌∙◌, take, ◌<◌, Ok, Err, Result}
use Rattle.bench.proofs.Lawful.{opens}
use Rattle.bench.specs.Demand.{bench_answers}
use Rattle.bench.specs.History.{Answer, fresh_history}
use Rattle.bench.specs.Stepping.{fresh_bench, opened_of}
use Rattle.bench.specs.Telling.{history_answers}
use Rattle.refusal.specs.Choice.{pick}
use Rattle.journaling.specs.Content.{Content}
use Rattle.journaling.specs.Claims.{IsRead, Answers}
use Rattle.refusal.specs.declared.Refusal.{Refusal}
use Rattle.journaling.specs.declared.Shape.{Shape}
use Rattle.journaling.specs.Reading.{read_journal}
use Rattle.journaling.proofs.Prefix.{judged_alike}
use Rattle.journaling.proofs.Trips.{answers, allowed}
use Rattle.replaying.specs.Starts.{events_of, lines, lines_from, text_of}
use Rattle.replaying.specs.Claims.{ReplayClaims}

module _ (s : List ℕ) (x : Content) (e : IsRead s x) where
  live : text_of s ≡ lines (events_of x.entries) (bench_answers (fresh_bench x.validity x.limit) (events_of x.entries))
  unfolding opened_of pick lines_from
  live =
      let a : Answers s x = answers s x e in
      rw (a.0, (allowed s x e).fit, a.1) refl

  plain : text_of s ≡ lines (events_of x.entries) (history_answers x.validity x.limit fresh_history (events_of x.entries))
  plain =
      live
      ∙ ap (λ (l : List Answer). lines (events_of x.entries) l)
      (((opens x.validity x.limit).demand (allowed s x e).fit).answers (events_of x.entries))

first_bytes : (s : List ℕ) (n : ℕ) → 62911 < n → text_of (take n s) ≡ text_of s
first_bytes s n h = go (read_journal s) refl
  where
    go : (r : Result Shape Refusal) → read_journal s ≡ r → text_of (take n s) ≡ text_of s
    go (Ok shape) e = ap text_of ((judged_alike s n h).1 shape e)
    go (Err r) e =
        let here : read_journal (take n s) ≡ Err r = (judged_alike s n h).0 ∙ e in
        rw (here, e) refl

pub replay_claims : ReplayClaims
replay_claims = record { live = live; plain = plain; first_bytes = first_bytes }
