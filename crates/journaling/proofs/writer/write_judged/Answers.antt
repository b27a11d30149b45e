-- A content that was judged is written where there is space enough. Assumes nothing.
use Rattle.std.proofs.Common.{◌≡◌, ◌+◌, ℕ, List, length, ap, ◌∙◌}
use Rattle.std.specs.List.{flat_map}
use Rattle.journal_entry.specs.Spelling.{entry_bytes}
use Rattle.journaling.specs.Writing.{put_at}
use Rattle.journaling.specs.Content.{content_in}
use Rattle.journaling.proofs.Written.{few, short_written, whole_written}
use Rattle.journaling.proofs.writer.write_judged.Goals as goal

pub entries_length-needed-requires : goal.entries_length-needed-requires
entries_length-needed-requires c = few (content_in c.args.x.now) c.requires.judged

pub returns-then-out-needed : goal.returns-then-out-needed
returns-then-out-needed c =
    short_written (content_in c.args.x.now) c.requires.judged c.entries_length-needed.result c.entries_length-needed.ensures.0
    c.args.out.now c.if-out-needed.true

pub heading_bytes-requires : goal.heading_bytes-requires
heading_bytes-requires c = few (content_in c.args.x.now) c.requires.judged

pub returns : goal.returns
returns c =
    let bytes : List ℕ = flat_map entry_bytes c.args.x.now.entries.now in
    let at : c.put-at.result ≡ 11 = c.put-at.ensures.0 ∙ ap (λ (h : List ℕ). 0 + length h) c.heading_bytes.ensures in
    whole_written (content_in c.args.x.now) c.requires.judged c.entries_length-needed.result c.entries_length-needed.ensures.0
    c.args.out.now c.put-at.new.out c.put_entries.new.out c.if-out-needed.false
    (c.put-at.ensures.1 ∙ ap (λ (h : List ℕ). put_at 0 h c.args.out.now) c.heading_bytes.ensures)
    (c.put_entries.ensures ∙ ap (λ (n : ℕ). put_at n bytes c.put-at.new.out) at)
