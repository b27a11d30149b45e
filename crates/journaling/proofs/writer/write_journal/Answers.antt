-- A content that is refused is not written. Assumes nothing.
use Rattle.std.proofs.Common.{sym, length}
use Rattle.std.proofs.lemmas.Result.{err_from_is_err_and}
use Rattle.journaling.specs.Content.{content_in}
use Rattle.journaling.proofs.Claimed.{writer_claims}
use Rattle.journaling.proofs.Written.{refused_as, refused_keeps}
use Rattle.journaling.proofs.writer.write_journal.Goals as goal

pub returns-in_err-judge_content : goal.returns-in_err-judge_content
returns-in_err-judge_content c =
    let x = content_in c.args.x.now in
    let p = err_from_is_err_and c.from_residual.result c.from_residual.ensures.1 in
    let j = c.in_err-judge_content.ensures in
    record { claims = writer_claims; answer = (rw (p.1, p.2) (sym (refused_as x _ (sym j) (length c.args.out.now))), sym (refused_keeps x _ (sym j) c.args.out.now)) }
